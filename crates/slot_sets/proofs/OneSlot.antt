-- Which word and which bit a slot is, and what a change of that bit does to the other slots.
use Rattle.std.proofs.Common.{◌≡◌, ◌≢◌, ℕ, ◌*◌, ◌/◌, ◌%◌, ◌+◌, ◌<◌, ◌≤◌, ◌==◌, true, false, List}
use Rattle.std.proofs.Common.{length, get_or, set, replicate, ap, ◌∙◌, ap₂, inl, inr, arith, w64}
use Prim.Native.Nat.{◌^◌}
use Rattle.std.specs.Prelude.{bit_and, bit_or}
use Rattle.std.specs.Int.{bit_at, bit_not}
use Rattle.std.proofs.lemmas.Bool.{cases_eq, cases_lt}
use Rattle.std.proofs.lemmas.List.{get_or_past, get_or-replicate, length-replicate}
use Rattle.std.proofs.lemmas.List.{get_or-set_same, get_or-set_other}
use Rattle.std.proofs.lemmas.Nat.Bits.{shr_and_one, bit_at-zero, bit_at_set_same}
use Rattle.std.proofs.lemmas.Nat.Bits.{bit_at_set_other, bit_at_clear_same, bit_at_clear_other}
use Rattle.slot_sets.specs.Sets.{has}

-- bit i of word `at`
pub has_at : (words : List ℕ) (at i : ℕ) → i < 64
    → has words (at * 64 + i) ≡ (bit_at (get_or words at 0) i == 1)
unfolding has
has_at words at i below =
    let word : (at * 64 + i) / 64 ≡ at = omega arith in
    let bit : (at * 64 + i) % 64 ≡ i = omega arith in
    ap₂ (λ j k. bit_at (get_or words j 0) k == 1) word bit

-- the test `(word >> slot) & 1 == 1`
pub has-test : (words : List ℕ) (slot : ℕ)
    → (bit_and (get_or words (slot / 64) 0 / 2 ^ (slot % 64)) 1 == 1) ≡ has words slot
unfolding has
has-test words slot = ap (λ bit. bit == 1) (shr_and_one (get_or words (slot / 64) 0) (slot % 64))

-- ---- slots that a set lacks

has_empty_word : (words : List ℕ) (slot : ℕ) → get_or words (slot / 64) 0 ≡ 0 → has words slot ≡ false
unfolding has
has_empty_word words slot empty =
    ap (λ word. bit_at word (slot % 64) == 1) empty ∙ ap (λ bit. bit == 1) (bit_at-zero (slot % 64))

pub has_past : (words : List ℕ) (slot : ℕ) → 64 * length words ≤ slot → has words slot ≡ false
has_past words slot past = has_empty_word words slot (get_or_past words (slot / 64) 0 (omega arith))

pub has_none : (width slot : ℕ) → has (replicate width 0) slot ≡ false
has_none width slot =
    elim (cases_lt (slot / 64) width) [
      | inl low ↦ has_empty_word _ slot (get_or-replicate width (slot / 64) 0 0 low)
      | inr high ↦ has_past _ slot (omega (arith, length-replicate {A = ℕ} width 0))
    ]

-- ---- one slot changes

module _ (words : List ℕ) (slot : ℕ) (within : slot / 64 < length words) where
  changed_same : (word : ℕ) → has (set words (slot / 64) word) slot ≡ (bit_at word (slot % 64) == 1)
  unfolding has
  changed_same word = ap (λ w. bit_at w (slot % 64) == 1) (get_or-set_same words (slot / 64) word 0 within)

  changed_other : (word : ℕ)
      → ((i : ℕ) → i < 64 → i ≢ slot % 64 → bit_at word i ≡ bit_at (get_or words (slot / 64) 0) i)
      → (q : ℕ) → q ≢ slot → has (set words (slot / 64) word) q ≡ has words q
  unfolding has
  changed_other word kept q other =
      elim (cases_eq (q / 64) (slot / 64)) [
        | inl same ↦
            let bit = kept (q % 64) (omega arith) (λ e. other (omega arith)) in
            rw same (ap (λ w. bit_at w (q % 64) == 1) (get_or-set_same words (slot / 64) word 0 within)
            ∙ ap (λ b. b == 1) bit)
        | inr apart ↦ ap (λ w. bit_at w (q % 64) == 1)
            (get_or-set_other words (slot / 64) (q / 64) word 0 apart)
      ]

module _ (words : List ℕ) (slot : ℕ) (within : slot / 64 < length words) where
  pub inserted_same : has
      (set words (slot / 64) (bit_or (get_or words (slot / 64) 0) (1 * 2 ^ (slot % 64) % 2 ^ 64))) slot ≡ true
  inserted_same =
      changed_same words slot within _
      ∙ ap (λ bit. bit == 1) (bit_at_set_same w64 (get_or words (slot / 64) 0) (slot % 64) (omega arith))

  pub inserted_other : (q : ℕ) → q ≢ slot
      → has (set words (slot / 64) (bit_or (get_or words (slot / 64) 0) (1 * 2 ^ (slot % 64) % 2 ^ 64))) q
      ≡ has words q
  inserted_other =
      changed_other words slot within _ (λ i _ apart.
      bit_at_set_other w64 (get_or words (slot / 64) 0) (slot % 64) (omega arith) i apart)

  pub removed_same : has
      (set words (slot / 64)
      (bit_and (get_or words (slot / 64) 0) (bit_not w64 (1 * 2 ^ (slot % 64) % 2 ^ 64)))) slot ≡ false
  removed_same =
      changed_same words slot within _
      ∙ ap (λ bit. bit == 1)
      (bit_at_clear_same w64 (get_or words (slot / 64) 0) (slot % 64) (omega arith))

  pub removed_other : (q : ℕ) → q ≢ slot
      → has (set words (slot / 64)
      (bit_and (get_or words (slot / 64) 0) (bit_not w64 (1 * 2 ^ (slot % 64) % 2 ^ 64)))) q ≡ has words q
  removed_other =
      changed_other words slot within _ (λ i below apart.
      bit_at_clear_other w64 (get_or words (slot / 64) 0) (slot % 64) (omega arith) i below apart)
