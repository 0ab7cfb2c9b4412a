-- The first slot that a set has, from a slot on, and the first that it hasn't.
use Rattle.std.proofs.Common.{◌≡◌, ◌≢◌, ℕ, ◌*◌, ◌/◌, ◌%◌, ◌+◌, ◌-◌, ◌<◌, ◌≤◌, ◌==◌, true, false}
use Rattle.std.proofs.Common.{List, length, get_or, ap, ◌∙◌, inl, inr, arith, eq-eqb, w64}
use Prim.Native.Nat.{◌^◌}
use Rattle.std.specs.Prelude.{bit_and}
use Rattle.std.specs.Int.{bit_at, trailing_zeros, trailing_ones}
use Rattle.std.proofs.lemmas.Bool.{cases_lt, ne_eqb}
use Rattle.std.proofs.lemmas.Nat.{and_le_l}
use Rattle.std.proofs.lemmas.Nat.Bits.{bit_at-lt, bit_at-zero, bit_at_and, bit_at_ones}
use Rattle.std.proofs.lemmas.Nat.Bits.{ones_shl, bit_at_mask_inside, bit_at_mask_below}
use Rattle.std.proofs.lemmas.Nat.Bits.{bit_at-trailing_zeros, bit_at-trailing_ones}
use Rattle.slot_sets.specs.Sets.{has}
use Rattle.slot_sets.proofs.OneSlot.{has_at, has_past}

-- no slot from `from` on lies before word `at`, and `word` has those that lie in it
pub record IsLeft (words : List ℕ) (from at word : ℕ) : Type 0 where
  pub begun : from < (at + 1) * 64
  pub fits : word < 2 ^ 64
  pub none_before : (q : ℕ) → from ≤ q → q < at * 64 → has words q ≡ false
  pub found : (i : ℕ) → i < 64 → bit_at word i ≡ 1 → (from ≤ at * 64 + i) × (has words (at * 64 + i) ≡ true)
  pub missed : (i : ℕ) → i < 64 → bit_at word i ≡ 0 → from ≤ at * 64 + i → has words (at * 64 + i) ≡ false

module _ (words : List ℕ) (from : ℕ) where
  -- the word of `from`, without the bits below it
  pub left_at_first : get_or words (from / 64) 0 < 2 ^ 64
      → IsLeft words from (from / 64)
      (bit_and (get_or words (from / 64) 0) ((2 ^ 64 - 1) * 2 ^ (from % 64) % 2 ^ 64))
  left_at_first fits =
      let at : ℕ = from / 64 in
      let low : ℕ = from % 64 in
      let word : ℕ = get_or words at 0 in
      let mask : ℕ = (2 ^ 64 - 1) * 2 ^ low % 2 ^ 64 in
      let mask_is : mask ≡ 2 ^ 64 - 2 ^ low = ones_shl 64 low (omega arith) in
      let inside : (i : ℕ) → i < 64 → low ≤ i → bit_at mask i ≡ 1 =
      λ i below above. rw mask_is (bit_at_mask_inside low 64 i above below) in
      let outside : (i : ℕ) → i < low → bit_at mask i ≡ 0 =
      λ i under. rw mask_is (bit_at_mask_below low 64 i under) in
      record {
        begun = omega arith;
        fits = omega (arith, and_le_l word mask);
        none_before = λ q above below. absurd (omega arith);
        found = λ i below set.
            elim (cases_lt i low) [
              | inl under ↦ absurd (omega (arith, set, outside i under, bit_at_and word mask i))
              | inr above ↦ (
                omega arith,
                has_at words at i below
                    ∙ eq-eqb _ 1 (omega (
                      arith,
                      set,
                      inside i below above,
                      bit_at_and word mask i,
                      bit_at-lt word i,
                    )),
              )
            ];
        missed = λ i below clear above.
            has_at words at i below
            ∙ ne_eqb _ 1 (omega (arith, clear, inside i below (omega arith), bit_at_and word mask i));
      }

  none_up_to : (at : ℕ) → IsLeft words from at 0 → (q : ℕ) → from ≤ q → q < (at + 1) * 64
      → has words q ≡ false
  none_up_to at left q above below =
      elim (cases_lt q (at * 64)) [
        | inl before ↦ left.none_before q above before
        | inr here ↦
            let place : at * 64 + (q - at * 64) ≡ q = omega arith in
            rw place at (left.missed (q - at * 64) (omega arith) (bit_at-zero (q - at * 64)) (omega arith))
      ]

  -- the next word
  pub left_at_next : (at : ℕ) → get_or words (at + 1) 0 < 2 ^ 64 → IsLeft words from at 0
      → IsLeft words from (at + 1) (get_or words (at + 1) 0)
  left_at_next at fits left = record {
    begun = omega (arith, left.begun);
    fits = fits;
    none_before = none_up_to at left;
    found = λ i below set. (omega (arith, left.begun), has_at words (at + 1) i below ∙ eq-eqb _ 1 set);
    missed = λ i below clear above. has_at words (at + 1) i below ∙ ne_eqb _ 1 (omega (arith, clear));
  }

  -- no word is left
  pub none_left : (at : ℕ) → length words ≤ at + 1 → IsLeft words from at 0 → (q : ℕ) → from ≤ q
      → has words q ≡ false
  none_left at end left q above =
      elim (cases_lt q ((at + 1) * 64)) [
        | inl below ↦ none_up_to at left q above below
        | inr past ↦ has_past words q (omega arith)
      ]

  -- the lowest bit of what is left
  pub first_left : (at word : ℕ) → IsLeft words from at word → word ≢ 0
      → let slot : ℕ = at * 64 + trailing_zeros w64 word in
      (from ≤ slot) × (slot < (at + 1) * 64) × (has words slot ≡ true)
      × ((q : ℕ) → from ≤ q → q < slot → has words q ≡ false)
  first_left at word left some =
      let i : ℕ = trailing_zeros w64 word in
      let low = bit_at-trailing_zeros w64 word (omega arith) left.fits in
      let here = left.found i low.0 low.1 in (
        here.0,
        omega (arith, low.0),
        here.1,
        λ q above below.
            elim (cases_lt q (at * 64)) [
              | inl before ↦ left.none_before q above before
              | inr within ↦
                  let place : at * 64 + (q - at * 64) ≡ q = omega arith in
                  rw place at (left.missed (q - at * 64) (omega (arith, low.0))
                  (low.2 (q - at * 64) (omega arith)) (omega arith))
            ],
      )

-- ---- the first slot that a set hasn't

-- each word before `at` is full
module _ (words : List ℕ) (at : ℕ) (full : (j : ℕ) → j < at → get_or words j 0 ≡ 2 ^ 64 - 1) where
  pub all_before : (q : ℕ) → q < at * 64 → has words q ≡ true
  unfolding has
  all_before q before =
      ap (λ word. bit_at word (q % 64) == 1) (full (q / 64) (omega arith))
      ∙ eq-eqb _ 1 (bit_at_ones 64 (q % 64) (omega arith))

  pub first_clear : get_or words at 0 < 2 ^ 64 → get_or words at 0 ≢ 2 ^ 64 - 1
      → let slot : ℕ = at * 64 + trailing_ones w64 (get_or words at 0) in
      (slot < (at + 1) * 64) × (has words slot ≡ false) × ((q : ℕ) → q < slot → has words q ≡ true)
  first_clear fits some =
      let word : ℕ = get_or words at 0 in
      let i : ℕ = trailing_ones w64 word in
      let low = bit_at-trailing_ones w64 word (omega arith) in (
        omega (arith, low.0),
        has_at words at i low.0 ∙ ne_eqb _ 1 (omega (arith, low.1)),
        λ q below.
            elim (cases_lt q (at * 64)) [
              | inl before ↦ all_before q before
              | inr within ↦
                  let place : at * 64 + (q - at * 64) ≡ q = omega arith in
                  rw place at (has_at words at (q - at * 64) (omega (arith, low.0))
                  ∙ eq-eqb _ 1 (low.2 (q - at * 64) (omega arith)))
            ],
      )
