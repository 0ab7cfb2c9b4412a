-- What a bitwise operation on each word of two sets does to their slots.
use Rattle.std.proofs.Common.{◌≡◌, ◌≢◌, ℕ, ◌*◌, ◌/◌, ◌%◌, ◌+◌, ◌-◌, ◌<◌, ◌==◌, ◌||◌, ◌&&◌, min}
use Rattle.std.proofs.Common.{max, not, cond, Bool, true, false, List, length, get_or, refl}
use Rattle.std.proofs.Common.{sym, ap, ◌∙◌, ap₂, inl, inr, arith, eq-eqb, eqb-true, w64}
use Prim.Native.Nat.{◌^◌}
use Rattle.std.specs.Prelude.{bit_and, bit_or}
use Rattle.std.specs.Int.{bit_at, bit_not, trailing_zeros}
use Rattle.std.specs.Int.Bits.{bit_xor}
use Rattle.std.proofs.lemmas.Bool.{cases_lt, false≢true, ne_eqb}
use Rattle.std.proofs.lemmas.Bool.Decides.{nat_tests}
use Rattle.std.proofs.lemmas.Nat.{and_le_l}
use Rattle.std.proofs.lemmas.Nat.Bits.{bit_at-lt, bit_at-zero, bit_at_and, bit_at_or}
use Rattle.std.proofs.lemmas.Nat.Bits.{bit_at_xor, bit_at_not, bit_at-trailing_zeros}
use Rattle.slot_sets.specs.Sets.{has}
use Rattle.slot_sets.proofs.OneSlot.{has_at, has_past}

-- ---- two bits

max_of_bits : (x y : ℕ) → x < 2 → y < 2 → (max x y == 1) ≡ ((x == 1) || (y == 1))
max_of_bits x y hx hy = grind (arith, nat_tests)

min_of_bits : (x y : ℕ) → x < 2 → y < 2 → (min x y == 1) ≡ ((x == 1) && (y == 1))
min_of_bits x y hx hy = grind (arith, nat_tests)

less_of_bits : (x y : ℕ) → x < 2 → y < 2 → (min x (1 - y) == 1) ≡ ((x == 1) && not (y == 1))
less_of_bits x y hx hy = grind (arith, nat_tests)

sum_of_bits : (x y : ℕ) → x < 2 → y < 2 → ((x + y) % 2 == 1) ≡ cond (y == 1) (not (x == 1)) (x == 1)
sum_of_bits x y hx hy = grind (arith, nat_tests)

-- ---- a set that is made of two

-- each bit of f x y is what h makes of that bit of x and of y
abbrev IsBitwise : (ℕ → ℕ → ℕ) → (Bool → Bool → Bool) → ℕ → ℕ → Type 0
IsBitwise f h x y = (i : ℕ) → i < 64 → (bit_at (f x y) i == 1) ≡ h (bit_at x i == 1) (bit_at y i == 1)

module _ (width : ℕ) (a b new : List ℕ) (length_a : length a ≡ width) (length_b : length b ≡ width)
    (length_new : length new ≡ width) where
  by_words : (f : ℕ → ℕ → ℕ) (h : Bool → Bool → Bool) → h false false ≡ false
      → ((j : ℕ) → j < width → get_or new j 0 ≡ f (get_or a j 0) (get_or b j 0))
      → ((j : ℕ) → j < width → IsBitwise f h (get_or a j 0) (get_or b j 0))
      → (q : ℕ) → has new q ≡ h (has a q) (has b q)
  unfolding has
  by_words f h none words bits q =
      elim (cases_lt (q / 64) width) [
        | inl low ↦ ap (λ word. bit_at word (q % 64) == 1) (words (q / 64) low)
            ∙ bits (q / 64) low (q % 64) (omega arith)
        | inr high ↦ has_past new q (omega arith)
            ∙ sym (ap₂ h (has_past a q (omega arith)) (has_past b q (omega arith)) ∙ none)
      ]

  pub has-or : ((j : ℕ) → j < width → get_or new j 0 ≡ bit_or (get_or a j 0) (get_or b j 0))
      → (q : ℕ) → has new q ≡ (has a q || has b q)
  has-or words =
      by_words bit_or (λ x y. x || y) refl words (λ j _ i _.
      let x : ℕ = get_or a j 0 in
      let y : ℕ = get_or b j 0 in
      ap (λ bit. bit == 1) (bit_at_or x y i) ∙ max_of_bits _ _ (bit_at-lt x i) (bit_at-lt y i))

  pub has-and : ((j : ℕ) → j < width → get_or new j 0 ≡ bit_and (get_or a j 0) (get_or b j 0))
      → (q : ℕ) → has new q ≡ (has a q && has b q)
  has-and words =
      by_words bit_and (λ x y. x && y) refl words (λ j _ i _.
      let x : ℕ = get_or a j 0 in
      let y : ℕ = get_or b j 0 in
      ap (λ bit. bit == 1) (bit_at_and x y i) ∙ min_of_bits _ _ (bit_at-lt x i) (bit_at-lt y i))

  pub has-xor : ((j : ℕ) → j < width → get_or new j 0 ≡ bit_xor (get_or a j 0) (get_or b j 0))
      → (q : ℕ) → has new q ≡ cond (has b q) (not (has a q)) (has a q)
  has-xor words =
      by_words bit_xor (λ x y. cond y (not x) x) refl words (λ j _ i _.
      let x : ℕ = get_or a j 0 in
      let y : ℕ = get_or b j 0 in
      ap (λ bit. bit == 1) (bit_at_xor x y i) ∙ sum_of_bits _ _ (bit_at-lt x i) (bit_at-lt y i))

  pub has-and_not : ((j : ℕ) → j < width → get_or b j 0 < 2 ^ 64)
      → ((j : ℕ) → j < width → get_or new j 0 ≡ bit_and (get_or a j 0) (bit_not w64 (get_or b j 0)))
      → (q : ℕ) → has new q ≡ (has a q && not (has b q))
  has-and_not fits words =
      by_words (λ x y. bit_and x (bit_not w64 y)) (λ x y. x && not y) refl words (λ j within i below.
      let x : ℕ = get_or a j 0 in
      let y : ℕ = get_or b j 0 in
      ap (λ bit. bit == 1) (bit_at_and x (bit_not w64 y) i
      ∙ ap (min (bit_at x i)) (bit_at_not w64 y i (fits j within) below))
      ∙ less_of_bits _ _ (bit_at-lt x i) (bit_at-lt y i))

-- ---- what a test of two sets tells

-- two words that have a bit in common
common_bit : (x y : ℕ) → x < 2 ^ 64 → bit_and x y ≢ 0 → (i : ℕ) × (i < 64) × (bit_at x i ≡ 1)
    × (bit_at y i ≡ 1)
common_bit x y fits some =
    let both : ℕ = bit_and x y in
    let low = bit_at-trailing_zeros w64 both (omega arith) (omega (arith, and_le_l x y)) in
    let i : ℕ = trailing_zeros w64 both in
    let bits : min (bit_at x i) (bit_at y i) ≡ 1 = sym (bit_at_and x y i) ∙ low.1 in (
      i,
      low.0,
      omega (arith, bits, bit_at-lt x i, bit_at-lt y i),
      omega (arith, bits, bit_at-lt x i, bit_at-lt y i),
    )

module _ (a b : List ℕ) (at : ℕ) (fits_a : get_or a at 0 < 2 ^ 64) where
  pub common_slot : bit_and (get_or a at 0) (get_or b at 0) ≢ 0
      → (q : ℕ) × (has a q ≡ true) × (has b q ≡ true)
  common_slot some =
      let bit = common_bit (get_or a at 0) (get_or b at 0) fits_a some in (
        at * 64 + bit.0,
        has_at a at bit.0 bit.1 ∙ eq-eqb _ 1 bit.2,
        has_at b at bit.0 bit.1 ∙ eq-eqb _ 1 bit.3,
      )

  pub slot_beyond : get_or b at 0 < 2 ^ 64 → bit_and (get_or a at 0) (bit_not w64 (get_or b at 0)) ≢ 0
      → (q : ℕ) × (has a q ≡ true) × (has b q ≡ false)
  slot_beyond fits_b some =
      let bit = common_bit (get_or a at 0) (bit_not w64 (get_or b at 0)) fits_a some in
      let lacks : bit_at (get_or b at 0) bit.0 ≡ 0 =
      omega (arith, bit.3, bit_at_not w64 (get_or b at 0) bit.0 fits_b bit.1) in (
        at * 64 + bit.0,
        has_at a at bit.0 bit.1 ∙ eq-eqb _ 1 bit.2,
        has_at b at bit.0 bit.1 ∙ ne_eqb _ 1 (omega arith),
      )

module _ (width : ℕ) (a b : List ℕ) (length_a : length a ≡ width) where
  word_of : (q : ℕ) → has a q ≡ true → q / 64 < width
  word_of q member =
      elim (cases_lt (q / 64) width) [
        | inl low ↦ low
        | inr high ↦ absurd (false≢true (sym (has_past a q (omega arith)) ∙ member))
      ]

  pub nothing_common : ((j : ℕ) → j < width → bit_and (get_or a j 0) (get_or b j 0) ≡ 0)
      → (q : ℕ) → has a q ≡ true → has b q ≡ false
  unfolding has
  nothing_common none q member =
      let x : ℕ = get_or a (q / 64) 0 in
      let y : ℕ = get_or b (q / 64) 0 in
      let set : bit_at x (q % 64) ≡ 1 = eqb-true _ 1 member in
      let clear : bit_at (bit_and x y) (q % 64) ≡ 0 =
      ap (λ word. bit_at word (q % 64)) (none (q / 64) (word_of q member)) ∙ bit_at-zero (q % 64) in
      ne_eqb _ 1 (omega (arith, set, clear, bit_at_and x y (q % 64)))

  pub nothing_beyond : ((j : ℕ) → j < width → get_or b j 0 < 2 ^ 64)
      → ((j : ℕ) → j < width → bit_and (get_or a j 0) (bit_not w64 (get_or b j 0)) ≡ 0)
      → (q : ℕ) → has a q ≡ true → has b q ≡ true
  unfolding has
  nothing_beyond fits none q member =
      let within : q / 64 < width = word_of q member in
      let x : ℕ = get_or a (q / 64) 0 in
      let y : ℕ = get_or b (q / 64) 0 in
      let set : bit_at x (q % 64) ≡ 1 = eqb-true _ 1 member in
      let clear : bit_at (bit_and x (bit_not w64 y)) (q % 64) ≡ 0 =
      ap (λ word. bit_at word (q % 64)) (none (q / 64) within) ∙ bit_at-zero (q % 64) in
      let turned : bit_at (bit_not w64 y) (q % 64) ≡ 1 - bit_at y (q % 64) =
      bit_at_not w64 y (q % 64) (fits (q / 64) within) (omega arith) in
      eq-eqb _ 1 (omega (
        arith,
        set,
        clear,
        turned,
        bit_at_and x (bit_not w64 y) (q % 64),
        bit_at-lt y (q % 64),
      ))
