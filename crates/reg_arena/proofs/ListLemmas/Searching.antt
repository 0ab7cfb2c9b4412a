-- Searches for a value among the ascending pairs of a register.
use Rattle.std.proofs.Common.{◌≡◌, ◌<◌, ◌≤◌, ◌⊎◌, inl, inr, ◌<ℤ◌, ◌≤ℤ◌, ℕ, ℤ, Bool, true, false, nat_lt}
use Rattle.std.proofs.Common.{List, length, slice_index_or, Some, refl, sym, ap, subst, ◌∙◌, arith}
use Rattle.std.proofs.lemmas.Int.{ints}
use Rattle.std.proofs.lemmas.Bool.{ltb-true, ltb-false}
use Rattle.std.proofs.lemmas.Option.{slice_get_within, get_or_from_slice_get}
use Rattle.reg_arena.specs.declared.event_lists.ascent.Pair.{Pair}
use Rattle.reg_arena.specs.Lists.Pairs.{IsAscending, IsAscent}

-- what comes no later comes before or is the same
pub before_or_same : (n m : ℕ) → n ≤ m → (n < m) ⊎ (n ≡ m)
before_or_same n m l = go (nat_lt n m) refl
  where
    go : (b : Bool) → nat_lt n m ≡ b → (n < m) ⊎ (n ≡ m)
    go true q = inl (ltb-true n m q)
    go false q = inr (omega (arith, l, ltb-false n m q))

module _ (pairs : List Pair) where
  pub ascending-within : (n r : ℕ) (v : ℤ) → IsAscending pairs n r v → n < length pairs
  ascending-within n r v a = slice_get_within pairs n a.pair a.at

  -- what stands there is the pair
  pub ascending-value : (n r : ℕ) (v w : ℤ) (d : Pair) → IsAscending pairs n r v
      → (slice_index_or pairs n d).value ≡ Some w → v ≡ w
  ascending-value n r v w d a is =
      let read = ap (λ (p : Pair). p.value) (get_or_from_slice_get pairs n a.pair d a.at) in
      let value = a.value in
      cc (read, value, is)

  pub ascending-shown : (n r : ℕ) (v : ℤ) (d : Pair) → IsAscending pairs n r v
      → (slice_index_or pairs n d).value ≡ Some v
  ascending-shown n r v d a =
      ap (λ (p : Pair). p.value) (get_or_from_slice_get pairs n a.pair d a.at) ∙ a.value

  -- one place has one value
  pub ascending-one : (m n r s : ℕ) (v w : ℤ) → IsAscending pairs m r v → IsAscending pairs n s w
      → m ≡ n → v ≡ w
  ascending-one m n r s v w a b e =
      let at = a.at in
      let other = b.at in
      let same : a.pair ≡ b.pair = cc (at, other, e) in
      let value = a.value in
      let other_value = b.value in
      cc (value, other_value, same)

  module _ (ascent : IsAscent pairs) (at r : ℕ) (v value : ℤ) (here : IsAscending pairs at r v)
      (last : (n : ℕ) → IsAscending pairs n r value → n ≤ at) where
    -- a pair with another value stands before
    before : (v ≡ value → ⊥) → (n : ℕ) → IsAscending pairs n r value → n < at
    before other n a =
        elim (before_or_same n at (last n a)) [
          | inl l ↦ l
          | inr e ↦ absurd (other (sym (ascending-one n at r r value v a here e)))
        ]

    -- if nothing stands before, there is none
    pub none-before : value <ℤ v → at ≤ here.pair.previous → (n : ℕ) → IsAscending pairs n r value → ⊥
    none-before less no_step n a =
        let l = before (λ e. omega (arith, ints, less, e)) n a in
        let w = ascent.last n at r v value here a l in
        omega (arith, w.1, no_step)

    -- if the value here is less, there is none
    pub none-above : v <ℤ value → (n : ℕ) → IsAscending pairs n r value → ⊥
    none-above less n a =
        let l = before (λ e. omega (arith, ints, less, e)) n a in
        let w = ascent.ascends n at r value v a here l in
        omega (arith, ints, less, w)

    -- a step back to the one before keeps all in reach
    pub last-previous : value <ℤ v → (n : ℕ) → IsAscending pairs n r value → n ≤ here.pair.previous
    last-previous less n a =
        (ascent.last n at r v value here a (before (λ e. omega (arith, ints, less, e)) n a)).0

    -- so does a jump to one that isn't below the value
    pub last-jump : (next : ℕ) (w : ℤ) → IsAscending pairs next r w → value ≤ℤ w → (n : ℕ)
        → IsAscending pairs n r value → n ≤ next
    last-jump next w there le n a = go (nat_lt next n) refl
      where
        go : (b : Bool) → nat_lt next n ≡ b → n ≤ next
        go true q =
            absurd (let l = ascent.ascends next n r w value there a (ltb-true next n q) in
            omega (arith, ints, l, le))
        go false q = ltb-false next n q

    -- the one before stands in the register too, if it isn't the same
    pub step-back : (next : ℕ) → next ≡ here.pair.previous → next < at → (w : ℤ) × IsAscending pairs next r w
    step-back next e less = elim (ascent.back at r v here) [
      | inl same ↦ absurd (omega (arith, e, same, less))
      | inr there ↦ subst (λ m. (w : ℤ) × IsAscending pairs m r w) (sym e) there
    ]
