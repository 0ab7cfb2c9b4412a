-- The number of a pair is its place, however it is found.
use Rattle.std.proofs.Common.{◌≡◌, inl, inr, ◌<ℤ◌, ℕ, ℤ, true, List, map, slice_get, Option}
use Rattle.std.proofs.Common.{Some, None, option_map, refl, sym, ap, ap₂, subst, ◌∙◌, arith}
use Rattle.std.specs.List.{position}
use Rattle.std.proofs.lemmas.Int.{ints}
use Rattle.std.proofs.lemmas.Option.{slice_get-map}
use Rattle.reg_arena.specs.Lists.Pairs.{key_eq, ArePairs, IsAscending, key_of}
use Rattle.reg_arena.specs.declared.event_lists.ascent.Pair.{Pair}
use Rattle.reg_arena.proofs.ListLemmas.Keys.{place-never, place-none, position-at}
use Rattle.reg_arena.proofs.ListLemmas.Searching.{ascending-one}
use Rattle.reg_arena.proofs.ListLemmas.Values.{key_itself, key_same}

-- the key at a place is that of the pair there
key-at : (pairs : List Pair) (n : ℕ) (k : ℕ × Option ℤ) → slice_get (map key_of pairs) n ≡ Some k
    → (p : Pair) × (slice_get pairs n ≡ Some p) × (key_of p ≡ k)
key-at pairs n k at = go (slice_get pairs n) refl
  where
    go : (o : Option Pair) → slice_get pairs n ≡ o → (p : Pair) × (slice_get pairs n ≡ Some p)
        × (key_of p ≡ k)
    go None e = absurd (let none = slice_get-map key_of pairs n ∙ ap (option_map key_of) e in cc (at, none))
    go (Some p) e =
        (p, e, (let some = slice_get-map key_of pairs n ∙ ap (option_map key_of) e in cc (at, some)))

-- a key that no pair has, has no number
pub number-none : (pairs : List Pair) (k : ℕ × Option ℤ)
    → ((n : ℕ) (p : Pair) → slice_get pairs n ≡ Some p → key_of p ≡ k → ⊥)
    → None ≡ position (key_eq k) (map key_of pairs)
number-none pairs k none = go (position (key_eq k) (map key_of pairs)) refl
  where
    go : (o : Option ℕ) → position (key_eq k) (map key_of pairs) ≡ o → None ≡ o
    go None e = refl
    go (Some n) e = absurd (
        let there = position-at (key_eq k) (map key_of pairs) n e in
        let pair = key-at pairs n there.0 there.1 in
        none n pair.0 pair.1 (pair.2 ∙ sym (key_same k there.0 there.2))
        )

-- and the other way round
pub none-number : (pairs : List Pair) (k : ℕ × Option ℤ) → position (key_eq k) (map key_of pairs) ≡ None
    → (n : ℕ) (p : Pair) → slice_get pairs n ≡ Some p → key_of p ≡ k → ⊥
none-number pairs k none n p at is =
    place-never (key_eq k) (map key_of pairs) n (key_of p)
    (place-none (key_eq k) (map key_of pairs) (sym none)) (slice_get-map key_of pairs n
    ∙ ap (option_map key_of) at) (subst (λ q. key_eq k q ≡ true) (sym is) (key_itself k))

module _ (pairs : List Pair) (top : ℕ → Option ℕ) (table : ℕ × Option ℤ
    → Option ℕ) (are : ArePairs pairs top table) where
  -- the number of a pair that is there
  number-of : (n : ℕ) (p : Pair) → slice_get pairs n ≡ Some p → (k : ℕ × Option ℤ) → key_of p ≡ k
      → Some n ≡ position (key_eq k) (map key_of pairs)
  number-of n p at k is = go (position (key_eq k) (map key_of pairs)) refl
    where
      go : (o : Option ℕ) → position (key_eq k) (map key_of pairs) ≡ o → Some n ≡ o
      go None e = absurd (none-number pairs k e n p at is)
      go (Some m) e =
          let there = position-at (key_eq k) (map key_of pairs) m e in
          let pair = key-at pairs m there.0 there.1 in
          ap Some (sym (are.distinct m n pair.0 p pair.1 at (pair.2
          ∙ (sym (key_same k there.0 there.2) ∙ sym is))))

  -- one that ascends
  pub number-ascending : (n r : ℕ) (v : ℤ) → IsAscending pairs n r v
      → Some n ≡ position (key_eq (r, Some v)) (map key_of pairs)
  number-ascending n r v a =
      number-of n a.pair a.at (r, Some v) (ap₂ (λ (r : ℕ) (w : Option ℤ). (r, w)) a.register a.value)

  -- a register without a top has no whole numbers
  pub number-no_top : (r : ℕ) (v : ℤ) → top r ≡ None → None ≡ position (key_eq (r, Some v)) (map key_of pairs)
  number-no_top r v none = number-none pairs (r, Some v) (λ n p at is.
      let low = are.below n p v at (ap (λ (k : ℕ × Option ℤ). k.1) is) in
      let register = ap (λ (k : ℕ × Option ℤ). top k.0) is in
      let its = low.2 in
      cc (none, register, its))

  -- a value above the top is new
  pub number-above : (r t : ℕ) (v w : ℤ) → top r ≡ Some t → IsAscending pairs t r w → w <ℤ v
      → None ≡ position (key_eq (r, Some v)) (map key_of pairs)
  number-above r t v w some a less = number-none pairs (r, Some v) (λ n p at is.
      let low = are.below n p v at (ap (λ (k : ℕ × Option ℤ). k.1) is) in
      let register = ap (λ (k : ℕ × Option ℤ). top k.0) is in
      let its = low.2 in
      let same : low.0 ≡ t = cc (some, register, its) in
      let one = ascending-one pairs low.0 t p.register r low.1 w low.3 a same in
      let le = low.4 in
      omega (arith, ints, less, one, le))

  -- what the table says, if no ascending pair has the key
  pub number-by_table : (k : ℕ × Option ℤ) (o : Option ℕ) → o ≡ table k
      → ((v : ℤ) → k.1 ≡ Some v → (n : ℕ) → IsAscending pairs n k.0 v → ⊥)
      → o ≡ position (key_eq k) (map key_of pairs)
  number-by_table k None is none = number-none pairs k (λ n p at key. elim (are.found n p at) [
    | inl a ↦ none a.0 (sym (ap (λ (q : ℕ × Option ℤ). q.1) key) ∙ value-at n p at a.0 a.1) n
        (subst (λ r. IsAscending pairs n r a.0) (ap (λ (q : ℕ × Option ℤ). q.0) key) a.1)
    | inr there ↦ (let moved = ap table key in cc (is, there, moved))
  ])
    where
      value-at : (n : ℕ) (p : Pair) → slice_get pairs n ≡ Some p → (v : ℤ) → IsAscending pairs n p.register v
          → p.value ≡ Some v
      value-at n p at v a =
          (let here = a.at in let same : p ≡ a.pair = cc (at, here) in ap (λ (q : Pair). q.value) same)
          ∙ a.value
  number-by_table k (Some n) is none =
      let there = are.sound k n (sym is) in number-of n there.0 there.1 k there.2
