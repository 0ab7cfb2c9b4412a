-- A sort by a key of two numbers ranks elements whose keys differ.
use Rattle.std.proofs.Common.{◌≡◌, ℕ, zero, suc, ◌+◌, ◌-◌, ◌<◌, ◌≤◌, ◌==◌, ◌&&◌, ◌⊎◌}
use Rattle.std.proofs.Common.{Bool, false, List, length, get_or, inl, inr, refl, sym}
use Rattle.std.proofs.Common.{ap, subst, ◌∙◌, arith, AllPairs, nat_cmp, is_lt}
use Rattle.std.proofs.lemmas.Bool.{cases_lt, cases_order, eq-eqb, and_from, false≢true}
use Rattle.std.proofs.lemmas.Bool.Decides.{Decides-eqb, same_from_decides}
use Rattle.std.proofs.lemmas.Fn.{always_returns_same}
use Rattle.std.proofs.lemmas.Map.Keys.{IsDistinct-from_apart, IsDistinct-IsPermutation, apart_from_distinct}
use Rattle.std.specs.Fn.{Called, ComputesKey}
use Rattle.std.specs.List.Sorted.{IsSortedByKey, IsPermutation}
use Rattle.std.specs.Ordering.{ordering_then}
use Rattle.std.specs.Cmp.{nat_cmp_is}
use Rattle.std.specs.declared.cmp.Ordering.{Ordering}
use Rattle.std.specs.declared.cmp.Ordering.TheVariants.{Less, Equal}
use denote.Param.Members.{Mut}
use denote.Ref.{Bor}

abbrev pub key_cmp : ℕ × ℕ → ℕ × ℕ → Ordering
key_cmp x y = ordering_then (nat_cmp x.0 y.0) (nat_cmp x.1 y.1)

flips : (m n : ℕ) → (m == n) ≡ (n == m)
flips m n =
    same_from_decides _ _ (Decides-eqb m n) (let d = Decides-eqb n m in (λ h. sym (d.0 h), λ e. d.1 (sym e)))

module _ {X : Type 0} (major minor : X → ℕ) where
  -- two elements have one key
  abbrev pub same_key : X → X → Bool
  same_key x y = major x == major y && minor x == minor y

  -- the key of x is less
  abbrev pub IsLess : X → X → Type 0
  IsLess x y = (major x < major y) ⊎ ((major x ≡ major y) × (minor x < minor y))

  abbrev AtMost : X → X → Type 0
  AtMost x y = (major x < major y) ⊎ ((major x ≡ major y) × (minor x ≤ minor y))

  at_most : (x y : X) → is_lt (key_cmp (major y, minor y) (major x, minor x)) ≡ false → AtMost x y
  at_most x y e = elim (cases_order (major x) (major y)) [
    | inl q ↦ elim (cases_lt (minor y) (minor x)) [
      | inl l ↦ absurd
          (false≢true (sym e
          ∙ ap is_lt (ap (λ o. ordering_then o (nat_cmp (minor y) (minor x)))
          (sym (nat_cmp_is (major y) (major x) Equal (sym q)))
          ∙ sym (nat_cmp_is (minor y) (minor x) Less l))))
      | inr l ↦ inr (q, l)
    ]
    | inr o ↦ elim o [
      | inl l ↦ inl l
      | inr l ↦ absurd
          (false≢true (sym e
          ∙ ap is_lt (ap (λ o. ordering_then o (nat_cmp (minor y) (minor x)))
          (sym (nat_cmp_is (major y) (major x) Less l)))))
    ]
  ]

  at_most-trans : (x y z : X) → AtMost x y → AtMost y z → AtMost x z
  at_most-trans x y z (inl p) (inl q) = inl (omega arith)
  at_most-trans x y z (inl p) (inr q) = inl (omega (arith, q.0))
  at_most-trans x y z (inr p) (inl q) = inl (omega (arith, p.0))
  at_most-trans x y z (inr p) (inr q) = inr (p.0 ∙ q.0, omega (arith, p.1, q.1))

  -- neighbours in order are all in order
  far : (xs : List X) → ((k : ℕ) (d : X) → k + 1 < length xs → AtMost (get_or xs k d) (get_or xs (k + 1) d))
      → (i m : ℕ) (d : X) → i + m < length xs → AtMost (get_or xs i d) (get_or xs (i + m) d)
  far xs h i zero d l =
      let e : i ≡ i + zero =
      omega arith in subst (λ k. AtMost (get_or xs i d) (get_or xs k d)) e (inr (refl, omega arith))
  far xs h i (suc m) d l =
      let e : i + m + 1 ≡ i + suc m = omega arith in
      subst (λ k. AtMost (get_or xs i d) (get_or xs k d)) e
      (at_most-trans (get_or xs i d) (get_or xs (i + m) d) (get_or xs (i + m + 1) d)
      (far xs h i m d (omega arith)) (h (i + m) d (omega arith)))

  same_key-flips : (x y : X) → same_key x y ≡ same_key y x
  same_key-flips x y =
      ap (λ b. b && minor x == minor y) (flips (major x) (major y))
      ∙ ap (λ b. major y == major x && b) (flips (minor x) (minor y))

  -- what the clause `sorted` of a sort by the key gives
  pub from_sort : {F : Type 0} {g : Mut F (Bor X × Unit {0}) (ℕ × ℕ)} {f : F} (old new : List X)
      → ((key : X → ℕ × ℕ) → ComputesKey g key f → IsSortedByKey key key_cmp new)
      → ((a : Bor X × Unit {0}) (r : ℕ × ℕ) (f' : F) → Called g f a r f'
      → (r ≡ (major a.0.now, minor a.0.now)) × (f' ≡ f))
      → IsPermutation old new → AllPairs (λ x y. same_key x y ≡ false) old → AllPairs IsLess new
  from_sort {g = g} {f = f} old new up calls moved apart i j d l k =
      let sorted =
      up (λ x. (major x, minor x))
      (always_returns_same g (λ a r. r ≡ (major a.0.now, minor a.0.now)) f calls) in
      let next : (n : ℕ) (e : X) → n + 1 < length new → AtMost (get_or new n e) (get_or new (n + 1) e) =
      λ n e b. at_most (get_or new n e) (get_or new (n + 1) e) (sorted n e (omega arith) b) in
      let at : i + (j - i) ≡ j = omega arith in
      let le =
      subst (λ n. AtMost (get_or new i d) (get_or new n d)) at (far new next i (j - i) d (omega arith)) in
      let distinct =
      IsDistinct-IsPermutation same_key same_key-flips old new moved
      (IsDistinct-from_apart same_key old apart) in
      let differ = apart_from_distinct same_key new i j d distinct l k in
      elim le [
        | inl p ↦ inl p
        | inr p ↦ elim (cases_lt (minor (get_or new i d)) (minor (get_or new j d))) [
          | inl q ↦ inr (p.0, q)
          | inr q ↦ absurd
              (false≢true (sym differ ∙ and_from _ _ (eq-eqb _ _ p.0) (eq-eqb _ _ (omega (arith, q, p.1)))))
        ]
      ]
