-- The listed operations, sorted by their places, are the canonical order.
use Rattle.std.proofs.Common.{◌≡◌, ℕ, max, map, List, [], ◌∷◌, inl, inr}
use Rattle.std.proofs.Common.{refl, sym, ap, subst, ◌∙◌, arith, AllPairs}
use Rattle.std.proofs.lemmas.List.Sorted.{Contains-permutation, IsPermutation-sym}
use Rattle.std.specs.List.Sorted.{IsPermutation}
use Rattle.history_model.specs.Lists.{In}
use Rattle.history_model.specs.History.{History}
use Rattle.history_model.specs.Operations.{of_register, operations}
use Rattle.history_model.specs.declared.operation.Operation.{Operation}
use Rattle.reg_zones.specs.declared.entry.Entry.{Entry}
use Rattle.reg_zones.specs.declared.placed.Placed.{Placed}
use Rattle.reg_zones.specs.Faults.{HasNoFault}
use Rattle.reg_zones.specs.Order.{IsCanonical, IsOrder, shown}
use Rattle.history_model.specs.Placed.{placed_from}
use Rattle.reg_zones.proofs.Known.{IsKnown}
use Rattle.reg_zones.specs.Entries.{entry_of, entries_placed, ComesFirst, IsListing}
use Rattle.history_model.proofs.Lists.{In-map, map-In, map-Before, Before-first, Before-second}
use Rattle.history_model.proofs.Indexes.{In-from_Contains, Contains-from_In, Before-from_pairs}
use Rattle.reg_zones.proofs.Unique.{ascending_one}
use Rattle.reg_zones.proofs.Exists.{canonical}
use Rattle.reg_zones.proofs.Complete.{legal}
use Rattle.history_model.proofs.Placed.{rising, history-timed, within_life}
use Rattle.reg_zones.proofs.Listing.{sooner-first}

first_one_way : (x y : Entry) → ComesFirst x y → ComesFirst y x → ⊥
first_one_way x y (inl p) (inl q) = omega arith
first_one_way x y (inl p) (inr q) = omega (arith, q.0)
first_one_way x y (inr p) (inl q) = omega (arith, p.0)
first_one_way x y (inr p) (inr q) = omega (arith, p.1, q.1)

moved-In : (xs ys : List Entry) (x : Entry) → IsPermutation xs ys → In x xs → In x ys
moved-In xs ys x p i = In-from_Contains ys x (Contains-permutation xs ys x p (Contains-from_In xs x i))

-- the points of the entries are those of the operations
entries_placed-of : (ops : List Operation) (n : ℕ) (order : List Operation)
    → entries_placed n (map (entry_of ops) order) ≡ map shown (placed_from n order)
entries_placed-of ops n [] = refl
entries_placed-of ops n (a ∷ order) =
    ap (λ xs. shown (record { operation = a; point = max n a.call }) ∷ xs)
    (entries_placed-of ops (max n a.call) order)

module _ (h : History) (r : ℕ) (y : IsKnown h r) (entries sorted : List Entry)
    (l : IsListing (of_register r (operations h)) entries) (p : IsPermutation entries sorted)
    (up : AllPairs ComesFirst sorted) where
  abbrev ops : List Operation
  ops = of_register r (operations h)

  sorted-is : (order : List Operation) → IsCanonical ops order → sorted ≡ map (entry_of ops) order
  sorted-is order c = ascending_one ComesFirst first_one_way sorted (map (entry_of ops) order)
      (λ x i.
      let o = l.only x (moved-In sorted entries x (IsPermutation-sym entries sorted p) i) in
      subst (λ z. In z (map (entry_of ops) order)) (sym o.2)
      (In-map (entry_of ops) o.0 order (c.all o.0 o.1)))
      (λ x i.
      let o = map-In (entry_of ops) x order i in
      moved-In entries sorted x p (subst (λ z. In z entries) (sym o.2) (l.all o.0 (c.listed o.0 o.1))))
      (Before-from_pairs ComesFirst sorted up)
      (λ u v s.
      let o = map-Before (entry_of ops) u v order s in
      let f =
      sooner-first h r y o.0 o.1 (c.listed o.0 (Before-first o.0 o.1 order o.2))
      (c.listed o.1 (Before-second o.0 o.1 order o.2)) (c.ascending o.0 o.1 o.2) in
      subst (λ z. ComesFirst z v) (sym o.3) (subst (ComesFirst (entry_of ops o.0)) (sym o.4) f))

  pub ordered : HasNoFault ops → (answer : List Placed) → answer ≡ entries_placed 0 sorted
      → IsOrder ops answer
  ordered ok answer e =
      let o = canonical ops y.history in
      let k = legal ops y.history ok o.0 o.1 in
      record {
        order = o.0;
        canonical = o.1;
        legal = k;
        within = within_life ops o.0 (history-timed ops y.history) k;
        rising = rising o.0;
        is = e ∙ (ap (entries_placed 0) (sorted-is o.0 o.1) ∙ entries_placed-of ops 0 o.0);
      }
