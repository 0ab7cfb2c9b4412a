-- The extents of a table's clusters, by number and then by first reply.
use Rattle.std.proofs.Common.{◌≡◌, ℕ, zero, suc, ◌+◌, ◌<◌, ◌≤◌, ◌^◌, List, [], ◌∷◌, ◌++◌, get_or, length}
use Rattle.std.proofs.Common.{slice_get, Some, Bool, Option, ◌==◌, false, AllPairs, inl, inr, sym, ap}
use Rattle.std.proofs.Common.{subst}
use Rattle.std.proofs.Common.{◌∙◌, arith}
use Rattle.std.proofs.lemmas.Bool.{cases_Bool, eq-eqb, false≢true}
use Rattle.std.proofs.lemmas.Bool.Decides.{Decides-eqb, same_from_decides}
use Rattle.std.proofs.lemmas.Map.Keys.{IsDistinct-from_apart, IsDistinct-IsPermutation, apart_from_distinct}
use Rattle.std.proofs.lemmas.List.Sorted.{Contains-permutation, IsPermutation-sym}
use Rattle.std.specs.List.Sorted.{IsNonDecreasingBy, IsPermutation}
use Rattle.history_model.specs.Lists.{In}
use Rattle.history_model.specs.declared.operation.Operation.{Operation}
use Rattle.history_model.proofs.Indexes.{Before-from_pairs, Contains-from_In, In-from_Contains}
use Rattle.history_model.proofs.Lists.{slice_get-In, slice_get_inside}
use Rattle.reg_levels.proofs.ClusterLemmas.Places.{at-below, at-is, nothing}
use Rattle.reg_levels.proofs.ClusterLemmas.Pushes.{get-below, get-read, length-push, get-push_cases}
use Rattle.reg_levels.specs.Clusters.Places.{AreFew}
use Rattle.reg_levels.specs.Clusters.Table.{IsClusterTable}
use Rattle.reg_levels.specs.declared.clusters.table.ClusterEnds.{ClusterEnds}
use Rattle.reg_levels.specs.Gap.Conflicts.{AreExtents, AreExtentsBelow, IsExtent}
use Rattle.reg_levels.specs.declared.gap.extent.Extent.{Extent}
use Rattle.reg_levels.proofs.GapLemmas.Passing.{get-is, get-of}

abbrev same_number : Extent → Extent → Bool
same_number x y = x.cluster == y.cluster

same_number-flips : (x y : Extent) → same_number x y ≡ same_number y x
same_number-flips x y =
    same_from_decides _ _ (Decides-eqb x.cluster y.cluster)
    (let d = Decides-eqb y.cluster x.cluster in (λ h. sym (d.0 h), λ e. d.1 (sym e)))

module _ (ops : List Operation) (clusters : List ClusterEnds) (numbers : List (Option ℕ))
    (t : IsClusterTable ops clusters numbers) where
  -- a cluster's number is at most the place of its write
  number-le : (k : ℕ) (c : ClusterEnds) → slice_get clusters k ≡ Some c → k ≤ c.write
  number-le zero c h = omega arith
  number-le (suc k) c h =
      let d = slice_get_inside clusters k (omega (arith, get-below clusters c (suc k) h)) in
      let l = number-le k d.0 d.1 in
      omega (arith, l, t.ascending k (suc k) d.0 c (omega arith) d.1 h)

  pub number-few : (k : ℕ) → AreFew ops → k < length clusters → k < 2 ^ 21
  number-few k few l =
      let c = slice_get_inside clusters k l in
      let e = t.each k c.0 c.1 in
      omega (arith, few, number-le k c.0 c.1, at-below ops (c.0).write e.0 e.1.at_write)

  -- one more extent
  pub extents-push : (n : ℕ) (xs : List Extent) (x : Extent) (c : ClusterEnds)
      → AreExtentsBelow ops clusters n xs → slice_get clusters n ≡ Some c → x.first_reply ≡ c.first_reply
      → x.write_call ≡ (get_or ops c.write nothing).call → x.last_call ≡ c.last_call → x.cluster ≡ n
      → AreExtentsBelow ops clusters (n + 1) (xs ++ x ∷ [])
  extents-push n xs x c o h reply call last number = record {
    each = λ i z k. elim (get-push_cases xs x z i k) [
      | inl old ↦ o.each i z old
      | inr new ↦
          let e = t.each n c h in
          let is = at-is ops c.write e.0 e.1.at_write in
          let here : i ≡ n = new.0 ∙ o.count in
          subst (λ (u : Extent). IsExtent ops clusters u × (u.cluster ≡ i)) new.1 (
            record {
              ends = c;
              write = e.0;
              there = ap (slice_get clusters) number ∙ h;
              is = e.1;
              reply = reply;
              call = call ∙ ap (λ (a : Operation). a.call) is;
              last = last;
            },
            number ∙ sym here,
          )
    ];
    whole = λ i l. slice_get_inside (xs ++ x ∷ []) i (omega (arith, l, length-push xs x, o.count));
    count = length-push xs x ∙ ap (λ m. m + 1) o.count;
  }

  module _ (xs sorted : List Extent) (o : AreExtentsBelow ops clusters (length clusters) xs)
      (p : IsPermutation xs sorted) (up : IsNonDecreasingBy (λ (x : Extent). x.first_reply) sorted) where
    moved : (x : Extent) → In x sorted → In x xs
    moved x i = In-from_Contains xs x (Contains-permutation sorted xs x (IsPermutation-sym xs sorted p)
        (Contains-from_In sorted x i))

    stays : (x : Extent) → In x xs → In x sorted
    stays x i = In-from_Contains sorted x (Contains-permutation xs sorted x p (Contains-from_In xs x i))

    -- no two have one number
    differ : AllPairs (λ (x y : Extent). (x.cluster == y.cluster) ≡ false) xs
    differ i j d l k =
        let x = get_or xs i d in
        let y = get_or xs j d in
        let e = (o.each i x (get-read xs i d (omega arith))).1 in
        let f = (o.each j y (get-read xs j d k)).1 in
        elim (cases_Bool (x.cluster == y.cluster)) [
          | inl t ↦ absurd (omega (arith, e, f, l, (Decides-eqb x.cluster y.cluster).0 t))
          | inr n ↦ n
        ]

    differ-sorted : AllPairs (λ (x y : Extent). (x.cluster == y.cluster) ≡ false) sorted
    differ-sorted i j d l k =
        apart_from_distinct same_number sorted i j d
        (IsDistinct-IsPermutation same_number same_number-flips xs sorted p
        (IsDistinct-from_apart same_number xs differ)) l k

    pub sorted-extents : AreExtents ops clusters sorted
    sorted-extents = record {
      each = λ x i. let at = get-of xs x (moved x i) in (o.each at.0 x at.1).0;
      whole = λ k c h.
          let x = o.whole k (get-below clusters c k h) in
          (x.0, stays x.0 (slice_get-In xs k x.0 x.1), (o.each k x.0 x.1).1);
      apart = λ x y b e.
          let f =
          Before-from_pairs (λ (x y : Extent). (x.cluster == y.cluster) ≡ false) sorted differ-sorted x y b in
          false≢true (sym f ∙ eq-eqb x.cluster y.cluster e);
      rising = λ i j x y l h k.
          let r = up i j x (omega arith) (get-below sorted y j k) in
          subst (λ (z : Extent). x.first_reply ≤ z.first_reply) (get-is sorted j y x k)
          (subst (λ (z : Extent). z.first_reply ≤ (get_or sorted j x).first_reply) (get-is sorted i x x h) r);
    }
