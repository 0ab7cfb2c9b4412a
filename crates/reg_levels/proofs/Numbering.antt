-- The numbers of the clusters of operations.
use Rattle.std.proofs.Common.{◌≡◌, ℕ, zero, suc, ◌<◌, ◌≤◌, List, length, slice_get, Option, Some, None}
use Rattle.std.proofs.Common.{inl, inr, refl, sym, ap, ◌∙◌, subst, arith}
use Rattle.std.proofs.lemmas.Bool.{cases_order}
use Rattle.std.proofs.lemmas.Option.{slice_get_within}
use Rattle.history_model.specs.Operations.{IsHistory, value_of}
use Rattle.history_model.specs.declared.operation.Operation.{Operation}
use Rattle.reg_levels.proofs.OrderGraphLemmas.Places.{place-inside, place-same}
use Rattle.reg_levels.proofs.ClusterLemmas.Places.{at-below, at-same, calls_ascend}
use Rattle.reg_levels.specs.Clusters.Places.{IsAt, IsByCall}
use Rattle.reg_levels.specs.Clusters.Table.{IsClusterTable, IsEnds}
use Rattle.reg_levels.specs.declared.clusters.table.ClusterEnds.{ClusterEnds}
use Rattle.reg_zones.specs.Clusters.{IsInCluster}
use Rattle.reg_levels.specs.LevelGraph.{AreWriteCalls}

-- two clusters with one write are one
pub same_cluster : (ops : List Operation) (clusters : List ClusterEnds) (numbers : List (Option ℕ)) →
    IsByCall ops
    → IsClusterTable ops clusters numbers → (j k : ℕ) (c d : ClusterEnds) (w : Operation)
    → slice_get clusters j ≡ Some c → slice_get clusters k ≡ Some d → IsAt ops c.write w → IsAt ops d.write
    w → j ≡ k
same_cluster ops clusters numbers y t j k c d w a b p q =
    let same : c.write ≡ d.write = at-same ops y c.write d.write w p q in
    elim (cases_order j k) [
      | inl e ↦ e
      | inr o ↦ elim o [
        | inl l ↦ absurd (omega (arith, t.ascending j k c d l a b, same))
        | inr l ↦ absurd (omega (arith, t.ascending k j d c l b a, same))
      ]
    ]

-- an operation of a cluster has its number
pub member_number : (ops : List Operation) (clusters : List ClusterEnds) (numbers : List (Option ℕ)) →
    IsHistory ops
    → IsByCall ops → IsClusterTable ops clusters numbers → (p k : ℕ) (a : Operation) (c : ClusterEnds) (w :
    Operation)
    → IsAt ops p a → slice_get clusters k ≡ Some c → IsEnds ops w c → IsInCluster ops (value_of w) a
    → slice_get numbers p ≡ Some (Some k)
member_number ops clusters numbers h y t p k a c w at here ends of =
    let o = place-inside numbers p (omega (arith, t.places, at-below ops p a at)) in go o.0 o.1
  where
    go : (o : Option ℕ) → slice_get numbers p ≡ Some o → slice_get numbers p ≡ Some (Some k)
    go None e = absurd (t.other p a at e w ends.kept of)
    go (Some j) e =
        let m = t.member p j a at e in
        let same : m.1 ≡ w =
        h.values m.1 w m.3.kept.within ends.kept.within m.3.kept.write ends.kept.write (sym m.4.value ∙
        of.value) in
        let number : j ≡ k =
        same_cluster ops clusters numbers y t j k m.0 c w m.2 here
        (subst (λ x. IsAt ops m.0.write x) same m.3.at_write) ends.at_write in
        e ∙ ap (λ n. Some (Some n)) number

-- a write has the number of its cluster
pub write_number : (ops : List Operation) (clusters : List ClusterEnds) (numbers : List (Option ℕ)) →
    IsHistory ops
    → IsByCall ops → IsClusterTable ops clusters numbers → (k : ℕ) (c : ClusterEnds) → slice_get clusters k
    ≡ Some c
    → slice_get numbers c.write ≡ Some (Some k)
write_number ops clusters numbers h y t k c here =
    let e = t.each k c here in
    member_number ops clusters numbers h y t c.write k e.0 c e.0 e.1.at_write here e.1
    (record { within = e.1.kept.within; value = refl; counts = inl e.1.kept.write })

-- there are no more clusters than operations
pub clusters_few : (ops : List Operation) (clusters : List ClusterEnds) (numbers : List (Option ℕ))
    → IsClusterTable ops clusters numbers → length clusters ≤ length ops
clusters_few ops clusters numbers t = go (length clusters) refl
  where
    below : (k : ℕ) (c : ClusterEnds) → slice_get clusters k ≡ Some c → k ≤ c.write
    below zero c a = omega arith
    below (suc k) c a =
        let o = place-inside clusters k (omega (arith, length-at (suc k) c a)) in
        omega (arith, below k o.0 o.1, t.ascending k (suc k) o.0 c (omega arith) o.1 a)
      where
        length-at : (j : ℕ) (d : ClusterEnds) → slice_get clusters j ≡ Some d → j < length clusters
        length-at j d e = slice_get_within clusters j d e

    go : (n : ℕ) → length clusters ≡ n → length clusters ≤ length ops
    go zero e = omega (arith, e)
    go (suc n) e =
        let o = place-inside clusters n (omega (arith, e)) in
        let ends = t.each n o.0 o.1 in
        omega (arith, e, below n o.0 o.1, at-below ops o.0.write ends.0 ends.1.at_write)

-- the calls of the clusters' writes ascend
pub write_calls_ascend : (ops : List Operation) (clusters : List ClusterEnds) (numbers : List (Option ℕ))
    (calls : List ℕ) → IsByCall ops → IsClusterTable ops clusters numbers → AreWriteCalls ops clusters calls
    → (j k m n : ℕ) → j < k → slice_get calls j ≡ Some m → slice_get calls k ≡ Some n → m < n
write_calls_ascend ops clusters numbers calls y t are j k m n l a b =
    let c = place-inside clusters j (omega (arith, are.count, slice_get_within calls j m a)) in
    let d = place-inside clusters k (omega (arith, are.count, slice_get_within calls k n b)) in
    let v = t.each j c.0 c.1 in
    let w = t.each k d.0 d.1 in
    let one : v.0.call ≡ m = place-same calls j v.0.call m (are.each j c.0 v.0 c.1 v.1.at_write) a in
    let other : w.0.call ≡ n = place-same calls k w.0.call n (are.each k d.0 w.0 d.1 w.1.at_write) b in
    omega (
      arith,
      one,
      other,
      calls_ascend ops y c.0.write d.0.write v.0 w.0
          (t.ascending j k c.0 d.0 l c.1 d.1) v.1.at_write w.1.at_write,
    )
