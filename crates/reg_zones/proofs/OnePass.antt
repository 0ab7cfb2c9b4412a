-- A step of the pass over low ends, and its end.
use Rattle.std.proofs.Common.{◌≡◌, ℕ, ◌+◌, ◌<◌, ◌≤◌, Option, Some, None, List}
use Rattle.std.proofs.Common.{inl, inr, refl, sym, ap, subst, ◌∙◌, arith}
use Rattle.std.proofs.lemmas.Bool.{cases_lt}
use Rattle.history_model.specs.Operations.{IsHistory, value_of}
use Rattle.history_model.specs.declared.operation.Operation.{Operation}
use Rattle.reg_zones.specs.declared.zone.Cluster.{Cluster}
use Rattle.reg_zones.specs.Clusters.{IsKept, IsConflict, IsForward, IsClearBelow, IsFirstConflict, low_end}
use Rattle.reg_zones.specs.Sweep.{IsClusterOf, IsLowEndAt, IsLastMet, AreClear, IsConflictWith, ZonesConflict}
use Rattle.reg_zones.proofs.LowEnds.{low_apart, same_low}
use Rattle.reg_zones.proofs.Ends.{kept-member}
use Rattle.reg_zones.proofs.ClearBelow.{clear_more, first_found, last_here, last_stays}
use Rattle.reg_zones.proofs.ClearBelow.{none_stays, backward_from, last_one}

module _ (ops : List Operation) where
  -- a cluster's zone is forward where its numbers say so
  pub forward-from : (w : Operation) (cluster : Cluster) → IsClusterOf ops w cluster
      → cluster.zone.f < cluster.zone.s → IsForward ops (value_of w)
  forward-from w cluster k l = omega (arith, l, k.zone.reply, k.zone.call)

  pub forward-to : (w : Operation) (cluster : Cluster) → IsClusterOf ops w cluster
      → IsForward ops (value_of w)
      → cluster.zone.f < cluster.zone.s
  forward-to w cluster k l = omega (arith, l, k.zone.reply, k.zone.call)

  -- two clusters with different low ends conflict where their numbers say so
  conflict-from : (v w : Operation) (c d : Cluster) → IsClusterOf ops v c → IsClusterOf ops w d
      → low_end ops (value_of v) < low_end ops (value_of w) → ZonesConflict c.zone d.zone → IsConflict ops v w
  conflict-from v w c d kv kw l q = record {
    left = kv.kept;
    right = kw.kept;
    differ = λ e. let s = ap (low_end ops) e in omega arith;
    one = omega (arith, q.0, kv.zone.reply, kw.zone.call);
    other = omega (arith, q.1, kw.zone.reply, kv.zone.call);
  }

  conflict-to : (v w : Operation) (c d : Cluster) → IsClusterOf ops v c → IsClusterOf ops w d
      → IsConflict ops v w → ZonesConflict c.zone d.zone
  conflict-to v w c d kv kw q =
      (omega (arith, q.one, kv.zone.reply, kw.zone.call), omega (arith, q.other, kw.zone.reply, kv.zone.call))

module _ (ops : List Operation) (y : IsHistory ops) (n : ℕ) where
  -- at n there is no low end
  pub step_none : (last : Option Cluster) → IsLowEndAt ops n None → AreClear ops n last
      → AreClear ops (n + 1) last
  step_none None f m = record {
    clear = clear_more ops n m.clear (λ v w l k e q. f w k e);
    last = none_stays ops y n m.last (λ u k e q. f u k e);
  }
  step_none (Some c) f m = record {
    clear = clear_more ops n m.clear (λ v w l k e q. f w k e);
    last = (m.last.0, m.last.1, last_stays ops y m.last.0 n m.last.2 (λ u k e q. f u k e));
  }

  -- there is one, and it doesn't conflict
  step_clear : (last : Option Cluster) (d : Cluster) → IsLowEndAt ops n (Some d) → AreClear ops n last
      → IsConflictWith last d None → IsClearBelow ops (n + 1)
  step_clear None d f m k = clear_more ops n m.clear (λ v u l _ e q. m.last v l.kept l.forward l.below)
  step_clear (Some c) d f m k = clear_more ops n m.clear (λ v u l ku e q.
      let ev : v ≡ m.last.0 = last_one ops y v m.last.0 n l m.last.2 in
      let eu : u ≡ f.0 = same_low ops y u f.0 ku f.1.kept (e ∙ sym f.2) in
      let r : IsConflict ops m.last.0 f.0 =
      subst (λ x. IsConflict ops x f.0) ev (subst (IsConflict ops v) eu q) in
      k c refl (conflict-to ops m.last.0 f.0 c d m.last.1 f.1 r))

  pub step_forward : (last : Option Cluster) (d : Cluster) → IsLowEndAt ops n (Some d) → AreClear ops n last
      → IsConflictWith last d None → d.zone.f < d.zone.s → AreClear ops (n + 1) (Some d)
  step_forward last d f m k l = record {
    clear = step_clear last d f m k;
    last = (f.0, f.1, last_here ops y f.0 n f.1.kept f.2 (forward-from ops f.0 d f.1 l));
  }

  pub step_backward : (last : Option Cluster) (d : Cluster) → IsLowEndAt ops n (Some d) → AreClear ops n last
      → IsConflictWith last d None → (d.zone.f < d.zone.s → ⊥) → AreClear ops (n + 1) last
  step_backward last d f m k l = record { clear = step_clear last d f m k; last = stays last m.last }
    where
      stays : (last : Option Cluster) → IsLastMet ops n last → IsLastMet ops (n + 1) last
      stays None q =
          none_stays ops y n q (backward_from ops y f.0 n f.1.kept f.2 (λ p. l (forward-to ops f.0 d f.1 p)))
      stays (Some c) q = (
        q.0,
        q.1,
        last_stays ops y q.0 n q.2
            (backward_from ops y f.0 n f.1.kept f.2 (λ p. l (forward-to ops f.0 d f.1 p))),
      )

  -- there is one, and it conflicts
  pub step_found : (last : Option Cluster) (c d : Cluster) → IsLowEndAt ops n (Some d) → AreClear ops n last
      → IsConflictWith last d (Some c) → (v : Operation) × (w : Operation) × IsFirstConflict ops v w
      × IsClusterOf ops v c × IsClusterOf ops w d
  step_found last c d f m k =
      let q = subst (IsLastMet ops n) k.0 m.last in
      let lt : low_end ops (value_of q.0) < low_end ops (value_of f.0) = omega (arith, q.2.below, f.2) in (
        q.0,
        f.0,
        first_found ops q.0 f.0 n m.clear (conflict-from ops q.0 f.0 c d q.1 f.1 lt k.1) lt f.2,
        q.1,
        f.1,
      )

-- from n on to m there is no low end
pub gap : (ops : List Operation) (n m : ℕ) (last : Option Cluster) → n ≤ m
    → ((w : Operation) → IsKept ops w → n ≤ low_end ops (value_of w) → low_end ops (value_of w) < m → ⊥)
    → AreClear ops n last → AreClear ops m last
gap ops n m None l none q = record {
  clear =
      λ v w c lt b. elim (cases_lt (low_end ops (value_of w)) n) [
        | inl p ↦ q.clear v w c lt p
        | inr p ↦ none w c.right p b
      ];
  last = λ w k f b. elim (cases_lt (low_end ops (value_of w)) n) [
    | inl p ↦ q.last w k f p
    | inr p ↦ none w k p b
  ];
}
gap ops n m (Some c) l none q =
    let v = q.last.2 in
    record {
      clear =
          λ v w c lt b. elim (cases_lt (low_end ops (value_of w)) n) [
            | inl p ↦ q.clear v w c lt p
            | inr p ↦ none w c.right p b
          ];
      last = (
        q.last.0,
        q.last.1,
        record {
          kept = v.kept;
          forward = v.forward;
          below = let b = v.below in omega arith;
          last =
              λ u k f b. elim (cases_lt (low_end ops (value_of u)) n) [
                | inl p ↦ v.last u k f p
                | inr p ↦ absurd (none u k p b)
              ];
        },
      );
    }

-- no low end is left
pub ended : (ops : List Operation) (y : IsHistory ops) (n : ℕ) (last : Option Cluster)
    → ((w : Operation) → IsKept ops w → n ≤ low_end ops (value_of w) → ⊥) → AreClear ops n last
    → (v w : Operation)
    → IsConflict ops v w → ⊥
ended ops y n last none q v w c =
    let below : (u : Operation) → IsKept ops u → low_end ops (value_of u) < n =
    λ u k. elim (cases_lt (low_end ops (value_of u)) n) [ inl p ↦ p | inr p ↦ absurd (none u k p) ] in
    elim (cases_lt (low_end ops (value_of v)) (low_end ops (value_of w))) [
      | inl p ↦ q.clear v w c p (below w c.right)
      | inr p ↦ elim (cases_lt (low_end ops (value_of w)) (low_end ops (value_of v))) [
        | inl t ↦ q.clear w v (record {
          left = c.right;
          right = c.left;
          differ = λ e. c.differ (sym e);
          one = c.other;
          other = c.one;
        }) t (below v c.left)
        | inr t ↦ c.differ
            (low_apart ops y (value_of v) (value_of w) v w (kept-member ops v c.left)
            (kept-member ops w c.right)
            (omega arith))
      ]
    ]
