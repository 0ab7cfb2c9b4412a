-- All that must come first is reached in the graph.
use Rattle.std.proofs.Common.{◌≡◌, ℕ, List, length, slice_get, Option, Some, true}
use Rattle.std.proofs.Common.{◌⊎◌, inl, inr, ap, subst, arith}
use Rattle.std.proofs.lemmas.Option.{slice_get_within}
use Rattle.history_model.specs.Operations.{IsHistory, IsWrite, Precedes, value_of}
use Rattle.history_model.specs.declared.guarantee.Guarantee.{Guarantee}
use Rattle.history_model.specs.declared.operation.Operation.{Operation}
use Rattle.level_laws.specs.Leads.{LeadsTo}
use Rattle.reg_levels.proofs.OrderGraphLemmas.Places.{place-same}
use Rattle.reg_levels.specs.declared.order_graph.edge.Edge.{Edge}
use Rattle.reg_levels.proofs.ClusterLemmas.Places.{In-at, places_ascend}
use Rattle.reg_levels.specs.Clusters.Places.{IsByCall}
use Rattle.reg_levels.specs.Clusters.Table.{IsClusterTable, IsEnds}
use Rattle.reg_levels.specs.declared.clusters.table.ClusterEnds.{ClusterEnds}
use Rattle.reg_zones.proofs.Ends.{first_reply-le}
use Rattle.reg_levels.specs.LevelGraph.{AreWriteCalls, InitialReaches, IsClusterWrite, Reaches}
use Rattle.reg_levels.specs.LevelGraph.{SessionsReach, TimesReach}
use Rattle.reg_levels.specs.Levels.{IsOfSessions, keeps_time}
use Rattle.reg_levels.proofs.Asking.{IsFirstOf, IsLater, must_cases}
use Rattle.reg_levels.proofs.Numbering.{member_number}

-- the cluster of a write
ends-of : (ops : List Operation) (clusters : List ClusterEnds) (numbers : List (Option ℕ))
    → IsClusterTable ops clusters numbers → (x : ℕ) (v : Operation) → (i : IsClusterWrite ops clusters x v)
    → IsEnds ops v i.0
ends-of ops clusters numbers t x v i =
    let e = t.each x i.0 i.1 in
    let same : e.0 ≡ v = place-same ops i.0.write e.0 v e.1.at_write i.2 in
    subst (λ (z : Operation). IsEnds ops z i.0) same e.1

pub whole_reaches : (g : Guarantee) → IsOfSessions g → (ops : List Operation) (clusters : List ClusterEnds)
    (numbers : List (Option ℕ)) (calls : List ℕ) (edges : List Edge) → IsHistory ops → IsByCall ops
    → IsClusterTable ops clusters numbers → AreWriteCalls ops clusters calls
    → InitialReaches ops numbers (length clusters) edges → SessionsReach g ops numbers (length ops) edges
    → (keeps_time g ≡ true → TimesReach clusters calls edges) → (v w : Operation) (x y : ℕ) → LeadsTo g ops
    v w
    → IsClusterWrite ops clusters x v → IsClusterWrite ops clusters y w → Reaches edges x y
whole_reaches g s ops clusters numbers calls edges h b t are initial sessions times v w x y l i j =
    let cases = must_cases g s l.before l.after l.must in by cases.1 cases.0
  where
    ends_v : IsEnds ops v i.0
    ends_v = ends-of ops clusters numbers t x v i

    ends_w : IsEnds ops w j.0
    ends_w = ends-of ops clusters numbers t y w j

    p : (n : ℕ) × (slice_get ops n ≡ Some l.before)
    p = In-at ops l.before l.one.within

    r : (n : ℕ) × (slice_get ops n ≡ Some l.after)
    r = In-at ops l.after l.other.within

    of_x : slice_get numbers p.0 ≡ Some (Some x)
    of_x = member_number ops clusters numbers h b t p.0 x l.before i.0 v p.1 i.1 ends_v l.one

    of_y : slice_get numbers r.0 ≡ Some (Some y)
    of_y = member_number ops clusters numbers h b t r.0 y l.after j.0 w r.1 j.1 ends_w l.other

    by : ((keeps_time g ≡ true) × IsWrite l.after)
        ⊎ (IsLater g l.before l.after ⊎ IsFirstOf l.before l.after)
        → Precedes l.before l.after → Reaches edges x y
    by (inl k) precedes =
        let same : l.after ≡ w =
        h.values l.after w l.other.within ends_w.kept.within k.1 ends_w.kept.write l.other.value in
        times k.0 x y w.call i.0 i.1 (are.each y j.0 w j.1 ends_w.at_write)
        (omega (
          arith,
          precedes,
          ap (λ (z : Operation). z.call) same,
          ends_v.reply_is,
          first_reply-le ops (value_of v) l.before l.one,
        ))
    by (inr (inl k)) precedes =
        sessions k.session p.0 r.0 x y (places_ascend ops b p.0 r.0 l.before l.after p.1 r.1 k.later)
        (slice_get_within ops r.0 l.after r.1)
        (record { operation = l.before; at = p.1; session = k.one; number = of_x; lasting = k.lasting })
        (record { operation = l.after; at = r.1; session = k.other; number = of_y })
    by (inr (inr k)) precedes =
        initial p.0 x l.before p.1 k.nobody of_x y (slice_get_within clusters y j.0 j.1)
