-- The edges from the initial write's cluster to the others.
use Rattle.std.proofs.Common.{◌≡◌, ℕ, zero, suc, ◌+◌, ◌<◌, ◌≤◌, List, length, slice_get, Option, Some, None}
use Rattle.std.proofs.Common.{Bool, true, false, not, eqb}
use Rattle.std.proofs.Common.{inl, inr, refl, sym, ap, ◌∙◌, subst, arith}
use Rattle.std.proofs.lemmas.Bool.{cases_eq, cases_order}
use Rattle.std.proofs.lemmas.Bool.Decides.{Decides-eqb}
use Rattle.history_model.specs.Operations.{IsHistory, IsWrite}
use Rattle.history_model.specs.declared.guarantee.Guarantee.{Guarantee}
use Rattle.history_model.specs.declared.operation.Operation.{Operation}
use Rattle.reg_levels.specs.declared.order_graph.edge.Edge.{Edge}
use Rattle.reg_levels.proofs.OrderGraphLemmas.Places.{place-inside, place-same}
use Rattle.reg_levels.proofs.ClusterLemmas.Places.{at-In, at-below, calls_ascend}
use Rattle.reg_levels.specs.Clusters.Places.{IsAt, IsByCall}
use Rattle.reg_levels.specs.Clusters.Table.{IsClusterTable}
use Rattle.reg_levels.specs.declared.clusters.table.ClusterEnds.{ClusterEnds}
use Rattle.reg_levels.specs.LevelGraph.{Extends, IsJoin, IsLevelGraph, JoinsIf, Reaches}
use Rattle.reg_levels.specs.Levels.{IsOfSessions}
use Rattle.reg_levels.specs.declared.graph.LevelGraph.{LevelGraph}
use Rattle.reg_levels.specs.declared.graph.PlacePair.{PlacePair}
use Rattle.reg_levels.proofs.Asking.{keep_initial}
use Rattle.reg_levels.proofs.Joining.{extends_twice, if_extends, if_graph, if_longer, if_reaches}
use Rattle.reg_levels.proofs.Joining.{reaches_extends, reaches_same}
use Rattle.reg_levels.proofs.Numbering.{write_number}

-- what nobody called stands first
pub initial_at_0 : (ops : List Operation) → IsHistory ops → IsByCall ops → (p : ℕ) (a : Operation) → IsAt
    ops p a
    → a.process ≡ None → p ≡ 0
initial_at_0 ops h y zero a at none = refl
initial_at_0 ops h y (suc p) a at none =
    let first = place-inside ops 0 (omega (arith, at-below ops (suc p) a at)) in
    let call : a.call ≡ 0 = ap (λ (x : Operation). x.call) (h.initial a (at-In ops (suc p) a at) none) in
    absurd (omega (arith, call, calls_ascend ops y 0 (suc p) first.0 a (omega arith) first.1 at))

-- the initial write must come before the write of another cluster
initial_join : (ops : List Operation) (clusters : List ClusterEnds) (numbers : List (Option ℕ)) → IsHistory
    ops
    → IsByCall ops → IsClusterTable ops clusters numbers → (g : Guarantee) → IsOfSessions g → (x other : ℕ)
    (a : Operation) (c : ClusterEnds) → IsAt ops 0 a → a.process ≡ None → slice_get numbers 0 ≡ Some (Some x)
    → slice_get clusters other ≡ Some c → (x ≡ other → ⊥)
    → IsJoin g ops numbers x other (record { before = 0; after = c.write })
initial_join ops clusters numbers h y t g s x other a c at none number here differ =
    let w = t.each other c here in
    let of = write_number ops clusters numbers h y t other c here in
    go w.0 w.1.at_write of w.0.process refl
  where
    reply : a.reply ≡ 1
    reply = ap (λ (z : Operation). z.reply) (h.initial a (at-In ops 0 a at) none)

    go : (w : Operation) → IsAt ops c.write w → slice_get numbers c.write ≡ Some (Some other) → (o : Option ℕ)
        → w.process ≡ o → IsJoin g ops numbers x other (record { before = 0; after = c.write })
    go w there of None e =
        let first : c.write ≡ 0 = initial_at_0 ops h y c.write w there e in
        let same : Some (Some x) ≡ Some (Some other) = sym number ∙ (ap (slice_get numbers) (sym first) ∙
        of) in
        absurd (differ (cc same))
    go w there of (Some q) e =
        let write = t.each other c here in
        let is : write.0 ≡ w = place-same ops c.write write.0 w write.1.at_write there in
        record {
          earlier = a;
          later = w;
          at_earlier = at;
          at_later = there;
          of_x = number;
          of_y = of;
          differ = differ;
          must =
              keep_initial g s a w q (omega (arith, reply, h.called w q (at-In ops c.write w there) e)) none e
              (subst IsWrite is write.1.kept.write);
        }

-- the edges to the clusters below a number, over the graph with which they began
pub record IsBegunBelow (ops : List Operation) (clusters : List ClusterEnds) (numbers : List (Option ℕ)) (x
    other : ℕ)
    (first graph : LevelGraph) : Type 0 where
  pub sound : (g : Guarantee) (calls : List ℕ) → IsOfSessions g
      → IsLevelGraph g ops clusters numbers calls first → IsLevelGraph g ops clusters numbers calls graph
  pub extends : Extends first.edges.items graph.edges.items
  pub reaches : (y : ℕ) → y < other → Reaches graph.edges.items x y
  pub longer : length graph.edges.items ≤ length first.edges.items + other

pub begun_more : (ops : List Operation) (clusters : List ClusterEnds) (numbers : List (Option ℕ)) →
    IsHistory ops
    → IsByCall ops → IsClusterTable ops clusters numbers → (x other : ℕ) (a : Operation) (c : ClusterEnds)
    (first old new : LevelGraph) → IsAt ops 0 a → a.process ≡ None → slice_get numbers 0 ≡ Some (Some x)
    → slice_get clusters other ≡ Some c
    → JoinsIf (not (eqb other x)) (record { from = x; to = other }) (record { before = 0; after = c.write })
    old new
    → IsBegunBelow ops clusters numbers x other first old → IsBegunBelow ops clusters numbers x (other + 1)
    first new
begun_more ops clusters numbers h y t x other a c first old new at none number here j b =
    let edge : Edge = record { from = x; to = other } in
    let pair : PlacePair = record { before = 0; after = c.write } in
    let test : Bool = not (eqb other x) in
    let all = if_extends test edge pair old new j in
    record {
      sound =
          λ g calls s before. if_graph g ops clusters numbers calls test edge pair old new j
          (λ wanted. inl (initial_join ops clusters numbers h y t g s x other a c at none number here
          (λ e. let yes = (Decides-eqb other x).1 (sym e) in absurd (let q = sym wanted ∙ ap not yes in cc
          q))))
          (b.sound g calls s before);
      extends = extends_twice first.edges.items old.edges.items new.edges.items b.extends all;
      reaches =
          λ z l. elim (cases_eq z x) [
            | inl e ↦ reaches_same new.edges.items x z (sym e)
            | inr n ↦ elim (cases_order z other) [
              | inl e ↦
                  subst (Reaches new.edges.items x) (sym e)
                  (if_reaches test edge pair old new j
                  (apart (eqb other x) refl (λ q. n (e ∙ q))))
              | inr o ↦ elim o [
                | inl k ↦ reaches_extends old.edges.items new.edges.items all x z (b.reaches z k)
                | inr k ↦ absurd (omega (arith, l, k))
              ]
            ]
          ];
      longer = omega (arith, b.longer, if_longer test edge pair old new j);
    }
  where
    apart : (r : Bool) → eqb other x ≡ r → (other ≡ x → ⊥) → not (eqb other x) ≡ true
    apart true e n = absurd (n ((Decides-eqb other x).0 e))
    apart false e n = ap not e
