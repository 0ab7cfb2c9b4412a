-- The graph after an edge was added, and what is reached along its edges.
use Rattle.std.proofs.Common.{◌≡◌, ℕ, ◌+◌, ◌≤◌, List, [], ◌∷◌, ◌++◌, length, slice_get, Option, Some, Bool}
use Rattle.std.proofs.Common.{true, false}
use Rattle.std.proofs.Common.{inl, inr, refl, sym, ap, ◌∙◌, subst, arith}
use Rattle.std.proofs.lemmas.List.{length_push}
use Rattle.std.proofs.lemmas.Option.{slice_get_within}
use Rattle.history_model.specs.declared.guarantee.Guarantee.{Guarantee}
use Rattle.history_model.specs.declared.operation.Operation.{Operation}
use Rattle.reg_levels.specs.OrderGraph.Graph.{IsPath}
use Rattle.reg_levels.specs.declared.order_graph.edge.Edge.{Edge}
use Rattle.reg_levels.proofs.OrderGraphLemmas.Places.{place-push, place-push_cases, place-push_kept}
use Rattle.reg_levels.proofs.OrderGraphLemmas.Paths.{path-append}
use Rattle.reg_levels.specs.declared.clusters.table.ClusterEnds.{ClusterEnds}
use Rattle.reg_levels.specs.LevelGraph.{Extends, IsLevelEdge, IsLevelGraph, IsSameGraph, Joins, JoinsIf}
use Rattle.reg_levels.specs.LevelGraph.{Reaches}
use Rattle.reg_levels.specs.declared.graph.LevelGraph.{LevelGraph}
use Rattle.reg_levels.specs.declared.graph.PlacePair.{PlacePair}

pub graph_none : (g : Guarantee) (ops : List Operation) (clusters : List ClusterEnds) (numbers : List
    (Option ℕ))
    (calls : List ℕ) (graph : LevelGraph) → graph.edges.items ≡ [] → graph.pairs.items ≡ []
    → IsLevelGraph g ops clusters numbers calls graph
graph_none g ops clusters numbers calls graph e p = record {
  count = ap length p ∙ sym (ap length e);
  each = λ k edge pair a b. absurd (let q = subst (λ xs. slice_get xs k ≡ Some edge) e a in cc q);
}

pub graph_joined : (g : Guarantee) (ops : List Operation) (clusters : List ClusterEnds) (numbers : List
    (Option ℕ))
    (calls : List ℕ) (edge : Edge) (pair : PlacePair) (old new : LevelGraph) → Joins edge pair old new
    → IsLevelEdge g ops clusters numbers calls edge pair → IsLevelGraph g ops clusters numbers calls old
    → IsLevelGraph g ops clusters numbers calls new
graph_joined g ops clusters numbers calls edge pair old new j is h = record {
  count =
      omega (
        arith,
        ap length j.edges,
        ap length j.pairs,
        length_push old.edges.items edge,
        length_push old.pairs.items pair,
        h.count,
      );
  each =
      λ k e p a b.
      elim (place-push_cases old.edges.items edge k e (subst (λ xs. slice_get xs k ≡ Some e) j.edges a)) [
        | inl m ↦
            elim (place-push_cases old.pairs.items pair k p (subst (λ xs. slice_get xs k ≡ Some p) j.pairs
            b)) [
              | inl n ↦ h.each k e p m n
              | inr n ↦ absurd (omega (arith, n.0, h.count, slice_get_within old.edges.items k e m))
            ]
        | inr m ↦
            elim (place-push_cases old.pairs.items pair k p (subst (λ xs. slice_get xs k ≡ Some p) j.pairs
            b)) [
              | inl n ↦ absurd (omega (arith, m.0, h.count, slice_get_within old.pairs.items k p n))
              | inr n ↦
                  subst (λ x. IsLevelEdge g ops clusters numbers calls x p) (sym m.1)
                  (subst (IsLevelEdge g ops clusters numbers calls edge) (sym n.1) is)
            ]
      ];
}

pub extends_joined : (edge : Edge) (pair : PlacePair) (old new : LevelGraph) → Joins edge pair old new
    → Extends old.edges.items new.edges.items
extends_joined edge pair old new j = λ k e a.
    subst (λ xs. slice_get xs k ≡ Some e) (sym j.edges) (place-push_kept old.edges.items edge k e a)

pub extends_same : (old new : List Edge) → new ≡ old → Extends old new
extends_same old new e = λ k edge a. subst (λ xs. slice_get xs k ≡ Some edge) (sym e) a

pub extends_twice : (a b c : List Edge) → Extends a b → Extends b c → Extends a c
extends_twice a b c f g = λ k e h. g k e (f k e h)

pub reaches_same : (edges : List Edge) (x y : ℕ) → x ≡ y → Reaches edges x y
reaches_same edges x y e = ([], e)

pub reaches_joined : (edge : Edge) (pair : PlacePair) (old new : LevelGraph) → Joins edge pair old new
    → Reaches new.edges.items edge.from edge.to
reaches_joined edge pair old new j = (
  length old.edges.items ∷ [],
  (
    edge,
    subst (λ xs. slice_get xs (length old.edges.items) ≡ Some edge) (sym j.edges) (place-push
        old.edges.items edge),
    refl,
    refl,
  ),
)

pub reaches_twice : (edges : List Edge) (x y z : ℕ) → Reaches edges x y → Reaches edges y z → Reaches edges
    x z
reaches_twice edges x y z p q = (p.0 ++ q.0, path-append edges x p.0 y q.0 z p.1 q.1)

path_extends : (old new : List Edge) → Extends old new → (x : ℕ) (path : List ℕ) (y : ℕ) → IsPath old x path y
    → IsPath new x path y
path_extends old new f x [] y p = p
path_extends old new f x (k ∷ path) y p = (p.0, f k p.0 p.1, p.2, path_extends old new f p.0.to path y p.3)

pub reaches_extends : (old new : List Edge) → Extends old new → (x y : ℕ) → Reaches old x y → Reaches new x y
reaches_extends old new f x y p = (p.0, path_extends old new f x p.0 y p.1)

-- a pair of edges that joins grows the graph by one
pub joined_longer : (edge : Edge) (pair : PlacePair) (old new : LevelGraph) → Joins edge pair old new
    → length new.edges.items ≡ length old.edges.items + 1
joined_longer edge pair old new j = ap length j.edges ∙ length_push old.edges.items edge

-- ---- an edge that is added if it is wanted

pub if_extends : (b : Bool) (edge : Edge) (pair : PlacePair) (old new : LevelGraph) → JoinsIf b edge pair
    old new
    → Extends old.edges.items new.edges.items
if_extends true edge pair old new j = extends_joined edge pair old new j
if_extends false edge pair old new j = extends_same old.edges.items new.edges.items j.edges

pub if_longer : (b : Bool) (edge : Edge) (pair : PlacePair) (old new : LevelGraph) → JoinsIf b edge pair old
    new
    → length new.edges.items ≤ length old.edges.items + 1
if_longer true edge pair old new j = omega (arith, joined_longer edge pair old new j)
if_longer false edge pair old new j = omega (arith, ap length j.edges)

pub if_reaches : (b : Bool) (edge : Edge) (pair : PlacePair) (old new : LevelGraph) → JoinsIf b edge pair
    old new
    → b ≡ true → Reaches new.edges.items edge.from edge.to
if_reaches true edge pair old new j t = reaches_joined edge pair old new j
if_reaches false edge pair old new j t = absurd (cc t)

pub graph_same : (g : Guarantee) (ops : List Operation) (clusters : List ClusterEnds) (numbers : List
    (Option ℕ))
    (calls : List ℕ) (old new : LevelGraph) → IsSameGraph old new → IsLevelGraph g ops clusters numbers
    calls old
    → IsLevelGraph g ops clusters numbers calls new
graph_same g ops clusters numbers calls old new s h = record {
  count = ap length s.pairs ∙ (h.count ∙ sym (ap length s.edges));
  each =
      λ k e p a b. h.each k e p (subst (λ xs. slice_get xs k ≡ Some e) s.edges a)
      (subst (λ xs. slice_get xs k ≡ Some p) s.pairs b);
}

pub if_graph : (g : Guarantee) (ops : List Operation) (clusters : List ClusterEnds) (numbers : List (Option
    ℕ))
    (calls : List ℕ) (b : Bool) (edge : Edge) (pair : PlacePair) (old new : LevelGraph) → JoinsIf b edge
    pair old new
    → (b ≡ true → IsLevelEdge g ops clusters numbers calls edge pair) → IsLevelGraph g ops clusters numbers
    calls old
    → IsLevelGraph g ops clusters numbers calls new
if_graph g ops clusters numbers calls true edge pair old new j is h =
    graph_joined g ops clusters numbers calls edge pair old new j (is refl) h
if_graph g ops clusters numbers calls false edge pair old new j is h =
    graph_same g ops clusters numbers calls old new j h
