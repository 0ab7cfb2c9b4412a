-- An order in which the edges of what operations learn go forward.
use Rattle.std.proofs.Common.{◌≡◌, ℕ, suc, ◌<◌, ◌≤◌, eqb, false, List, [], ◌∷◌, length, slice_get, Some}
use Rattle.std.proofs.Common.{inl, inr}
use Rattle.std.proofs.Common.{refl, sym, ap, ◌∙◌, arith}
use Rattle.std.specs.List.{AllByRecursion, IsDistinct}
use Rattle.std.proofs.lemmas.Bool.{eqb-true}
use Rattle.std.proofs.lemmas.Bool.Decides.{eqb_tells}
use Rattle.std.proofs.lemmas.Map.Steps.{length-le_from_distinct_below}
use Rattle.std.proofs.lemmas.Map.Views.{Contains-from_any}
use Rattle.std.proofs.lemmas.Option.{slice_get-get_or, slice_get_within}
use Rattle.history_model.specs.declared.operation.Operation.{Operation}
use Rattle.reg_levels.specs.OrderGraph.Graph.{IsForwardOrder}
use Rattle.reg_levels.specs.declared.order_graph.edge.Edge.{Edge}
use Rattle.causal_order.specs.SessionClocks.Clocks.{Asks, IsLearning, IsLearningOrder, IsTableInRange}
use Rattle.causal_order.specs.declared.session_clocks.table.SessionTable.{SessionTable}
use Rattle.causal_order.specs.CausalGraph.{AreLearned, IsTableOf}
use Rattle.causal_order.proofs.Behind.{previous-both, source-both}

all_by : (P : ℕ → Type 0) (xs : List ℕ) → ((j y : ℕ) → slice_get xs j ≡ Some y → P y) → AllByRecursion P xs
all_by P [] h = tt
all_by P (x ∷ xs) h = (h 0 x refl, all_by P xs (λ j y e. h (suc j) y e))

distinct_from : (xs : List ℕ) → ((i j v : ℕ) → slice_get xs i ≡ Some v → slice_get xs j ≡ Some v → i ≡ j)
    → IsDistinct eqb xs
unfolding IsDistinct
distinct_from [] once = tt
distinct_from (x ∷ xs) once = (
  all_by (λ y. eqb x y ≡ false) xs (λ j y e. elim (eqb_tells x y) [
    | inl same ↦ let k = once 0 (suc j) x refl (e ∙ ap Some (sym same.1)) in absurd (omega (arith, k))
    | inr differ ↦ differ.0
  ]),
  distinct_from xs (λ i j v e f. let k = once (suc i) (suc j) v e f in omega (arith, k)),
)

-- an order of the places below n, each once, has n places at most
pub order-few : (n : ℕ) (order : List ℕ) → ((i v : ℕ) → slice_get order i ≡ Some v → v < n)
    → ((i j v : ℕ) → slice_get order i ≡ Some v → slice_get order j ≡ Some v → i ≡ j) → length order ≤ n
order-few n order only once =
    length-le_from_distinct_below order n (distinct_from order once)
    (λ q e. let c = Contains-from_any {eq = eqb} (λ x y. eqb-true x y) q order e in
    only c.0 q (slice_get-get_or order c.0 q c.1 ∙ ap Some c.2))

module _ (ops : List Operation) (table : SessionTable) (t : IsTableOf ops table) where
  asks_within : (p d : ℕ) → Asks table p d → p < length ops
  asks_within p d (inl h) = let l = slice_get_within table.previous.items p (Some d) h in omega
      (arith, l, t.is_table.previous)
  asks_within p d (inr h) = let l = slice_get_within table.sources.items p (Some d) h in omega
      (arith, l, t.is_table.sources)

  asks_below : (p d : ℕ) → Asks table p d → d < length ops
  asks_below p d (inl h) = let b = previous-both ops table t.called t.is_table p d h in
      slice_get_within ops d b.earlier b.at_earlier
  asks_below p d (inr h) = let b = source-both ops table t.called t.is_table p d h in
      slice_get_within ops d b.earlier b.at_earlier

  pub table-range : IsTableInRange table
  table-range = record {
    few = omega (arith, t.few, t.is_table.numbers);
    numbers = t.is_table.below;
    previous = t.is_table.previous ∙ sym t.is_table.numbers;
    sources = t.is_table.sources ∙ sym t.is_table.numbers;
    before = λ p d a. let l = asks_below p d a in omega (arith, l, t.is_table.numbers);
  }

  pub forward-learning : (edges : List Edge) (order : List ℕ) → AreLearned table (length ops) edges
      → IsForwardOrder (length ops) edges order → IsLearningOrder table order
  forward-learning edges order learned f = record {
    few = let l = order-few (length ops) order f.only f.once in omega (arith, l, t.is_table.numbers);
    within = λ i p h. let l = f.only i p h in omega (arith, l, t.is_table.numbers);
    once = f.once;
    after = λ i p d h a.
        let j = f.all d (asks_below p d a) in
        (j.0, f.forward j.0 i d p j.1 h (learned d p (asks_within p d a) a), j.1);
  }

  pub learning-of : (order : List ℕ) → IsLearningOrder table order → IsLearning ops table order
  learning-of order o = record {
    whole = t.whole;
    called = t.called;
    few = t.few;
    sessions = t.is_table;
    turns = o;
  }
