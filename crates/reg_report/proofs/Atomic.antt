-- From the orders and faults of the registers to what the report says of them.
use Rattle.std.proofs.Common.{◌≡◌, ℕ, ◌+◌, List, [], ◌∷◌, ◌++◌, true, false, Some}
use Rattle.std.proofs.Common.{None, inl, inr, refl, sym, ap, subst, ◌∙◌, append-nil}
use Rattle.std.specs.List.{flat_map}
use Rattle.std.proofs.lemmas.List.{length_push}
use Rattle.std.proofs.lemmas.List.Concat.{flat_map-append}
use Rattle.history_model.specs.Lists.{In}
use Rattle.history_model.specs.History.{History}
use Rattle.history_model.specs.Operations.{operations, register_of}
use Rattle.reg_zones.specs.Order.{IsOrder}
use Rattle.history_model.specs.Placed.{PlacedOperation, placed, operations_of}
use Rattle.reg_zones.specs.declared.placed.Placed.{Placed}
use Rattle.history_model.proofs.Lists.{In-map}
use Rattle.reg_report.specs.Pieces.Judged.{IsJudged}
use Rattle.reg_report.specs.Lines.{HaveCalls, HavePoints, call_line, point_line, lines_by}
use Rattle.reg_report.specs.Meaning.{IsAtomicity, IsWholeAtomicity}
use Rattle.reg_report.specs.Merged.{AreFirstOrders, AreGathered, IsMergedAnswer}
use Rattle.reg_report.specs.Registers.{IsSomeNotAtomic}
use Rattle.reg_report.specs.ArenaLaws.{ObeysLaws}
use Rattle.reg_report.specs.declared.pieces.judgement.Judgement.TheVariants.{Order}
use Rattle.reg_report.proofs.PieceLemmas.Pushed.{push-cases}
use Rattle.reg_report.proofs.OrderLines.{calls-lines, points-lines, calls-there, points-there, placed-inside}
use Rattle.reg_report.proofs.Locality.{each}

-- ---- one register

module _ (h : History) (t : ObeysLaws h) (r : ℕ) (order : List Placed)
    (x : IsOrder (register_of h r) order) where
  inside : (y : PlacedOperation) → In y (placed x.order) → In y.operation (operations h)
  inside = placed-inside h t r x.order x.legal.completion.only

  pub order-calls : HaveCalls h order
  order-calls = subst (HaveCalls h) (sym x.is) (calls-there h t (placed x.order) inside)

  pub order-points : HavePoints h order
  order-points = subst (HavePoints h) (sym x.is) (points-there h t r x.order x.legal.completion.only)

  pub order-atomicity : IsJudged (register_of h r) (Order order) → (lines points : List ℕ)
      → lines ≡ lines_by (call_line h.events) order → points ≡ lines_by (point_line h.events) order
      → IsAtomicity h (register_of h r) true None (Some lines) (Some points)
  order-atomicity j lines points l p = (
    j.0,
    refl,
    (
      lines,
      points,
      record {
        order = x.order;
        canonical = x.canonical;
        legal = x.legal;
        operations = l ∙ (ap (lines_by (call_line h.events)) x.is ∙ calls-lines h t (placed x.order) inside);
        times = p ∙ (ap (lines_by (point_line h.events)) x.is ∙ points-lines h t (placed x.order));
      },
      refl,
      refl,
    ),
  )

-- ---- all registers

pub one-order-more : (h : History) (n : ℕ) (orders : List (List Placed)) (order : List Placed)
    → AreFirstOrders h n orders → IsOrder (register_of h n) order
    → AreFirstOrders h (n + 1) (orders ++ order ∷ [])
one-order-more h n orders order a x = record {
  count = length_push orders order ∙ ap (λ k. k + 1) a.count;
  each = λ r o q. elim (push-cases orders order o r q) [
    | inl k ↦ a.each r o k
    | inr k ↦ subst (λ p. IsOrder (register_of h r) p) k.1
        (subst (λ m. IsOrder (register_of h m) order) (sym (k.0 ∙ a.count)) x)
  ];
}

pub one-gathered-more : (h : History) (n : ℕ) (gathered order : List Placed) → AreGathered h n gathered
    → IsOrder (register_of h n) order → AreGathered h (n + 1) (gathered ++ order)
one-gathered-more h n gathered order a x = (
  a.0 ++ order ∷ [],
  one-order-more h n a.0 order a.1 x,
  ap (λ g. g ++ order) a.2
      ∙ sym (flat_map-append (λ (o : List Placed). o) a.0 (order ∷ [])
      ∙ ap (λ t. flat_map (λ (o : List Placed). o) a.0 ++ t) (append-nil order)),
)

module _ (h : History) (t : ObeysLaws h) where
  pub merged-calls : (answer : List Placed) → IsMergedAnswer h answer → HaveCalls h answer
  merged-calls answer m =
      subst (HaveCalls h) (sym m.is)
      (calls-there h t m.merged
      (λ x i. m.whole.legal.completion.only x.operation
      (In-map (λ (y : PlacedOperation). y.operation) x m.merged i)))

  pub whole-atomic : (answer : List Placed) (lines : List ℕ) → IsMergedAnswer h answer
      → lines ≡ lines_by (call_line h.events) answer → IsWholeAtomicity h true (Some lines)
  whole-atomic answer lines m e = (
    (operations_of m.merged, m.whole.legal),
    (
      lines,
      (
        m.merged,
        m.whole,
        e ∙ (ap (lines_by (call_line h.events)) m.is
            ∙ calls-lines h t m.merged
            (λ x i. m.whole.legal.completion.only x.operation
            (In-map (λ (y : PlacedOperation). y.operation) x m.merged i))),
      ),
      refl,
    ),
  )

  pub whole-not-atomic : IsSomeNotAtomic h → IsWholeAtomicity h false None
  whole-not-atomic a = (λ atomic. a.2 ((each (operations h) t.history).0 atomic a.0), refl)
