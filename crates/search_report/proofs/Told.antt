-- What the verdict of a search says, by lines.
use Rattle.std.proofs.Common.{◌≡◌, ℕ, ◌<◌, ◌-◌, List, ◌∷◌, map, get_or, slice_get, Option, Some}
use Rattle.std.proofs.Common.{None, inl, inr, arith, Result, Ok, Err, Vec, Global, sym, ap, subst, ◌∙◌}
use Rattle.std.specs.Prelude.{IfOk, IfSome}
use Rattle.std.proofs.lemmas.Option.{same_Some, slice_get-get_or, slice_get_within}
use Rattle.std.proofs.lemmas.Simd.{map-map}
use Rattle.history_model.proofs.Lists.{slice_get-In}
use Rattle.history_model.specs.Cut.{cut_at}
use Rattle.history_model.specs.declared.operation.Operation.{Operation}
use Rattle.history_model.specs.Legal.{IsAtomic}
use Rattle.history_model.specs.Lists.{In}
use Rattle.history_model.specs.Operations.{AreTimed, initial_write, reply_of}
use Rattle.history_model.proofs.Placed.{within_life}
use Rattle.history_model.specs.Placed.{PlacedOperation, placed}
use Rattle.history_model.specs.Timed.{AreTimedCalls}
use Rattle.register_search.specs.Checked.{IsCheckedOrder}
use Rattle.register_search.specs.Timeline.{AreCalls, AreTimes, operations_at}
use Rattle.register_search.specs.Unwritten.{IsFirstUnwritten}
use Rattle.register_search.specs.Verdicts.{IsBefore, IsRefuted, IsVerdict}
use Rattle.register_search.specs.declared.verdict.Verdict.{Verdict}
use Rattle.report_text.specs.declared.search.report.Atomicity.{Atomicity}
use Rattle.report_text.specs.declared.search.report.Atomicity.TheVariants.{Yes, No}
use Rattle.report_text.specs.declared.search.report.Fault.TheVariants.{Search, Unwritten}
use Rattle.search_report.specs.Meaning.{IsAtomicity, IsOrderBefore, line_at, lines_of}
use Rattle.search_report.specs.Registers.{AreLinesBefore, AreOpenLines, IsReplyLine}
use Rattle.search_report.proofs.Placing.{known-lines}

pub are-calls : (r : ℕ) (ops : List Operation) → AreTimedCalls r ops → AreCalls r ops
are-calls r ops timed = record {
  register = timed.register;
  called = timed.called;
  ascending = timed.ascending;
  pending = timed.pending;
}

pub are-times : (r : ℕ) (ops : List Operation) → AreTimedCalls r ops → AreTimes ops
are-times r ops timed = record {
  timed = record { life = timed.life; apart = timed.apart };
  replies = timed.replies;
}

-- the initial write of a register and its calls stand in time
pub timed_with_initial : (r : ℕ) (ops : List Operation) → AreTimedCalls r ops
    → AreTimed (initial_write r ∷ ops)
timed_with_initial r ops timed = record { life = life; apart = apart }
  where
    call : (a : Operation) → a ≡ initial_write r → a.call ≡ 0
    call a e = ap (λ (x : Operation). x.call) e

    reply : (a : Operation) → a ≡ initial_write r → a.reply ≡ 1
    reply a e = ap (λ (x : Operation). x.reply) e

    life : (a : Operation) → In a (initial_write r ∷ ops) → a.call < a.reply
    life a (inl e) = omega (arith, call a e, reply a e)
    life a (inr i) = timed.life a i

    apart : (a b : Operation) → In a (initial_write r ∷ ops) → In b (initial_write r ∷ ops)
        → a.reply ≡ b.call → ⊥
    apart a b (inl e) (inl f) same = omega (arith, reply a e, same, call b f)
    apart a b (inl e) (inr j) same = omega (arith, reply a e, same, timed.called b j)
    apart a b (inr i) (inl f) same = omega (arith, timed.life a i, same, call b f)
    apart a b (inr i) (inr j) same = timed.apart a b i j same

module _ (lines : List ℕ) (r : ℕ) (ops : List Operation) where
  pub unwritten-told : (k : ℕ) (d : Operation) → AreTimedCalls r ops → IsFirstUnwritten ops (Some k)
      → ((s : ℕ) → AreCalls s ops → IsAtomic (initial_write s ∷ ops) → ⊥)
      → IsAtomicity lines r ops (No (Unwritten (get_or ops k d).line))
  unwritten-told k d timed first none =
      let a = first.0.0 in
      let within = slice_get_within ops k a first.0.1 in (
        none r (are-calls r ops timed),
        record {
          place = k;
          operation = a;
          there = first.0.1;
          first = first;
          line =
              ap (λ (x : Operation). x.line) (same_Some _ _ (sym (slice_get-get_or ops k d within)
              ∙ first.0.1));
        },
      )

  pub order-told : AreTimedCalls r ops → (places points : List ℕ) (order times : Vec ℕ Global)
      → order.items ≡ lines_of (operations_at ops places) → times.items ≡ map (line_at lines) points
      → IsCheckedOrder r ops places points → IsAtomicity lines r ops (Yes order times)
  order-told timed places points order times e f checked = (
    (initial_write r ∷ operations_at ops places, checked.legal),
    record {
      operations = operations_at ops places;
      legal = checked.legal;
      within =
          λ x i. within_life (initial_write r ∷ ops) (initial_write r ∷ operations_at ops places)
          (timed_with_initial r ops timed) checked.legal x (inr i);
      order_is = e;
      points_are =
          f ∙ (ap (map (line_at lines)) checked.points_are.is
          ∙ map-map (line_at lines) (λ (x : PlacedOperation). x.point)
          (placed (operations_at ops places)));
    },
  )

  before_told : (timed : AreTimedCalls r ops) (k time : ℕ) (a : Operation) → slice_get ops k ≡ Some a
      → reply_of a ≡ Some time → (before shown : Option (Vec ℕ Global)) → AreLinesBefore ops before shown
      → IfSome before (λ places. IsBefore r ops k places.items)
      → IfSome shown (λ order. IsOrderBefore time r ops order.items)
  before_told timed k time a at replies None shown is legal =
      subst (λ o. IfSome o (λ order. IsOrderBefore time r ops order.items)) (sym is) tt
  before_told timed k time a at replies (Some places) shown is legal =
      let same_op : a ≡ legal.replies.0 = same_Some _ _ (sym at ∙ legal.replies.1) in
      let same_time : legal.time ≡ time =
      same_Some _ _ (sym legal.replies.2 ∙ (ap reply_of (sym same_op) ∙ replies)) in
      let order : IsOrderBefore legal.time r ops is.0.items = (
        operations_at (cut_at (legal.time - 1) ops) places.items,
        legal.legal.legal,
        is.2 ∙ sym (known-lines (legal.time - 1) r ops (are-calls r ops timed) places.items
            legal.legal.within),
      ) in
      subst (λ o. IfSome o (λ order. IsOrderBefore time r ops order.items)) (sym is.1)
      (subst (λ t. IsOrderBefore t r ops is.0.items) same_time order)

  pub no-told : AreTimedCalls r ops → IsFirstUnwritten ops None
      → (k line : ℕ) (asks : Vec ℕ Global) (before shown : Option (Vec ℕ Global))
      → IsReplyLine lines ops k line → AreOpenLines ops k asks.items → AreLinesBefore ops before shown
      → IsRefuted r ops k → IfSome before (λ places. IsBefore r ops k places.items)
      → IsAtomicity lines r ops (No (Search asks shown line))
  no-told timed first k line asks before shown is_line are_open is refuted legal =
      let a = refuted.replies.0 in (
        refuted.whole,
        (
          first,
          record {
            operation = a;
            time = refuted.time;
            within = slice_get-In ops k a refuted.replies.1;
            replies = refuted.replies.2;
            line = is_line a refuted.time refuted.replies.1 refuted.replies.2;
            none = refuted.beginning;
            asks_are = are_open a refuted.time refuted.replies.1 refuted.replies.2;
            order =
                before_told timed k refuted.time a refuted.replies.1 refuted.replies.2 before shown is legal;
          },
        ),
      )

-- what is told of a verdict that is right is right
pub told-of : {E : Type 0} (lines : List ℕ) (ops : List Operation) (verdict : Verdict)
    (result : Result Atomicity E)
    → IfOk result (λ a. (r : ℕ) → AreTimedCalls r ops → IsFirstUnwritten ops None → IsVerdict r ops verdict
    → IsAtomicity lines r ops a)
    → ((r : ℕ) → AreTimedCalls r ops → IsVerdict r ops verdict)
    → IfOk result (λ a. (r : ℕ) → AreTimedCalls r ops → IsFirstUnwritten ops None → IsAtomicity lines r ops a)
told-of lines ops verdict (Ok a) told right = λ r timed first. told r timed first (right r timed)
told-of lines ops verdict (Err e) told right = tt
