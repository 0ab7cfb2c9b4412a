-- Why the no of a part is a no of all operations.
use Rattle.std.proofs.Common.{◌≡◌, ℕ, Bool, true, List, slice_get, Result, Ok, Err, IfOk}
use Rattle.std.proofs.Common.{IfSome, IsTrue, Option, Some, None, Vec, Global, sym, subst}
use Rattle.history_text.specs.declared.event.Val.{Val}
use Rattle.history_model.specs.declared.operation.Operation.{Operation}
use Rattle.configurations.specs.declared.moment.Moment.{Moment}
use Rattle.register_search.specs.Timeline.{AreCalls, AreTimes, IsTimeline}
use Rattle.register_search.specs.Verdicts.{IsBefore, IsVerdict, RepliesAt}
use Rattle.register_search.specs.declared.verdict.Verdict.{Verdict}
use Rattle.register_search.specs.declared.verdict.Verdict.TheVariants.{No}
use Rattle.register_search.proofs.Linked.{place-of}
use Rattle.register_search.specs.DistinctValues.Hopeless.{IsHopelessAt}
use Rattle.history_model.specs.Acts.{is_plain}
use Rattle.register_search.specs.DistinctValues.SomeOperations.{ArePlain, is_kept, kept_of, null_or}
use Rattle.register_search.proofs.DistinctValueLemmas.Hopeless.{all-hopeless, hopeless-refuted}
use Rattle.register_search.proofs.DistinctValueLemmas.Times.{timeline-times, some-calls, some-times}

-- what holds of operations at times of their own holds of those of a timeline
pub by-times : {E : Type 0} (ops : List Operation) (events : List Moment) (result : Result Verdict E)
    → IfOk result (λ verdict. (r : ℕ) → AreCalls r ops → AreTimes ops → IsVerdict r ops verdict)
    → IfOk result (λ verdict. (r : ℕ) → IsTimeline r ops events → IsVerdict r ops verdict)
by-times ops events (Ok verdict) h = λ r line. h r line.calls (timeline-times r ops events line)
by-times ops events (Err e) h = h

-- reads and writes alone, by their places
pub plain-anyway : {E : Type 0} (ops : List Operation) (result : Result Bool E)
    → ((k : ℕ) (a : Operation) → slice_get ops k ≡ Some a → is_plain a.act ≡ true)
    → IfOk result (λ is. IsTrue is → ArePlain ops)
plain-anyway ops (Ok is) each = λ t a i. let k = place-of ops a i in each k.0 a k.1
plain-anyway ops (Err e) each = tt

-- an order before a reply is one of any register
before-of : (ops : List Operation) (k : ℕ) (before : Option (Vec ℕ Global))
    → IfSome before (λ order. (r : ℕ) → AreCalls r ops → IsBefore r ops k order.items)
    → (r : ℕ) → AreCalls r ops → IfSome before (λ order. IsBefore r ops k order.items)
before-of ops k None h r calls = tt
before-of ops k (Some order) h r calls = h r calls

-- a part without an order refutes all
pub part-refutes : (one other : Val) (times : ℕ
    → Bool) (ops part : List Operation) (k t : ℕ) (before : Option (Vec ℕ Global)) → ArePlain ops
    → part ≡ kept_of (null_or one other) times ops
    → ((r : ℕ) → AreCalls r part → AreTimes part → IsHopelessAt r part t)
    → RepliesAt ops k t
    → IfSome before (λ order. (r : ℕ) → AreCalls r ops → IsBefore r ops k order.items)
    → (r : ℕ) → AreCalls r ops → AreTimes ops → IsVerdict r ops (No k before)
part-refutes one other times ops part k t before plain is hopeless replies legal r calls all =
    let stays : Operation → Bool = λ a. is_kept (null_or one other) times a.act a.call in
    let c = subst (AreCalls r) (sym is) (some-calls stays ops r calls) in
    let d = subst AreTimes (sym is) (some-times stays ops all) in
    let h = subst (λ xs. IsHopelessAt r xs t) is (hopeless r c d) in (
      hopeless-refuted r k t ops replies (all-hopeless one other times r t ops plain h),
      before-of ops k before legal r calls,
    )
