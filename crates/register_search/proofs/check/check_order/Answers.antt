use Rattle.std.proofs.Common.{◌≡◌, ℕ, true, length, slice_get, Some, IfSome, subst}
use Rattle.history_model.specs.declared.operation.Operation.{Operation}
use Rattle.history_model.specs.Operations.{IsCompleted}
use Rattle.register_search.specs.Checked.{IsMarked}
use Rattle.register_search.proofs.Checking.{points-checked}
use Rattle.register_search.proofs.check.check_order.Goals as goal

pub returns-then-meets : goal.returns-then-meets
returns-then-meets c =
    let m =
    subst (λ o. IfSome o (λ marks. IsMarked (length c.args.ops.now) c.args.order.now marks.items))
    c.in-Some.is c.in_ok-marks.ensures in
    let all =
    subst (λ marks. (k : ℕ) (a : Operation) → slice_get c.args.ops.now k ≡ Some a → IsCompleted a
    → slice_get marks k ≡ Some true) c.deref.ensures.value
    (c.has_completed.ensures c.if-has_completed.true) in
    points-checked c.args.ops.now c.args.order.now c.in-Some.marks.items c.points_of.result m all
    (c.meets.ensures c.if-meets.true) c.points_of.ensures
