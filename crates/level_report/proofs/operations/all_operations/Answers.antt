use Rattle.std.proofs.Common.{◌≡◌, ◌++◌, ◌∙◌, ap, arith, length, subst, sym}
use Rattle.history_model.specs.Operations.{calls, initial_writes, operations}
use Rattle.level_report.specs.Shown.{AreAllReady}
use Rattle.level_report.proofs.AllListed.{all-ready}
use Rattle.level_report.proofs.operations.all_operations.Goals as goal

pub returns-clause-ready : goal.returns-clause-ready
returns-clause-ready c =
    let h = c.args.arena.now in
    let is : c.push_calls.new.ops.items ≡ operations h =
    c.in_ok-push_calls.ensures
    ∙ ap (λ xs. xs ++ calls h.events) (c.in_ok-push_initial_writes.ensures
    ∙ ap (λ xs. xs ++ initial_writes (length h.names)) c.in_ok-ops.ensures.items) in
    subst AreAllReady (sym is) (all-ready h c.event_count.ensures.recorded
    (omega (arith, c.register_count-registers.ensures.count, c.register_count-registers.ensures.bound))
    (omega (arith, c.event_count.ensures.count, c.event_count.ensures.bound)))
