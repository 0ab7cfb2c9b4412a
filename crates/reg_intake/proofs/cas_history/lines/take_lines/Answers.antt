-- Each line is taken in behind those before it.
use Rattle.std.proofs.Common.{◌∷◌, [], List, subst}
use Rattle.std.specs.Vec.Iter.{into_iter_items}
use Rattle.reg_intake.specs.CasHistory.Refusals.{Line}
use Rattle.reg_intake.specs.CasHistory.Taken.{Refuses}
use Rattle.reg_intake.proofs.Passing.{passed-on}
use Rattle.reg_intake.proofs.CasHistoryLemmas.Taking.{IsTakenTo, refused-there, taken-further}
use Rattle.reg_intake.proofs.cas_history.lines.take_lines.Goals as goal

pub returns-in_err-take_line-clause-err : goal.returns-in_err-take_line-clause-err
returns-in_err-take_line-clause-err c =
    let lines = c.args.lines.items in
    let events = c.args.events.now in
    let error = c.in_err-take_line.field-0.0 in
    let left = into_iter_items c.next.new.self in
    let so_far =
    subst (λ (left : List Line). IsTakenTo lines left events c.loop-line.events) c.in-Some.ensures.steps.0
    c.loop-line.invariant.2 in
    passed-on (Refuses lines events) error c.from_residual.result c.from_residual.ensures.1
    (refused-there lines (c.in-Some.line ∷ []) left events c.loop-line.events error so_far
    c.in_err-take_line.ensures.err)

pub loop-line-preserved : goal.loop-line-preserved
loop-line-preserved c =
    let lines = c.args.lines.items in
    let events = c.args.events.now in
    let left = into_iter_items c.next.new.self in
    let so_far =
    subst (λ (left : List Line). IsTakenTo lines left events c.loop-line.events) c.in-Some.ensures.steps.0
    c.loop-line.invariant.2 in (
      tt,
      tt,
      taken-further lines (c.in-Some.line ∷ []) left events c.loop-line.events c.take_line.new.events so_far
          c.in_ok-take_line.ensures.ok,
    )
