-- Each part is taken in behind those before it.
use Rattle.std.proofs.Common.{List, Vec, Global, subst}
use Rattle.std.specs.Vec.Iter.{into_iter_items}
use Rattle.reg_intake.specs.CasHistory.Refusals.{Line}
use Rattle.reg_intake.specs.CasHistory.Taken.{Refuses, read_in}
use Rattle.reg_intake.proofs.Passing.{passed-on}
use Rattle.reg_intake.proofs.CasHistoryLemmas.Taking.{IsTakenTo, refused-there, taken-further}
use Rattle.reg_intake.proofs.cas_history.lines.take_parts.Goals as goal

pub returns-in_err-take_lines-clause-err : goal.returns-in_err-take_lines-clause-err
returns-in_err-take_lines-clause-err c =
    let lines = read_in c.args.parts.items in
    let events = c.args.events.now in
    let error = c.in_err-take_lines.field-0.0 in
    let left = read_in (into_iter_items c.next.new.self) in
    let so_far =
    subst (λ (left : List (Vec Line Global)). IsTakenTo lines (read_in left) events c.loop-part.events)
    c.in-Some.ensures.steps.0
    c.loop-part.invariant.2 in
    passed-on (Refuses lines events) error c.from_residual.result c.from_residual.ensures.1
    (refused-there lines c.in-Some.part.items left events c.loop-part.events error so_far
    c.in_err-take_lines.ensures.err)

pub loop-part-preserved : goal.loop-part-preserved
loop-part-preserved c =
    let lines = read_in c.args.parts.items in
    let events = c.args.events.now in
    let left = read_in (into_iter_items c.next.new.self) in
    let so_far =
    subst (λ (left : List (Vec Line Global)). IsTakenTo lines (read_in left) events c.loop-part.events)
    c.in-Some.ensures.steps.0
    c.loop-part.invariant.2 in (
      tt,
      tt,
      taken-further lines c.in-Some.part.items left events c.loop-part.events c.take_lines.new.events so_far
          c.in_ok-take_lines.ensures.ok,
    )
