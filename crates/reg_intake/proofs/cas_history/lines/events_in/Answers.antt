-- What was read ahead is taken in behind what was taken in before, while the next block is read.
use Rattle.std.proofs.Common.{◌++◌, [], Option, subst, refl}
use Rattle.reg_intake.specs.CasHistory.Blocks.{left_of}
use Rattle.reg_intake.specs.CasHistory.Input.{history_lines}
use Rattle.reg_intake.specs.CasHistory.Taken.{IsNoHistory, read_in}
use Rattle.reg_intake.specs.declared.cas_history.blocks.Start.{Start}
use Rattle.reg_intake.proofs.Passing.{passed-on}
use Rattle.reg_intake.proofs.CasHistoryLemmas.Taking.{IsTakenTo, all-taken, refused-all}
use Rattle.reg_intake.proofs.CasHistoryLemmas.Taking.{refused-there, taken-all, taken-further}
use Rattle.reg_intake.proofs.CasHistoryLemmas.WholeInput.{block-read}
use Rattle.reg_intake.proofs.cas_history.lines.events_in.Goals as goal

pub returns-in_err-ahead-2-clause-err : goal.returns-in_err-ahead-2-clause-err
returns-in_err-ahead-2-clause-err g c =
    let input = c.args.bytes.now in
    let all = history_lines input in
    let ahead = c.loop-ahead.ahead in
    let error = c.in_err-ahead-2.field-0.0 in
    passed-on (IsNoHistory all) error c.from_residual-in_err-ahead-2.result
    c.from_residual-in_err-ahead-2.ensures.1
    (refused-all all [] error refl
    (refused-there all (read_in ahead.parts.items) (left_of input ahead.next) [] c.loop-ahead.events error
    c.loop-ahead.invariant.taken c.in_err-ahead-2.ensures.refused))

pub loop-ahead-preserved : goal.loop-ahead-preserved
loop-ahead-preserved g c =
    let input = c.args.bytes.now in
    let all = history_lines input in
    let old = c.loop-ahead.ahead in
    let new = c.in_ok-ahead-2.ahead in
    let events = c.loop-ahead.events in
    let read = read_in new.parts.items in
    let so_far =
    block-read all input (read_in old.parts.items) old.next c.in-Some.start read new.next [] events
    c.in-Some.is c.in_ok-ahead-2.ensures.read.lines c.loop-ahead.invariant.taken in
    record {
      next = c.in_ok-ahead-2.ensures.read.next;
      taken =
          taken-further all (read_in old.parts.items) (read ++ left_of input new.next) [] events
          c.read_and_take.new.events so_far c.in_ok-ahead-2.ensures.taken;
    }

pub returns-in_err-take_parts-clause-err : goal.returns-in_err-take_parts-clause-err
returns-in_err-take_parts-clause-err g c =
    let input = c.args.bytes.now in
    let all = history_lines input in
    let ahead = c.loop-ahead.ahead in
    let error = c.in_err-take_parts.field-0.0 in
    passed-on (IsNoHistory all) error c.from_residual-in_err-take_parts.result
    c.from_residual-in_err-take_parts.ensures.1
    (refused-all all [] error refl
    (refused-there all (read_in ahead.parts.items) (left_of input ahead.next) [] c.loop-ahead.events error
    c.loop-ahead.invariant.taken c.in_err-take_parts.ensures.err))

pub returns-clause-ok : goal.returns-clause-ok
returns-clause-ok g c =
    let input = c.args.bytes.now in
    let all = history_lines input in
    let ahead = c.loop-ahead.ahead in
    let events = c.take_parts.new.events in
    taken-all all [] events refl
    (all-taken all [] events
    (subst (λ (start : Option Start). IsTakenTo all (left_of input start) [] events) c.in_default.is
    (taken-further all (read_in ahead.parts.items) (left_of input ahead.next) [] c.loop-ahead.events events
    c.loop-ahead.invariant.taken c.in_ok-take_parts.ensures.ok)))
