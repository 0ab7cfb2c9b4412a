-- Each block is taken in behind those before it.
use Rattle.std.proofs.Common.{◌∙◌, ◌++◌, [], ap, map, refl}
use Rattle.reg_intake.specs.CasHistory.Blocks.{left_of}
use Rattle.reg_intake.specs.CasHistory.Input.{history_lines, meant_at}
use Rattle.reg_intake.specs.CasHistory.Taken.{IsNoHistory}
use Rattle.reg_intake.proofs.Passing.{passed-on}
use Rattle.reg_intake.proofs.CasHistoryLemmas.Taking.{refused-all, refused-there, taken-further}
use Rattle.reg_intake.proofs.CasHistoryLemmas.WholeInput.{block-read}
use Rattle.reg_intake.proofs.cas_history.lines.events_alone.Goals as goal

pub returns-in_err-take_lines-clause-err : goal.returns-in_err-take_lines-clause-err
returns-in_err-take_lines-clause-err c =
    let input = c.args.bytes.now in
    let all = history_lines input in
    let error = c.in_err-take_lines.field-0.0 in
    let block = c.in_ok-spans.field-0 in
    let lines = c.in_ok-read_part.field-0.items in
    let events = c.loop-start.events in
    let so_far =
    block-read all input [] c.loop-start.start c.in-Some.at lines block.next [] events c.in-Some.is
    (ap (λ ls. ls ++ left_of input block.next)
    (c.in_ok-read_part.ensures ∙ ap (map (meant_at input)) c.deref.ensures.value)
    ∙ c.in_ok-spans.ensures.lines)
    c.loop-start.invariant.taken in
    passed-on (IsNoHistory all) error c.from_residual-in_err-take_lines.result
    c.from_residual-in_err-take_lines.ensures.1
    (refused-all all [] error refl
    (refused-there all lines (left_of input block.next) [] events error so_far
    c.in_err-take_lines.ensures.err))

pub loop-start-preserved : goal.loop-start-preserved
loop-start-preserved c =
    let input = c.args.bytes.now in
    let all = history_lines input in
    let block = c.in_ok-spans.field-0 in
    let lines = c.in_ok-read_part.field-0.items in
    let events = c.loop-start.events in
    let so_far =
    block-read all input [] c.loop-start.start c.in-Some.at lines block.next [] events c.in-Some.is
    (ap (λ ls. ls ++ left_of input block.next)
    (c.in_ok-read_part.ensures ∙ ap (map (meant_at input)) c.deref.ensures.value)
    ∙ c.in_ok-spans.ensures.lines)
    c.loop-start.invariant.taken in
    record {
      start = c.in_ok-spans.ensures.next;
      taken =
          taken-further all lines (left_of input block.next) [] events c.take_lines.new.events so_far
          c.in_ok-take_lines.ensures.ok;
    }
