-- Each line feed ends a line, and the last line ends with the bytes.
use Rattle.std.proofs.Common.{◌+◌, ◌<◌, List, length, refl, subst, sym, arith}
use Rattle.history_text.specs.declared.lines.Span.{Span}
use Rattle.reg_intake.specs.declared.cas_history.blocks.TheConstants.{LINES_PER_BLOCK}
use Rattle.reg_intake.proofs.CasHistoryLemmas.Walking.{IsCutTo, all-cut, block-cut, cut-more}
use Rattle.reg_intake.proofs.cas_history.blocks.next_block.Goals as goal
use Rattle.reg_intake.proofs.cas_history.blocks.next_block.Goals.{else-loop-count-test}
use Rattle.reg_intake.proofs.cas_history.blocks.next_block.Goals.{then-loop-count-test+else-from-limit}

pub returns-in_default : goal.returns-in_default
returns-in_default c =
    let room : length c.loop-count.spans.items < LINES_PER_BLOCK =
    omega (arith, c.loop-count-test.true, c.len.ensures, c.loop-count.spans.ok) in
    all-cut c.args.bytes.now c.args.start c.loop-count.spans.items c.loop-count.line c.loop-count.from
    c.loop-count.invariant _ room c.in_default.ensures c.in_ok-add.ensures refl

pub loop-count-preserved : goal.loop-count-preserved
loop-count-preserved c =
    let room : length c.loop-count.spans.items < LINES_PER_BLOCK =
    omega (arith, c.loop-count-test.true, c.len.ensures, c.loop-count.spans.ok) in
    subst (λ (spans : List Span). IsCutTo c.args.bytes.now c.args.start spans (c.loop-count.line + 1)
    (c.loop-count.from + c.in-Some.count + 1))
    (sym c.in_ok-add-2.ensures)
    (cut-more c.args.bytes.now c.args.start c.loop-count.spans.items c.loop-count.line c.loop-count.from
    c.loop-count.invariant c.in-Some.count room c.in-Some.ensures)

pub returns : goal.returns
returns c =
    let so_far = c.loop-count.invariant in
    let later : c.args.start.from < c.loop-count.from = elim c.loop-count-test.branch [
      | then-loop-count-test+else-from-limit w ↦
          omega (arith, w.if-from-limit.false)
      | else-loop-count-test w ↦
          so_far.further (omega (arith, w.loop-count-test.false, c.len.ensures, c.loop-count.spans.ok))
    ] in
    block-cut c.args.bytes.now c.args.start c.loop-count.spans.items c.loop-count.line c.loop-count.from
    so_far _ refl later refl
