use Rattle.level_report.proofs.Placing.{line-more, lines-end}
use Rattle.level_report.proofs.order.called_lines.Goals as goal

pub loop-place-preserved : goal.loop-place-preserved
loop-place-preserved c =
    line-more c.args.ops.now c.args.places.now c.loop-place.lines.items c.add_line.new.lines.items
    c.loop-place.place-index c.loop-place-test.true c.in_ok-add_line.ensures c.loop-place.invariant

pub returns : goal.returns
returns c =
    lines-end c.args.ops.now c.args.places.now c.loop-place.lines.items c.loop-place.place-index
    c.loop-place-test.false c.loop-place.invariant
