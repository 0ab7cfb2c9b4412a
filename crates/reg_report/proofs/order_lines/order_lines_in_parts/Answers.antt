-- The parts, by whatever thread each was found, are the lines of the order.
use Rattle.std.proofs.Common.{List, refl, ap, ◌∙◌}
use Rattle.std.specs.Prelude.{flat_map}
use Rattle.std.proofs.lemmas.Result.{IfOk-weaker}
use Rattle.parallel.proofs.Callers.{joined-given, part-at}
use Rattle.reg_report.specs.Lines.{call_line, lines_by}
use Rattle.reg_report.proofs.OrderLines.{lines-append}
use Rattle.reg_report.proofs.order_lines.order_lines_in_parts.Goals as goal

pub map_parts-requires-after_bounds : goal.map_parts-requires-after_bounds
map_parts-requires-after_bounds g c κs within part inside i x at =
    let there = part-at c.args.order.now part.now inside i x at in
    c.requires there.0 x there.1

pub returns : goal.returns
returns g c =
    let line = call_line c.args.arena.now.events in
    IfOk-weaker c.joined.result _ _
    (λ lines is. is
    ∙ (ap (flat_map (λ (part : List _). part)) c.deref.ensures.value
    ∙ joined-given _ _ (λ lines. lines) (lines_by line) refl (lines-append line) (λ part lines is.
    is) c.args.order.now c.in_ok-parts.parts.items c.in_ok-parts.ensures))
    c.joined.ensures
