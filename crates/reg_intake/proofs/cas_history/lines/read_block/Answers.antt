-- The lines read, by whatever thread, are those of the spans, in order.
use Rattle.std.proofs.Common.{refl}
use Rattle.std.proofs.lemmas.List.{map-append}
use Rattle.std.proofs.lemmas.Result.{IfOk-weaker}
use Rattle.std.specs.Prelude.{map}
use Rattle.parallel.proofs.Callers.{joined-given, part-all}
use Rattle.history_text.specs.Lines.{IsWithin}
use Rattle.reg_intake.specs.CasHistory.Input.{meant_at}
use Rattle.reg_intake.proofs.cas_history.lines.read_block.Goals as goal

pub map_parts-requires-after_bounds : goal.map_parts-requires-after_bounds
map_parts-requires-after_bounds g c κs within part inside =
    part-all (IsWithin c.args.bytes.now) c.args.spans.now part.now inside c.requires

pub returns : goal.returns
returns g c =
    let read = meant_at c.args.bytes.now in
    IfOk-weaker c.map_parts.result _ _
    (λ parts given.
    joined-given _ _ (λ part. part.items) (map read) refl (map-append read) (λ part lines is. is)
    c.args.spans.now parts.items given)
    c.map_parts.ensures
