use Rattle.std.proofs.Common.{◌∙◌, ℕ, List, ap, arith}
use Rattle.std.proofs.lemmas.List.{take_all}
use Rattle.std.specs.Prelude.{flat_map}
use Rattle.reg_report.proofs.order_lines.joined.Goals as goal

pub returns : goal.returns
returns c =
    c.new.ensures ∙ (c.loop-part.invariant
    ∙ ap (flat_map (λ (part : List ℕ). part))
    (take_all c.loop-part.part-index c.args.parts.now (omega (
      arith,
      c.loop-part-test.false,
      c.loop-part.auto.part-index-end,
    ))))
