use Rattle.std.proofs.Common.{◌≡◌, ℕ, List, take}
use Rattle.std.specs.Prelude.{flat_map}
use Rattle.reg_report.proofs.order_lines.joined.Given as goal

abbrev pub invariant-loop-part : goal.invariant-loop-part
invariant-loop-part l = l.lines.items ≡ flat_map (λ (part : List ℕ). part) (take l.part-index l.parts)
