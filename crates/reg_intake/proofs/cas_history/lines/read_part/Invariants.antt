-- The lines before the place were read.
use Rattle.std.proofs.Common.{◌≡◌}
use Rattle.std.specs.Prelude.{map, take}
use Rattle.reg_intake.specs.CasHistory.Input.{meant_at}
use Rattle.reg_intake.proofs.cas_history.lines.read_part.Given as goal

abbrev pub invariant-loop-span : goal.invariant-loop-span
invariant-loop-span l = record {
  read : l.lines.items ≡ map (meant_at l.bytes) (take l.span-index l.spans);
}
