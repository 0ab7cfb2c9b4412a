-- The parts so far are taken in, and each leaves fewer.
use Rattle.std.proofs.Common.{length, ◌-◌}
use Rattle.reg_intake.proofs.Growing.{IsGrowing}
use Rattle.reg_intake.proofs.underway.take_in.Given as goal

abbrev pub invariant-loop-count : goal.invariant-loop-count
invariant-loop-count l = IsGrowing l.fn.arena l.parts l.count l.built

abbrev pub decreases-loop-count : goal.decreases-loop-count
decreases-loop-count l = length l.parts - l.count
