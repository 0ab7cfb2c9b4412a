-- The bytes at hand are all that were pulled, and each pull leaves less that may be.
use Rattle.reg_intake.specs.Pulls.{Gives, nothing}
use Rattle.reg_intake.proofs.Pulling.{left_to_pull}
use Rattle.reg_intake.proofs.bytes.all_bytes.Given as goal

abbrev pub invariant-loop-pulled : goal.invariant-loop-pulled
invariant-loop-pulled g l =
    Gives (g.S.Source.left l.fn.source) (g.S.Source.left l.source) (g.S.Source.failed l.fn.source)
    (g.S.Source.failed l.source) nothing l.pulled l.bytes

abbrev pub decreases-loop-pulled : goal.decreases-loop-pulled
decreases-loop-pulled g l = left_to_pull l.pulled
