-- Each pull gives more, and leaves less to pull.
use Rattle.std.proofs.Common.{ℕ, List}
use Rattle.reg_intake.specs.Pulls.{Gives}
use Rattle.reg_intake.proofs.Pulling.{left_to_pull}
use Rattle.reg_intake.proofs.pulls.Pulls.drop_rest.Given as goal

abbrev pub invariant-loop-self : goal.invariant-loop-self
invariant-loop-self g l =
    (bytes : List ℕ)
    × Gives (g.S.Source.left l.initial.source) (g.S.Source.left l.source)
    (g.S.Source.failed l.initial.source) (g.S.Source.failed l.source) l.initial.self l.self bytes

abbrev pub decreases-loop-self : goal.decreases-loop-self
decreases-loop-self g l = left_to_pull l.self
