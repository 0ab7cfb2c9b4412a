-- Each piece is held after those before it, and leaves less to pull.
use Rattle.std.proofs.Common.{◌≡◌, ◌⊎◌, ℕ, List, false}
use Rattle.reg_intake.specs.Intake.{IsHeld}
use Rattle.reg_intake.specs.Pulls.{IsFurther}
use Rattle.reg_intake.proofs.Pulling.{left_to_pull}
use Rattle.reg_intake.proofs.intake.Intake.fill.Given as goal

abbrev pub invariant-loop-self : goal.invariant-loop-self
invariant-loop-self g l = record {
  held : (bytes : List ℕ)
      × IsHeld (g.S.Source.left l.initial.source) (g.S.Source.left l.source)
      (g.S.Source.failed l.initial.source) (g.S.Source.failed l.source) l.initial.self l.self bytes;
  further : (l.self ≡ l.initial.self)
      ⊎ (l.initial.self.pulled.is_ended ≡ false → IsFurther l.initial.self.pulled l.self.pulled);
}

abbrev pub decreases-loop-self : goal.decreases-loop-self
decreases-loop-self g l = left_to_pull l.self.pulled
