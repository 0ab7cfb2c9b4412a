-- The bytes that are held between a source and the lines that are read.
use Rattle.std.specs.Prelude.{◌≡◌, ◌+◌, ◌≤◌, ℕ, List, [], ◌∷◌, ◌++◌, true, length, Option}
use Rattle.history_text.specs.declared.limits.TheConstants.{MAX_INPUT}
use Rattle.history_text.specs.Lines.{MayCome, lines}
use Rattle.history_text.specs.Reading.{lines_from}
use Rattle.history_model.specs.Refusals.{Line}
use Rattle.reg_intake.specs.Pulls.{Gives}
use Rattle.reg_intake.specs.declared.intake.Intake.{Intake}

-- what was pulled is within the limit, and the lines before what is held and its bytes are together no more
abbrev pub FitsLimit : Intake → Type 0
FitsLimit intake =
    (intake.pulled.total ≤ MAX_INPUT) × (intake.next_line + length intake.held ≤ intake.pulled.total + 1)

-- the lines of what was held, whatever may come, are these and those of what is held now, which is one line
-- or the beginning of one; at the end nothing is held
pub record IsReadOf (old new : Intake) (read : List Line) : Type 0 where
  pub one_left : lines new.held ≡ new.held ∷ []
  pub lines : (more : List ℕ) → MayCome old.pulled.is_ended more
      → read ++ lines_from new.next_line (new.held ++ more) ≡ lines_from old.next_line (old.held ++ more)
  pub end : old.pulled.is_ended ≡ true → new.held ≡ []
  pub room : new.next_line + length new.held ≤ old.next_line + length old.held
  pub pulled : new.pulled ≡ old.pulled

-- the source gave these bytes, and they are held after those before
pub record IsHeld (left now : Option (List ℕ)) (failed failed_now : ℕ) (old new : Intake)
    (bytes : List ℕ) : Type 0 where
  pub given : Gives left now failed failed_now old.pulled new.pulled bytes
  pub held : new.held ≡ old.held ++ bytes
  pub line : new.next_line ≡ old.next_line
