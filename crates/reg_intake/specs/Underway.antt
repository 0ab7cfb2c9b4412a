-- The reading of a source turn by turn: what is built, what was read ahead, numbered or not, and what is
-- held.
use Rattle.std.specs.Prelude.{◌≡◌, ◌+◌, ◌<◌, ◌≤◌, ◌++◌, ℕ, List, [], true, flat_map}
use Rattle.std.specs.Prelude.{length, take, IfOk, Option, Some, Ok, Err, Result}
use Rattle.history_text.specs.Lines.{MayCome}
use Rattle.history_text.specs.Reading.{history_lines, lines_from}
use Rattle.history_model.specs.History.{History}
use Rattle.history_model.specs.Refusals.{Line, IsBuildError, IsRefusal}
use Rattle.history_model.specs.declared.refusal.BuildError.{BuildError}
use Rattle.reg_arena.specs.Built.{IsBuilt}
use Rattle.reg_arena.specs.Numbered.{ArePartsNumbered, lines_of, names_with}
use Rattle.reg_arena.specs.declared.numbering.NumberedLines.{NumberedLines}
use Rattle.reg_intake.specs.Intake.{IsReadOf}
use Rattle.reg_intake.specs.Pulls.{Exceeds, Gives, nothing}
use Rattle.reg_intake.specs.declared.intake.Intake.{Intake}
use Rattle.reg_intake.specs.declared.pulls.Pulls.{Pulls}
use Rattle.reg_intake.specs.declared.reader.Reader.{Reader}
use Rattle.reg_intake.specs.declared.underway.Grown.{Grown}
use Rattle.reg_intake.specs.declared.underway.TheConstants.{MOST_WAITING}
use Rattle.reg_intake.specs.declared.underway.Underway.{Underway}
use Rattle.reg_intake.specs.declared.refusal.Refusal.{Refusal}
use Rattle.reg_intake.specs.declared.refusal.Refusal.TheVariants.{At, TooLong, InputFailed}
use Rattle.reg_intake.specs.declared.refusal.Refusal.TheVariants.{NoRoom, OutputFailed}

-- the lines of some parts, in order
abbrev pub lines_in : List NumberedLines → List Line
lines_in parts = flat_map lines_of parts

-- the lines have their numbers by the names before them, and the names after are these and those of the lines
pub record AreNumberedBehind (names after : List (List ℕ)) (parts : List NumberedLines) : Type 0 where
  pub numbers : ArePartsNumbered names parts
  pub names_after : after ≡ names_with names (lines_in parts)

-- the lines that were read and have no numbers yet
abbrev pub waiting : Reader → List Line
waiting reader = flat_map (λ part. part.items) reader.unnumbered.items

-- the whole lines that were held are read, and those that were waiting and these are the ones that were
-- numbered and the ones that wait now
pub record IsReadOn (old new : Intake) (reader reader_after : Reader) (numbered : List Line) : Type 0 where
  pub later : List Line
  pub read : IsReadOf old new later
  pub all : numbered ++ waiting reader_after ≡ waiting reader ++ later

-- the source has no more, and nothing is held
abbrev pub IsLast : Intake → Type 0
IsLast intake = (intake.pulled.is_ended ≡ true) × (intake.held ≡ [])

-- an arena of some lines is there, and the lines of the parts have numbers by its names
abbrev pub MayGrow : Option History → List NumberedLines → Type 0
MayGrow arena parts =
    (built : History) × (before : List Line) × (arena ≡ Some built) × IsBuilt before built
    × ArePartsNumbered built.names parts

-- what came of taking parts into an arena of the lines before: the arena with the lines of the parts at the
-- front, or the reason why none is built of any lines that begin with all of these
abbrev pub IsGrownWith : List Line → List NumberedLines → Result Grown BuildError → Type 0
IsGrownWith before parts (Ok grown) = IsBuilt (before ++ lines_in (take grown.count parts)) grown.arena
IsGrownWith before parts (Err e) = (after : List Line) → IsBuildError (before ++ lines_in parts ++ after) e

-- what came of taking parts into an arena that is there: all of them but a few at most
pub record IsGrown (arena : Option History) (parts : List NumberedLines)
    (result : Result Grown BuildError) : Type 0 where
  pub count : IfOk result (λ grown. grown.count ≤ length parts)
  pub few_left : IfOk result (λ grown. length parts ≤ grown.count + MOST_WAITING)
  pub whole : (built : History) (before : List Line) → arena ≡ Some built → IsBuilt before built
      → IsGrownWith before parts result

-- the source gave these bytes since nothing was pulled, and whatever may come, their lines are those that
-- were read and those of what is held
pub record IsReadSoFar (left now : Option (List ℕ)) (failed failed_now : ℕ) (bytes : List ℕ)
    (read : List Line) (intake : Intake) : Type 0 where
  pub given : Gives left now failed failed_now nothing intake.pulled bytes
  pub lines : (more : List ℕ) → MayCome intake.pulled.is_ended more
      → read ++ lines_from intake.next_line (intake.held ++ more) ≡ history_lines (bytes ++ more)
  pub end : intake.pulled.is_ended ≡ true → intake.held ≡ []
  pub room : intake.next_line + length intake.held ≤ intake.pulled.total + 1

-- the arena is built of some lines, and those that were read are these, the ones ahead of it, which are
-- numbered, and the ones that wait for numbers
pub record IsUnderway (left now : Option (List ℕ)) (failed failed_now : ℕ) (intake : Intake) (reader : Reader)
    (state : Underway) : Type 0 where
  pub before : List Line
  pub built : IsBuilt before state.arena
  pub numbered : AreNumberedBehind state.arena.names reader.numbering state.ahead.items
  pub bytes : List ℕ
  pub so_far : IsReadSoFar left now failed failed_now bytes
      (before ++ (lines_in state.ahead.items ++ waiting reader)) intake

-- why no arena is built of what the source gives: of the line that is refused, whatever may come
abbrev pub IsStopped : Option (List ℕ) → Option (List ℕ) → ℕ → ℕ → Pulls → Refusal → Type 0
IsStopped left now failed failed_now pulled (At r) =
    (bytes : List ℕ) × Gives left now failed failed_now nothing pulled bytes
    × ((more : List ℕ) → MayCome pulled.is_ended more → IsRefusal (history_lines (bytes ++ more)) r)
IsStopped left now failed failed_now pulled TooLong = Exceeds left now failed failed_now nothing
IsStopped left now failed failed_now pulled InputFailed = failed < failed_now
IsStopped left now failed failed_now pulled NoRoom =
    (bytes : List ℕ) × Gives left now failed failed_now nothing pulled bytes
IsStopped left now failed failed_now pulled OutputFailed = ⊥

-- whether a refusal may be another one once the rest is pulled
abbrev pub MayChange : Refusal → Type 0
MayChange (At r) = Unit {0}
MayChange TooLong = ⊥
MayChange InputFailed = ⊥
MayChange NoRoom = Unit {0}
MayChange OutputFailed = ⊥
