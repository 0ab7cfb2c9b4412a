-- What has been built of some lines, none of which is faulty.
use Rattle.std.specs.Prelude.{◌≡◌, ◌++◌, List, Result, Ok, Err}
use Rattle.history_model.specs.declared.refusal.BuildError.{BuildError}
use Rattle.history_model.specs.History.{History, history_of}
use Rattle.history_model.specs.Refusals.{Line, AreAccepted, IsBuildError, IsWellFormed, events_of}

-- the history is that of the lines, which are well formed
pub record IsBuilt (lines : List Line) (h : History) : Type 0 where
  pub is : h ≡ history_of (events_of lines)
  pub accepted : AreAccepted (events_of lines)
  pub well_formed : IsWellFormed lines

-- the history of the lines before and of some more, or the reason why none is
-- built of any lines that begin with these
abbrev pub IsBuiltWith : List Line → List Line → Result History BuildError → Type 0
IsBuiltWith before lines (Ok h) = IsBuilt (before ++ lines) h
IsBuiltWith before lines (Err e) = (after : List Line) → IsBuildError (before ++ lines ++ after) e
