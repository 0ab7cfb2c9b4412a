-- Lines that are taken in one after another.
use Rattle.std.specs.Prelude.{◌≡◌, ◌++◌, List, Vec, flat_map}
use Rattle.std.specs.Global.{Global}
use Rattle.history_text.specs.declared.event.AnyEvent.{AnyEvent}
use Rattle.history_model.specs.Table.{IsBuildError, events_of}
use Rattle.history_model.specs.declared.refusal.BuildError.{BuildError}
use Rattle.reg_intake.specs.CasHistory.Refusals.{Line, IsWellFormed, any_rules}

-- the lines that were read in parts, in order
abbrev pub read_in : List (Vec Line Global) → List Line
read_in parts = flat_map (λ part. part.items) parts

-- none of the lines is faulty, and these are their events
pub record AreTaken (lines : List Line) (events : List AnyEvent) : Type 0 where
  pub well_formed : IsWellFormed lines
  pub are : events ≡ events_of lines

-- why there is no history of the lines
abbrev pub IsNoHistory : List Line → BuildError → Type 0
IsNoHistory lines error = IsBuildError any_rules lines error

-- the lines are taken in behind any whose events these are
abbrev pub Takes : List Line → List AnyEvent → List AnyEvent → Type 0
Takes lines old new = (done : List Line) → AreTaken done old → AreTaken (done ++ lines) new

-- one of the lines isn't, so there is no history, whatever stands behind them
abbrev pub Refuses : List Line → List AnyEvent → BuildError → Type 0
Refuses lines old error =
    (done after : List Line) → AreTaken done old → IsNoHistory (done ++ (lines ++ after)) error
