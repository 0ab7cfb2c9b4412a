-- What a run of the whole does.
use Rattle.std.specs.Prelude.{ℕ, Bool, List, Err, Option}
use Rattle.std.specs.Io.KnownBytes.{Appends}
use Rattle.history_text.specs.Reading.{history_lines}
use Rattle.history_model.specs.History.{history_of}
use Rattle.history_model.specs.Legal.{IsAtomic}
use Rattle.history_model.specs.Operations.{operations}
use Rattle.history_model.specs.Refusals.{events_of}
use Rattle.reg_intake.specs.Ends.{IsAll}
use Rattle.byte_ends.specs.Ends.{AppendsBeginning}
use Rattle.reg_report.specs.Answer.{IsAnswer, IsAnswerText}
use Rattle.reg_report.specs.declared.outcome.Outcome.{Outcome}
use Rattle.reg_report.specs.declared.outcome.Outcome.TheVariants.{Atomic, NotAtomic}
use Rattle.reg_intake.specs.declared.refusal.Refusal.{Refusal}

-- the answer to all the bytes that were left is a report: its bytes were taken, and it has this outcome
abbrev pub Reports : Bool → Option (List ℕ) → Option (List ℕ) → Option (List ℕ) → Outcome → Type 0
Reports first left old new outcome =
    (input : List ℕ) × IsAll left input × (bytes : List ℕ) × IsAnswerText first input bytes outcome
    × Appends old new bytes

-- the history in these bytes is atomic, or it isn't (Herlihy and Wing, Linearizability: A
-- Correctness Condition for Concurrent Objects, 1990)
abbrev pub IsOutcome : List ℕ → Outcome → Type 0
IsOutcome input Atomic = IsAtomic (operations (history_of (events_of (history_lines input))))
IsOutcome input NotAtomic = IsAtomic (operations (history_of (events_of (history_lines input)))) → ⊥

-- the history in all the bytes that were left is atomic or not, as the outcome says
abbrev pub TellsAtomic : Option (List ℕ) → Outcome → Type 0
TellsAtomic left outcome = (input : List ℕ) × IsAll left input × IsOutcome input outcome

-- the answer to all the bytes that were left is a report, of which a beginning was taken
abbrev pub ReportsBeginning : Bool → Option (List ℕ) → Option (List ℕ) → Option (List ℕ) → Type 0
ReportsBeginning first left old new =
    (input : List ℕ) × IsAll left input × (bytes : List ℕ) × (outcome : Outcome)
    × IsAnswerText first input bytes outcome × AppendsBeginning old new bytes

-- the answer to all the bytes that were left is this refusal
abbrev pub IsRefusedWhole : Bool → Option (List ℕ) → Refusal → Type 0
IsRefusedWhole first left refusal = (input : List ℕ) × IsAll left input × IsAnswer first input (Err refusal)
