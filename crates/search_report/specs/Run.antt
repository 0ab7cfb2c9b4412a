-- What a run of the whole does.
use Rattle.std.specs.Prelude.{ℕ, List, Err, Option}
use Rattle.std.specs.Io.KnownBytes.{Appends}
use Rattle.history_model.specs.Table.{events_of}
use Rattle.reg_intake.specs.Ends.{IsAll}
use Rattle.reg_intake.specs.CasHistory.Input.{history_lines}
use Rattle.reg_intake.specs.declared.refusal.Refusal.{Refusal}
use Rattle.search_report.specs.Answer.{IsAnswer, IsAnswerText}
use Rattle.byte_ends.specs.Ends.{AppendsBeginning}
use Rattle.search_report.specs.Meaning.{IsWholeOutcome}
use Rattle.report_text.specs.declared.search.report.Outcome.{Outcome}

-- the answer to all the bytes that were left is a report: its bytes were
-- taken, and it says this of the whole history
abbrev pub Reports : Option (List ℕ) → Option (List ℕ) → Option (List ℕ) → Outcome → Type 0
Reports left old new outcome =
    (input : List ℕ) × IsAll left input × (bytes : List ℕ) × IsAnswerText input bytes outcome
    × Appends old new bytes

-- the history in all the bytes that were left is atomic if the outcome is yes, and isn't if it is no (Herlihy
-- and Wing, Linearizability: A Correctness Condition for Concurrent Objects, 1990)
abbrev pub TellsAtomic : Option (List ℕ) → Outcome → Type 0
TellsAtomic left outcome =
    (input : List ℕ) × IsAll left input × IsWholeOutcome (events_of (history_lines input)) outcome

-- the answer to all the bytes that were left is a report, of which a beginning was taken
abbrev pub ReportsBeginning : Option (List ℕ) → Option (List ℕ) → Option (List ℕ) → Type 0
ReportsBeginning left old new =
    (input : List ℕ) × IsAll left input × (bytes : List ℕ) × (outcome : Outcome)
    × IsAnswerText input bytes outcome × AppendsBeginning old new bytes

-- the answer to all the bytes that were left is this refusal
abbrev pub IsRefusedWhole : Option (List ℕ) → Refusal → Type 0
IsRefusedWhole left refusal = (input : List ℕ) × IsAll left input × IsAnswer input (Err refusal)
