-- What a run of the whole does.
use Rattle.std.specs.Prelude.{ℕ, List, Err, Option}
use Rattle.std.specs.Io.KnownBytes.{Appends}
use Rattle.reg_intake.specs.Ends.{IsAll}
use Rattle.byte_ends.specs.Ends.{AppendsBeginning}
use Rattle.reg_intake.specs.declared.refusal.Refusal.{Refusal}
use Rattle.report_text.specs.declared.level.report.Required.{Required}
use Rattle.level_report.specs.Answer.{IsAnswer, IsAnswerText, IsOutcome}
use Rattle.level_report.specs.declared.outcome.Outcome.{Outcome}
use Rattle.level_report.specs.declared.settings.Asked.{Asked}

-- the answer to all the bytes that were left is a report: its bytes were taken, and the outcome says whether
-- the same history kept what is required
abbrev pub Reports : Asked → Required → Option (List ℕ) → Option (List ℕ) → Option (List ℕ) → Outcome
    → Type 0
Reports asked required left old new outcome =
    (input : List ℕ) × IsAll left input × IsOutcome required input outcome × (bytes : List ℕ)
    × IsAnswerText asked input bytes × Appends old new bytes

-- whether the history in all the bytes that were left kept what is required
abbrev pub Tells : Required → Option (List ℕ) → Outcome → Type 0
Tells required left outcome = (input : List ℕ) × IsAll left input × IsOutcome required input outcome

-- the answer to all the bytes that were left is a report, of which a beginning was taken
abbrev pub ReportsBeginning : Asked → Option (List ℕ) → Option (List ℕ) → Option (List ℕ) → Type 0
ReportsBeginning asked left old new =
    (input : List ℕ) × IsAll left input × (bytes : List ℕ) × IsAnswerText asked input bytes
    × AppendsBeginning old new bytes

-- the answer to all the bytes that were left is this refusal
abbrev pub IsRefusedWhole : Asked → Option (List ℕ) → Refusal → Type 0
IsRefusedWhole asked left refusal = (input : List ℕ) × IsAll left input × IsAnswer asked input (Err refusal)
