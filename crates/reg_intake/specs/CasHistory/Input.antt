-- The history of all the bytes that a source had left, or why there is none.
use Rattle.std.specs.Prelude.{◌≤◌, ℕ, List, length, map, slice_range, Option}
use Rattle.history_text.specs.declared.limits.TheConstants.{MAX_INPUT}
use Rattle.history_text.specs.Lines.{numbered_lines}
use Rattle.reg_intake.specs.Refused.{IsRefusedBy}
use Rattle.history_text.specs.Reading.{event_reading}
use Rattle.history_text.specs.declared.event.Operations.TheVariants.{WithCas}
use Rattle.history_text.specs.declared.lines.Span.{Span}
use Rattle.reg_intake.specs.CasHistory.History.{IsHistoryOf}
use Rattle.history_model.specs.Table.{events_of}
use Rattle.reg_intake.specs.CasHistory.Refusals.{Line, IsRefusal, IsWellFormed}
use Rattle.reg_intake.specs.declared.cas_history.history.History.{History}
use Rattle.reg_intake.specs.declared.refusal.Refusal.{Refusal}

-- what an input means: of each line that isn't blank its event or its lowest-numbered fault
abbrev pub history_lines : List ℕ → List Line
history_lines input = map (λ l. event_reading WithCas l.0 l.1) (numbered_lines input)

-- what the line at a span of the input means
abbrev pub meant_at : List ℕ → Span → Line
meant_at input span = event_reading WithCas span.line (slice_range input span.from span.to)

-- the history of an input that is within its limit and well formed
pub record IsHistoryOfInput (input : List ℕ) (history : History) : Type 0 where
  pub within : length input ≤ MAX_INPUT
  pub well_formed : IsWellFormed (history_lines input)
  pub is : IsHistoryOf (events_of (history_lines input)) history

-- why there is no history of all the bytes that a source had left
abbrev pub IsRefusedOf : Option (List ℕ) → ℕ → ℕ → Refusal → Type 0
IsRefusedOf left failed failed_now refusal =
    IsRefusedBy (λ bytes r. IsRefusal (history_lines bytes) r) left failed failed_now refusal
