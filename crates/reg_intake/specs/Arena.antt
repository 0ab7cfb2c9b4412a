-- The arena of all the bytes that a source had left, or why there is none.
use Rattle.std.specs.Prelude.{◌≡◌, ◌≤◌, ℕ, List, length, Option}
use Rattle.history_text.specs.declared.limits.TheConstants.{MAX_INPUT}
use Rattle.history_text.specs.Reading.{history_lines}
use Rattle.history_model.specs.History.{History, history_of}
use Rattle.history_model.specs.Refusals.{IsRefusal, IsWellFormed, events_of}
use Rattle.reg_intake.specs.Refused.{IsRefusedBy}
use Rattle.reg_intake.specs.declared.refusal.Refusal.{Refusal}

-- the arena of an input that is within its limit and well formed
pub record IsArenaOf (input : List ℕ) (arena : History) : Type 0 where
  pub within : length input ≤ MAX_INPUT
  pub well_formed : IsWellFormed (history_lines input)
  pub is : arena ≡ history_of (events_of (history_lines input))

-- why there is no arena of all the bytes that a source had left
abbrev pub IsRefusedOf : Option (List ℕ) → ℕ → ℕ → Refusal → Type 0
IsRefusedOf left failed failed_now refusal =
    IsRefusedBy (λ bytes r. IsRefusal (history_lines bytes) r) left failed failed_now refusal
