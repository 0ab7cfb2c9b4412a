-- Why nothing is made of an input.
use Rattle.std.specs.Prelude.{◌≡◌, ◌<◌, ◌≤◌, ℕ, List, length, Option}
use Rattle.history_text.specs.declared.limits.TheConstants.{MAX_INPUT}
use Rattle.history_model.specs.declared.refusal.LineRefusal.{LineRefusal}
use Rattle.reg_intake.specs.Ends.{IsAll, IsTooLong, IsWithinLimit}
use Rattle.reg_intake.specs.declared.refusal.Refusal.{Refusal}
use Rattle.reg_intake.specs.declared.refusal.Refusal.TheVariants.{At, TooLong, InputFailed}
use Rattle.reg_intake.specs.declared.refusal.Refusal.TheVariants.{NoRoom, OutputFailed}

-- why nothing is made of all the bytes that a source had left, where this is said of a refused line
abbrev pub IsRefusedBy : (List ℕ → LineRefusal → Type 0) → Option (List ℕ) → ℕ → ℕ → Refusal → Type 0
IsRefusedBy IsLineOf left failed failed_now (At r) =
    (bytes : List ℕ) × IsAll left bytes × (length bytes ≤ MAX_INPUT) × IsLineOf bytes r
    × (failed_now ≡ failed)
IsRefusedBy IsLineOf left failed failed_now TooLong = IsTooLong left × (failed_now ≡ failed)
IsRefusedBy IsLineOf left failed failed_now InputFailed = failed < failed_now
IsRefusedBy IsLineOf left failed failed_now NoRoom = IsWithinLimit left × (failed_now ≡ failed)
IsRefusedBy IsLineOf left failed failed_now OutputFailed = ⊥
