-- Refusals of an input, and their numbers (this project's own; docs/format.md has the table).
use Rattle.std.specs.Prelude.{ℕ, Option, Some, None}
use Rattle.history_model.specs.Table.{reason_number, reason_other}
use Rattle.history_model.specs.declared.refusal.BuildError.{BuildError}
use Rattle.history_model.specs.declared.refusal.BuildError.TheVariants.{Refused, Memory}
use Rattle.reg_intake.specs.declared.refusal.Refusal.{Refusal}
use Rattle.reg_intake.specs.declared.refusal.Refusal.TheVariants.{At, TooLong, InputFailed}
use Rattle.reg_intake.specs.declared.refusal.Refusal.TheVariants.{NoRoom, OutputFailed}

-- what a build that failed answers
abbrev pub of_build : BuildError → Refusal
of_build (Refused r) = At r
of_build Memory = NoRoom

abbrev pub number_of : Refusal → ℕ
number_of (At r) = reason_number r.reason
number_of TooLong = 15
number_of InputFailed = 16
number_of NoRoom = 17
number_of OutputFailed = 18

abbrev pub line_of : Refusal → Option ℕ
line_of (At r) = Some r.line
line_of TooLong = None
line_of InputFailed = None
line_of NoRoom = None
line_of OutputFailed = None

abbrev pub other_of : Refusal → Option ℕ
other_of (At r) = reason_other r.reason
other_of TooLong = None
other_of InputFailed = None
other_of NoRoom = None
other_of OutputFailed = None

-- a refusal of the input itself: no failure, and memory didn't run out
abbrev pub IsOfInput : Refusal → Type 0
IsOfInput (At r) = Unit {0}
IsOfInput TooLong = Unit {0}
IsOfInput InputFailed = ⊥
IsOfInput NoRoom = ⊥
IsOfInput OutputFailed = ⊥
