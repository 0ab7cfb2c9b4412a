-- The exit statuses (this project's profile; README.md has the table).
use Rattle.std.specs.Prelude.{ℕ, nat_le, ◌&&◌, if◌then◌else◌}
use Rattle.command_words.specs.declared.ending.Ended.{Ended}
use Rattle.command_words.specs.declared.ending.Ended.TheVariants.{Yes, No, Unknown}
use Rattle.command_words.specs.declared.ending.Ended.TheVariants.{Refused, BadWords}

abbrev pub status_of : Ended → ℕ
status_of Yes = 0
status_of No = 1
status_of Unknown = 6
status_of (Refused number) = if nat_le 16 number && nat_le number 18 then 4 else 2
status_of BadWords = 3

-- the run ended without a report
abbrev pub HasNoReport : Ended → Type 0
HasNoReport Yes = ⊥
HasNoReport No = ⊥
HasNoReport Unknown = ⊥
HasNoReport (Refused number) = Unit {0}
HasNoReport BadWords = Unit {0}
