-- The exit status after a report (this project's profile; README.md has the table).
use Rattle.std.specs.Prelude.{ℕ}
use Rattle.level_report.specs.declared.outcome.Outcome.{Outcome}
use Rattle.level_report.specs.declared.outcome.Outcome.TheVariants.{Kept, Broken, Unknown}

-- 0 if what was required was kept, 1 if it wasn't, and 6 if that wasn't decided
abbrev pub status_by_level : Outcome → ℕ
status_by_level Kept = 0
status_by_level Broken = 1
status_by_level Unknown = 6
