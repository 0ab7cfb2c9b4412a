-- The exit status after a report (this project's profile; README.md has the table).
use Rattle.std.specs.Prelude.{ℕ}
use Rattle.report_text.specs.declared.search.report.Outcome.{Outcome}
use Rattle.report_text.specs.declared.search.report.Outcome.TheVariants.{Yes, No, Unknown}

-- 0 if the history is atomic, 1 if it isn't, and 6 if that isn't known
abbrev pub status_for : Outcome → ℕ
status_for Yes = 0
status_for No = 1
status_for Unknown = 6
