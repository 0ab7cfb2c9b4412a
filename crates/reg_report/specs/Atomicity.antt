-- What a register's line says of whether it is atomic.
use Rattle.std.specs.Prelude.{List, true, false, Some, None}
use Rattle.history_model.specs.History.{History}
use Rattle.history_model.specs.declared.operation.Operation.{Operation}
use Rattle.reg_report.specs.Meaning.{IsAtomicity, IsInversionAnswer}
use Rattle.reg_report.specs.declared.register.Atomicity.{Atomicity}
use Rattle.reg_report.specs.declared.register.Atomicity.TheVariants.{Yes, No}
use Rattle.report_text.specs.declared.check.report.Verdict.{Verdict}

-- `regular` is what the line says of regular
abbrev pub IsAtomicityShown : History → List Operation → Verdict → Atomicity → Type 0
IsAtomicityShown h ops regular (Yes order points) = IsAtomicity h ops true None (Some order) (Some points)
IsAtomicityShown h ops regular (No fault inversion) =
    IsAtomicity h ops false (Some fault) None None × IsInversionAnswer h ops false regular inversion
