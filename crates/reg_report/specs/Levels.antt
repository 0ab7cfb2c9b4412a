-- What is said of the two levels of a register's operations.
use Rattle.std.specs.Prelude.{List}
use Rattle.history_model.specs.declared.operation.Operation.{Operation}
use Rattle.reg_lamport.specs.declared.level.Level.{Level}
use Rattle.reg_lamport.specs.declared.level.Level.TheVariants.{Safe, Regular}
use Rattle.reg_report.specs.Meaning.{IsVerdict}
use Rattle.reg_report.specs.declared.levels.LevelFinding.{LevelFinding}
use Rattle.reg_report.specs.declared.levels.Levels.{Levels}

abbrev pub IsLevelFinding : Level → List Operation → LevelFinding → Type 0
IsLevelFinding level ops a = IsVerdict level ops a.verdict a.read

pub record AreLevels (ops : List Operation) (answers : Levels) : Type 0 where
  pub at_safe : IsLevelFinding Safe ops answers.safe
  pub at_regular : IsLevelFinding Regular ops answers.regular
