-- What is found of one register.
use Rattle.std.specs.Prelude.{List}
use Rattle.history_model.specs.declared.operation.Operation.{Operation}
use Rattle.level_report.specs.Freshness.{IsFreshness}
use Rattle.level_report.specs.Guarantees.{AreGuarantees, IsOrderShown}
use Rattle.level_report.specs.declared.register.Judgement.{Judgement}
use Rattle.level_report.specs.declared.settings.Asked.{Asked}

-- of the register with these operations
pub record IsJudgement (ops : List Operation) (asked : Asked) (j : Judgement) : Type 0 where
  pub freshness : IsFreshness ops asked.stale j.freshness
  pub guarantees : AreGuarantees ops j.guarantees
  pub order : IsOrderShown ops asked.orders j.freshness.atomic j.guarantees j.order
