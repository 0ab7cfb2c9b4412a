use Rattle.std.proofs.Common.{inl, inr, length}
use Rattle.std.proofs.lemmas.Bool.{cases_lt}
use Rattle.history_model.specs.Operations.{operations}
use Rattle.reg_report.proofs.Locality.{each, nothing_atomic}
use Rattle.reg_report.proofs.laws.registers_decide.Goals as goal

pub returns : goal.returns
returns c h y =
    let both = each (operations h) (c.accepted_is_history.ensures h y) in (
      λ a r l. both.0 a r,
      λ all. both.1 (λ r. elim (cases_lt r (length h.names)) [
        | inl l ↦ all r l
        | inr l ↦ nothing_atomic h r (c.registers_are_numbered.ensures h y) l
      ]),
    )
