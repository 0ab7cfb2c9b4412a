-- The event is taken in, or there is a reason why not.
use Rattle.std.proofs.Common.{◌∷◌, [], OnOk, subst, sym}
use Rattle.std.specs.Prelude.{IfErr}
use Rattle.history_model.specs.declared.refusal.BuildError.TheVariants.{Refused}
use Rattle.history_model.specs.declared.refusal.Reason.TheVariants.{Faulty}
use Rattle.reg_intake.specs.CasHistory.Refusals.{Line}
use Rattle.reg_intake.specs.CasHistory.Taken.{Refuses, Takes}
use Rattle.reg_intake.proofs.CasHistoryLemmas.Taking.{event-refuses, event-takes, fault-refuses}
use Rattle.reg_intake.proofs.cas_history.lines.take_line.Goals as goal

pub returns-in-Ok-clause-ok : goal.returns-in-Ok-clause-ok
returns-in-Ok-clause-ok c =
    subst (λ (line : Line). OnOk c.take.result (Takes (line ∷ []) c.args.events.now c.take.new.self))
    (sym c.in-Ok.is)
    (event-takes c.args.events.now c.take.new.self c.in-Ok.event c.take.result c.take.ensures.ok
    c.take.ensures.accepted)

pub returns-in-Ok-clause-err : goal.returns-in-Ok-clause-err
returns-in-Ok-clause-err c =
    subst (λ (line : Line). IfErr c.take.result (Refuses (line ∷ []) c.args.events.now)) (sym c.in-Ok.is)
    (event-refuses c.args.events.now c.in-Ok.event c.take.result c.take.ensures.err)

pub returns-in-Err-clause-err : goal.returns-in-Err-clause-err
returns-in-Err-clause-err c =
    subst (λ (line : Line). Refuses (line ∷ []) c.args.events.now (Refused (record {
      line = c.in-Err.fault.line;
      reason = Faulty c.in-Err.fault.kind;
    }))) (sym c.in-Err.is)
    (fault-refuses c.args.events.now c.in-Err.fault)
