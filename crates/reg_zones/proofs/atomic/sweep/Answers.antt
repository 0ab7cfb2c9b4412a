use Rattle.std.proofs.Common.{◌↔◌, IsOk, List, subst}
use Rattle.history_model.specs.Legal.{IsAtomic}
use Rattle.history_model.specs.declared.operation.Operation.{Operation}
use Rattle.reg_zones.proofs.Known.{facts, operations-at}
use Rattle.reg_zones.proofs.Verdict.{refused, verdict}
use Rattle.reg_zones.proofs.atomic.sweep.Goals as goal

pub returns-in_err-found-clause-atomic : goal.returns-in_err-found-clause-atomic
returns-in_err-found-clause-atomic c =
    let register = c.new-register.result in
    let f = c.in_err-found.ensures in
    subst (λ (ops : List Operation). IsOk c.from_residual.result
    ↔ IsAtomic ops) (operations-at register c.new-register.ensures.arena c.new-register.ensures.id)
    (refused _ _ c.from_residual.result (facts register).history c.from_residual.ensures.0 f.err)

pub returns-clause-atomic : goal.returns-clause-atomic
returns-clause-atomic c =
    let register = c.new-register.result in
    subst (λ (ops : List Operation). IsOk c.verdict.result
    ↔ IsAtomic ops) (operations-at register c.new-register.ensures.arena c.new-register.ensures.id)
    (verdict _ c.verdict.result (facts register).history c.verdict.ensures.ok c.verdict.ensures.err)
