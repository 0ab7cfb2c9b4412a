use Rattle.std.proofs.Common.{MatchResult, List, subst}
use Rattle.history_model.specs.Legal.{IsAtomic}
use Rattle.history_model.specs.declared.operation.Operation.{Operation}
use Rattle.reg_zones.specs.Entries.{IsListing}
use Rattle.reg_zones.specs.Faults.{IsFault}
use Rattle.reg_zones.specs.Order.{IsOrder}
use Rattle.reg_zones.specs.Register.{operations_of}
use Rattle.reg_zones.specs.Sweep.{AreLaterFaults}
use Rattle.reg_zones.proofs.Exists.{decides}
use Rattle.reg_zones.proofs.Known.{facts, operations-at}
use Rattle.reg_zones.proofs.Ordered.{ordered}
use Rattle.reg_zones.proofs.Verdict.{faulty}
use Rattle.reg_zones.proofs.canonical.order_or_fault.Goals as goal

pub returns-in-Err : goal.returns-in-Err
returns-in-Err c =
    let register = c.new-register.result in
    let ops = operations_of register in
    let fault =
    subst (λ w. MatchResult w (λ both. AreLaterFaults ops both.0 × IsListing ops both.1.items)
    (λ f. IsFault ops f)) c.in-Err.is c.in_ok-fault.ensures in
    subst (λ (o : List Operation). (IsAtomic o → ⊥) × IsFault o c.in-Err.fault)
    (operations-at register c.new-register.ensures.arena c.new-register.ensures.id)
    (faulty ops _ (facts register).history fault)

pub returns-in-Err-verdict : goal.returns-in-Err-verdict
returns-in-Err-verdict c =
    let register = c.new-register.result in
    subst (λ (o : List Operation). (IsAtomic o → ⊥) × IsFault o c.in-Err-verdict.fault)
    (operations-at register c.new-register.ensures.arena c.new-register.ensures.id)
    (faulty (operations_of register) _ (facts register).history c.in-Err-verdict.ensures.err)

pub returns-in_ok-ranked-in-Ok-verdict : goal.returns-in_ok-ranked-in-Ok-verdict
returns-in_ok-ranked-in-Ok-verdict c =
    let register = c.new-register.result in
    let ops = operations_of register in
    let answer = c.in_ok-ranked-in-Ok-verdict.field-0.items in
    let both =
    subst (λ w. MatchResult w (λ b. AreLaterFaults ops b.0 × IsListing ops b.1.items) (λ f. IsFault ops f))
    c.in-Ok.is c.in_ok-fault.ensures in
    let ranking = c.in_ok-ranked-in-Ok-verdict.ensures in
    let faultless = c.in-Ok-verdict.ensures.ok in
    subst (λ (o : List Operation). IsAtomic o
    × IsOrder o answer) (operations-at register c.new-register.ensures.arena c.new-register.ensures.id) (
      (decides ops (facts register).history).1 faultless,
      ordered register.arena.now register.id.0 (facts register) c.in-Ok.entries.items ranking.0 both.1
          ranking.1 ranking.2 faultless answer ranking.3,
    )
