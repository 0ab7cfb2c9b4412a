-- What is found, by whatever thread, is found of the registers in order.
use Rattle.std.proofs.Common.{subst, Vec, Global}
use Rattle.std.proofs.lemmas.Result.{IfOk-weaker}
use Rattle.parallel.proofs.Callers.{all-given}
use Rattle.history_model.specs.declared.operation.Operation.{Operation}
use Rattle.search_report.specs.Registers.{AreFindingsOf, IsFinding}
use Rattle.search_report.proofs.rounds.found_by_workers.Goals as goal

pub returns : goal.returns
returns g c =
    let history = c.args.history.now in
    let lines = c.as_slice-lines in
    let registers = c.as_slice-registers in
    IfOk-weaker c.map_each.result _ _
    (λ v made.
    let given =
    all-given _ _ (λ (ops : Vec Operation Global) finding. IsFinding lines.result.now ops.items finding)
    (λ ops finding is. is)
    registers.result.now v.items made in
    subst (λ xs. AreFindingsOf xs history.registers.items v.items) lines.ensures.value
    (subst (λ rs. AreFindingsOf lines.result.now rs v.items) registers.ensures.value given))
    c.map_each.ensures
