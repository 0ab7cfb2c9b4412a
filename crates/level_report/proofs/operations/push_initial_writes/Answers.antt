use Rattle.std.proofs.Common.{◌≡◌, ◌++◌, ◌-◌, ◌∷◌, ◌∙◌, [], ℕ, suc, ap, arith, sym}
use Rattle.history_model.specs.Operations.{initial_write, initial_writes}
use Rattle.history_model.specs.declared.operation.Operation.{Operation}
use Rattle.level_report.proofs.AllListed.{one-initial-more}
use Rattle.level_report.proofs.Listing.{initial-again}
use Rattle.level_report.proofs.operations.push_initial_writes.Goals as goal

pub loop-number-preserved : goal.loop-number-preserved
loop-number-preserved c =
    let h = c.args.arena.now in
    let low : ℕ = c.loop-number.number - 1 in
    let high : c.loop-number.number ≡ suc low = omega (arith, c.loop-number-test.true) in
    let listed = c.loop-number.ops.items in
    let made : c.operation_of.result ≡ initial_write low =
    c.operation_of.ensures
    ∙ initial-again h (record { 0 = low }) 0 c.op.ensures.0 c.op.result
    (omega (
      arith,
      c.loop-number.auto.number,
      c.register_count-number.ensures.count,
      c.loop-number-test.true,
    )) c.op.ensures.1 c.op.ensures.2 in
    ap (λ xs. xs ++ initial_writes low) (c.in_ok-push.ensures.items
    ∙ ap (λ (a : Operation). listed ++ a ∷ []) made)
    ∙ one-initial-more listed low
    ∙ ap (λ n. listed ++ initial_writes n) (sym high)
    ∙ c.loop-number.invariant
