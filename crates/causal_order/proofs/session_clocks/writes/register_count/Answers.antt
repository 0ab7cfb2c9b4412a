use Rattle.std.proofs.Common.{◌+◌, get_or, inl, inr, sym, ap, ◌∙◌, arith}
use Rattle.std.proofs.Math.Nat.{le-max_left, le-max_right}
use Rattle.history_model.specs.declared.operation.Operation.{Operation}
use Rattle.reg_levels.proofs.ClusterLemmas.Places.{at-below, at-is, nothing}
use Rattle.causal_order.proofs.SessionClockLemmas.Ordered.{split_below}
use Rattle.causal_order.proofs.session_clocks.writes.register_count.Goals as goal

pub loop-op-init : goal.loop-op-init
loop-op-init c = λ p a l. absurd (omega (arith, l))

pub loop-op-preserved : goal.loop-op-preserved
loop-op-preserved c = λ p a l at.
    let ops = c.args.ops.now in
    let i = c.loop-op.op-index in
    let count = c.loop-op.count in
    let mine = (get_or ops i nothing).register + 1 in
    elim (split_below p i (omega (arith, l))) [
      | inl m ↦
          let less = c.loop-op.invariant p a m at in
          omega (arith, less, c.max-count.ensures, le-max_left count mine)
      | inr m ↦
          let is = ap (λ (o : Operation). o.register) (ap (λ n. get_or ops n nothing) (sym m) ∙ at-is ops
          p a at) in
          omega (arith, is, c.max-count.ensures, le-max_right count mine)
    ]

pub returns : goal.returns
returns c = λ p a at.
    c.loop-op.invariant p a (omega (arith, at-below c.args.ops.now p a at, c.loop-op-test.false)) at
