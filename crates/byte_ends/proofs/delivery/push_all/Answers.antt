-- Each push takes the next of the bytes.
use Rattle.std.proofs.Common.{ℕ, arith, length-drop, length-take, ◌∙◌}
use Rattle.byte_ends.proofs.Pushing.{Appends-next}
use Rattle.byte_ends.proofs.delivery.push_all.Goals as goal

pub loop-at-preserved : goal.loop-at-preserved
loop-at-preserved g c =
    let before = c.loop-at.invariant in
    let bound = c.in_ok-at.ensures.bound in
    let within = length-drop c.loop-at.at c.args.bytes.now in (
      omega (arith, length-take {A = ℕ}),
      Appends-next _ _ _ c.args.bytes.now c.loop-at.at c.in_ok-at.field-0 before.0 before.1
          c.in_ok-at.ensures.bytes,
      ◌∙◌ {b = g.S.Sink.failed c.loop-at.sink} c.in_ok-at.ensures.failures before.2,
    )
