use Rattle.std.proofs.Common.{length, arith}
use Rattle.std.proofs.lemmas.Grind.{common_steps}
use Rattle.job_board.proofs.tests.ended.Goals as goal

pub loop-handle-preserved : goal.loop-handle-preserved
loop-handle-preserved g c =
    let handles = c.loop-handle.invariant.0 in
    let back = c.loop-handle.invariant.1 in
    let kept = c.in_ok-join.ensures in
    let was = c.in-Some.ensures.items in
    let now = c.push.ensures.items in
    let mine = handles (length c.pop.new.self.items) c.in-Some.handle in (
      (λ k d lt. grind (arith, common_steps, handles k d)),
      (λ k d lt. grind (arith, common_steps, back k d, mine)),
    )
