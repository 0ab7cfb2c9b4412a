use Rattle.std.proofs.Common.{◌<◌, ◌≤◌, refl, sym, subst, arith}
use Rattle.history_model.specs.Operations.{value_of}
use Rattle.history_model.specs.declared.operation.Operation.{Operation}
use Rattle.reg_zones.specs.Clusters.{first_reply}
use Rattle.reg_levels.proofs.ClusterLemmas.Places.{at-is}
use Rattle.reg_levels.specs.Counts.Marks.{HoldsMark, IsPrecededFound}
use Rattle.reg_levels.proofs.CountLemmas.Marking.{ends-first, ends-reply}
use Rattle.reg_levels.proofs.counts.old_reads.preceded_at.Goals as goal

pub returns-in_err-mark : goal.returns-in_err-mark
returns-in_err-mark c = λ a t.
    let ops = c.args.ops.now in
    let Has = HoldsMark c.args.ranking.now.marks.items in
    let h = c.in_ok-ends.ensures a t in
    let reply = ends-reply ops a c.in_ok-ends.ends h in
    subst (IsPrecededFound Has ops c.args.place a) (sym c.from_residual-in_err-mark.ensures)
    (λ n k. let o = k.older in let le = c.in_err-mark.ensures n k.marked in omega arith)

pub returns-then-mark-ops : goal.returns-then-mark-ops
returns-then-mark-ops c = λ a t.
    let ops = c.args.ops.now in
    let ends = c.in_ok-ends.ends in
    let mark = c.in_ok-mark.mark in
    let h = c.in_ok-ends.ensures a t in
    let f = c.in_ok-mark.ensures in
    let reply = ends-reply ops a ends h in
    let older : first_reply ops (value_of a) < mark.key = omega (arith, f.1) in
    let before = subst (λ (x : Operation). mark.rank < x.call) (at-is ops c.args.place a t)
    c.if-mark-ops.true in (
      mark,
      record { read = h.0; marked = f.0; older = older; before = before },
      record { read = refl; earlier = refl; newer = refl; seen = ends-first ops a ends h },
      λ n k. let o = k.older in f.2 n k.marked (omega arith),
    )

pub returns-else-mark-ops : goal.returns-else-mark-ops
returns-else-mark-ops c = λ a t n k.
    let ops = c.args.ops.now in
    let mark = c.in_ok-mark.mark in
    let h = c.in_ok-ends.ensures a t in
    let f = c.in_ok-mark.ensures in
    let reply = ends-reply ops a c.in_ok-ends.ends h in
    let late = subst (λ (x : Operation). x.call ≤ mark.rank) (at-is ops c.args.place a t)
    c.if-mark-ops.false in
    let o = k.older in
    let b = k.before in
    let least = f.2 n k.marked (omega arith) in omega arith
