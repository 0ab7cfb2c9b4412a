use Rattle.std.proofs.Common.{◌<◌, ◌-◌, Some, None, get_or, ap, subst, sym}
use Rattle.std.proofs.lemmas.Bool.{false≢true}
use Rattle.std.proofs.lemmas.Bool.Decides.{Decides-ltb}
use Rattle.history_model.specs.declared.operation.Operation.{Operation}
use Rattle.history_model.specs.Operations.{IsCompleted, IsWrite}
use Rattle.reg_levels.proofs.ClusterLemmas.Places.{at-In, at-is, nothing}
use Rattle.reg_levels.specs.Counts.Marks.{IsFirstAbove}
use Rattle.reg_levels.proofs.CountLemmas.Losing.{lost-from, lost-to, not-followed}
use Rattle.reg_levels.proofs.counts.lost.is_lost.Goals as goal

pub returns-in-Some : goal.returns-in-Some
returns-in-Some c = λ a t.
    let ops = c.args.ops.now in
    let list = c.args.ranking.now.marks.items in
    let m = c.in-Some.latest in
    let e = at-is ops c.args.place a t in
    let k = subst IsWrite e (sym c.if-not-changes.ensures) in
    let d = subst IsCompleted e c.if-not-op.false in
    let f = subst (λ (x : Operation). IsFirstAbove list x.reply (Some m)) e c.in-Some.ensures in
    let call = ap (λ (x : Operation). x.call) e in
    let test = Decides-ltb (4294967295 - m.rank) (get_or ops c.args.place nothing).call in
    let i = at-In ops c.args.place a t in (
      λ b. lost-from ops list c.requires.ages a i k d m f (subst (λ n. 4294967295 - m.rank < n) call
          (test.0 b)),
      λ l. test.1 (subst (λ n. 4294967295 - m.rank < n) (sym call)
          (lost-to ops list c.requires.ages a i k d m f l)),
    )

pub returns-in-None : goal.returns-in-None
returns-in-None c = λ a t.
    let ops = c.args.ops.now in
    let list = c.args.ranking.now.marks.items in
    let e = at-is ops c.args.place a t in
    let k = subst IsWrite e (sym c.if-not-changes.ensures) in
    let d = subst IsCompleted e c.if-not-op.false in
    let f = subst (λ (x : Operation). IsFirstAbove list x.reply None) e c.in-None.ensures in (
      λ b. absurd (false≢true b),
      λ l. absurd (not-followed ops list c.requires.ages a (at-In ops c.args.place a t) k d f l),
    )
