use Rattle.std.proofs.Common.{length, subst}
use Rattle.std.proofs.lemmas.Result.{IfOk-weaker}
use Rattle.reg_levels.specs.Counts.Marks.{AreFound, IsFollowedFound}
use Rattle.reg_levels.specs.Counts.Staleness.{Wrote}
use Rattle.reg_levels.proofs.CountLemmas.Old.{followed-listed, wrote-having}
use Rattle.reg_levels.proofs.counts.old_reads.own_missed_reads.Goals as goal

pub returns : goal.returns
returns c =
    let ops = c.args.ops.now in
    let marks = c.in_ok-marks.marks.items in
    IfOk-weaker c.followed.result _ _ (λ reads h.
    followed-listed Wrote ops (wrote-having ops c.requires.history) marks c.in_ok-marks.ensures
    c.requires.history c.requires.by_call reads.items
    (subst (λ marks. AreFound (IsFollowedFound ops marks) ops (length ops) reads.items)
    c.deref.ensures.value h))
    c.followed.ensures
