use Rattle.std.proofs.Common.{length, subst}
use Rattle.std.proofs.lemmas.Result.{IfOk-weaker}
use Rattle.reg_levels.specs.Counts.Marks.{AreFound, HasMark, IsPrecededFound}
use Rattle.reg_levels.specs.Counts.Staleness.{Wrote}
use Rattle.reg_levels.proofs.CountLemmas.Old.{preceded-listed, wrote-having}
use Rattle.reg_levels.proofs.counts.old_reads.stale_reads.Goals as goal

pub returns : goal.returns
returns c =
    let ops = c.args.ops.now in
    let marks = c.in_ok-marks.marks.items in
    IfOk-weaker c.preceded.result _ _ (λ reads h.
    preceded-listed Wrote ops (wrote-having ops c.requires.history) marks c.in_ok-marks.ensures reads.items
    (subst (λ marks. AreFound (IsPrecededFound (HasMark marks) ops) ops (length ops) reads.items)
    c.deref.ensures.value h))
    c.preceded.ensures
