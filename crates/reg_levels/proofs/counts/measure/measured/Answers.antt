use Rattle.std.proofs.Common.{length, arith}
use Rattle.history_model.specs.Legal.{IsBeforeInSession}
use Rattle.history_model.specs.Operations.{Precedes}
use Rattle.reg_levels.specs.Counts.Listing.{IsNewest, RepliesFirst}
use Rattle.reg_levels.specs.Counts.Staleness.{Gave, IsLost, Wrote}
use Rattle.reg_levels.proofs.CountLemmas.Found.{listing-few, old-few}
use Rattle.reg_levels.proofs.counts.measure.measured.Goals as goal

pub counted-stale-requires : goal.counted-stale-requires
counted-stale-requires c =
    old-few Precedes Wrote RepliesFirst c.args.ops.now c.in_ok-stale_reads.field-0.items c.deref.result.now
    c.requires.few c.in_ok-stale_reads.ensures c.deref.ensures.value

pub counted-own-requires : goal.counted-own-requires
counted-own-requires c =
    old-few IsBeforeInSession Wrote IsNewest c.args.ops.now c.in_ok-own_missed_reads.field-0.items
    c.deref-2.result.now c.requires.few c.in_ok-own_missed_reads.ensures c.deref-2.ensures.value

pub counted-back-requires : goal.counted-back-requires
counted-back-requires c =
    old-few IsBeforeInSession Gave IsNewest c.args.ops.now c.in_ok-back_reads.field-0.items
    c.deref-3.result.now c.requires.few c.in_ok-back_reads.ensures c.deref-3.ensures.value

pub counted-inverted-requires : goal.counted-inverted-requires
counted-inverted-requires c =
    old-few Precedes Gave RepliesFirst c.args.ops.now c.in_ok-inverted_reads.field-0.items
    c.deref-4.result.now c.requires.few c.in_ok-inverted_reads.ensures c.deref-4.ensures.value

pub overflow_cast-result : goal.overflow_cast-result
overflow_cast-result c =
    let ops = c.args.ops.now in
    let le =
    listing-few (λ p. p) (λ _ w. IsLost ops w) (IsLost ops) ops (length ops) c.in_ok-lost.lost.items
    c.in_ok-lost.ensures in
    omega (arith, c.len.ensures, c.requires.few)
