use Rattle.history_model.specs.Legal.{IsBeforeInSession}
use Rattle.history_model.specs.Operations.{Precedes}
use Rattle.reg_levels.specs.Counts.Listing.{IsNewest, RepliesFirst}
use Rattle.reg_levels.specs.Counts.Staleness.{Gave, Wrote}
use Rattle.reg_levels.proofs.CountLemmas.Zero.{lost-zero, old-zero}
use Rattle.reg_levels.proofs.counts.laws.counts_tell.Goals as goal

pub returns-clause-stale : goal.returns-clause-stale
returns-clause-stale c = λ ops m h. old-zero Precedes Wrote RepliesFirst ops m.counts.stale m.stale
    h.stale_reads

pub returns-clause-own : goal.returns-clause-own
returns-clause-own c = λ ops m h.
    old-zero IsBeforeInSession Wrote IsNewest ops m.counts.own m.own h.own_reads

pub returns-clause-back : goal.returns-clause-back
returns-clause-back c = λ ops m h.
    old-zero IsBeforeInSession Gave IsNewest ops m.counts.back m.back h.back_reads

pub returns-clause-inverted : goal.returns-clause-inverted
returns-clause-inverted c = λ ops m h.
    old-zero Precedes Gave RepliesFirst ops m.counts.inverted m.inverted h.inverted_reads

pub returns-clause-lost : goal.returns-clause-lost
returns-clause-lost c = λ ops m h. lost-zero ops m.counts.lost m.lost h.lost_writes

pub returns-clause-regular : goal.returns-clause-regular
returns-clause-regular c = λ ops m h k.
    let z = old-zero Precedes Wrote RepliesFirst ops m.counts.stale m.stale h.stale_reads in
    (λ e. record { clean = k; fresh = z.0 e }, λ r. z.1 r.fresh)
