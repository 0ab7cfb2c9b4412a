use Rattle.reg_levels.specs.Counts.Listing.{IsListByCall}
use Rattle.reg_levels.specs.Counts.Staleness.{IsLost}
use Rattle.reg_levels.proofs.counts.lost.lost_writes.Given as goal

abbrev pub invariant-loop-place : goal.invariant-loop-place
invariant-loop-place l = IsListByCall (λ p. p) (λ _ w. IsLost l.ops w) (IsLost l.ops) l.ops l.place
    l.writes.items
