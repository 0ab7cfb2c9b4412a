-- How many operations of each kind a register has, and the first of each (this project's own words).
use Rattle.std.specs.Prelude.{◌≡◌, ℕ, List, length, slice_get, Option}
use Rattle.history_model.specs.declared.operation.Operation.{Operation}
use Rattle.reg_levels.specs.Counts.Listing.{AreBackReads, AreInvertedReads, AreLostWrites, AreOwnMissedReads}
use Rattle.reg_levels.specs.Counts.Listing.{AreStaleReads}
use Rattle.reg_levels.specs.declared.counts.measure.Staleness.{Staleness}

-- the list of all, which has each once, has this length and begins with this entry
abbrev pub AreCountedBy : {X : Type 0} → (List X → Type 0) → ℕ → Option X → Type 0
AreCountedBy {X} Are count first = (list : List X) × Are list × (count ≡ length list)
    × (first ≡ slice_get list 0)

-- the counts of a register's operations, with the first of each kind by call
pub record IsMeasured (ops : List Operation) (m : Staleness) : Type 0 where
  pub stale_reads : AreCountedBy (AreStaleReads ops) m.counts.stale m.stale
  pub own_reads : AreCountedBy (AreOwnMissedReads ops) m.counts.own m.own
  pub back_reads : AreCountedBy (AreBackReads ops) m.counts.back m.back
  pub inverted_reads : AreCountedBy (AreInvertedReads ops) m.counts.inverted m.inverted
  pub lost_writes : AreCountedBy (AreLostWrites ops) m.counts.lost m.lost
