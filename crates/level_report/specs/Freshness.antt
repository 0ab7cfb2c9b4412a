-- What a report says of the age of a register's values; `ops` are the register's operations.
use Rattle.std.specs.Global.{Global}
use Rattle.std.specs.Prelude.{◌≡◌, ◌⊎◌, ◌↔◌, ℕ, Bool, true, false, List, Option, Some, None, Vec}
use Rattle.std.specs.Prelude.{IsTrue, is_none, map, option_map}
use Rattle.history_model.specs.declared.operation.Operation.{Operation}
use Rattle.reg_zones.specs.Faults.{IsFirstEarly, IsFirstUnwritten}
use Rattle.reg_levels.specs.Clusters.Clean.{IsClean}
use Rattle.reg_levels.specs.Counts.Listing.{AreStaleReads}
use Rattle.reg_levels.specs.Counts.Measured.{IsMeasured}
use Rattle.reg_levels.specs.declared.counts.measure.Staleness.{Staleness}
use Rattle.reg_levels.specs.declared.counts.old_read.OldRead.{OldRead}
use Rattle.reg_levels.specs.Gap.Gaps.{IsGapOf}
use Rattle.reg_levels.specs.declared.gap.answer.Gap.{Gap}
use Rattle.report_text.specs.declared.level.report.EarlyRead.{EarlyRead}
use Rattle.report_text.specs.declared.level.report.Freshness.{Freshness}
use Rattle.level_report.specs.Lines.{gap_of_lines, line_of, missed_of, stale_pair, went_back_of}

-- all stale reads, each with the write that it missed
abbrev pub AreStalePairs : List Operation → Vec (ℕ × ℕ) Global → Type 0
AreStalePairs ops pairs =
    (reads : List OldRead) × AreStaleReads ops reads × (pairs.items ≡ map (stale_pair ops) reads)

-- they are told of if they are asked for
abbrev pub AreStaleShown : List Operation → Bool → Option (Vec (ℕ × ℕ) Global) → Type 0
AreStaleShown ops false shown = shown ≡ None
AreStaleShown ops true shown =
    (pairs : Vec (ℕ × ℕ) Global) × (shown ≡ Some pairs) × AreStalePairs ops pairs

-- of a clean register: whether it is atomic, by its gap, and regular, by its stale reads; the counts with the
-- first of each; and the gap
pub record IsCleanShown (ops : List Operation) (stale : Bool) (f : Freshness) : Type 0 where
  pub clean : IsClean ops
  pub measured : Staleness
  pub is_measured : IsMeasured ops measured
  pub width : Option Gap
  pub is_gap : IsGapOf ops width
  pub atomic : f.atomic ≡ is_none width
  pub regular : IsTrue f.regular ↔ (measured.counts.stale ≡ 0)
  pub stale_is : f.stale ≡ Some measured.counts.stale
  pub own_is : f.own ≡ Some measured.counts.own
  pub back_is : f.back ≡ Some measured.counts.back
  pub inverted_is : f.inverted ≡ Some measured.counts.inverted
  pub lost_is : f.lost ≡ Some measured.counts.lost
  pub stale_read : f.stale_read ≡ option_map (missed_of ops) measured.stale
  pub own_read : f.own_read ≡ option_map (missed_of ops) measured.own
  pub back_read : f.back_read ≡ option_map (went_back_of ops) measured.back
  pub inverted_read : f.inverted_read ≡ option_map (went_back_of ops) measured.inverted
  pub lost_write : f.lost_write ≡ option_map (line_of ops) measured.lost
  pub gap : f.gap ≡ option_map (gap_of_lines ops) width
  pub stale_reads : AreStaleShown ops stale f.stale_reads
  pub unwritten : f.unwritten ≡ None
  pub early : f.early ≡ None

-- of any other register there are no counts, and it is neither atomic nor regular
abbrev pub without_counts : Option ℕ → Option EarlyRead → Freshness
without_counts read pair = record {
  atomic = false;
  regular = false;
  unwritten = read;
  early = pair;
  stale = None;
  own = None;
  back = None;
  inverted = None;
  lost = None;
  stale_read = None;
  own_read = None;
  back_read = None;
  inverted_read = None;
  lost_write = None;
  gap = None;
  stale_reads = None;
}

-- the first read whose value nobody wrote
abbrev pub IsUnwrittenShown : List Operation → Freshness → Type 0
IsUnwrittenShown ops f =
    (r : Operation) × IsFirstUnwritten ops r × (f ≡ without_counts (Some r.line) None)

-- the first read that ended before the write of its value began
abbrev pub IsEarlyShown : List Operation → Freshness → Type 0
IsEarlyShown ops f =
    (r : Operation) × (w : Operation) × IsFirstEarly ops r w
    × (f ≡ without_counts None (Some (record { read = r.line; write = w.line })))

abbrev pub IsFreshness : List Operation → Bool → Freshness → Type 0
IsFreshness ops stale f = IsCleanShown ops stale f ⊎ (IsUnwrittenShown ops f ⊎ IsEarlyShown ops f)
