-- Counts of calls.
use Rattle.std.specs.Prelude.{◌≡◌, ◌+◌, ◌^◌, ◌<◌, ℕ, List, length, slice_get}
use Rattle.std.specs.Prelude.{Some, count_by, not, cond, is_none}
use Rattle.history_model.specs.History.{History}
use Rattle.history_model.specs.Operations.{calls, is_write, writes}
use Rattle.history_model.specs.declared.operation.Operation.{Operation}
use Rattle.history_model.specs.declared.op.Op.{Op}
use Rattle.reg_report.specs.Meaning.{calls_of, is_pending}
use Rattle.reg_report.specs.declared.tally.CallCounts.{CallCounts}
use Rattle.reg_report.specs.declared.tally.Tally.{Tally}

-- the counts of some calls
pub record IsTally (calls : List Operation) (t : Tally) : Type 0 where
  pub write : t.writes ≡ count_by is_write calls
  pub read : t.reads ≡ count_by (λ o. not (is_write o)) calls
  pub open_calls : t.pending ≡ count_by is_pending calls

-- a tally with one call more
abbrev pub counted : Op → Tally → Tally
counted op t = record {
  writes = cond (writes op.kind) (t.writes + 1) t.writes;
  reads = cond (writes op.kind) t.reads (t.reads + 1);
  pending = cond (is_none op.reply) (t.pending + 1) t.pending;
}

abbrev pub no_calls : Tally
no_calls = record { writes = 0; reads = 0; pending = 0 }

-- no count is near the greatest number of a u32
pub record HasRoom (t : Tally) : Type 0 where
  pub writes : t.writes < 2 ^ 31
  pub reads : t.reads < 2 ^ 31
  pub pending : t.pending < 2 ^ 31

-- the counts of all registers, by number
pub record AreTallies (h : History) (ts : List Tally) : Type 0 where
  pub count : length ts ≡ length h.names
  pub each : (r : ℕ) (t : Tally) → slice_get ts r ≡ Some t → IsTally (calls_of h r) t

-- the number of all calls, and the counts of each register
pub record AreCallCounts (h : History) (c : CallCounts) : Type 0 where
  pub operations : c.operations ≡ length (calls h.events)
  pub tallies : AreTallies h c.tallies.items
