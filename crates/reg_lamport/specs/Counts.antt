-- How many completed reads the registers with a single writer have.
use Rattle.std.specs.Prelude.{◌≡◌, ℕ, ◌+◌, ◌==◌, cond, Bool, true, false, List, length, map, slice_get}
use Rattle.std.specs.Prelude.{Option, Some, None}
use Rattle.history_text.specs.declared.event.OpKind.TheVariants.{ReadOp, WriteOp}
use Rattle.history_model.specs.History.{History}
use Rattle.history_model.specs.Lamport.{HasSingleWriter, completed_reads}
use Rattle.history_model.specs.Operations.{of_register, operations}
use Rattle.history_model.specs.declared.event.Event.{Event}
use Rattle.history_model.specs.declared.event.What.{What}
use Rattle.history_model.specs.declared.event.What.TheVariants.{Call, Reply, Fail, Crash}
use Rattle.reg_lamport.specs.declared.counts.ReadCount.{ReadCount}
use Rattle.reg_lamport.specs.declared.counts.Writer.{Writer}
use Rattle.reg_lamport.specs.declared.counts.Writer.TheVariants.{Nobody, One, Several}

-- the number of the completed reads of register r, where it has a single writer
abbrev pub IsReadCount : History → ℕ → Option ℕ → Type 0
IsReadCount h r None = HasSingleWriter (of_register r (operations h)) → ⊥
IsReadCount h r (Some n) =
    HasSingleWriter (of_register r (operations h))
    × (n ≡ length (completed_reads (of_register r (operations h))))

-- the same of each register, by its number
pub record AreReadCounts (h : History) (counts : List (Option ℕ)) : Type 0 where
  pub registers : length counts ≡ length h.names
  pub each : (r : ℕ) (count : Option ℕ) → slice_get counts r ≡ Some count → IsReadCount h r count

-- ---- what a pass keeps of a register

-- before the first event
abbrev pub nothing_counted : ReadCount
nothing_counted = record { writer = Nobody; reads = 0 }

-- who called the writes, with a write of process p
abbrev pub with_write : Writer → ℕ → Writer
with_write Nobody p = One p
with_write (One known) p = cond (known == p) (One known) Several
with_write Several p = Several

-- the reply to a read
abbrev pub is_reply_to_read : What → Bool
is_reply_to_read (Call kind) = false
is_reply_to_read (Reply ReadOp) = true
is_reply_to_read (Reply WriteOp) = false
is_reply_to_read (Fail kind) = false
is_reply_to_read Crash = false

-- what is kept, with one event more, of which is known whether it begins a write
abbrev pub counted : Bool → Event → ReadCount → ReadCount
counted is_write e c = record {
  writer = cond is_write (with_write c.writer e.process) c.writer;
  reads = cond (is_reply_to_read e.what) (c.reads + 1) c.reads;
}

-- the number of reads, unless several processes write
abbrev pub count_by_writer : Writer → ℕ → Option ℕ
count_by_writer Nobody n = Some n
count_by_writer (One p) n = Some n
count_by_writer Several n = None

abbrev pub count_shown : ReadCount → Option ℕ
count_shown c = count_by_writer c.writer c.reads

-- what is kept of all registers shows the counts of their reads
abbrev pub AreCounted : History → List ReadCount → Type 0
AreCounted h counts = AreReadCounts h (map count_shown counts)
