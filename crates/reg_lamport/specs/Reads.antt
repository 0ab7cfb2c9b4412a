-- The completed reads of a register, with what a list keeps of each.
use Rattle.std.specs.Prelude.{◌≡◌, ◌↔◌, ℕ, IsTrue, List}
use Rattle.std.specs.List.{AllZip}
use Rattle.history_model.specs.Lists.{In}
use Rattle.history_model.specs.History.{History, IsRecorded}
use Rattle.history_model.specs.Operations.{IsCompletedRead, operations, of_register}
use Rattle.history_model.specs.declared.operation.Operation.{Operation}
use Rattle.history_model.specs.Lamport.{HasSingleWriter, IsOldWrite, IsOverlappedWrite, completed_reads}
use Rattle.history_model.specs.Naming.{IsNamed, op_shown}
use Rattle.history_model.specs.declared.ids.Oper.{Oper}
use Rattle.history_model.specs.declared.ids.Oper.TheVariants.{Called}
use Rattle.history_model.specs.declared.op.Op.{Op}
use Rattle.reg_lamport.specs.declared.gathering.ReadEntry.{ReadEntry}

-- a register's number, and an entry for each of its completed reads
pub record ListedReads : Type 0 where
  pub register : ℕ
  pub entries : List ReadEntry

-- The entry is of the completed read r; and where the register has a single writer, it has r's old write,
-- and tells whether some write overlaps r.
pub record IsEntryOf (h : History) (register : ℕ) (e : ReadEntry) (r : Operation) : Type 0 where
  pub read : IsNamed h (Called e.read) r
  pub reply : e.reply ≡ r.reply
  pub old_write : HasSingleWriter (of_register register (operations h))
      → (w : Operation) × IsNamed h e.old_write w × IsOldWrite (of_register register (operations h)) r w
  pub overlapped : HasSingleWriter (of_register register (operations h))
      → IsTrue e.is_overlapped
      ↔ ((w : Operation) × IsOverlappedWrite (of_register register (operations h)) r w)

-- the list has an entry for each completed read of its register, in their order
pub record IsReadList (h : History) (list : ListedReads) : Type 0 where
  pub recorded : IsRecorded h
  pub entries : AllZip (IsEntryOf h list.register) list.entries
      (completed_reads (of_register list.register (operations h)))

-- the entry is one of such a list, of a register with a single writer
pub record IsListed (h : History) (register : ℕ) (e : ReadEntry) : Type 0 where
  pub recorded : IsRecorded h
  pub single : HasSingleWriter (of_register register (operations h))
  pub operation : Operation
  pub within : In operation (of_register register (operations h))
  pub read : IsCompletedRead operation
  pub entry : IsEntryOf h register e operation

-- the operation of this name is a completed read of the register, as `op` gives it
pub record IsReadShown (h : History) (register : ℕ) (name : Oper) (op : Op) : Type 0 where
  pub recorded : IsRecorded h
  pub operation : Operation
  pub within : In operation (of_register register (operations h))
  pub read : IsCompletedRead operation
  pub named : IsNamed h name operation
  pub is : op ≡ op_shown operation
