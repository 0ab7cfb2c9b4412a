-- Worked rows: which sequences a register with cas allows, by computation.
use Rattle.std.proofs.Common.{ℕ, [], ◌∷◌, Some, None, pos, refl, true}
use Rattle.std.proofs.lemmas.Bool.{false≢true}
use Rattle.history_text.specs.declared.event.Val.{Val}
use Rattle.history_text.specs.declared.event.Val.TheVariants.{Null, Int}
use Rattle.history_model.specs.declared.act.Act.{Act}
use Rattle.history_model.specs.declared.act.Act.TheVariants.{Read, Write, Cas, CasUnless, Miss}
use Rattle.history_model.specs.declared.operation.Operation.{Operation}
use Rattle.history_model.specs.InTurn.{Meets}

abbrev number : ℕ → Val
number n = Int (pos n)

abbrev did : Act → Operation
did act = record {
  line = 1;
  call = 2;
  reply = 3;
  completed = true;
  process = Some 1;
  register = 0;
  act = act;
}

abbrev read : Val → Operation
read v = did (Read (Some v))

abbrev write : ℕ → Operation
write n = did (Write (number n))

abbrev swap : Val → ℕ → Operation
swap from to = did (Cas from (number to))

abbrev replace : Val → Val → Operation
replace unless to = did (CasUnless unless to)

abbrev delete : Val → Operation
delete from = did (Cas from Null)

abbrev missed : Val → Operation
missed from = did (Miss from)

-- the first cas finds null, and a read gets what it gave
pub from_null : Meets Null (swap Null 1 ∷ read (number 1) ∷ [])
from_null = (refl, (refl, tt))

-- a cas that gives the value that it found changes nothing for a read
pub to_itself : Meets Null (write 1 ∷ swap (number 1) 1 ∷ read (number 1) ∷ [])
to_itself = (refl, (refl, (refl, tt)))

-- of two cas from 1 to other values only one finds 1
pub both_from_one : Meets Null (write 1 ∷ swap (number 1) 2 ∷ swap (number 1) 3 ∷ []) → ⊥
both_from_one m = false≢true m.1.1.0

-- a cas misses if it finds another value, and leaves it
pub missed_other : Meets Null (write 1 ∷ missed (number 3) ∷ read (number 1) ∷ [])
missed_other = (refl, (refl, (refl, tt)))

pub missed_its_own : Meets Null (write 1 ∷ missed (number 1) ∷ []) → ⊥
missed_its_own m = false≢true m.1.0

-- a cas to null leaves no value, so a second one finds none
pub deleted : Meets Null (write 1 ∷ delete (number 1) ∷ read Null ∷ [])
deleted = (refl, (refl, (refl, tt)))

pub deleted_twice : Meets Null (write 1 ∷ delete (number 1) ∷ delete (number 1) ∷ []) → ⊥
deleted_twice m = false≢true m.1.1.0

-- a cas unless null changes a value that is there, and none that isn't
pub replaced : Meets Null (write 1 ∷ replace Null (number 5) ∷ read (number 5) ∷ [])
replaced = (refl, (refl, (refl, tt)))

pub nothing_to_replace : Meets Null (replace Null (number 5) ∷ []) → ⊥
nothing_to_replace m = false≢true m.0

-- and it takes no null back that a delete left
pub revived : Meets Null (write 1 ∷ replace Null Null ∷ replace Null (number 5) ∷ []) → ⊥
revived m = false≢true m.1.1.0

-- the same value again, with another between: a read of the one between comes too late
pub too_late : Meets Null (write 1 ∷ write 2 ∷ write 1 ∷ read (number 2) ∷ []) → ⊥
too_late m = false≢true m.1.1.1.0

-- a pending read may stand anywhere
pub pending_read : Meets Null (did (Read None) ∷ write 1 ∷ did (Read None) ∷ [])
pending_read = (refl, (refl, (refl, tt)))
