-- What an operation asks of the value that it meets, and what it gives: a register with compare-and-swap, cas
-- for short. A sequential specification as Herlihy and Wing give them (Linearizability: A Correctness
-- Condition for Concurrent Objects, 1990, section 2.2); that of cas is this project's own.
use Rattle.std.specs.Prelude.{◌≡◌, not, is_some, unwrap_or, Bool, true, false, Option, Some, None}
use Rattle.history_text.specs.Values.{value_eq}
use Rattle.history_text.specs.declared.event.OpKind.{OpKind}
use Rattle.history_text.specs.declared.event.OpKind.TheVariants.{ReadOp, WriteOp}
use Rattle.history_text.specs.declared.event.Val.{Val}
use Rattle.history_text.specs.declared.event.Val.TheVariants.{Null}
use Rattle.history_model.specs.declared.act.Act.{Act}
use Rattle.history_model.specs.declared.act.Act.TheVariants.{Read, Write, Cas, CasUnless, Miss}

-- Which value suits an operation: a read meets the value that it gives, where that is known; a cas that took
-- place, or a pending one that stands in an order, meets `from`, or any value but `unless`; a cas that missed
-- meets another value than `from`. A write, and a read whose value isn't known, ask nothing.
abbrev pub suits : Act → Val → Bool
suits (Read None) v = true
suits (Read (Some given)) v = value_eq v given
suits (Write written) v = true
suits (Cas from to) v = value_eq v from
suits (CasUnless unless to) v = not (value_eq v unless)
suits (Miss from) v = not (value_eq v from)

abbrev pub Suits : Act → Val → Type 0
Suits a v = suits a v ≡ true

-- whether an operation asks anything of the value
abbrev pub asks : Act → Bool
asks (Read None) = false
asks (Read (Some given)) = true
asks (Write written) = false
asks (Cas from to) = true
asks (CasUnless unless to) = true
asks (Miss from) = true

-- the value that an operation gives the register; a read and a cas that missed give none
abbrev pub given_by : Act → Option Val
given_by (Read given) = None
given_by (Write written) = Some written
given_by (Cas from to) = Some to
given_by (CasUnless unless to) = Some to
given_by (Miss from) = None

-- a write and a cas that took place change the register, also if they give the value that it has
abbrev pub changes : Act → Bool
changes a = is_some (given_by a)

-- the value after an operation that meets v
abbrev pub left_by : Act → Val → Val
left_by a v = unwrap_or (given_by a) v

-- ---- reads and writes alone

abbrev pub is_plain : Act → Bool
is_plain (Read given) = true
is_plain (Write written) = true
is_plain (Cas from to) = false
is_plain (CasUnless unless to) = false
is_plain (Miss from) = false

-- a read with the value that it gives, if any, or a write of a value, which is there
abbrev pub plain_act : OpKind → Option Val → Act
plain_act ReadOp value = Read value
plain_act WriteOp value = Write (unwrap_or value Null)

-- a cas that took place is a write of its new value, and one that missed a read
abbrev pub kind_of_act : Act → OpKind
kind_of_act (Read given) = ReadOp
kind_of_act (Write written) = WriteOp
kind_of_act (Cas from to) = WriteOp
kind_of_act (CasUnless unless to) = WriteOp
kind_of_act (Miss from) = ReadOp

-- the value that is written or read
abbrev pub value_of_act : Act → Option Val
value_of_act (Read given) = given
value_of_act (Write written) = Some written
value_of_act (Cas from to) = Some to
value_of_act (CasUnless unless to) = Some to
value_of_act (Miss from) = None
