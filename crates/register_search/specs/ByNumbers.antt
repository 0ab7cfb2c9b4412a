-- The operations of a register by numbers: their values go by numbers,
-- and the times of their replies are ranks.
use Rattle.std.specs.Prelude.{◌≡◌, ℕ, ◌<◌, ◌==◌, ℤ, if◌then◌else◌, List, Option, Some, None}
use Rattle.std.specs.List.{AllZip}
use Rattle.history_text.specs.declared.event.Val.{Val}
use Rattle.history_text.specs.declared.event.Val.TheVariants.{Null, Int}
use Rattle.history_model.specs.declared.act.Act.{Act}
use Rattle.history_model.specs.declared.act.Act.TheVariants.{Read, Write, Cas, CasUnless, Miss}
use Rattle.history_model.specs.declared.operation.Operation.{Operation}
use Rattle.history_model.specs.Operations.{reply_of}
use Rattle.configurations.specs.declared.op.Op.{Op}
use Rattle.configurations.specs.declared.op.Kind.{Kind}
use Rattle.configurations.specs.declared.op.Kind.TheVariants as kinds
use Rattle.configurations.specs.declared.op.TheConstants.{NEVER}
use Rattle.register_search.specs.declared.numbered.TheConstants.{NOTHING}
use Rattle.register_search.specs.declared.value_numbers.ValueNumbers.{ValueNumbers}
use Rattle.register_search.specs.ValueNumbers.{number_at}

-- ---- values

-- The number of each value that has one: null has 0, no value has `NOTHING`, and no two have one number.
pub record IsNumbering (number : Val → Option ℕ) : Type 0 where
  pub null : number Null ≡ Some 0
  pub nothing : (v : Val) → number v ≡ Some NOTHING → ⊥
  pub apart : (v w : Val) (n : ℕ) → number v ≡ Some n → number w ≡ Some n → v ≡ w

-- the number of a value, if these are the numbers of integers
abbrev pub number_in : ValueNumbers → Val → Option ℕ
number_in numbers Null = Some 0
number_in numbers (Int n) = number_at numbers n

-- the numbers of integers come after `NOTHING`, no two have one, and the next number is new
pub record AreNumbers (numbers : ValueNumbers) : Type 0 where
  pub above : (n : ℤ) (k : ℕ) → number_at numbers n ≡ Some k → NOTHING < k
  pub below : (n : ℤ) (k : ℕ) → number_at numbers n ≡ Some k → k < numbers.next
  pub next : NOTHING < numbers.next
  pub apart : (m n : ℤ) (k : ℕ) → number_at numbers m ≡ Some k → number_at numbers n ≡ Some k → m ≡ n

-- more numbers
pub record IsMore (old new : ValueNumbers) : Type 0 where
  pub numbers : AreNumbers old → AreNumbers new
  pub kept : (v : Val) (k : ℕ) → number_in old v ≡ Some k → number_in new v ≡ Some k

-- ---- operations

-- What an act does, by numbers. A write has its value twice. A read whose value isn't known meets any value,
-- and so does a cas that misses `NOTHING`; a cas that gives the value that it finds is a read of it.
abbrev pub DoesAs : (Val → Option ℕ) → Act → Op → Type 0
DoesAs number (Read None) o = (o.kind ≡ kinds.Miss) × (o.from ≡ NOTHING)
DoesAs number (Read (Some v)) o = (o.kind ≡ kinds.Read) × (number v ≡ Some o.from)
DoesAs number (Write v) o = (o.kind ≡ kinds.Write) × (o.from ≡ o.to) × (number v ≡ Some o.to)
DoesAs number (Cas v w) o =
    (o.kind ≡ (if o.from == o.to then kinds.Read else kinds.Cas)) × (number v ≡ Some o.from)
    × (number w ≡ Some o.to)
DoesAs number (CasUnless v w) o =
    (o.kind ≡ kinds.CasUnless) × (number v ≡ Some o.from) × (number w ≡ Some o.to)
DoesAs number (Miss v) o = (o.kind ≡ kinds.Miss) × (number v ≡ Some o.from)

-- an operation of one value
pub record IsOfOne (kind : Kind) (number : ℕ) (o : Op) : Type 0 where
  pub kind_is : o.kind ≡ kind
  pub from_is : o.from ≡ number
  pub to_is : o.to ≡ number

-- a cas
pub record IsCas (from to : ℕ) (o : Op) : Type 0 where
  pub kind_is : o.kind ≡ (if from == to then kinds.Read else kinds.Cas)
  pub from_is : o.from ≡ from
  pub to_is : o.to ≡ to

-- a cas that finds any value but one
pub record IsCasUnless (unless to : ℕ) (o : Op) : Type 0 where
  pub kind_is : o.kind ≡ kinds.CasUnless
  pub from_is : o.from ≡ unless
  pub to_is : o.to ≡ to

-- the rank of an operation with this reply
abbrev pub IsRank : Option ℕ → ℕ → Type 0
IsRank None n = n ≡ NEVER
IsRank (Some t) n = (n ≡ t) × (n < NEVER)

pub record IsByNumber (number : Val → Option ℕ) (a : Operation) (o : Op) : Type 0 where
  pub act : DoesAs number a.act o
  pub rank : IsRank (reply_of a) o.rank

-- each operation by numbers, in their order
pub record AreByNumbers (ops : List Operation) (numbered : List Op) : Type 0 where
  pub number : Val → Option ℕ
  pub numbering : IsNumbering number
  pub each : AllZip (IsByNumber number) ops numbered
