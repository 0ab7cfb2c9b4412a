-- When two values or two words for operations are the same, as tests. Values are this project's
-- profile: null, and the whole numbers of 64 bits.
use Rattle.std.specs.Prelude.{ℕ, ◌==◌, ◌&&◌, Bool, true, false, Option, Some, None}
use Rattle.std.specs.Ordering.{int_eq}
use Rattle.history_text.specs.declared.event.Val.{Val}
use Rattle.history_text.specs.declared.event.Val.TheVariants.{Null, Int}
use Rattle.history_text.specs.declared.event.OpKind.{OpKind}
use Rattle.history_text.specs.declared.event.OpKind.TheVariants.{ReadOp, WriteOp}
use Rattle.history_text.specs.declared.event.OpWord.{OpWord}
use Rattle.history_text.specs.declared.event.OpWord.TheVariants.{Read, Write, Cas, Delete, Swap}
use Rattle.history_text.specs.declared.event.Told.{Told}

-- the same value: both null, or both the same number
abbrev pub value_eq : Val → Val → Bool
value_eq Null Null = true
value_eq Null (Int n) = false
value_eq (Int m) Null = false
value_eq (Int m) (Int n) = int_eq m n

-- the word for an operation
abbrev pub word_of : OpKind → OpWord
word_of ReadOp = Read
word_of WriteOp = Write

-- a number for each word
abbrev pub word_number : OpWord → ℕ
word_number Read = 0
word_number Write = 1
word_number Cas = 2
word_number Delete = 3
word_number Swap = 4

-- the same word
abbrev pub word_eq : OpWord → OpWord → Bool
word_eq v w = word_number v == word_number w

-- the same where a value may be absent: both absent, or both the same value; absent is not null
abbrev pub same_value : Option Val → Option Val → Bool
same_value None None = true
same_value None (Some w) = false
same_value (Some v) None = false
same_value (Some v) (Some w) = value_eq v w

-- a member that is absent; the outer `None` stands for one of another form
abbrev pub is_absent : {A : Type 0} → Option (Option A) → Bool
is_absent None = false
is_absent (Some None) = true
is_absent (Some (Some x)) = false

-- a reply that has neither `found` nor `old`
abbrev pub tells_nothing : Told → Bool
tells_nothing told = is_absent told.found && is_absent told.old
