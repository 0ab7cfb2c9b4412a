-- The members of a line's object, each by itself. The JSON is that of RFC 8259 as `serde_json`
-- reads it, of equal names the last; the forms of the members are this project's profile.
-- The outer `None` of a form stands for a member of another form.
use Rattle.std.specs.Prelude.{ℕ, ◌&&◌, ℤ, List, length, codes, Bool, true, false, nat_lt, nat_le}
use Rattle.std.specs.Prelude.{bytes_eq, if◌then◌else◌, Option, Some, None, option_map, option_and_then}
use Rattle.std.specs.Prelude.{unwrap_or}
use Rattle.serde_json.specs.Data.{Data, null, boolean, number, string, array, object}
use Rattle.serde_json.specs.Find.{as_bool, as_number, as_u64, as_i64, as_str}
use Rattle.history_text.specs.Limits.{MAX_NAME, MAX_PROCESS}
use Rattle.history_text.specs.declared.event.Val.{Val}
use Rattle.history_text.specs.declared.event.Val.TheVariants.{Null, Int}
use Rattle.history_text.specs.declared.event.Operations.{Operations}
use Rattle.history_text.specs.declared.event.Operations.TheVariants.{ReadsAndWrites, WithCas}
use Rattle.history_text.specs.declared.event.OpWord.{OpWord}
use Rattle.history_text.specs.declared.event.OpWord.TheVariants.{Read, Write, Cas, Delete, Swap}
use Rattle.history_text.specs.declared.event.Compared.{Compared}
use Rattle.history_text.specs.declared.event.Compared.TheVariants.{From, Unless}
use Rattle.history_text.specs.declared.event.Told.{Told}
use Rattle.history_text.specs.declared.event.EventWord.{EventWord}
use Rattle.history_text.specs.declared.event.EventWord.TheVariants as word

-- what stands under a name of the object, if anything
abbrev pub Member : Type 0
Member = Option Data

-- a process: a whole number within the limit
abbrev pub process_form : Member → Option ℕ
process_form m =
    option_and_then (λ p. if nat_le p MAX_PROCESS then Some p
    else None) (option_and_then as_u64 (option_and_then as_number m))

-- the word for a fail or for a crash
abbrev pub other_word : List ℕ → Option EventWord
other_word s =
    if bytes_eq s (codes "fail") then Some word.Fail
    else (if bytes_eq s (codes "crash") then Some word.Crash else None)

-- an event: the word for a call, for a reply, for a fail or for a crash
abbrev pub event_form : Member → Option EventWord
event_form m =
    option_and_then (λ s. if bytes_eq s (codes "call") then Some word.Call
    else (if bytes_eq s (codes "reply") then Some word.Reply else other_word s))
    (option_and_then as_str m)

-- the word for a cas, for a delete or for a swap
abbrev pub other_op : List ℕ → Option OpWord
other_op s =
    if bytes_eq s (codes "cas") then Some Cas
    else (if bytes_eq s (codes "delete") then Some Delete
    else (if bytes_eq s (codes "swap") then Some Swap else None))

-- the word for an operation
abbrev pub word_form : Member → Option OpWord
word_form m =
    option_and_then (λ s. if bytes_eq s (codes "read") then Some Read
    else (if bytes_eq s (codes "write") then Some Write else other_op s)) (option_and_then as_str m)

-- the operations of this word are taken
abbrev pub takes : Operations → OpWord → Bool
takes taken Read = true
takes taken Write = true
takes ReadsAndWrites Cas = false
takes WithCas Cas = true
takes ReadsAndWrites Delete = false
takes WithCas Delete = true
takes ReadsAndWrites Swap = false
takes WithCas Swap = true

-- the word for an operation that is taken
abbrev pub op_form : Operations → Member → Option OpWord
op_form taken m = option_and_then (λ op. if takes taken op then Some op else None) (word_form m)

-- whether a cas took place: true or false; where none is taken, nothing is looked at
abbrev pub ok_form : Operations → Member → Option Bool
ok_form ReadsAndWrites m = None
ok_form WithCas m = option_and_then as_bool m

-- a register's name: a text of at least one byte and at most the limit
abbrev pub name_form : Member → Option (List ℕ)
name_form m =
    option_and_then (λ s. if nat_lt 0 (length s) && nat_le (length s) MAX_NAME then Some s
    else None) (option_and_then as_str m)

-- a written value: a whole number of 64 bits with a sign
abbrev pub written_form : Member → Option ℤ
written_form m = option_and_then as_i64 (option_and_then as_number m)

-- a value that was read: null, or a whole number of 64 bits with a sign
abbrev pub value_form : Member → Option Val
value_form None = None
value_form (Some null) = Some Null
value_form (Some (boolean b)) = None
value_form (Some (number n)) = option_map Int (as_i64 n)
value_form (Some (string s)) = None
value_form (Some (array ds)) = None
value_form (Some (object ms)) = None

-- no value: absent or null
abbrev pub has_no_value : Member → Bool
has_no_value None = true
has_no_value (Some null) = true
has_no_value (Some (boolean b)) = false
has_no_value (Some (number n)) = false
has_no_value (Some (string s)) = false
has_no_value (Some (array ds)) = false
has_no_value (Some (object ms)) = false

-- a member that may be absent, and else has the form
abbrev pub optional : {A : Type 0} → (Member → Option A) → Member → Option (Option A)
optional form None = Some None
optional form (Some d) = option_map (λ x. Some x) (form (Some d))

-- what a cas asks of the value that its register holds: of `from` and `unless` exactly one is there
abbrev pub compared_form : Member → Member → Option Compared
compared_form None None = None
compared_form None (Some d) = option_map Unless (value_form (Some d))
compared_form (Some d) None = option_map From (value_form (Some d))
compared_form (Some d) (Some e) = None

-- true itself
abbrev pub is_true : Member → Bool
is_true m = unwrap_or (option_and_then as_bool m) false

-- whether there was a value: true or false
abbrev pub found_form : Member → Option Bool
found_form m = option_and_then as_bool m

-- what the members `found` and `old` of a reply tell; where there are reads and writes alone, nothing is
-- looked at
abbrev pub told_form : Operations → Member → Member → Told
told_form ReadsAndWrites found old = record { found = Some None; old = Some None }
told_form WithCas found old = record { found = optional found_form found; old = optional value_form old }
