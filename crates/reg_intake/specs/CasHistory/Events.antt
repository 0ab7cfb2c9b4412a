-- What an event says, and how the end of a call agrees with it (this project's profile).
use Rattle.std.specs.Prelude.{ℕ, ◌&&◌, ◌||◌, List, Bool, true, false, not, cond}
use Rattle.std.specs.Prelude.{is_some, is_none, Option, Some, None}
use Rattle.history_text.specs.declared.event.Val.{Val}
use Rattle.history_text.specs.declared.event.Val.TheVariants.{Null, Int}
use Rattle.history_text.specs.Values.{is_absent, tells_nothing, value_eq}
use Rattle.history_text.specs.declared.event.Compared.{Compared}
use Rattle.history_text.specs.declared.event.Compared.TheVariants.{From, Unless}
use Rattle.history_text.specs.declared.event.OtherCall.{OtherCall}
use Rattle.history_text.specs.declared.event.OtherCall.TheVariants as other
use Rattle.history_text.specs.declared.event.Told.{Told}
use Rattle.history_text.specs.declared.event.Kind.{Kind}
use Rattle.history_text.specs.declared.event.Kind.TheVariants as plain_kind
use Rattle.history_text.specs.declared.event.AnyKind.{AnyKind}
use Rattle.history_text.specs.declared.event.AnyKind.TheVariants.{Plain, CallOther, Telling}
use Rattle.history_text.specs.declared.event.AnyEvent.{AnyEvent}
use Rattle.history_text.specs.declared.event.ReplyParts.{ReplyParts}
use Rattle.history_text.specs.declared.event.OpWord.{OpWord}
use Rattle.history_text.specs.declared.event.OpWord.TheVariants as word
use Rattle.history_model.specs.Events as plain
use Rattle.history_model.specs.Events.{parts_agree}
use Rattle.history_model.specs.Table.{Form}
use Rattle.reg_intake.specs.declared.cas_history.said.Asked.{Asked}
use Rattle.reg_intake.specs.declared.cas_history.said.Asked.TheVariants as asked

-- a call: its register, by name, and what it asks of it
pub record Called : Type 0 where
  pub register : List ℕ
  pub asked : Asked

-- the call of a read or of a write
abbrev pub plain_call : Kind → Option Called
plain_call (plain_kind.CallRead name) = Some (record { register = name; asked = asked.Read })
plain_call (plain_kind.CallWrite name n) = Some (record { register = name; asked = asked.Write n })
plain_call (plain_kind.Reply parts) = None
plain_call (plain_kind.Fail parts) = None
plain_call plain_kind.Crash = None

-- the call of a cas, of a delete or of a swap; a cas of the common form doesn't ask for the old value
abbrev pub other_asked : OtherCall → Asked
other_asked (other.Cas from n) =
    asked.Cas (record { compared = From from; to = Int n; asks_old = false })
other_asked (other.CasOf cas) = asked.Cas cas
other_asked other.Delete = asked.Delete
other_asked (other.Swap n) = asked.Swap n

abbrev pub called_by : AnyKind → Option Called
called_by (Plain kind) = plain_call kind
called_by (CallOther name call) = Some (record { register = name; asked = other_asked call })
called_by (Telling parts told) = None

abbrev pub replied_by : AnyKind → Option ReplyParts
replied_by (Plain kind) = plain.replied_by kind
replied_by (CallOther name call) = None
replied_by (Telling parts told) = Some parts

abbrev pub failed_by : AnyKind → Option ReplyParts
failed_by (Plain kind) = plain.failed_by kind
failed_by (CallOther name call) = None
failed_by (Telling parts told) = None

-- what a reply tells of the value that its operation met
abbrev pub told_nothing : Told
told_nothing = record { found = Some None; old = Some None }

abbrev pub told_by : AnyKind → Told
told_by (Plain kind) = told_nothing
told_by (CallOther name call) = told_nothing
told_by (Telling parts told) = told

abbrev pub is_crash : AnyKind → Bool
is_crash (Plain kind) = plain.is_crash_kind kind
is_crash (CallOther name call) = false
is_crash (Telling parts told) = false

-- how a program that takes a cas reads its events
abbrev pub any_form : Form AnyEvent Called
any_form = record {
  line = λ e. e.line;
  process = λ e. e.process;
  asked_by = λ e. called_by e.kind;
  replied_by = λ e. replied_by e.kind;
  failed_by = λ e. failed_by e.kind;
  is_crash = λ e. is_crash e.kind;
}

-- the word for what a call asks
abbrev pub word_asked : Asked → OpWord
word_asked asked.Read = word.Read
word_asked (asked.Write n) = word.Write
word_asked (asked.Cas cas) = word.Cas
word_asked asked.Delete = word.Delete
word_asked (asked.Swap n) = word.Swap

-- the number that a write or a swap is to write
abbrev pub number_to_write : Asked → Option Val
number_to_write asked.Read = None
number_to_write (asked.Write n) = Some (Int n)
number_to_write (asked.Cas cas) = None
number_to_write asked.Delete = None
number_to_write (asked.Swap n) = Some (Int n)

-- the value of a fail: null or none, or the number that a write or a swap was to write
abbrev pub failed_value_agrees : Asked → Option Val → Bool
failed_value_agrees asked value = plain.failed_value_agrees (number_to_write asked) value

-- the value of a reply: the same, but that a read's reply may give any
abbrev pub value_agrees : Asked → Option Val → Bool
value_agrees asked.Read value = true
value_agrees (asked.Write n) value = failed_value_agrees (asked.Write n) value
value_agrees (asked.Cas cas) value = failed_value_agrees (asked.Cas cas) value
value_agrees asked.Delete value = failed_value_agrees asked.Delete value
value_agrees (asked.Swap n) value = failed_value_agrees (asked.Swap n) value

abbrev pub reply_agrees : Called → ReplyParts → Bool
reply_agrees call reply =
    parts_agree (word_asked call.asked) call.register (value_agrees call.asked reply.value) reply

abbrev pub fail_agrees : Called → ReplyParts → Bool
fail_agrees call fail =
    parts_agree (word_asked call.asked) call.register (failed_value_agrees call.asked fail.value) fail

-- the reply to a read gives no value, and has no `found` either
abbrev pub is_without_value : Asked → Option Val → Told → Bool
is_without_value asked.Read None told = is_absent told.found
is_without_value asked.Read (Some value) told = false
is_without_value (asked.Write n) value told = false
is_without_value (asked.Cas cas) value told = false
is_without_value asked.Delete value told = false
is_without_value (asked.Swap n) value told = false

-- the reply to a cas doesn't say whether it took place
abbrev pub is_without_ok : Asked → Option Bool → Bool
is_without_ok asked.Read ok = false
is_without_ok (asked.Write n) ok = false
is_without_ok (asked.Cas cas) ok = is_none ok
is_without_ok asked.Delete ok = false
is_without_ok (asked.Swap n) ok = false

-- ---- what a reply tells of the value that its operation met

abbrev pub is_there : Val → Bool
is_there Null = false
is_there (Int n) = true

-- `found` and `old` have their forms, where they are there, and if both are, they agree
abbrev pub told_agrees : Option (Option Bool) → Option (Option Val) → Bool
told_agrees None old = false
told_agrees (Some found) None = false
told_agrees (Some None) (Some old) = true
told_agrees (Some (Some found)) (Some None) = true
told_agrees (Some (Some found)) (Some (Some old)) = cond found (is_there old) (not (is_there old))

-- whether a value is as a cas asks
abbrev pub is_as_asked : Compared → Val → Bool
is_as_asked (From from) v = value_eq v from
is_as_asked (Unless unless) v = not (value_eq v unless)

-- the old value has its form, where it is there, and the cas took place exactly if it is as asked
abbrev pub old_agrees : Compared → Option Bool → Option (Option Val) → Bool
old_agrees compared ok None = false
old_agrees compared ok (Some None) = true
old_agrees compared None (Some (Some old)) = true
old_agrees compared (Some ok) (Some (Some old)) =
    cond ok (is_as_asked compared old) (not (is_as_asked compared old))

-- what a reply tells fits its call, as far as it counts: in the reply to a read without a value, `found`; to
-- a delete or a swap, `found` and `old`, of which that to a swap has one; to a cas, `old`, if the call asks
-- for it
abbrev pub told_fits : Asked → ReplyParts → Told → Bool
told_fits asked.Read reply told = is_some reply.value || is_some told.found
told_fits (asked.Write n) reply told = true
told_fits (asked.Cas cas) reply told = not cas.asks_old || old_agrees cas.compared reply.ok told.old
told_fits asked.Delete reply told = told_agrees told.found told.old
told_fits (asked.Swap n) reply told = told_agrees told.found told.old && not (tells_nothing told)
