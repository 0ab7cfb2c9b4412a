-- What an event says, and which call a reply or a fail ends.
use Rattle.std.specs.Prelude.{ℕ, ◌==◌, ◌&&◌, List, Bool, true, false, bytes_eq}
use Rattle.std.specs.Prelude.{is_some, Option, Some, None}
use Rattle.std.specs.Option.{option_or}
use Rattle.history_text.specs.Values.{value_eq, word_of, word_eq}
use Rattle.history_text.specs.declared.event.Val.{Val}
use Rattle.history_text.specs.declared.event.Val.TheVariants.{Null, Int}
use Rattle.history_text.specs.declared.event.OpKind.{OpKind}
use Rattle.history_text.specs.declared.event.OpWord.{OpWord}
use Rattle.history_text.specs.declared.event.OpKind.TheVariants.{ReadOp, WriteOp}
use Rattle.history_text.specs.declared.event.Kind.{Kind}
use Rattle.history_text.specs.declared.event.Kind.TheVariants.{CallRead, CallWrite, Reply, Fail, Crash}
use Rattle.history_text.specs.declared.event.ReplyParts.{ReplyParts}
use Rattle.history_text.specs.declared.event.LineEvent.{LineEvent}
use Rattle.history_model.specs.Table as table
use Rattle.history_model.specs.Table.{Form}

-- what a call asks for: a register by its name, a read or a write, and the value that a write writes
pub record Asked : Type 0 where
  pub register : List ℕ
  pub kind : OpKind
  pub value : Option Val

abbrev pub asked_by : Kind → Option Asked
asked_by (CallRead name) = Some (record { register = name; kind = ReadOp; value = None })
asked_by (CallWrite name n) = Some (record { register = name; kind = WriteOp; value = Some (Int n) })
asked_by (Reply parts) = None
asked_by (Fail parts) = None
asked_by Crash = None

abbrev pub replied_by : Kind → Option ReplyParts
replied_by (CallRead name) = None
replied_by (CallWrite name n) = None
replied_by (Reply parts) = Some parts
replied_by (Fail parts) = None
replied_by Crash = None

abbrev pub failed_by : Kind → Option ReplyParts
failed_by (CallRead name) = None
failed_by (CallWrite name n) = None
failed_by (Reply parts) = None
failed_by (Fail parts) = Some parts
failed_by Crash = None

-- what a reply or a fail says of the call that it ends
abbrev pub ended_by : Kind → Option ReplyParts
ended_by kind = option_or (replied_by kind) (failed_by kind)

abbrev pub is_crash_kind : Kind → Bool
is_crash_kind (CallRead name) = false
is_crash_kind (CallWrite name n) = false
is_crash_kind (Reply parts) = false
is_crash_kind (Fail parts) = false
is_crash_kind Crash = true

abbrev pub is_call : LineEvent → Bool
is_call e = is_some (asked_by e.kind)

abbrev pub is_crash : LineEvent → Bool
is_crash e = is_crash_kind e.kind

abbrev pub is_of_process : ℕ → LineEvent → Bool
is_of_process p e = e.process == p

-- how a program of reads and writes reads its events
abbrev pub plain_form : Form LineEvent Asked
plain_form = record {
  line = λ e. e.line;
  process = λ e. e.process;
  asked_by = λ e. asked_by e.kind;
  replied_by = λ e. replied_by e.kind;
  failed_by = λ e. failed_by e.kind;
  is_crash = is_crash;
}

-- the last event of process p after some events
abbrev pub last_event : List LineEvent → ℕ → Option LineEvent
last_event before p = table.last_event plain_form before p

-- the call that process p has open after some events: the last event of p, if that is a call
abbrev pub open_call : List LineEvent → ℕ → Option LineEvent
open_call before p = table.open_call plain_form (last_event before p)

-- what the open call asks for
abbrev pub open_asked : List LineEvent → ℕ → Option Asked
open_asked before p = table.open_asked plain_form (last_event before p)

-- the crash of process p before: the last event of p, if that is a crash
abbrev pub crashed_at : List LineEvent → ℕ → Option LineEvent
crashed_at before p = table.crashed plain_form (last_event before p)

-- absent, or equal
abbrev pub agrees : {A : Type 0} → (A → A → Bool) → Option A → A → Bool
agrees eq None a = true
agrees eq (Some b) a = eq b a

-- a write's reply gives no value, null or the written one; a read's reply may give any
abbrev pub value_agrees : Option Val → Option Val → Bool
value_agrees None given = true
value_agrees (Some written) None = true
value_agrees (Some written) (Some Null) = true
value_agrees (Some written) (Some (Int n)) = value_eq (Int n) written

-- a fail's value is as a reply's to a write; a failed read gives no value, or null
abbrev pub failed_value_agrees : Option Val → Option Val → Bool
failed_value_agrees (Some written) given = value_agrees (Some written) given
failed_value_agrees None None = true
failed_value_agrees None (Some Null) = true
failed_value_agrees None (Some (Int n)) = false

-- what a reply or a fail says is as in the call, the register's name by its text, and so is the value
abbrev pub parts_agree : OpWord → List ℕ → Bool → ReplyParts → Bool
parts_agree word register value_is parts =
    agrees word_eq parts.op word && agrees bytes_eq parts.register register && value_is

abbrev pub reply_agrees : Asked → ReplyParts → Bool
reply_agrees call reply =
    parts_agree (word_of call.kind) call.register (value_agrees call.value reply.value) reply

abbrev pub fail_agrees : Asked → ReplyParts → Bool
fail_agrees call fail =
    parts_agree (word_of call.kind) call.register (failed_value_agrees call.value fail.value) fail
