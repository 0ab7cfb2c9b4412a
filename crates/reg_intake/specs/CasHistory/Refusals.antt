-- Which histories are refused where operations may be a cas, a delete or a swap, and values may repeat: the
-- rules of the table that all programs share (the format's own; docs/format.md has the table of numbers).
use Rattle.std.specs.Prelude.{◌≡◌, List, [], ◌∷◌, not, Option, Some}
use Rattle.history_text.specs.declared.event.AnyEvent.{AnyEvent}
use Rattle.history_model.specs.Table as table
use Rattle.history_model.specs.Table.{Rules}
use Rattle.history_model.specs.declared.refusal.LineRefusal.{LineRefusal}
use Rattle.history_model.specs.declared.refusal.Reason.TheVariants.{NoOk, BadTold}
use Rattle.history_model.specs.declared.refusal.BuildError.{BuildError}
use Rattle.history_model.specs.declared.refusal.BuildError.TheVariants.{Refused, Memory}
use Rattle.reg_intake.specs.CasHistory.Events.{Called, any_form, fail_agrees, is_without_ok, is_without_value}
use Rattle.reg_intake.specs.CasHistory.Events.{reply_agrees, told_by, told_fits}

-- 21 is a cas's reply that doesn't say whether it took place; 22 one whose `old` or `found` has another
-- form, is missing, or contradicts what else the reply says
abbrev pub any_rules : Rules AnyEvent Called
any_rules = record {
  form = any_form;
  reply_agrees = reply_agrees;
  fail_agrees = fail_agrees;
  is_without_value = λ e call reply. is_without_value call.asked reply.value (told_by e.kind);
  faults_of_replies =
      (NoOk, λ e call reply. is_without_ok call.asked reply.ok)
      ∷ (BadTold, λ e call reply. not (told_fits call.asked reply (told_by e.kind))) ∷ [];
  repeats = λ before e. [];
}

-- a line that isn't blank: its event, or its own fault
abbrev pub Line : Type 0
Line = table.Line AnyEvent

-- the refusal of an event after others
abbrev pub event_refusal : List AnyEvent → AnyEvent → Option LineRefusal
event_refusal before e = table.event_refusal any_rules before e

-- the history is refused for the first faulty line
abbrev pub IsRefusal : List Line → LineRefusal → Type 0
IsRefusal lines r = table.IsRefusal any_rules lines r

-- no line is faulty
abbrev pub IsWellFormed : List Line → Type 0
IsWellFormed lines = table.IsWellFormed any_rules lines

-- why an event isn't taken in after others
abbrev pub IsTakeError : List AnyEvent → AnyEvent → BuildError → Type 0
IsTakeError before e (Refused r) = event_refusal before e ≡ Some r
IsTakeError before e Memory = Unit {0}
