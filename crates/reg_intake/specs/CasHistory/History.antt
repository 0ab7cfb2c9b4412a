-- The operations of the events of an accepted history: each register's initial write, and each call that
-- didn't fail, with what its reply says that it did.
use Rattle.std.specs.Prelude.{◌≡◌, ℕ, bytes_eq, Vec}
use Rattle.std.specs.Prelude.{is_some, List, ◌++◌, filter_map, length, map}
use Rattle.std.specs.Prelude.{slice_get, Option, Some, None, option_map}
use Rattle.std.specs.Global.{Global}
use Rattle.std.specs.List.{position_or_len}
use Rattle.history_text.specs.declared.event.OpWord.{OpWord}
use Rattle.history_text.specs.declared.event.Told.{Told}
use Rattle.history_model.specs.History.{first_names}
use Rattle.reg_intake.specs.declared.cas_history.said.Asked.{Asked}
use Rattle.history_text.specs.declared.event.AnyEvent.{AnyEvent}
use Rattle.history_text.specs.declared.event.ReplyParts.{ReplyParts}
use Rattle.history_model.specs.Calls as all
use Rattle.history_model.specs.Calls.{Calls}
use Rattle.history_model.specs.declared.act.Act.{Act}
use Rattle.history_model.specs.declared.act.Act.TheVariants.{Read}
use Rattle.history_model.specs.declared.operation.Operation.{Operation}
use Rattle.history_model.specs.Operations.{initial_writes, of_register}
use Rattle.reg_intake.specs.CasHistory.Events.{Called, called_by, failed_by, replied_by, told_by}
use Rattle.reg_intake.specs.CasHistory.Events.{word_asked}
use Rattle.reg_intake.specs.CasHistory.Told.{pending_act, replied_act}
use Rattle.reg_intake.specs.declared.cas_history.history.History.{History}

-- the registers, in the order of their first calls
abbrev pub register_names : List AnyEvent → List (List ℕ)
register_names events =
    first_names (filter_map (λ e. option_map (λ call. call.register) (called_by e.kind)) events)

-- the number of the register that an event calls; what calls none is never asked for it
abbrev pub number_of : List (List ℕ) → Option Called → ℕ
number_of names None = 0
number_of names (Some call) = position_or_len (bytes_eq call.register) names

-- what a call did that ended so
abbrev pub ended_act : Asked → Option ReplyParts → Told → Act
ended_act asked None told = pending_act asked
ended_act asked (Some reply) told = replied_act asked reply.value reply.ok told

-- what a call did, by the event of its reply, if there is one; what is no call is never asked for it
abbrev pub act_of : Option Called → Option AnyEvent → Act
act_of None reply = Read None
act_of (Some call) None = pending_act call.asked
act_of (Some call) (Some reply) = ended_act call.asked (replied_by reply.kind) (told_by reply.kind)

-- the calls of a program that takes a cas, where registers have these names
abbrev pub any_calls : List (List ℕ) → Calls AnyEvent
any_calls names = record {
  line = λ e. e.line;
  process = λ e. e.process;
  is_call = λ e. is_some (called_by e.kind);
  is_reply = λ e. is_some (replied_by e.kind);
  is_fail = λ e. is_some (failed_by e.kind);
  register = λ e. number_of names (called_by e.kind);
  act = λ e reply. act_of (called_by e.kind) reply;
}

-- the calls of a history that didn't fail, by time
abbrev pub calls : List AnyEvent → List Operation
calls events = all.calls_of (any_calls (register_names events)) events

-- all operations of a history
abbrev pub operations : List AnyEvent → List Operation
operations events = initial_writes (length (register_names events)) ++ calls events

-- the calls of register r
abbrev pub calls_of : List AnyEvent → ℕ → List Operation
calls_of events r = of_register r (calls events)

-- the word of an event's call, if it is one
abbrev pub call_word : AnyEvent → Option OpWord
call_word e = option_map (λ call. word_asked call.asked) (called_by e.kind)

-- a register's operations by call, for each register, and the lines and the words of the events
pub record IsHistoryOf (events : List AnyEvent) (h : History) : Type 0 where
  pub names : h.names.items ≡ register_names events
  pub count : length h.registers.items ≡ length h.names.items
  pub registers : (r : ℕ) (ops : Vec Operation Global) → slice_get h.registers.items r ≡ Some ops
      → ops.items ≡ calls_of events r
  pub operations : h.operations ≡ length (calls events)
  pub lines : h.lines.items ≡ map (λ e. e.line) events
  pub words : h.words.items ≡ map call_word events
