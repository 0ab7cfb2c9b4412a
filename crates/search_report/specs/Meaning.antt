-- What a report of a history with cas says.
use Rattle.std.specs.Global.{Global}
use Rattle.std.specs.List.{filter, list_any}
use Rattle.std.specs.Prelude.{◌≡◌, ◌-◌, ◌&&◌, ◌||◌, nat_lt, nat_le, ℕ, Vec, Option}
use Rattle.std.specs.Prelude.{if◌then◌else◌, List, ◌∷◌, length, map, get_or, count_by}
use Rattle.std.specs.Prelude.{slice_get, not, Bool, true, false, Some, None, IfSome}
use Rattle.history_model.specs.Lists.{In}
use Rattle.history_text.specs.declared.event.AnyEvent.{AnyEvent}
use Rattle.history_text.specs.declared.event.OpWord.{OpWord}
use Rattle.history_text.specs.declared.event.OpWord.TheVariants as word
use Rattle.history_model.specs.declared.operation.Operation.{Operation}
use Rattle.history_model.specs.Cut.{cut_at}
use Rattle.history_model.specs.Legal.{IsLegal, IsAtomic}
use Rattle.history_model.specs.Operations.{initial_write, reply_of}
use Rattle.history_model.specs.Placed.{IsWithinLife, PlacedOperation, placed}
use Rattle.reg_intake.specs.CasHistory.History.{call_word, register_names, calls, calls_of, operations}
use Rattle.register_search.specs.Unwritten.{IsFirstUnwritten}
use Rattle.report_text.specs.declared.search.report.Outcome.{Outcome}
use Rattle.report_text.specs.declared.search.report.Outcome.TheVariants as outcome
use Rattle.report_text.specs.declared.search.report.Atomicity.{Atomicity}
use Rattle.report_text.specs.declared.search.report.Atomicity.TheVariants.{Yes, No, Unknown}
use Rattle.report_text.specs.declared.search.report.ReachedBound.{ReachedBound}
use Rattle.report_text.specs.declared.search.report.ReachedBound.TheVariants.{Configurations, Steps}
use Rattle.configurations.specs.declared.bounds.Bound.{Bound}
use Rattle.configurations.specs.declared.bounds.Bound.TheVariants as bound
use Rattle.report_text.specs.declared.search.report.Fault.{Fault}
use Rattle.report_text.specs.declared.search.report.Fault.TheVariants.{Unwritten, Search}
use Rattle.report_text.specs.declared.search.report.RegisterReport.{RegisterReport}
use Rattle.report_text.specs.declared.search.report.Report.{Report}

-- ---- counts

abbrev pub is_read_word : Option OpWord → Bool
is_read_word None = false
is_read_word (Some word.Read) = true
is_read_word (Some word.Write) = false
is_read_word (Some word.Cas) = false
is_read_word (Some word.Delete) = false
is_read_word (Some word.Swap) = false

-- deletes and swaps count as writes
abbrev pub is_write_word : Option OpWord → Bool
is_write_word None = false
is_write_word (Some word.Read) = false
is_write_word (Some word.Write) = true
is_write_word (Some word.Cas) = false
is_write_word (Some word.Delete) = true
is_write_word (Some word.Swap) = true

-- a cas, whether it took place, missed or is pending
abbrev pub is_cas_word : Option OpWord → Bool
is_cas_word None = false
is_cas_word (Some word.Read) = false
is_cas_word (Some word.Write) = false
is_cas_word (Some word.Cas) = true
is_cas_word (Some word.Delete) = false
is_cas_word (Some word.Swap) = false

-- the word of the call at a time, where events have these words; the event at place i has time i + 2
abbrev pub word_at : List (Option OpWord) → ℕ → Option OpWord
word_at words t = get_or words (t - 2) None

-- an operation counts by the word of its call
abbrev pub is_read : List (Option OpWord) → Operation → Bool
is_read words a = is_read_word (word_at words a.call)

abbrev pub is_write : List (Option OpWord) → Operation → Bool
is_write words a = is_write_word (word_at words a.call)

abbrev pub is_cas : List (Option OpWord) → Operation → Bool
is_cas words a = is_cas_word (word_at words a.call)

abbrev pub is_pending : Operation → Bool
is_pending a = not a.completed

-- ---- lines

-- the line of the event at a time; the event at place i has time i + 2
abbrev pub line_at : List ℕ → ℕ → ℕ
line_at lines t = get_or lines (t - 2) 0

-- operations by the lines of their calls
abbrev pub lines_of : List Operation → List ℕ
lines_of order = map (λ a. a.line) order

-- the points of an order, each by the line of the call at that time
abbrev pub points_of : List ℕ → List Operation → List ℕ
points_of lines order = map (λ x. line_at lines x.point) (placed order)

-- ---- open calls

-- no reply comes before time t
abbrev pub is_unanswered : ℕ → Operation → Bool
is_unanswered t a = not a.completed || nat_le t a.reply

-- The operation is open at time t: its call comes before that time, and no reply of it does. So one that is
-- pending is open from its call on, and one that replies at time t still is.
abbrev pub is_open_at : ℕ → Operation → Bool
is_open_at t a = nat_lt a.call t && is_unanswered t a

-- ---- a register: events have these lines, register r has the calls `ops`

-- a legal order of the register's operations, its initial write left out, and its points, each
-- of which lies at or after the operation's call and before its reply (Herlihy and Wing, Linearizability: A
-- Correctness Condition for Concurrent Objects, 1990)
pub record IsOrderShown (lines : List ℕ) (r : ℕ) (ops : List Operation) (order points : List ℕ) : Type 0 where
  pub operations : List Operation
  pub legal : IsLegal (initial_write r ∷ ops) (initial_write r ∷ operations)
  pub within : (x : PlacedOperation) → In x (placed operations) → IsWithinLife x
  pub order_is : order ≡ lines_of operations
  pub points_are : points ≡ points_of lines operations

-- the first call, by time, that needs a value which nobody wrote
pub record IsUnwrittenShown (ops : List Operation) (call : ℕ) : Type 0 where
  pub place : ℕ
  pub operation : Operation
  pub there : slice_get ops place ≡ Some operation
  pub first : IsFirstUnwritten ops (Some place)
  pub line : call ≡ operation.line

-- an order of what was known before a time: a legal one, by lines
abbrev pub IsOrderBefore : ℕ → ℕ → List Operation → List ℕ → Type 0
IsOrderBefore t r ops before =
    (order : List Operation) × IsLegal (initial_write r ∷ cut_at (t - 1) ops) (initial_write r ∷ order)
    × (before ≡ lines_of order)

-- the reply of some call, by its line: what is known at its time has no legal order, these calls are open
-- then, in their order, and the order of what was known before it, if there is one, is legal
pub record IsHopelessShown (lines : List ℕ) (r : ℕ) (ops : List Operation) (asks : List ℕ)
    (before : Option (Vec ℕ Global)) (reply : ℕ) : Type 0 where
  pub operation : Operation
  pub time : ℕ
  pub within : In operation ops
  pub replies : reply_of operation ≡ Some time
  pub line : reply ≡ line_at lines time
  pub none : IsAtomic (cut_at time (initial_write r ∷ ops)) → ⊥
  pub asks_are : asks ≡ lines_of (filter (is_open_at time) ops)
  pub order : IfSome before (λ order. IsOrderBefore time r ops order.items)

-- why a register isn't atomic
abbrev pub IsFaultShown : List ℕ → ℕ → List Operation → Fault → Type 0
IsFaultShown lines r ops (Unwritten call) = IsUnwrittenShown ops call
IsFaultShown lines r ops (Search asks before reply) =
    IsFirstUnwritten ops None × IsHopelessShown lines r ops asks.items before reply

-- the bound at which a search gave up, as its report names it
abbrev pub reached_bound : Bound → ReachedBound
reached_bound bound.Configurations = Configurations
reached_bound bound.Steps = Steps

-- A yes has a legal order, and after a no there is none. The search is asked only if no value is
-- unwritten; if it gave up, no more is said.
abbrev pub IsAtomicity : List ℕ → ℕ → List Operation → Atomicity → Type 0
IsAtomicity lines r ops (Yes order points) =
    IsAtomic (initial_write r ∷ ops) × IsOrderShown lines r ops order.items points.items
IsAtomicity lines r ops (No fault) = (IsAtomic (initial_write r ∷ ops) → ⊥) × IsFaultShown lines r ops fault
IsAtomicity lines r ops (Unknown bound) = IsFirstUnwritten ops None

-- the lines of events
abbrev pub event_lines : List AnyEvent → List ℕ
event_lines events = map (λ e. e.line) events

-- the words of the calls among events
abbrev pub event_words : List AnyEvent → List (Option OpWord)
event_words events = map call_word events

-- the line of register r
pub record IsRegisterReport (events : List AnyEvent) (r : ℕ) (report : RegisterReport) : Type 0 where
  pub name : slice_get (register_names events) r ≡ Some report.register
  pub cas : report.cas ≡ count_by (is_cas (event_words events)) (calls_of events r)
  pub pending : report.pending ≡ count_by is_pending (calls_of events r)
  pub reads : report.reads ≡ count_by (is_read (event_words events)) (calls_of events r)
  pub writes : report.writes ≡ count_by (is_write (event_words events)) (calls_of events r)
  pub atomicity : IsAtomicity (event_lines events) r (calls_of events r) report.atomicity

-- ---- the whole history

abbrev pub is_no : Atomicity → Bool
is_no (Yes order points) = false
is_no (No fault) = true
is_no (Unknown bound) = false

abbrev pub is_unknown : Atomicity → Bool
is_unknown (Yes order points) = false
is_unknown (No fault) = false
is_unknown (Unknown bound) = true

-- "no" if some register isn't atomic, else "unknown" if the search gave up on some, else "yes"
abbrev pub outcome_of : List RegisterReport → Outcome
outcome_of reports =
    if list_any (λ reg. is_no reg.atomicity) reports then outcome.No
    else (if list_any (λ reg. is_unknown reg.atomicity) reports then outcome.Unknown else outcome.Yes)

-- a yes says that the whole history is atomic, and a no that it isn't (Herlihy and Wing, 1990)
abbrev pub IsWholeOutcome : List AnyEvent → Outcome → Type 0
IsWholeOutcome events outcome.Yes = IsAtomic (operations events)
IsWholeOutcome events outcome.No = IsAtomic (operations events) → ⊥
IsWholeOutcome events outcome.Unknown = Unit {0}

-- the report of a history: the line of each register in the order of the first calls, and the summary
pub record IsReport (events : List AnyEvent) (report : Report) : Type 0 where
  pub count : length report.registers.items ≡ length (register_names events)
  pub each : (r : ℕ) (reg : RegisterReport) → slice_get report.registers.items r ≡ Some reg
      → IsRegisterReport events r reg
  pub called : report.operations ≡ length (calls events)
  pub summary : report.atomic ≡ outcome_of report.registers.items
  pub whole : IsWholeOutcome events report.atomic
