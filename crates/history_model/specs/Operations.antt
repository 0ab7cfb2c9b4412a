-- The operations of a history: each register's initial write, and each call that didn't fail, with its reply.
use Rattle.std.specs.Prelude.{◌≡◌, ℕ, zero, suc, ◌<◌, ◌≤◌, ◌==◌, cond, Bool, true, false}
use Rattle.std.specs.Prelude.{List, [], ◌∷◌, ◌++◌, length, Option, Some, None, ◌⊎◌}
use Rattle.std.specs.List.{filter}
use Rattle.history_text.specs.declared.event.Val.{Val}
use Rattle.history_text.specs.declared.event.Val.TheVariants.{Null}
use Rattle.history_text.specs.declared.event.OpKind.{OpKind}
use Rattle.history_text.specs.declared.event.OpKind.TheVariants.{ReadOp, WriteOp}
use Rattle.history_model.specs.Acts.{asks, changes, is_plain, kind_of_act, plain_act, value_of_act}
use Rattle.history_model.specs.Calls as all
use Rattle.history_model.specs.Calls.{Calls}
use Rattle.history_model.specs.declared.act.Act.{Act}
use Rattle.history_model.specs.declared.act.Act.TheVariants.{Write}
use Rattle.history_model.specs.declared.operation.Operation.{Operation}
use Rattle.history_model.specs.declared.ids.RegId.{RegId}
use Rattle.history_model.specs.declared.event.Event.{Event}
use Rattle.history_model.specs.declared.event.What.{What}
use Rattle.history_model.specs.declared.event.What.TheVariants.{Call, Reply, Fail, Crash}
use Rattle.history_model.specs.Lists.{In}
use Rattle.history_model.specs.History.{History}

-- ---- what an event is

abbrev pub is_a_call : What → Bool
is_a_call (Call kind) = true
is_a_call (Reply kind) = false
is_a_call (Fail kind) = false
is_a_call Crash = false

abbrev pub is_a_reply : What → Bool
is_a_reply (Call kind) = false
is_a_reply (Reply kind) = true
is_a_reply (Fail kind) = false
is_a_reply Crash = false

abbrev pub is_a_fail : What → Bool
is_a_fail (Call kind) = false
is_a_fail (Reply kind) = false
is_a_fail (Fail kind) = true
is_a_fail Crash = false

-- the kind of the call; a crash has none, and is never asked for it
abbrev pub kind_in : What → OpKind
kind_in (Call kind) = kind
kind_in (Reply kind) = kind
kind_in (Fail kind) = kind
kind_in Crash = ReadOp

-- the number of the register; a crash has none, and is never asked for it
abbrev pub number_in : Option RegId → ℕ
number_in None = 0
number_in (Some register) = register.0

-- ---- from events to operations

abbrev pub writes : OpKind → Bool
writes ReadOp = false
writes WriteOp = true

-- what a call did: a write has the value of its call, a read that of its reply
abbrev pub act_by_reply : Event → Option Event → Act
act_by_reply e None = plain_act (kind_in e.what) e.value
act_by_reply e (Some r) = plain_act (kind_in e.what) (cond (writes (kind_in e.what)) e.value r.value)

-- the calls of a program of reads and writes
abbrev pub plain_calls : Calls Event
plain_calls = record {
  line = λ e. e.line;
  process = λ e. e.process;
  is_call = λ e. is_a_call e.what;
  is_reply = λ e. is_a_reply e.what;
  is_fail = λ e. is_a_fail e.what;
  register = λ e. number_in e.register;
  act = act_by_reply;
}

abbrev pub next_of : ℕ → ℕ → List Event → Option (ℕ × Event)
next_of p s es = all.next_of plain_calls p s es

abbrev pub reply_in : Option (ℕ × Event) → Option (ℕ × Event)
reply_in next = all.reply_in plain_calls next

abbrev pub has_failed : Option (ℕ × Event) → Bool
has_failed next = all.has_failed plain_calls next

abbrev pub begins : Event → Option (ℕ × Event) → Bool
begins e next = all.begins plain_calls e next

abbrev pub operation : ℕ → ℕ → Event → Option (ℕ × Event) → Operation
operation n t e reply = all.operation plain_calls n t e reply

abbrev pub calls_from : ℕ → ℕ → List Event → List Operation
calls_from n s es = all.calls_from plain_calls n s es

-- the calls of a history that didn't fail, by time
abbrev pub calls : List Event → List Operation
calls events = all.calls_of plain_calls events

-- each register begins with a write of null that precedes all calls
abbrev pub initial_write : ℕ → Operation
initial_write r = record {
  line = 0;
  call = 0;
  reply = 1;
  completed = true;
  process = None;
  register = r;
  act = Write Null;
}

-- the initial writes of the registers below a number
abbrev pub initial_writes : ℕ → List Operation
initial_writes zero = []
initial_writes (suc r) = initial_write r ∷ initial_writes r

abbrev pub operations : History → List Operation
operations h = initial_writes (length h.names) ++ calls h.events

-- ---- what is said of operations

-- a precedes b where a's reply comes before b's call (Lamport, On Interprocess Communication, Part I, 1986;
-- Herlihy and Wing, Linearizability: A Correctness Condition for Concurrent Objects, 1990, section 2.2)
abbrev pub Precedes : Operation → Operation → Type 0
Precedes a b = a.reply < b.call

-- neither precedes the other
abbrev pub Overlaps : Operation → Operation → Type 0
Overlaps a b = (Precedes a b → ⊥) × (Precedes b a → ⊥)

-- whether it gives the register a value
abbrev pub is_write : Operation → Bool
is_write a = changes a.act

abbrev pub IsWrite : Operation → Type 0
IsWrite a = is_write a ≡ true

abbrev pub IsAsking : Operation → Type 0
IsAsking a = asks a.act ≡ true

-- the time of its reply, if there is one
abbrev pub reply_of : Operation → Option ℕ
reply_of a = cond a.completed (Some a.reply) None

abbrev pub op_kind : Operation → OpKind
op_kind a = kind_of_act a.act

-- the value that it writes or reads
abbrev pub value_of : Operation → Option Val
value_of a = value_of_act a.act

abbrev pub IsCompleted : Operation → Type 0
IsCompleted a = a.completed ≡ true

pub record IsCompletedRead (a : Operation) : Type 0 where
  pub read : is_write a ≡ false
  pub completed : IsCompleted a

-- r is a completed read of the value that w wrote
pub record IsReadOf (w r : Operation) : Type 0 where
  pub read : is_write r ≡ false
  pub completed : IsCompleted r
  pub value : value_of r ≡ value_of w

abbrev pub is_of : ℕ → Operation → Bool
is_of r a = a.register == r

-- the operations of one register
abbrev pub of_register : ℕ → List Operation → List Operation
of_register r ops = filter (is_of r) ops

-- all operations of register r of a history, its initial write among them
abbrev pub register_of : History → ℕ → List Operation
register_of h r = of_register r (operations h)

-- The facts on which locality, points and beginnings stand, of the operations of one register.
pub record AreTimed (ops : List Operation) : Type 0 where
  -- each call comes before its reply
  pub life : (a : Operation) → In a ops → a.call < a.reply
  -- no reply comes at the time of a call
  pub apart : (a b : Operation) → In a ops → In b ops → a.reply ≡ b.call → ⊥

-- ---- what holds of the operations of one register of an accepted history

-- The facts on which every law above stands.
pub record IsHistory (h : List Operation) : Type 0 where
  -- they are of one register
  pub one : (a b : Operation) → In a h → In b h → a.register ≡ b.register
  -- each call comes before its reply
  pub life : (a : Operation) → In a h → a.call < a.reply
  -- no two events share a time
  pub calls : (a b : Operation) → In a h → In b h → a.call ≡ b.call → a ≡ b
  pub replies : (a b : Operation) → In a h → In b h → IsCompleted a → IsCompleted b
      → a.reply ≡ b.reply → a ≡ b
  pub apart : (a b : Operation) → In a h → In b h → a.reply ≡ b.call → ⊥
  -- a missing reply comes after every call
  pub pending : (a b : Operation) → In a h → In b h → a.completed ≡ false → b.call < a.reply
  -- and after every reply
  pub horizon : (a b : Operation) → In a h → In b h → a.completed ≡ false → IsCompleted b → b.reply < a.reply
  -- no value is written twice
  pub values : (a b : Operation) → In a h → In b h → IsWrite a → IsWrite b → value_of a ≡ value_of b → a ≡ b
  -- the operations of one process come one after another
  pub turns : (a b : Operation) (p : ℕ) → In a h → In b h → a.process ≡ Some p → b.process ≡ Some p
      → (a ≡ b) ⊎ (Precedes a b ⊎ Precedes b a)
  -- what nobody called is the initial write, and what somebody called comes after it
  pub initial : (a : Operation) → In a h → a.process ≡ None → a ≡ initial_write a.register
  pub called : (a : Operation) (p : ℕ) → In a h → a.process ≡ Some p → 2 ≤ a.call
  -- they are reads and writes
  pub plain : (a : Operation) → In a h → is_plain a.act ≡ true
  -- a read has a value exactly if it is completed
  pub reads : (a : Operation) → In a h → is_write a ≡ false → asks a.act ≡ a.completed
