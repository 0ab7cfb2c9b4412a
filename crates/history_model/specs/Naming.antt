-- How operations are named, and which event belongs to which operation.
use Rattle.std.specs.Prelude.{◌≡◌, ℕ, ◌+◌, ◌-◌, ◌<◌, ◌⊎◌, ◌||◌, Bool, true, suc}
use Rattle.std.specs.Prelude.{List, length, drop, slice_get, Option, Some, None}
use Rattle.history_model.specs.Lists.{In}
use Rattle.history_model.specs.History.{History}
use Rattle.history_model.specs.Operations.{operations, next_of, begins}
use Rattle.history_model.specs.declared.operation.Operation.{Operation}
use Rattle.history_model.specs.Operations.{is_a_reply, IsWrite, IsCompleted, op_kind, reply_of, value_of}
use Rattle.history_model.specs.Walking.{by_register}
use Rattle.history_model.specs.declared.ids.Oper.{Oper}
use Rattle.history_model.specs.declared.ids.Oper.TheVariants.{Initial, Called}
use Rattle.history_model.specs.declared.event.Event.{Event}
use Rattle.history_model.specs.declared.event.What.TheVariants.{Call, Reply}
use Rattle.history_model.specs.declared.op.Op.{Op}

abbrev pub name_by : Option ℕ → Operation → Oper
name_by None o = Initial (record { 0 = o.register })
name_by (Some p) o = Called (record { 0 = o.call - 2 })

-- the name of an operation: its register's initial write, or the event of its call
abbrev pub name_of : Operation → Oper
name_of o = name_by o.process o

-- o is the operation of the history that has this name
pub record IsNamed (h : History) (name : Oper) (o : Operation) : Type 0 where
  pub one : In o (operations h)
  pub named : name_of o ≡ name

-- whether the event e at place i begins an operation: it is a call that didn't fail
abbrev pub begins_at : List Event → ℕ → Event → Bool
begins_at events i e = begins e (next_of e.process (suc (i + 2)) (drop (suc i) events))

-- whether the event e at place i belongs to an operation, as its call or as its reply
abbrev pub belongs_at : List Event → ℕ → Event → Bool
belongs_at events i e = is_a_reply e.what || begins_at events i e

-- a name that an operation of the history has
abbrev pub IsOper : History → Oper → Type 0
IsOper h (Initial r) = r.0 < length h.names
IsOper h (Called i) = (e : Event) × (slice_get h.events i.0 ≡ Some e) × (begins_at h.events i.0 e ≡ true)

-- an operation as `op` gives it
abbrev pub op_shown : Operation → Op
op_shown o = record {
  line = o.line;
  call = o.call;
  reply = reply_of o;
  process = o.process;
  register = record { 0 = o.register };
  kind = op_kind o;
  value = value_of o;
}

-- the event at place i belongs to the operation o: it is its call, or its reply
abbrev pub IsEventOf : ℕ → Operation → Type 0
IsEventOf i o = (o.call ≡ i + 2) ⊎ ((o.completed ≡ true) × (o.reply ≡ i + 2))

-- the operation of this name is the one that the event at place i belongs to; without a name there is none
abbrev pub IsOperOf : History → ℕ → Option Oper → Type 0
IsOperOf h i None = (o : Operation) → In o (operations h) → IsEventOf i o → ⊥
IsOperOf h i (Some name) = (o : Operation) × IsNamed h name o × IsEventOf i o

-- the event at place i is e, and it is the call or the reply of the operation o
pub record IsEventIn (h : History) (i : ℕ) (e : Event) (o : Operation) : Type 0 where
  pub at : slice_get h.events i ≡ Some e
  pub one : In o (operations h)
  pub register : by_register e ≡ Some o.register
  pub process : o.process ≡ Some e.process
  pub is : (e.what ≡ Call (op_kind o)) ⊎ (e.what ≡ Reply (op_kind o))
  -- a call has its operation's line and time, and a write's call its value
  pub call : e.what ≡ Call (op_kind o) → (o.line ≡ e.line) × (o.call ≡ i + 2) × (IsWrite o
      → value_of o ≡ e.value)
  -- a reply has its operation's last time and its value
  pub reply : e.what ≡ Reply (op_kind o) → IsCompleted o × (o.reply ≡ i + 2) × (value_of o ≡ e.value)
