-- The laws that an accepted history obeys.
use Rattle.std.specs.Prelude.{◌≡◌, ℕ, ◌<◌, ◌≤◌, ◌-◌, length, Some}
use Rattle.history_text.specs.declared.limits.TheConstants.{MAX_EVENTS}
use Rattle.history_model.specs.declared.event.Event.{Event}
use Rattle.history_model.specs.declared.event.What.TheVariants.{Call}
use Rattle.history_model.specs.declared.ids.Oper.{Oper}
use Rattle.history_model.specs.Lists.{In}
use Rattle.history_model.specs.History.{History}
use Rattle.history_model.specs.Operations.{IsHistory, of_register, operations, op_kind}
use Rattle.history_model.specs.declared.operation.Operation.{Operation}
use Rattle.history_model.specs.Naming.{IsEventIn, IsNamed, IsOper, name_of}

-- its registers and events are few, and its operations belong to numbered registers and, but for the
-- initial writes, to calls among its events
pub record ObeysLaws (h : History) : Type 0 where
  pub events : length h.events ≤ MAX_EVENTS
  pub registers : length h.names ≤ MAX_EVENTS
  pub history : (r : ℕ) → IsHistory (of_register r (operations h))
  pub numbered : (o : Operation) → In o (operations h) → o.register < length h.names
  pub oper : (o : Operation) → In o (operations h) → IsOper h (name_of o)
  pub named : (name : Oper) (o p : Operation) → IsNamed h name o → IsNamed h name p → o ≡ p
  pub call : (o : Operation) (p : ℕ) → In o (operations h) → o.process ≡ Some p
      → (e : Event) × IsEventIn h (o.call - 2) e o × (e.what ≡ Call (op_kind o))
