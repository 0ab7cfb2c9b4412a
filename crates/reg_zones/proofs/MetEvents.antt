-- What an event of a register is there: the call of an operation, the reply to one, or neither.
use Rattle.std.proofs.Common.{◌≡◌, ℕ, ◌+◌, Some, None, inl, inr, refl, ap, arith}
use Rattle.history_model.specs.declared.ids.Oper.{Oper}
use Rattle.history_model.specs.declared.op.Op.{Op}
use Rattle.history_model.specs.Lists.{In}
use Rattle.history_model.specs.History.{History}
use Rattle.history_model.specs.Operations.{of_register, operations}
use Rattle.history_model.specs.declared.operation.Operation.{Operation}
use Rattle.history_model.specs.Naming.{IsEventOf, IsOperOf, op_shown}
use Rattle.history_model.specs.Walking.{by_register, key_at}
use Rattle.history_model.proofs.Recorded.{of_register-In}
use Rattle.reg_zones.specs.declared.register.Met.{Met}
use Rattle.reg_zones.specs.declared.register.Met.TheVariants.{Call, Reply, Nothing}
use Rattle.reg_zones.specs.Sweep.{IsBelonging, IsMetAt}
use Rattle.reg_zones.proofs.Known.{IsKnown}
use Rattle.reg_zones.proofs.Registers.{key-operation}

module _ (h : History) (r : ℕ) (y : IsKnown h r) where
  -- what is no call belongs to no operation that is called there
  pub no-call : (i : ℕ) (met : Met) → ((oper : Oper) (op : Op) → met ≡ Call oper op → ⊥) → IsMetAt h r i met
      → (a : Operation) → In a (of_register r (operations h)) → a.call ≡ i + 2 → ⊥
  no-call i (Call oper op) n m a k e = n oper op refl
  no-call i Nothing n m a k e = m a k (inl e)
  no-call i Reply n m a k e =
      let all : (o : Operation) → In o (of_register r (operations h)) → In o (operations h) =
      λ o j. (of_register-In r (operations h) o j).0 in
      let same = y.one i m.0 a (all m.0 m.1) (all a k) (inr (m.2, m.3)) (inl e) in
      let lives = y.history.life m.0 m.1 in
      omega (arith, m.3, e, ap (λ (o : Operation). o.call) same)

  -- what belongs to an operation, and calls none, is its reply
  pub met-reply : (i : ℕ) (name : Oper) → key_at by_register h.events i ≡ Some r → IsOperOf h i (Some name)
      → ((o : Operation) → In o (of_register r (operations h)) → o.call ≡ i + 2 → ⊥) → IsMetAt h r i Reply
  met-reply i name key f none =
      let k = key-operation h r y i f.0 key f.1.one f.2 in
      elim f.2 [ inl t ↦ absurd (none f.0 k t) | inr t ↦ (f.0, k, t.0, t.1) ]

  -- what belongs to no operation
  pub met-nothing : (i : ℕ) → IsOperOf h i None → IsMetAt h r i Nothing
  met-nothing i f = λ o k t. f o (of_register-In r (operations h) o k).0 t

-- what belongs to an operation belongs to it as it is shown
pub belonging : (h : History) (r i : ℕ) (o : Operation) → In o (of_register r (operations h)) → IsEventOf i o
    → IsBelonging h r i o (op_shown o)
belonging h r i o k t = record { one = k; event = t; shown = refl }
