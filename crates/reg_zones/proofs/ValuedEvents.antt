-- Which event has the value of an operation.
use Rattle.std.proofs.Common.{◌≡◌, ℕ, ◌-◌, ◌≤◌, Bool, true, false, cond, Some}
use Rattle.std.proofs.Common.{None, inl, inr, refl, sym, ap, subst, ◌∙◌, arith}
use Rattle.std.proofs.lemmas.Bool.{false≢true}
use Rattle.history_text.specs.declared.event.Val.{Val}
use Rattle.history_model.specs.declared.op.Op.{Op}
use Rattle.history_model.specs.Lists.{In}
use Rattle.history_model.specs.History.{History}
use Rattle.history_model.specs.Operations.{IsWrite, IsCompleted, IsCompletedRead, value_of}
use Rattle.history_model.specs.declared.operation.Operation.{Operation}
use Rattle.history_model.specs.Operations.{is_write, of_register, operations}
use Rattle.history_model.specs.Walking.{by_value, key_at}
use Rattle.history_model.specs.Naming.{IsEventOf, op_shown}
use Rattle.reg_zones.proofs.Known.{IsKnown}
use Rattle.reg_zones.specs.Sweep.{IsBelonging}
use Rattle.reg_zones.proofs.Registers.{event-process, cases_process}
use Rattle.history_model.proofs.Recorded.{of_register-In}

-- an operation that shows a reply is completed, with this reply
pub shown-reply : (o : Operation) (t : ℕ) → (op_shown o).reply ≡ Some t → IsCompleted o × (o.reply ≡ t)
shown-reply o t e = go o.completed refl e
  where
    go : (b : Bool) → o.completed ≡ b → cond b (Some o.reply) None ≡ Some t → IsCompleted o × (o.reply ≡ t)
    go true d q = (d, cc q)
    go false d q = absurd (cc q)

pub shown-pending : (o : Operation) → (op_shown o).reply ≡ None → o.completed ≡ false
shown-pending o e = go o.completed refl e
  where
    go : (b : Bool) → o.completed ≡ b → cond b (Some o.reply) None ≡ None → o.completed ≡ false
    go true d q = absurd (cc q)
    go false d q = d

-- the reply of a completed read is an event with its value
module _ (h : History) (r : ℕ) (y : IsKnown h r) (a : Operation) (k : In a (of_register r (operations h)))
    (d : IsCompletedRead a) where
  caller : (p : ℕ) × (a.process ≡ Some p)
  caller = elim (cases_process a.process) [
    | inl n ↦ absurd (false≢true (sym d.read ∙ ap (λ (x : Operation). is_write x) (y.history.initial a k n)))
    | inr p ↦ p
  ]

  pub read-late : 2 ≤ a.reply
  read-late =
      let p = caller in
      let c = y.history.called a p.0 k p.1 in
      let lives = y.history.life a k in
      omega arith

  pub read-key : (v : Val) → value_of a ≡ Some v → key_at by_value h.events (a.reply - 2) ≡ Some (r, v)
  read-key v q =
      let p = caller in
      let at = of_register-In r (operations h) a k in
      y.replied a p.0 v at.0 p.1 d.completed q ∙ ap (λ n. Some (n, v)) at.1

module _ (h : History) (r : ℕ) (y : IsKnown h r) (i : ℕ) (o : Operation) (op : Op)
    (b : IsBelonging h r i o op) where
  -- an operation with an event was called by a process
  called : (p : ℕ) × (o.process ≡ Some p)
  called = event-process h r y i o b.one b.event

  there : In o (operations h)
  there = (of_register-In r (operations h) o b.one).0

  numbered : o.register ≡ r
  numbered = (of_register-In r (operations h) o b.one).1

  pub replied : (t : ℕ) → op.reply ≡ Some t → IsCompleted o × (o.reply ≡ t)
  replied t e = shown-reply o t (ap (λ (x : Op). x.reply) (sym b.shown) ∙ e)

  pub pending : op.reply ≡ None → o.completed ≡ false
  pending e = shown-pending o (ap (λ (x : Op). x.reply) (sym b.shown) ∙ e)

  pub late-reply : 2 ≤ o.reply
  late-reply =
      let p = called in
      let c = y.history.called o p.0 b.one p.1 in
      let lives = y.history.life o b.one in
      omega arith

  -- the reply of a completed one has its value
  pub reply-key : IsCompleted o
      → (v : Val) × (value_of o ≡ Some v) × (key_at by_value h.events (o.reply - 2) ≡ Some (r, v))
  reply-key d =
      let p = called in
      let v = y.value o there (inr d) in
      (v.0, v.1, y.replied o p.0 v.0 there p.1 d v.1 ∙ ap (λ n. Some (n, v.0)) numbered)

  -- the call of a pending write has its value
  pub call-key : o.completed ≡ false → IsWrite o
      → (v : Val) × (value_of o ≡ Some v) × (key_at by_value h.events i ≡ Some (r, v))
  call-key d w =
      let p = called in
      let v = y.value o there (inl w) in
      let q : o.call - 2 ≡ i =
      elim b.event [ inl c ↦ omega (arith, c) | inr c ↦ absurd (false≢true (sym d ∙ c.0)) ] in (
        v.0,
        v.1,
        subst (λ n. key_at by_value h.events n ≡ Some (r, v.0)) q
            (y.written o p.0 v.0 there p.1 w v.1 ∙ ap (λ n. Some (n, v.0)) numbered),
      )

  -- an event has one operation
  pub same : (a : Operation) → In a (of_register r (operations h)) → IsEventOf i a → o ≡ a
  same a k t = y.one i o a there (of_register-In r (operations h) a k).0 b.event t
