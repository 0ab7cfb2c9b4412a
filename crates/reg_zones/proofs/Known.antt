-- What is known of a register of an accepted history: its events and its operations belong together.
use Rattle.std.proofs.Common.{◌≡◌, ℕ, ◌-◌, ◌<◌, ◌≤◌, length, List, Option, Some, None, ◌⊎◌}
use Rattle.std.proofs.Common.{inl, inr, refl, sym, ap, subst, ◌∙◌, arith, option_and_then}
use Rattle.std.proofs.Math.Logic.{∥∥₁_elim}
use Rattle.std.proofs.Props.{props}
use Rattle.std.proofs.lemmas.Bool.{cases_lt}
use Rattle.history_text.specs.declared.event.Val.{Val}
use Rattle.history_model.specs.declared.event.Event.{Event}
use Rattle.history_model.specs.declared.ids.RegId.{RegId}
use Rattle.history_model.specs.Lists.{In}
use Rattle.history_model.specs.History.{History, IsRecorded}
use Rattle.history_model.specs.Operations.{IsHistory, IsWrite, IsCompleted, value_of}
use Rattle.history_model.specs.declared.operation.Operation.{Operation}
use Rattle.history_model.specs.Operations.{register_of, operations, initial_write}
use Rattle.history_model.specs.Walking.{by_register, by_value, key_at}
use Rattle.history_model.specs.Naming.{IsEventIn, IsEventOf}
use Rattle.history_model.proofs.Named.{initial-there, event-has-one, operation-has-call}
use Rattle.history_model.proofs.Named.{operation-has-reply, operation-has-value}
use Rattle.history_model.proofs.Recorded.{accepted-history, In-of_register}
use Rattle.history_model.proofs.Walking.{keyed}
use Rattle.reg_zones.specs.declared.register.Register.{Register}
use Rattle.reg_zones.specs.Register.{operations_of}

pub record IsKnown (h : History) (r : ℕ) : Type 0 where
  pub history : IsHistory (register_of h r)
  pub initial : In (initial_write r) (register_of h r)
  -- an event has one operation, which is of its register
  pub event : (i : ℕ) (o : Operation) → In o (operations h) → IsEventOf i o
      → key_at by_register h.events i ≡ Some o.register
  pub one : (i : ℕ) (o p : Operation) → In o (operations h) → In p (operations h) → IsEventOf i o
      → IsEventOf i p → o ≡ p
  -- an operation's call is an event, if a process called it
  pub called : (o : Operation) (p : ℕ) → In o (operations h) → o.process ≡ Some p → 2 ≤ o.call
  -- a write's call has its value, and so has each reply
  pub written : (o : Operation) (p : ℕ) (v : Val) → In o (operations h) → o.process ≡ Some p → IsWrite o
      → value_of o ≡ Some v → key_at by_value h.events (o.call - 2) ≡ Some (o.register, v)
  pub replied : (o : Operation) (p : ℕ) (v : Val) → In o (operations h) → o.process ≡ Some p → IsCompleted o
      → value_of o ≡ Some v → key_at by_value h.events (o.reply - 2) ≡ Some (o.register, v)
  pub value : (o : Operation) → In o (operations h) → IsWrite o ⊎ IsCompleted o
      → (v : Val) × (value_of o ≡ Some v)

Operation-set : IsSet Operation
Operation-set = hlevel props

keys-set : IsSet (Option (ℕ × Val))
keys-set = hlevel props

-- an operation with an event was called by a process
pub process-of : (ops : List Operation) → IsHistory ops → (i : ℕ) (o : Operation) → In o ops → IsEventOf i o
    → (p : ℕ) × (o.process ≡ Some p)
process-of ops y i o k t = go o.process refl
  where
    go : (p : Option ℕ) → o.process ≡ p → (p : ℕ) × (o.process ≡ Some p)
    go (Some p) n = (p, n)
    go None n =
        let e = y.initial o k n in
        absurd (elim t [
          | inl c ↦ omega (arith, c, ap (λ (a : Operation). a.call) e)
          | inr c ↦ omega (arith, c.1, ap (λ (a : Operation). a.reply) e)
        ])

-- ---- of a history that is known to be recorded

module _ (h : History) (y : IsRecorded h) where
  history-of : (o : Operation) → In o (operations h) → IsHistory (register_of h o.register)
      × In o (register_of h o.register)
  history-of o k = (accepted-history h y o.register, In-of_register o.register (operations h) o k refl)

  event-at : (n i : ℕ) (o : Operation) → n ≡ i → (e : Event) × IsEventIn h n e o
      → key_at by_register h.events i ≡ Some o.register
  event-at n i o q e =
      subst (λ m. key_at by_register h.events m ≡ Some o.register) q (ap (option_and_then by_register) e.1.at
      ∙ e.1.register)

  event : (i : ℕ) (o : Operation) → In o (operations h) → IsEventOf i o
      → key_at by_register h.events i ≡ Some o.register
  event i o k t =
      let x = history-of o k in
      let p = process-of (register_of h o.register) x.0 i o x.1 t in
      elim t [
        | inl c ↦ let e = operation-has-call h y o p.0 k p.1 in
            event-at (o.call - 2) i o (omega (arith, c)) (e.0, e.1)
        | inr c ↦ let e = operation-has-reply h y o p.0 k p.1 c.0 in
            event-at (o.reply - 2) i o (omega (arith, c.1)) (e.0, e.1)
      ]

  called : (o : Operation) (p : ℕ) → In o (operations h) → o.process ≡ Some p → 2 ≤ o.call
  called o p k q = let x = history-of o k in x.0.called o p x.1 q

  -- the key of an event with the register and the value of an operation
  value-key : (i : ℕ) (e : Event) (o : Operation) (v : Val) → IsEventIn h i e o → e.value ≡ Some v
      → key_at by_value h.events i ≡ Some (o.register, v)
  value-key i e o v s q = ap (option_and_then by_value) s.at ∙ keyed e o.register v s.register q

  written : (o : Operation) (p : ℕ) (v : Val) → In o (operations h) → o.process ≡ Some p → IsWrite o
      → value_of o ≡ Some v → key_at by_value h.events (o.call - 2) ≡ Some (o.register, v)
  written o p v k q w t =
      let e =
      operation-has-call h y o p k q in value-key (o.call - 2) e.0 o v e.1 (sym ((e.1.call e.2).2 w) ∙ t)

  replied : (o : Operation) (p : ℕ) (v : Val) → In o (operations h) → o.process ≡ Some p → IsCompleted o
      → value_of o ≡ Some v → key_at by_value h.events (o.reply - 2) ≡ Some (o.register, v)
  replied o p v k q d t =
      let e =
      operation-has-reply h y o p k q d in value-key (o.reply - 2) e.0 o v e.1 (sym (e.1.reply e.2).2 ∙ t)

-- ---- of one of which it isn't known of which lines it is the record

module _ (h : History) (t : ∥ IsRecorded h ∥₁) where
  so : {P : Type 0} → IsProp P → (IsRecorded h → P) → P
  so p f = ∥∥₁_elim t p f

  -- each fact but one has a single proof; which of three ways it is with two
  -- operations of a process is told by their times
  pub known-history : (r : ℕ) → IsHistory (register_of h r)
  known-history r = record {
    one = so (hlevel props) (λ y. (accepted-history h y r).one);
    life = so (hlevel props) (λ y. (accepted-history h y r).life);
    calls = so (hlevel (props, Operation-set)) (λ y. (accepted-history h y r).calls);
    replies = so (hlevel (props, Operation-set)) (λ y. (accepted-history h y r).replies);
    apart = so (hlevel props) (λ y. (accepted-history h y r).apart);
    pending = so (hlevel props) (λ y. (accepted-history h y r).pending);
    horizon = so (hlevel props) (λ y. (accepted-history h y r).horizon);
    values = so (hlevel (props, Operation-set)) (λ y. (accepted-history h y r).values);
    turns = λ a b p i j c d. elim (cases_lt a.reply b.call) [
      | inl l ↦ inr (inl l)
      | inr m ↦ elim (cases_lt b.reply a.call) [
        | inl l ↦ inr (inr l)
        | inr n ↦ inl (so (Operation-set a b)
            (λ y. elim ((accepted-history h y r).turns a b p i j c d) [
              | inl e ↦ e
              | inr e ↦ absurd (elim e [ inl l ↦ omega (arith, l, m) | inr l ↦ omega (arith, l, n) ])
            ]))
      ]
    ];
    initial = so (hlevel (props, Operation-set)) (λ y. (accepted-history h y r).initial);
    called = so (hlevel props) (λ y. (accepted-history h y r).called);
    plain = so (hlevel props) (λ y. (accepted-history h y r).plain);
    reads = so (hlevel props) (λ y. (accepted-history h y r).reads);
  }

  known-value : (o : Operation) → In o (operations h) → IsWrite o ⊎ IsCompleted o
      → (v : Val) × (value_of o ≡ Some v)
  known-value o k c = go (value_of o) refl
    where
      go : (s : Option Val) → value_of o ≡ s → (v : Val) × (value_of o ≡ Some v)
      go (Some v) e = (v, e)
      go None e =
          absurd (so (hlevel props) (λ y. let v = operation-has-value h y o k c in let q = v.1 in cc (e, q)))

  pub known : (r : ℕ) → r < length h.names → IsKnown h r
  known r l = record {
    history = known-history r;
    initial = initial-there h r l;
    event = so (hlevel props) (λ y. event h y);
    one = so (hlevel (props, Operation-set)) (λ y. event-has-one h y);
    called = so (hlevel props) (λ y. called h y);
    written = so (hlevel (props, keys-set)) (λ y. written h y);
    replied = so (hlevel (props, keys-set)) (λ y. replied h y);
    value = known-value;
  }

-- ---- of a register that carries it

pub facts : (register : Register) → IsKnown register.arena.now register.id.0
facts register = known register.arena.now register.accepted register.id.0 register.known

-- the same where the arena and the number are known by other names
pub facts-at : (register : Register) (h : History) (r : ℕ) → register.arena.now ≡ h → register.id.0 ≡ r
    → IsKnown h r
facts-at register h r e n = subst (λ g. IsKnown g r) e (subst (IsKnown register.arena.now) n (facts register))

-- and its operations there
pub operations-at : (register : Register) {h : History} {id : RegId} → register.arena.now ≡ h
    → register.id ≡ id → operations_of register ≡ register_of h id.0
operations-at register {h} e n =
    ap (λ (g : History). register_of g register.id.0) e ∙ ap (λ (x : RegId). register_of h x.0) n
