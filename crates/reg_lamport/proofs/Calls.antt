-- The calls of a register: they stand among its operations, and ascend by operation-call.
use Rattle.std.proofs.Common.{◌≡◌, ℕ, zero, suc, ◌+◌, ◌<◌, ◌≤◌, ◌==◌, cond, Bool, true, false, List, [], ◌∷◌}
use Rattle.std.proofs.Common.{◌++◌, length, drop, Option, Some, None, inl, inr, refl, sym, ap, ◌∙◌, arith}
use Rattle.std.proofs.lemmas.List.Elements.{filter-append}
use Rattle.history_model.specs.Lists.{In, Before}
use Rattle.history_model.specs.History.{History}
use Rattle.history_model.specs.Lamport.{is_completed_read, completed_reads}
use Rattle.history_model.specs.Operations.{operation, operations, next_of, reply_in}
use Rattle.history_model.specs.declared.operation.Operation.{Operation}
use Rattle.history_model.specs.Operations.{begins, kind_in, op_kind, number_in, calls, calls_from, writes}
use Rattle.history_model.specs.Operations.{initial_write, initial_writes, of_register}
use Rattle.history_model.specs.Walking.{called_at}
use Rattle.history_model.specs.declared.event.Event.{Event}
use Rattle.history_model.proofs.Recorded.{of_register-In, In-of_register, initials-In}
use Rattle.history_model.proofs.Walking.{is-called, operation-call}
use Rattle.history_model.proofs.Lists.{append-In, In-right, filter-Before}
use Rattle.history_model.proofs.Plain.{plain-kind}

-- ---- among the operations

-- a called operation of the register is one of its calls
pub called-In : (h : History) (r : ℕ) (o : Operation) (p : ℕ) → In o (of_register r (operations h))
    → o.process ≡ Some p → In o (of_register r (calls h.events))
called-In h r o p i q =
    let x = of_register-In r (operations h) o i in
    elim (append-In o (initial_writes (length h.names)) (calls h.events) x.0) [
      | inl j ↦ absurd (let n = ap (λ (z : Operation). z.process) (initials-In (length h.names) o j).2 in
          let w : None ≡ Some p = sym n ∙ q in cc (w))
      | inr j ↦ In-of_register r (calls h.events) o j x.1
    ]

pub In-called : (h : History) (r : ℕ) (o : Operation) → In o (of_register r (calls h.events))
    → In o (of_register r (operations h))
In-called h r o i =
    let x = of_register-In r (calls h.events) o i in
    In-of_register r (operations h) o (In-right o (initial_writes (length h.names)) (calls h.events) x.0) x.1

pub called_at-process : (es : List Event) (i : ℕ) (e : Event) → (called_at es i e).process ≡ Some e.process
called_at-process es i e =
    go (length es + 2) (i + 2) (reply_in (next_of e.process (suc (i + 2)) (drop (suc i) es)))
  where
    go : (n t : ℕ) (r : Option (ℕ × Event)) → (operation n t e r).process ≡ Some e.process
    go n t None = refl
    go n t (Some r) = refl

pub called_at-kind : (es : List Event) (i : ℕ) (e : Event) → op_kind (called_at es i e) ≡ kind_in e.what
called_at-kind es i e =
    go (length es + 2) (i + 2) (reply_in (next_of e.process (suc (i + 2)) (drop (suc i) es)))
  where
    go : (n t : ℕ) (r : Option (ℕ × Event)) → op_kind (operation n t e r) ≡ kind_in e.what
    go n t None = plain-kind (kind_in e.what) e.value
    go n t (Some r) = plain-kind (kind_in e.what) (cond (writes (kind_in e.what)) e.value r.1.value)

pub called_at-register : (es : List Event) (i : ℕ) (e : Event)
    → (called_at es i e).register ≡ number_in e.register
called_at-register es i e =
    go (length es + 2) (i + 2) (reply_in (next_of e.process (suc (i + 2)) (drop (suc i) es)))
  where
    go : (n t : ℕ) (r : Option (ℕ × Event)) → (operation n t e r).register ≡ number_in e.register
    go n t None = refl
    go n t (Some r) = refl

pub called_at-call : (es : List Event) (i : ℕ) (e : Event) → (called_at es i e).call ≡ i + 2
called_at-call es i e =
    operation-call (length es + 2) (i + 2) e (reply_in (next_of e.process (suc (i + 2)) (drop (suc i) es)))

-- a pending call has as its reply the operation-call after all events
pub called_at-pending : (es : List Event) (i : ℕ) (e : Event) → (called_at es i e).completed ≡ false
    → (called_at es i e).reply ≡ length es + 2
called_at-pending es i e =
    go (length es + 2) (i + 2) (reply_in (next_of e.process (suc (i + 2)) (drop (suc i) es)))
  where
    go : (n t : ℕ) (r : Option (ℕ × Event)) → (operation n t e r).completed ≡ false
        → (operation n t e r).reply ≡ n
    go n t None h = refl
    go n t (Some r) h = absurd (cc (h))

-- ---- one before another

-- ---- they ascend

late : (n s : ℕ) (es : List Event) (a : Operation) → In a (calls_from n s es) → s ≤ a.call
late n s es a i =
    let x = is-called n s es a i in
    let t : a.call ≡ s + x.0 =
    ap (λ (o : Operation). o.call) x.2.2
    ∙ operation-call n (s + x.0) x.1
    (reply_in (next_of x.1.process (suc (s + x.0)) (drop (suc x.0) es))) in
    omega (arith, t)

ascend : (n s : ℕ) (es : List Event) (a b : Operation) → Before a b (calls_from n s es) → a.call < b.call
ascend n s [] a b h = elim h [ ]
ascend n s (e ∷ es) a b h = go (begins e (next_of e.process (suc s) es)) h (ascend n (suc s) es a b)
  where
    go : (c : Bool)
        → Before a b (cond c (operation n s e (reply_in (next_of e.process (suc s) es))
        ∷ calls_from n (suc s) es) (calls_from n (suc s) es))
        → (Before a b (calls_from n (suc s) es) → a.call < b.call) → a.call < b.call
    go true (inl k) rest =
        let t : a.call ≡ s =
        ap (λ (o : Operation). o.call) k.0
        ∙ operation-call n s e (reply_in (next_of e.process (suc s) es)) in
        omega (arith, t, late n (suc s) es b k.1)
    go true (inr k) rest = rest k
    go false k rest = rest k

pub calls-ascend : (es : List Event) (r : ℕ) (a b : Operation) → Before a b (of_register r (calls es))
    → a.call < b.call
calls-ascend es r a b h =
    ascend (length es + 2) 2 es a b (filter-Before (λ (o : Operation). o.register == r) a b (calls es) h)

-- ---- the completed reads

no-reads : (r m : ℕ) → completed_reads (of_register r (initial_writes m)) ≡ []
no-reads r zero = refl
no-reads r (suc m) = go (m == r) (no-reads r m)
  where
    go : (b : Bool) → completed_reads (of_register r (initial_writes m)) ≡ []
        → completed_reads
        (cond b (initial_write m ∷ of_register r (initial_writes m)) (of_register r (initial_writes m))) ≡ []
    go true rest = rest
    go false rest = rest

-- they are among the calls
pub reads-called : (h : History) (r : ℕ)
    → completed_reads (of_register r (operations h)) ≡ completed_reads (of_register r (calls h.events))
reads-called h r =
    let first = initial_writes (length h.names) in
    let rest = calls h.events in
    ap completed_reads (filter-append (λ (o : Operation). o.register == r) first rest)
    ∙ (filter-append is_completed_read (of_register r first) (of_register r rest)
    ∙ ap (λ xs. xs ++ completed_reads (of_register r rest)) (no-reads r (length h.names)))
