-- Counts of each register's calls, in a pass over the events: what was counted, and
-- what is left, are all calls of the register.
use Rattle.std.proofs.Common.{◌≡◌, ℕ, ◌+◌, ◌<◌, ◌≤◌, cond, Bool, true, false, not, List}
use Rattle.std.proofs.Common.{◌∷◌, length, set, replicate, is_none, slice_get, Some, None}
use Rattle.std.proofs.Common.{◌⊎◌, inl, inr, refl, sym, ap, subst, ◌∙◌, arith, ◌==◌}
use Rattle.std.specs.List.{count_by}
use Rattle.std.proofs.lemmas.Bool.{eq-eqb, ne_eqb, cases_eq}
use Rattle.std.proofs.lemmas.List.{length-set, length-replicate}
use Rattle.std.proofs.lemmas.List.Sums.{sum_by-cons, length-filter, count_by-le-length}
use Rattle.history_text.specs.declared.limits.TheConstants.{MAX_EVENTS}
use Rattle.history_model.specs.History.{History}
use Rattle.history_model.specs.Operations.{calls, is_write, writes}
use Rattle.history_model.specs.declared.operation.Operation.{Operation}
use Rattle.history_model.specs.Naming.{IsNamed, begins_at, op_shown}
use Rattle.history_model.specs.Walking.{called_at}
use Rattle.history_model.proofs.Walking.{named-is-called, calls-few}
use Rattle.history_model.proofs.Plain.{changes-kind}
use Rattle.history_model.specs.declared.ids.Oper.TheVariants.{Called}
use Rattle.history_model.specs.declared.event.Event.{Event}
use Rattle.history_model.specs.declared.op.Op.{Op}
use Rattle.reg_lamport.proofs.CountedEvents.{all-alike}
use Rattle.reg_lamport.proofs.InOrder.{calls_left, left-call, left-none, left-other}
use Rattle.reg_report.specs.Meaning.{calls_of, is_pending}
use Rattle.reg_report.specs.Tally.{AreTallies, HasRoom, IsTally, counted, no_calls}
use Rattle.reg_report.specs.declared.tally.Tally.{Tally}
use Rattle.history_model.proofs.Lists.{slice_get-set, slice_get-set_other, slice_get_inside}

-- what was counted of a register's calls before place n
pub record IsCounting (h : History) (r n : ℕ) (t : Tally) : Type 0 where
  pub write : count_by is_write (calls_of h r) ≡ t.writes + count_by is_write (calls_left h r n)
  pub read : count_by (λ o. not (is_write o)) (calls_of h r) ≡ t.reads
      + count_by (λ o. not (is_write o)) (calls_left h r n)
  pub open_calls : count_by is_pending (calls_of h r) ≡ t.pending + count_by is_pending (calls_left h r n)

-- the same of each register
pub record AreCounting (h : History) (n : ℕ) (ts : List Tally) : Type 0 where
  pub count : length ts ≡ length h.names
  pub each : (r : ℕ) (t : Tally) → slice_get ts r ≡ Some t → IsCounting h r n t

-- ---- the pass begins

none-yet : (h : History) (r : ℕ) → IsCounting h r 0 no_calls
none-yet h r = record { write = omega arith; read = omega arith; open_calls = omega arith }

pub counting-begins : (h : History) (ts : List Tally) (n : ℕ) → ts ≡ replicate n no_calls → n ≡ length h.names
    → AreCounting h 0 ts
counting-begins h ts n q few = record {
  count = ap length q ∙ (length-replicate n no_calls ∙ few);
  each =
      λ r t at. subst (IsCounting h r 0)
      (sym (all-alike n no_calls r t (sym (ap (λ xs. slice_get xs r) q) ∙ at))) (none-yet h r);
}

-- ---- it goes on

-- an event that adds nothing to a register
skip : (h : History) (r n : ℕ) (t : Tally) → calls_left h r n ≡ calls_left h r (n + 1) → IsCounting h r n t
    → IsCounting h r (n + 1) t
skip h r n t q c = record {
  write = c.write ∙ ap (λ xs. t.writes + count_by is_write xs) q;
  read = c.read ∙ ap (λ xs. t.reads + count_by (λ o. not (is_write o)) xs) q;
  open_calls = c.open_calls ∙ ap (λ xs. t.pending + count_by is_pending xs) q;
}

-- an event that begins no operation adds nothing
pub counting-skips : (h : History) (n : ℕ) (ts : List Tally) (e : Event) → AreCounting h n ts
    → slice_get h.events n ≡ Some e → begins_at h.events n e ≡ false → AreCounting h (n + 1) ts
counting-skips h n ts e c at other = record {
  count = c.count;
  each = λ r t q. skip h r n t (left-other h r n e at other) (c.each r t q);
}

pending-shown : (o : Operation) → is_none (op_shown o).reply ≡ is_pending o
pending-shown o = go o.completed
  where
    go : (b : Bool) → is_none (cond b (Some o.reply) None) ≡ not b
    go true = refl
    go false = refl

count-cons : (p : Operation → Bool) (a : Operation) (xs : List Operation)
    → count_by p (a ∷ xs) ≡ cond (p a) 1 0 + count_by p xs
count-cons p a xs = sum_by-cons (λ x. cond (p x) 1 0) a xs

one-more : (b : Bool) (n m : ℕ) → n + (cond b 1 0 + m) ≡ cond b (n + 1) n + m
one-more true n m = omega arith
one-more false n m = omega arith

one-less : (b : Bool) (n m : ℕ) → n + (cond (not b) 1 0 + m) ≡ cond b n (n + 1) + m
one-less true n m = omega arith
one-less false n m = omega arith

-- a call adds itself to its register
more : (h : History) (r n : ℕ) (t : Tally) (a : Operation) (p : Op)
    → calls_left h r n ≡ a ∷ calls_left h r (n + 1) → p ≡ op_shown a → IsCounting h r n t
    → IsCounting h r (n + 1) (counted p t)
more h r n t a p q shown c =
    let rest = calls_left h r (n + 1) in
    let w : is_write a ≡ writes p.kind =
    changes-kind a.act ∙ sym (ap (λ (x : Op). writes x.kind) shown) in
    let u : is_pending a ≡ is_none p.reply = sym (ap (λ (x : Op). is_none x.reply) shown ∙ pending-shown a) in
    record {
      write =
          c.write ∙ (ap (λ xs. t.writes + count_by is_write xs) q
          ∙ (ap (λ m. t.writes + m) (count-cons is_write a rest)
          ∙ (one-more (is_write a) t.writes (count_by is_write rest)
          ∙ ap (λ b. cond b (t.writes + 1) t.writes + count_by is_write rest) w)));
      read =
          c.read ∙ (ap (λ xs. t.reads + count_by (λ o. not (is_write o)) xs) q
          ∙ (ap (λ m. t.reads + m) (count-cons (λ o. not (is_write o)) a rest)
          ∙ (one-less (is_write a) t.reads (count_by (λ o. not (is_write o)) rest)
          ∙ ap (λ b. cond b t.reads (t.reads + 1) + count_by (λ o. not (is_write o)) rest) w)));
      open_calls =
          c.open_calls ∙ (ap (λ xs. t.pending + count_by is_pending xs) q
          ∙ (ap (λ m. t.pending + m) (count-cons is_pending a rest)
          ∙ (one-more (is_pending a) t.pending (count_by is_pending rest)
          ∙ ap (λ b. cond b (t.pending + 1) t.pending + count_by is_pending rest) u)));
    }

pub counting-adds : (h : History) (n : ℕ) (ts us : List Tally) (e : Event) (a : Operation) (p : Op)
    → AreCounting h n ts → slice_get h.events n ≡ Some e → begins_at h.events n e ≡ true
    → IsNamed h (Called (record { 0 = n })) a → p ≡ op_shown a
    → ((t : Tally) → slice_get ts a.register ≡ Some t → us ≡ set ts a.register (counted p t))
    → a.register < length h.names → AreCounting h (n + 1) us
counting-adds h n ts us e a p c at call named shown new within =
    let x = slice_get_inside ts a.register (omega (arith, c.count, within)) in
    let v = new x.0 x.1 in
    record {
      count = ap length v ∙ (length-set ts a.register (counted p x.0) ∙ c.count);
      each = λ r t q. own r t x.0 x.1 (cases_eq r a.register) (sym (ap (λ xs. slice_get xs r) v) ∙ q);
    }
  where
    is : a ≡ called_at h.events n e
    is = named-is-called h (record { 0 = n }) e a at named

    left : (r : ℕ)
        → calls_left h r n ≡ cond (a.register == r) (a ∷ calls_left h r (n + 1)) (calls_left h r (n + 1))
    left r =
        left-call h r n e at call
        ∙ ap (λ (b : Operation).
        cond (b.register == r) (b ∷ calls_left h r (n + 1)) (calls_left h r (n + 1))) (sym is)

    own : (r : ℕ) (t was : Tally) → slice_get ts a.register ≡ Some was
        → (r ≡ a.register) ⊎ (r ≡ a.register → ⊥) → slice_get (set ts a.register (counted p was)) r ≡ Some t
        → IsCounting h r (n + 1) t
    own r t was there (inl q) got =
        let here = slice_get-set ts a.register (counted p was) (omega (arith, c.count, within)) in
        let moved = ap (slice_get (set ts a.register (counted p was))) q in
        let same : t ≡ counted p was = cc (got, here, moved) in
        let d = eq-eqb a.register r (sym q) in
        subst (IsCounting h r (n + 1)) (sym same)
        (more h r n was a p (left r
        ∙ ap (λ b. cond b (a ∷ calls_left h r (n + 1)) (calls_left h r (n + 1))) d) shown
        (c.each r was (ap (slice_get ts) q ∙ there)))
    own r t was there (inr ne) got =
        let d = ne_eqb a.register r (λ q. ne (sym q)) in
        skip h r n t (left r ∙ ap (λ b. cond b (a ∷ calls_left h r (n + 1)) (calls_left h r (n + 1))) d)
        (c.each r t (sym (slice_get-set_other ts a.register r (counted p was) ne) ∙ got))

-- ---- it ends

pub counting-ends : (h : History) (n : ℕ) (ts : List Tally) → length h.events ≤ n → AreCounting h n ts
    → AreTallies h ts
counting-ends h n ts l c = record { count = c.count; each = λ r t q. ends r t (c.each r t q) }
  where
    nothing : (p : Operation → Bool) (r : ℕ) → count_by p (calls_left h r n) ≡ 0
    nothing p r = ap (count_by p) (left-none h r n l)

    ends : (r : ℕ) (t : Tally) → IsCounting h r n t → IsTally (calls_of h r) t
    ends r t c = record {
      write = omega (arith, c.write, nothing is_write r);
      read = omega (arith, c.read, nothing (λ o. not (is_write o)) r);
      open_calls = omega (arith, c.open_calls, nothing is_pending r);
    }

-- ---- no count passes the number of events

pub count-few : (p : Operation → Bool) (h : History) (r : ℕ) → count_by p (calls_of h r) ≤ length h.events
count-few p h r =
    let a = count_by-le-length p (calls_of h r) in
    let b = length-filter (λ (o : Operation). o.register == r) (calls h.events) in
    let d = count_by-le-length (λ (o : Operation). o.register == r) (calls h.events) in
    let c = calls-few (length h.events + 2) 2 h.events in
    omega arith

pub tally-room : (h : History) (n : ℕ) (ts : List Tally) → AreCounting h n ts → length h.events ≤ MAX_EVENTS
    → (r : ℕ) (t : Tally) → slice_get ts r ≡ Some t → HasRoom t
tally-room h n ts cs few r t q =
    let c = cs.each r t q in
    let a = count-few is_write h r in
    let b = count-few (λ o. not (is_write o)) h r in
    let d = count-few is_pending h r in
    record {
      writes = omega (arith, c.write);
      reads = omega (arith, c.read);
      pending = omega (arith, c.open_calls);
    }
