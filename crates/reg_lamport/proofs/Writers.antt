-- A walk over a register's events meets the call of each of its writes.
use Rattle.std.proofs.Common.{◌≡◌, ℕ, ◌&&◌, ◌==◌, cond, Bool, true, false, not, List, ◌∷◌, suc, ◌+◌, drop}
use Rattle.std.proofs.Common.{length, slice_get, Option, Some, None, ◌⊎◌, inl, inr, refl, sym, ap, subst, ◌∙◌}
use Rattle.std.proofs.lemmas.Bool.{eqb-true, eq-eqb, false≢true, and_parts}
use Rattle.history_model.specs.Lists.{In}
use Rattle.history_model.specs.History.{History, IsRecorded}
use Rattle.history_model.specs.Lamport.{HasSingleWriter}
use Rattle.history_model.specs.Operations.{operations, calls, calls_from, op_kind}
use Rattle.history_model.specs.declared.operation.Operation.{Operation}
use Rattle.history_model.specs.Operations.{of_register, IsWrite, kind_in, writes}
use Rattle.history_model.specs.Walking.{IsFirstOf, IsNextOf, by_register, called_at, calls_at, IsOnWalk}
use Rattle.history_model.specs.Naming.{begins_at}
use Rattle.history_model.proofs.Recorded.{of_register-In, In-of_register}
use Rattle.history_model.proofs.Belonging.{called-one}
use Rattle.history_model.proofs.Named.{calls-have-registers}
use Rattle.history_model.proofs.Walking.{HaveRegisters, number-known, drop-at, walk-begins}
use Rattle.history_model.proofs.Walking.{walk-goes, walk-first, walk-next, event-at}
use Rattle.history_model.specs.declared.ids.EvId.{EvId}
use Rattle.history_model.specs.declared.event.Event.{Event}
use Rattle.history_model.proofs.Plain.{changes-kind}
use Rattle.reg_lamport.specs.Writers.{begins_write, is_another}
use Rattle.reg_lamport.proofs.Calls.{called-In, In-called, called_at-process}
use Rattle.reg_lamport.proofs.Calls.{called_at-register, called_at-kind}

-- ---- a call of the register

-- somebody called each call
called-somebody : (h : History) (r : ℕ) (o : Operation) → In o (of_register r (calls h.events))
    → o.process ≡ None → ⊥
called-somebody h r o i q =
    let x = of_register-In r (calls h.events) o i in
    let c = called-one h.events o x.0 in
    let n : None ≡ Some c.1.process = sym q ∙ c.2.process in
    cc (n)

-- what a walk still meets is the operation that its event begins, or met later
pub meets : (r : ℕ) (es : List Event) (i : EvId) (e : Event) (next : Option EvId) (o : Operation)
    → HaveRegisters es → slice_get es i.0 ≡ Some e → by_register e ≡ Some r → IsNextOf by_register es i.0 next
    → In o (calls_at es r (Some i)) → ((begins_at es i.0 e ≡ true) × (o ≡ called_at es i.0 e))
    ⊎ In o (calls_at es r next)
meets r es i e next o has at own n h =
    go (begins_at es i.0 e) refl (subst (In o) (walk-goes r es i e next has at own n) h)
  where
    go : (b : Bool) → begins_at es i.0 e ≡ b
        → In o (cond b (called_at es i.0 e ∷ calls_at es r next) (calls_at es r next))
        → ((begins_at es i.0 e ≡ true) × (o ≡ called_at es i.0 e)) ⊎ In o (calls_at es r next)
    go true d (inl q) = inl (d, q)
    go true d (inr j) = inr j
    go false d j = inr j

-- the operation that its event begins is one
pub met : (r : ℕ) (es : List Event) (i : EvId) (e : Event) → slice_get es i.0 ≡ Some e
    → by_register e ≡ Some r → begins_at es i.0 e ≡ true → In (called_at es i.0 e) (calls_at es r (Some i))
met r es i e at own call =
    let n = length es + 2 in
    let o = called_at es i.0 e in
    In-of_register r (calls_from n (i.0 + 2) (drop i.0 es)) o
    (subst (λ xs. In o (calls_from n (i.0 + 2) xs)) (sym (drop-at es i.0 e at))
    (subst (λ b. In o
    (cond b (o ∷ calls_from n (suc (i.0 + 2)) (drop (suc i.0) es))
    (calls_from n (suc (i.0 + 2)) (drop (suc i.0) es)))) (sym call) (inl refl)))
    (called_at-register es i.0 e ∙ number-known e r own)

-- and what is met later is among what is met from here
pub met-later : (r : ℕ) (es : List Event) (i : EvId) (e : Event) (next : Option EvId) (o : Operation)
    → HaveRegisters es → slice_get es i.0 ≡ Some e → by_register e ≡ Some r → IsNextOf by_register es i.0 next
    → In o (calls_at es r next) → In o (calls_at es r (Some i))
met-later r es i e next o has at own n h =
    subst (In o) (sym (walk-goes r es i e next has at own n)) (go (begins_at es i.0 e))
  where
    go : (b : Bool) → In o (cond b (called_at es i.0 e ∷ calls_at es r next) (calls_at es r next))
    go true = inr h
    go false = h

-- ---- the writer so far

-- of the calls, those that the walk has met and that write are the writer's
pub record IsWriterSoFar (h : History) (r : ℕ) (writer : Option ℕ) (next : Option EvId) : Type 0 where
  pub on : IsOnWalk h.events r next
  pub inside : (o : Operation) → In o (calls_at h.events r next) → In o (of_register r (calls h.events))
  pub own : (o : Operation) → In o (of_register r (calls h.events)) → IsWrite o
      → In o (calls_at h.events r next) ⊎ (o.process ≡ writer)
  pub known : (q : ℕ) → writer ≡ Some q → (o : Operation) × In o (of_register r (calls h.events)) × IsWrite o
      × (o.process ≡ Some q)

pub writer-begins : (h : History) → IsRecorded h → (r : ℕ) (next : Option EvId)
    → IsFirstOf by_register h.events r next → IsWriterSoFar h r None next
writer-begins h rec r next first =
    let e = walk-begins r h.events next (calls-have-registers h rec) first in
    record {
      on = walk-first r h.events next first;
      inside = λ o i. subst (In o) (sym e) i;
      own = λ o i w. inl (subst (In o) e i);
      known = λ q n. absurd (cc (n));
    }

module _ (h : History) (rec : IsRecorded h) (r : ℕ) (writer : Option ℕ) (i : EvId) (e : Event)
    (so_far : IsWriterSoFar h r writer (Some i)) (at : slice_get h.events i.0 ≡ Some e) where
  own-event : by_register e ≡ Some r
  own-event =
      let x =
      event-at r h.events i so_far.on in let same : x.0 ≡ e =
      let a = x.1 in cc (a, at) in ap by_register (sym same) ∙ x.2

  is-met : begins_write h.events i.0 e ≡ true → In (called_at h.events i.0 e) (of_register r (calls h.events))
      × IsWrite (called_at h.events i.0 e)
  is-met w =
      let x = and_parts (begins_at h.events i.0 e) (writes (kind_in e.what)) w in (
        so_far.inside (called_at h.events i.0 e) (met r h.events i e at own-event x.0),
        changes-kind (called_at h.events i.0 e).act ∙ (ap writes (called_at-kind h.events i.0 e) ∙ x.1),
      )

  -- an event that begins no write leaves the writer
  pub writer-stays : (next : Option EvId) → IsNextOf by_register h.events i.0 next
      → begins_write h.events i.0 e ≡ false → IsWriterSoFar h r writer next
  writer-stays next n none = record {
    on = walk-next r h.events i next so_far.on n;
    inside =
        λ o j. so_far.inside o
        (met-later r h.events i e next o (calls-have-registers h rec) at own-event n j);
    own = λ o j w. elim (so_far.own o j w) [
      | inr p ↦ inr p
      | inl k ↦ elim (meets r h.events i e next o (calls-have-registers h rec) at own-event n k) [
        | inr l ↦ inl l
        | inl c ↦ absurd
            (false≢true (sym none
            ∙ writes-call c.0
            (ap writes (sym (ap op_kind c.1 ∙ called_at-kind h.events i.0 e)) ∙ (sym (changes-kind o.act)
            ∙ w))))
      ]
    ];
    known = so_far.known;
  }
    where
      writes-call : begins_at h.events i.0 e ≡ true → writes (kind_in e.what) ≡ true
          → begins_write h.events i.0 e ≡ true
      writes-call a b = ap (λ c. c && writes (kind_in e.what)) a ∙ b

  -- the call of a write by the writer, or the first
  pub writer-goes : (next : Option EvId) → IsNextOf by_register h.events i.0 next
      → begins_write h.events i.0 e ≡ true → is_another writer e.process ≡ false
      → IsWriterSoFar h r (Some e.process) next
  writer-goes next n w same = record {
    on = walk-next r h.events i next so_far.on n;
    inside =
        λ o j. so_far.inside o
        (met-later r h.events i e next o (calls-have-registers h rec) at own-event n j);
    own = λ o j u. elim (so_far.own o j u) [
      | inr p ↦ inr (from writer refl o j p)
      | inl k ↦ elim (meets r h.events i e next o (calls-have-registers h rec) at own-event n k) [
        | inr l ↦ inl l
        | inl c ↦ inr (ap (λ (z : Operation). z.process) c.1 ∙ called_at-process h.events i.0 e)
      ]
    ];
    known =
        λ q s. let m = is-met w in (called_at h.events i.0 e, m.0, m.1, called_at-process h.events i.0 e ∙ s);
  }
    where
      not-false : (b : Bool) → not b ≡ false → b ≡ true
      not-false true h = refl
      not-false false h = absurd (false≢true (sym h))

      from : (v : Option ℕ) → writer ≡ v → (o : Operation) → In o (of_register r (calls h.events))
          → o.process ≡ writer → o.process ≡ Some e.process
      from None q o j p = absurd (called-somebody h r o j (p ∙ q))
      from (Some k) q o j p =
          let b : not (k == e.process) ≡ false = ap (λ v. is_another v e.process) (sym q) ∙ same in
          p ∙ (q ∙ ap Some (eqb-true _ _ (not-false (k == e.process) b)))

  -- the call of a write by another process
  pub not-single : begins_write h.events i.0 e ≡ true → is_another writer e.process ≡ true
      → HasSingleWriter (of_register r (operations h)) → ⊥
  not-single w other single = go writer refl
    where
      differ : (c : Bool) → not c ≡ true → c ≡ true → ⊥
      differ true a b = false≢true a
      differ false a b = false≢true b

      go : (v : Option ℕ) → writer ≡ v → ⊥
      go None q = false≢true (ap (λ v. is_another v e.process) (sym q) ∙ other)
      go (Some k) q =
          let b : not (k == e.process) ≡ true = ap (λ v. is_another v e.process) (sym q) ∙ other in
          let x = so_far.known k q in
          let m = is-met w in
          let same : k ≡ e.process =
          single x.0 (called_at h.events i.0 e) k e.process (In-called h r x.0 x.1)
          (In-called h r (called_at h.events i.0 e) m.0) x.2 m.1 x.3
          (called_at-process h.events i.0 e) in
          differ (k == e.process) b (eq-eqb k e.process same)

-- when the walk has ended, the writer is the only one
pub writer-ends : (h : History) (r : ℕ) (writer : Option ℕ) → IsWriterSoFar h r writer None
    → HasSingleWriter (of_register r (operations h))
writer-ends h r writer s v w p q i j u x a b =
    let c = from v p i u a in
    let d = from w q j x b in
    let e : Some p ≡ Some q = c ∙ sym d in
    cc (e)
  where
    from : (o : Operation) (p : ℕ) → In o (of_register r (operations h)) → IsWrite o → o.process ≡ Some p
        → Some p ≡ writer
    from o p i u a = elim (s.own o (called-In h r o p i a) u) [ inl k ↦ elim k [ ] | inr m ↦ sym a ∙ m ]
