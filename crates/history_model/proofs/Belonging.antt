-- Each called operation of an accepted history has its call among the
-- events, and its reply where it is completed.
use Rattle.std.proofs.Common.{◌≡◌, ℕ, suc, ◌+◌, ◌<◌, ◌&&◌, not, cond, Bool}
use Rattle.std.proofs.Common.{true, false, List, length, drop, slice_get, Option}
use Rattle.std.proofs.Common.{Some, None, ◌⊎◌, inl, inr, refl, sym, ap, ◌∙◌, arith}
use Rattle.std.proofs.lemmas.Bool.{false≢true}
use Rattle.history_text.specs.declared.event.OpKind.{OpKind}
use Rattle.history_text.specs.declared.event.Val.{Val}
use Rattle.history_model.specs.Lists.{In}
use Rattle.history_model.specs.Acts.{is_plain}
use Rattle.history_model.specs.Operations.{operation, next_of, reply_in, has_failed, begins}
use Rattle.history_model.specs.declared.operation.Operation.{Operation}
use Rattle.history_model.specs.Operations.{is_a_call, is_a_reply, is_a_fail, kind_in, number_in, calls_from}
use Rattle.history_model.specs.Operations.{calls, writes, IsWrite, is_write, IsCompleted, op_kind, value_of}
use Rattle.history_model.specs.declared.event.Event.{Event}
use Rattle.history_model.specs.Operations.{plain_calls}
use Rattle.history_model.proofs.Calling as all
use Rattle.history_model.proofs.Walking.{is-called, begins-call}
use Rattle.history_model.proofs.Plain.{plain-changes, plain-kind, plain-plain, read-gives, written-value}

-- ---- the next event of a process

abbrev pub IsNextAt : List Event → ℕ → ℕ → ℕ → Event → Type 0
IsNextAt evs k p j g = all.IsNextAt plain_calls evs k p j g

abbrev pub IsLastAt : List Event → ℕ → ℕ → Type 0
IsLastAt evs k p = all.IsLastAt plain_calls evs k p

pub next-at : (evs : List Event) (k p : ℕ) (o : Option (ℕ × Event))
    → next_of p (suc (2 + k)) (drop (suc k) evs) ≡ o
    → ((o ≡ None) × IsLastAt evs k p) ⊎ ((j : ℕ) × (g : Event) × (o ≡ Some (j + 2, g)) × IsNextAt evs k p j g)
next-at = all.next-at plain_calls

-- ---- an operation and its events

-- the operation has no reply: the next event of its process, if there is one, is neither a reply nor a fail
pub record IsPending (evs : List Event) (o : Operation) (k p : ℕ) : Type 0 where
  pub open_one : o.completed ≡ false
  pub reply : o.reply ≡ length evs + 2
  pub rest : IsLastAt evs k p
      ⊎ ((j : ℕ) × (g : Event) × IsNextAt evs k p j g × (is_a_reply g.what ≡ false)
      × (is_a_fail g.what ≡ false))

-- the operation's reply is the event g at place j
pub record IsReplied (evs : List Event) (o : Operation) (k p j : ℕ) (g : Event) : Type 0 where
  pub completed : IsCompleted o
  pub reply : o.reply ≡ j + 2
  pub there : slice_get evs j ≡ Some g
  pub is_reply : is_a_reply g.what ≡ true
  pub process : g.process ≡ p
  pub order : k < j
  pub between : (u : ℕ) (y : Event) → k < u → u < j → slice_get evs u ≡ Some y → y.process ≡ p → ⊥
  pub value : is_write o ≡ false → value_of o ≡ g.value

-- the operation's call is the event e at place k
pub record IsCallOf (evs : List Event) (o : Operation) (k : ℕ) (e : Event) : Type 0 where
  pub there : slice_get evs k ≡ Some e
  pub is_call : is_a_call e.what ≡ true
  pub begun : begins e (next_of e.process (suc (2 + k)) (drop (suc k) evs)) ≡ true
  pub line : o.line ≡ e.line
  pub call : o.call ≡ k + 2
  pub process : o.process ≡ Some e.process
  pub register : o.register ≡ number_in e.register
  pub kind : op_kind o ≡ kind_in e.what
  pub plain : is_plain o.act ≡ true
  pub writes_as : is_write o ≡ writes (kind_in e.what)
  pub value : (v : Val) → IsWrite o → e.value ≡ Some v → value_of o ≡ Some v
  pub unread : is_write o ≡ false → o.completed ≡ false → value_of o ≡ e.value
  pub ends : IsPending evs o k e.process ⊎ ((j : ℕ) × (g : Event) × IsReplied evs o k e.process j g)

begins-kept : (e : Event) (next : Option (ℕ × Event)) → begins e next ≡ true → has_failed next ≡ false
begins-kept e next h = go (is_a_call e.what) (has_failed next) h
  where
    go : (b f : Bool) → (b && not f) ≡ true → f ≡ false
    go true false h = refl
    go true true h = absurd (false≢true h)
    go false f h = absurd (false≢true h)

-- an operation and its call, by the reply that it has or doesn't have
module _ (evs : List Event) (o : Operation) (k : ℕ) (e : Event) (at : slice_get evs k ≡ Some e)
    (begun : begins e (next_of e.process (suc (2 + k)) (drop (suc k) evs)) ≡ true) where
  without-reply : o ≡ operation (length evs + 2) (2 + k) e None
      → (IsLastAt evs k e.process
      ⊎ ((j : ℕ) × (g : Event) × IsNextAt evs k e.process j g × (is_a_reply g.what ≡ false)
      × (is_a_fail g.what ≡ false))) → IsCallOf evs o k e
  without-reply q rest = record {
    there = at;
    is_call = begins-call e (next_of e.process (suc (2 + k)) (drop (suc k) evs)) begun;
    begun = begun;
    line = ap (λ (x : Operation). x.line) q;
    call = ap (λ (x : Operation). x.call) q ∙ omega arith;
    process = ap (λ (x : Operation). x.process) q;
    register = ap (λ (x : Operation). x.register) q;
    kind = ap op_kind q ∙ plain-kind (kind_in e.what) e.value;
    plain = ap (λ (x : Operation). is_plain x.act) q ∙ plain-plain (kind_in e.what) e.value;
    writes_as = ap is_write q ∙ plain-changes (kind_in e.what) e.value;
    unread =
        λ r c. ap value_of q
        ∙ read-gives (kind_in e.what) e.value
        (sym (plain-changes (kind_in e.what) e.value) ∙ (sym (ap is_write q) ∙ r));
    value =
        λ v w s. ap value_of q
        ∙ written-value (kind_in e.what) e.value v
        (sym (plain-changes (kind_in e.what) e.value) ∙ (sym (ap is_write q) ∙ w)) s;
    ends = inl (record {
      open_one = ap (λ (x : Operation). x.completed) q;
      reply = ap (λ (x : Operation). x.reply) q;
      rest = rest;
    });
  }

  with-reply : (j : ℕ) (g : Event) → o ≡ operation (length evs + 2) (2 + k) e (Some (j + 2, g))
      → is_a_reply g.what ≡ true → IsNextAt evs k e.process j g → IsCallOf evs o k e
  with-reply j g q r x = record {
    there = at;
    is_call = begins-call e (next_of e.process (suc (2 + k)) (drop (suc k) evs)) begun;
    begun = begun;
    line = ap (λ (y : Operation). y.line) q;
    call = ap (λ (y : Operation). y.call) q ∙ omega arith;
    process = ap (λ (y : Operation). y.process) q;
    register = ap (λ (y : Operation). y.register) q;
    kind = ap op_kind q ∙ plain-kind kind value;
    plain = ap (λ (y : Operation). is_plain y.act) q ∙ plain-plain kind value;
    writes_as = same;
    unread = λ r c. absurd (false≢true (sym c ∙ ap (λ (y : Operation). y.completed) q));
    value =
        λ v w s. ap value_of q
        ∙ written-value kind value v (sym same ∙ w)
        (ap (λ b. cond b e.value g.value) (sym same ∙ w) ∙ s);
    ends = inr (
      j,
      g,
      record {
        completed = ap (λ (y : Operation). y.completed) q;
        reply = ap (λ (y : Operation). y.reply) q;
        there = x.there;
        is_reply = r;
        process = x.process;
        order = x.order;
        between = x.between;
        value =
            λ r. ap value_of q
            ∙ (read-gives kind value (sym same ∙ r) ∙ ap (λ b. cond b e.value g.value) (sym same ∙ r));
      },
    );
  }
    where
      kind : OpKind
      kind = kind_in e.what

      value : Option Val
      value = cond (writes kind) e.value g.value

      same : is_write o ≡ writes kind
      same = ap is_write q ∙ plain-changes kind value

  call-of : o ≡ operation (length evs + 2) (2 + k) e
      (reply_in (next_of e.process (suc (2 + k)) (drop (suc k) evs))) → IsCallOf evs o k e
  call-of q = elim (next-at evs k e.process (next_of e.process (suc (2 + k)) (drop (suc k) evs)) refl) [
    | inl x ↦ without-reply (q
        ∙ ap (λ (y : Option (ℕ × Event)). operation (length evs + 2) (2 + k) e (reply_in y)) x.0) (inl x.1)
    | inr x ↦ by_reply x.0 x.1 x.2 x.3 (is_a_reply x.1.what) refl
  ]
    where
      by_reply : (j : ℕ) (g : Event) → next_of e.process (suc (2 + k)) (drop (suc k) evs) ≡ Some (j + 2, g)
          → IsNextAt evs k e.process j g → (b : Bool) → is_a_reply g.what ≡ b → IsCallOf evs o k e
      by_reply j g n x true r =
          with-reply j g (q
          ∙ ap (λ (y : Option (ℕ × Event)). operation (length evs + 2) (2 + k) e y) (ap reply_in n
          ∙ ap (λ b. cond b (Some (j + 2, g)) None) r)) r x
      by_reply j g n x false r =
          without-reply (q
          ∙ ap (λ (y : Option (ℕ × Event)). operation (length evs + 2) (2 + k) e y) (ap reply_in n
          ∙ ap (λ b. cond b (Some (j + 2, g)) None) r))
          (inr (
            j,
            g,
            x,
            r,
            sym (ap has_failed n)
                ∙ begins-kept e (next_of e.process (suc (2 + k)) (drop (suc k) evs)) begun,
          ))

pub called-one : (evs : List Event) (o : Operation) → In o (calls evs)
    → (k : ℕ) × (e : Event) × IsCallOf evs o k e
called-one evs o h =
    let x = is-called (length evs + 2) 2 evs o h in
    let y = x.2 in
    (x.0, x.1, call-of evs o x.0 x.1 y.0 y.1 y.2)

-- two operations of one call are one
pub same-call : (evs : List Event) (a b : Operation) → In a (calls evs) → In b (calls evs)
    → a.call ≡ b.call → a ≡ b
same-call = all.same-call plain_calls

-- the call at a place is an operation's, if it didn't fail
pub call-In : (n s : ℕ) (es : List Event) (k : ℕ) (e : Event) → slice_get es k ≡ Some e
    → begins e (next_of e.process (suc (s + k)) (drop (suc k) es)) ≡ true
    → In (operation n (s + k) e (reply_in (next_of e.process (suc (s + k)) (drop (suc k) es))))
    (calls_from n s es)
call-In = all.call-In plain_calls
