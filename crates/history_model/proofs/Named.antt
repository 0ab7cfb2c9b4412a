-- Operations, their names and their events belong to one another, one to one.
use Rattle.std.proofs.Common.{◌≡◌, ℕ, suc, ◌+◌, ◌-◌, ◌<◌, ◌&&◌, ◌||◌, not, true, false, List, []}
use Rattle.std.proofs.Common.{◌++◌, length, drop, take, slice_get, Option, Some, None, ◌⊎◌, inl, inr}
use Rattle.std.proofs.Common.{refl, sym, ap, subst, ◌∙◌, arith, option_map, option_and_then}
use Rattle.std.proofs.lemmas.Bool.{cases_order, false≢true, or_cases, or_right}
use Rattle.history_text.specs.declared.event.OpKind.{OpKind}
use Rattle.history_text.specs.declared.event.OpKind.TheVariants.{ReadOp, WriteOp}
use Rattle.history_text.specs.declared.event.Val.{Val}
use Rattle.history_text.specs.declared.event.Val.TheVariants.{Null, Int}
use Rattle.history_text.specs.declared.event.LineEvent.{LineEvent}
use Rattle.history_model.specs.Lists.{In}
use Rattle.history_model.specs.Refusals.{AreAccepted}
use Rattle.history_model.specs.History.{History, IsRecorded, events_after, register_names}
use Rattle.history_model.specs.Operations.{operation, next_of, reply_in, has_failed, begins}
use Rattle.history_model.specs.declared.operation.Operation.{Operation}
use Rattle.history_model.specs.Operations.{is_a_call, is_a_reply, is_a_fail, kind_in, number_in, calls}
use Rattle.history_model.specs.Operations.{writes, is_write, IsWrite, IsCompleted}
use Rattle.history_model.specs.Operations.{IsHistory, Precedes, op_kind, value_of}
use Rattle.history_model.specs.Operations.{initial_write, initial_writes, operations, of_register}
use Rattle.history_model.specs.Lamport.{HasSingleWriter}
use Rattle.history_model.specs.Walking.{by_register, key_at}
use Rattle.history_model.specs.Naming.{IsNamed, IsOper, IsEventOf, IsEventIn}
use Rattle.history_model.specs.Naming.{begins_at, belongs_at, name_of, name_by}
use Rattle.history_model.specs.declared.ids.RegId.{RegId}
use Rattle.history_model.specs.declared.ids.EvId.{EvId}
use Rattle.history_model.specs.declared.ids.Oper.{Oper}
use Rattle.history_model.specs.declared.ids.Oper.TheVariants.{Initial, Called}
use Rattle.history_model.specs.declared.event.Event.{Event}
use Rattle.history_model.specs.declared.event.What.{What}
use Rattle.history_model.specs.declared.event.What.TheVariants.{Call, Reply, Fail, Crash}
use Rattle.history_model.proofs.Accepted.{line-at, call-asks, asked-call, asking, call-line, reply-line}
use Rattle.history_model.proofs.Turns.{IsReplyTo, reply-event, write-value, register-below, register-named}
use Rattle.history_model.proofs.Belonging.{IsReplied, IsCallOf, next-at, called-one, same-call, call-In}
use Rattle.history_model.proofs.Walking.{HaveRegisters, operation-call}
use Rattle.history_model.proofs.Recorded.{initials-In, In-initials, In-of_register}
use Rattle.history_model.proofs.Recorded.{one-event, apart-called, not_before, replied-to}
use Rattle.history_model.proofs.Lists.{append-In, In-left, In-right}

-- ---- names

-- an operation is an initial write or a call
split : (m : ℕ) (evs : List Event) (o : Operation) → In o (initial_writes m ++ calls evs)
    → ((j : ℕ) × (j < m) × (o ≡ initial_write j)) ⊎ In o (calls evs)
split m evs o h =
    elim (append-In o (initial_writes m) (calls evs) h) [ inl i ↦ inl (initials-In m o i) | inr i ↦ inr i ]

name-initial : (o : Operation) (j : ℕ) → o ≡ initial_write j → name_of o ≡ Initial (record { 0 = j })
name-initial o j e = ap name_of e

name-called : (evs : List Event) (o : Operation) (k : ℕ) (e : Event) → IsCallOf evs o k e
    → name_of o ≡ Called (record { 0 = k })
name-called evs o k e c =
    let t : o.call - 2 ≡ k = omega (arith, c.call) in
    ap (λ p. name_by p o) c.process ∙ ap (λ n. Called (record { 0 = n })) t

-- the time of the next event tells nothing of the call
pub begun-at : (evs : List Event) (k : ℕ) (e : Event)
    → begins e (next_of e.process (suc (2 + k)) (drop (suc k) evs)) ≡ true → begins_at evs k e ≡ true
begun-at evs k e h =
    let t : k + 2 ≡ 2 + k =
    omega arith in ap (λ m. begins e (next_of e.process (suc m) (drop (suc k) evs))) t ∙ h

pub at-begun : (evs : List Event) (k : ℕ) (e : Event) → begins_at evs k e ≡ true
    → begins e (next_of e.process (suc (2 + k)) (drop (suc k) evs)) ≡ true
at-begun evs k e h =
    let t : 2 + k ≡ k + 2 =
    omega arith in ap (λ m. begins e (next_of e.process (suc m) (drop (suc k) evs))) t ∙ h

pub has-oper : (h : History) (o : Operation) → In o (operations h) → IsOper h (name_of o)
has-oper h o i = elim (split (length h.names) h.events o i) [
  | inl x ↦ subst (IsOper h) (sym (name-initial o x.0 x.2)) x.1
  | inr c ↦ let x = called-one h.events o c in
      subst (IsOper h) (sym (name-called h.events o x.0 x.1 x.2)) (
        x.1,
        x.2.there,
        begun-at h.events x.0 x.1 x.2.begun,
      )
]

-- a named operation is there
pub named-oper : (h : History) (name : Oper) (o : Operation) → IsNamed h name o → IsOper h name
named-oper h name o n = subst (IsOper h) n.named (has-oper h o n.one)

pub one-named : (h : History) (name : Oper) (o p : Operation) → IsNamed h name o → IsNamed h name p → o ≡ p
one-named h name o p a b = elim (split (length h.names) h.events o a.one) [
  | inl x ↦ elim (split (length h.names) h.events p b.one) [
    | inl y ↦
        let q : Initial (record { 0 = x.0 }) ≡ Initial (record { 0 = y.0 }) =
        sym (name-initial o x.0 x.2) ∙ (a.named ∙ (sym b.named ∙ name-initial p y.0 y.2)) in
        let r : record { 0 = x.0 } ≡ record { 0 = y.0 } = cc (q) in
        x.2 ∙ (ap initial_write (ap (λ (z : RegId). z.0) r) ∙ sym y.2)
    | inr d ↦
        let y = called-one h.events p d in
        let q : Initial (record { 0 = x.0 }) ≡ Called (record { 0 = y.0 }) =
        sym (name-initial o x.0 x.2) ∙ (a.named ∙ (sym b.named ∙ name-called h.events p y.0 y.1 y.2)) in
        absurd (cc (q))
  ]
  | inr c ↦
      let x = called-one h.events o c in
      elim (split (length h.names) h.events p b.one) [
        | inl y ↦
            let q : Called (record { 0 = x.0 }) ≡ Initial (record { 0 = y.0 }) =
            sym (name-called h.events o x.0 x.1 x.2)
            ∙ (a.named ∙ (sym b.named ∙ name-initial p y.0 y.2)) in
            absurd (cc (q))
        | inr d ↦
            let y = called-one h.events p d in
            let q : Called (record { 0 = x.0 }) ≡ Called (record { 0 = y.0 }) =
            sym (name-called h.events o x.0 x.1 x.2)
            ∙ (a.named ∙ (sym b.named ∙ name-called h.events p y.0 y.1 y.2)) in
            let r : record { 0 = x.0 } ≡ record { 0 = y.0 } = cc (q) in
            let k : x.0 ≡ y.0 = ap (λ (z : EvId). z.0) r in
            same-call h.events o p c d (omega (arith, x.2.call, y.2.call, k))
      ]
]

-- ---- events

pub what-call : (w : What) → is_a_call w ≡ true → w ≡ Call (kind_in w)
what-call (Call kind) h = refl
what-call (Reply kind) h = absurd (false≢true h)
what-call (Fail kind) h = absurd (false≢true h)
what-call Crash h = absurd (false≢true h)

pub what-reply : (w : What) → is_a_reply w ≡ true → w ≡ Reply (kind_in w)
what-reply (Call kind) h = absurd (false≢true h)
what-reply (Reply kind) h = refl
what-reply (Fail kind) h = absurd (false≢true h)
what-reply Crash h = absurd (false≢true h)

reply-no_fail : (w : What) → is_a_reply w ≡ true → is_a_fail w ≡ false
reply-no_fail (Call kind) h = refl
reply-no_fail (Reply kind) h = refl
reply-no_fail (Fail kind) h = absurd (false≢true h)
reply-no_fail Crash h = refl

begins-with : (e : Event) (next : Option (ℕ × Event)) → is_a_call e.what ≡ true → has_failed next ≡ false
    → begins e next ≡ true
begins-with e next c f = ap (λ b. b && not (has_failed next)) c ∙ ap not f

-- the event of a call, with the number of its register
register-some : (e : Event) (n : RegId) → e.register ≡ Some n → by_register e ≡ Some (number_in e.register)
register-some e n q = ap (option_map {U = ℕ} (λ (r : RegId). r.0)) q ∙ ap Some (sym (ap number_in q))

module _ (es : List LineEvent) (acc : AreAccepted es) where
  -- a call has a register
  pub call-register : (i : ℕ) (e : Event) → slice_get (events_after [] es) i ≡ Some e
      → is_a_call e.what ≡ true → by_register e ≡ Some (number_in e.register)
  call-register i e at call =
      let l = line-at es acc i e at in
      let a = call-asks l.0.kind (sym (call-line (take i es) l.0 e l.1.is) ∙ call) in
      let says = asking (take i es) l.0 a.0 e l.1.is (asked-call (take i es) l.0 a.0 a.1) in
      register-some e _ says.register

  -- a reply has the register of its call
  reply-register : (s t : ℕ) (e g : Event) → IsReplyTo es s t e g
      → by_register g ≡ Some (number_in e.register)
  reply-register s t e g r =
      ap (option_map {U = ℕ} (λ (n : RegId). n.0)) r.register ∙ call-register s e r.there r.is_call

  kind-cases : (k : OpKind) → (k ≡ WriteOp) ⊎ (k ≡ ReadOp)
  kind-cases ReadOp = inr refl
  kind-cases WriteOp = inl refl

  -- a write's call has a value
  called-value : (k : ℕ) (e : Event) → slice_get (events_after [] es) k ≡ Some e → is_a_call e.what ≡ true
      → writes (kind_in e.what) ≡ true → (v : Val) × (e.value ≡ Some v)
  called-value k e at call w =
      let l = line-at es acc k e at in
      let n = write-value es k l.0 e l.1 (sym (call-line (take k es) l.0 e l.1.is) ∙ call) w in
      (Int n.0, n.1)

  -- the call's event says what the operation is
  call-in : (o : Operation) (k : ℕ) (e : Event) → In o (calls (events_after [] es))
      → IsCallOf (events_after [] es) o k e
      → IsEventIn (record { names = register_names es; events = events_after [] es }) k e o
  call-in o k e i c =
      let what : e.what ≡ Call (op_kind o) = what-call e.what c.is_call ∙ ap Call (sym c.kind) in
      record {
        at = c.there;
        one = In-right o (initial_writes (length (register_names es))) (calls (events_after [] es)) i;
        register = call-register k e c.there c.is_call ∙ ap Some (sym c.register);
        process = c.process;
        is = inl what;
        call = λ _. (
          c.line,
          c.call,
          λ w.
              let n = called-value k e c.there c.is_call (sym c.writes_as ∙ w) in
              c.value n.0 w n.1 ∙ sym n.1,
        );
        reply = λ r. absurd (let q : Call (op_kind o) ≡ Reply (op_kind o) = sym what ∙ r in cc (q));
      }

  -- and so does the reply's
  reply-in : (o : Operation) (k j : ℕ) (e g : Event) → In o (calls (events_after [] es))
      → IsCallOf (events_after [] es) o k e → IsReplied (events_after [] es) o k e.process j g
      → IsEventIn (record { names = register_names es; events = events_after [] es }) j g o
  reply-in o k j e g i c r =
      let t = replied-to es acc o k j e g c r in
      let what : g.what ≡ Reply (op_kind o) = what-reply g.what r.is_reply ∙ ap Reply (t.kind ∙ sym c.kind) in
      record {
        at = r.there;
        one = In-right o (initial_writes (length (register_names es))) (calls (events_after [] es)) i;
        register = reply-register k j e g t ∙ ap Some (sym c.register);
        process = c.process ∙ ap Some (sym r.process);
        is = inr what;
        call = λ d. absurd (let q : Reply (op_kind o) ≡ Call (op_kind o) = sym what ∙ d in cc (q));
        reply = λ _. (
          r.completed,
          r.reply,
          elim (kind-cases (kind_in e.what)) [
            | inl w ↦ let n = called-value k e c.there c.is_call (ap writes w) in
                c.value n.0 (c.writes_as ∙ ap writes w) n.1 ∙ (sym n.1 ∙ sym (t.written w))
            | inr d ↦ r.value (c.writes_as ∙ ap writes d)
          ],
        );
      }

  -- the operation of a call that didn't fail
  begun-has : (i : ℕ) (e : Event) → slice_get (events_after [] es) i ≡ Some e
      → begins e (next_of e.process (suc (2 + i)) (drop (suc i) (events_after [] es))) ≡ true
      → (o : Operation) × In o (calls (events_after [] es)) × IsCallOf (events_after [] es) o i e
  begun-has i e at begun =
      let evs = events_after [] es in
      let o =
      operation (length evs + 2) (2 + i) e
      (reply_in (next_of e.process (suc (2 + i)) (drop (suc i) evs))) in
      let inside = call-In (length evs + 2) 2 evs i e at begun in
      let x = called-one evs o inside in
      let place : x.0 ≡ i =
      omega (
        arith,
        x.2.call,
        operation-call (length evs + 2) (2 + i) e
            (reply_in (next_of e.process (suc (2 + i)) (drop (suc i) evs))),
      ) in
      let same : x.1 ≡ e = let a = x.2.there in let s = ap (slice_get evs) place in cc (a, s, at) in (
        o,
        inside,
        subst (λ (v : Event). IsCallOf evs o i v) same
            (subst (λ k. IsCallOf evs o k x.1) place x.2),
      )

  -- the operation that an event belongs to
  pub event-has : (i : ℕ) (e : Event) → slice_get (events_after [] es) i ≡ Some e
      → belongs_at (events_after [] es) i e ≡ true
      → (o : Operation) × IsEventIn (record { names = register_names es; events = events_after [] es }) i e o
  event-has i e at has = elim (or_cases (is_a_reply e.what) (begins_at (events_after [] es) i e) has) [
    | inr begun ↦ let x = begun-has i e at (at-begun (events_after [] es) i e begun) in
        (x.0, call-in x.0 i e x.1 x.2)
    | inl reply ↦
        let evs = events_after [] es in
        let l = line-at es acc i e at in
        let x = reply-event es acc i l.0 e l.1 (sym (reply-line (take i es) l.0 e l.1.is) ∙ reply) in
        let t = x.2 in
        let b =
        begun-has x.0 x.1 t.there
        (begins-with x.1 _ t.is_call
        (not-failed x.0 x.1 t (next_of x.1.process (suc (2 + x.0)) (drop (suc x.0) evs)) refl
        reply)) in
        let o = b.0 in
        let c = b.2 in
        elim c.ends [
          | inl p ↦ absurd (elim p.rest [
            | inl last ↦ last i e t.order at (sym t.process)
            | inr y ↦ let n = y.2 in
                let q =
                same-place x.0 x.1 t y.0 y.1 n.there n.process n.order (λ u g. n.between u g) in
                false≢true (sym y.3
                ∙ (ap (λ (v : Event). is_a_reply v.what) (one-event es acc y.0 i y.1 e n.there at q)
                ∙ reply))
          ])
          | inr r ↦
              let n = r.2 in
              let q = same-place x.0 x.1 t r.0 r.1 n.there n.process n.order (λ u g. n.between u g) in
              let is : r.1 ≡ e = one-event es acc r.0 i r.1 e n.there at q in (
                o,
                subst (λ (v : Event). IsEventIn (record { names = register_names es; events = evs }) i v o)
                    is (subst (λ k. IsEventIn (record { names = register_names es; events = evs }) k r.1 o) q
                    (reply-in o x.0 r.0 x.1 r.1 b.1 c n)),
              )
        ]
  ]
    where
      -- the next event of the call's process is the reply
      same-place : (s : ℕ) (call : Event) → IsReplyTo es s i call e → (j : ℕ) (g : Event)
          → slice_get (events_after [] es) j ≡ Some g → g.process ≡ call.process → s < j
          → ((u : ℕ) (y : Event) → s < u → u < j → slice_get (events_after [] es) u ≡ Some y
          → y.process ≡ call.process → ⊥) → j ≡ i
      same-place s call t j g there process order between = elim (cases_order j i) [
        | inl q ↦ q
        | inr w ↦ elim w [
          | inl less ↦ let m = line-at es acc j g there in
              absurd (t.between j m.0 order less m.1.there (sym (ap (λ (v : Event). v.process) m.1.is)
              ∙ (process ∙ t.process)))
          | inr more ↦ absurd (between i e t.order more at (sym t.process))
        ]
      ]

      not-failed : (s : ℕ) (call : Event) → IsReplyTo es s i call e → (o : Option (ℕ × Event))
          → next_of call.process (suc (2 + s)) (drop (suc s) (events_after [] es)) ≡ o
          → is_a_reply e.what ≡ true → has_failed o ≡ false
      not-failed s call t o n reply = elim (next-at (events_after [] es) s call.process o n) [
        | inl x ↦ ap has_failed x.0
        | inr x ↦
            let y = x.3 in
            let q = same-place s call t x.0 x.1 y.there y.process y.order (λ u g. y.between u g) in
            ap has_failed x.2
            ∙ (ap (λ (v : Event). is_a_fail v.what) (one-event es acc x.0 i x.1 e y.there at q)
            ∙ reply-no_fail e.what reply)
      ]

  -- an event that is neither a reply nor a call that didn't fail belongs to none
  pub event-has-none : (i : ℕ) (e : Event) → slice_get (events_after [] es) i ≡ Some e
      → belongs_at (events_after [] es) i e ≡ false
      → (o : Operation)
      → In o (operations (record { names = register_names es; events = events_after [] es }))
      → IsEventOf i o → ⊥
  event-has-none i e at none o a x = elim (split (length (register_names es)) (events_after [] es) o a) [
    | inl s ↦ elim x [
      | inl q ↦ omega (arith, q, ap (λ (z : Operation). z.call) s.2)
      | inr q ↦ omega (arith, q.1, ap (λ (z : Operation). z.reply) s.2)
    ]
    | inr c ↦
        let y = called-one (events_after [] es) o c in
        let z = y.2 in
        elim x [
          | inl q ↦
              let k : y.0 ≡ i = omega (arith, z.call, q) in
              let same = one-event es acc y.0 i y.1 e z.there at k in
              let begun = begun-at (events_after [] es) y.0 y.1 z.begun in
              let here : begins_at (events_after [] es) i e ≡ true =
              ap (λ (v : Event). begins_at (events_after [] es) i v) (sym same)
              ∙ (ap (λ m. begins_at (events_after [] es) m y.1) (sym k) ∙ begun) in
              false≢true (sym none ∙ or_right (is_a_reply e.what) (begins_at (events_after [] es) i e) here)
          | inr q ↦ elim z.ends [
            | inl p ↦ false≢true (sym p.open_one ∙ q.0)
            | inr r ↦
                let n = r.2 in
                let k : r.0 ≡ i = omega (arith, n.reply, q.1) in
                let same = one-event es acc r.0 i r.1 e n.there at k in
                let here : is_a_reply e.what ≡ true =
                ap (λ (v : Event). is_a_reply v.what) (sym same) ∙ n.is_reply in
                false≢true (sym none ∙ ap (λ b. b || begins_at (events_after [] es) i e) here)
          ]
        ]
  ]

  -- an event belongs to one operation
  pub event-one : (i : ℕ) (o p : Operation)
      → In o (operations (record { names = register_names es; events = events_after [] es }))
      → In p (operations (record { names = register_names es; events = events_after [] es })) → IsEventOf i o
      → IsEventOf i p → o ≡ p
  event-one i o p a b x y = elim (split (length (register_names es)) (events_after [] es) o a) [
    | inl s ↦ absurd (none-initial o s.0 s.2 x)
    | inr c ↦ elim (split (length (register_names es)) (events_after [] es) p b) [
      | inl s ↦ absurd (none-initial p s.0 s.2 y)
      | inr d ↦ both c d x y
    ]
  ]
    where
      none-initial : (o : Operation) (j : ℕ) → o ≡ initial_write j → IsEventOf i o → ⊥
      none-initial o j e (inl q) = omega (arith, q, ap (λ (z : Operation). z.call) e)
      none-initial o j e (inr q) = omega (arith, q.1, ap (λ (z : Operation). z.reply) e)

      both : (c : In o (calls (events_after [] es))) (d : In p (calls (events_after [] es))) → IsEventOf i o
          → IsEventOf i p → o ≡ p
      both c d (inl q) (inl r) = same-call (events_after [] es) o p c d (q ∙ sym r)
      both c d (inl q) (inr r) = absurd (apart-called es acc p o d c (r.1 ∙ sym q))
      both c d (inr q) (inl r) = absurd (apart-called es acc o p c d (q.1 ∙ sym r))
      both c d (inr q) (inr r) = elim (cases_order o.call p.call) [
        | inl e ↦ same-call (events_after [] es) o p c d e
        | inr w ↦ elim w [
          | inl lt ↦ absurd (not_before es acc o p c d q.0 r.0 (q.1 ∙ sym r.1) lt)
          | inr gt ↦ absurd (not_before es acc p o d c r.0 q.0 (r.1 ∙ sym q.1) gt)
        ]
      ]

  none-called : (o : Operation) (j p : ℕ) → o ≡ initial_write j → o.process ≡ Some p → ⊥
  none-called o j p e q =
      let n = ap (λ (z : Operation). z.process) e in let w : None ≡ Some p = sym n ∙ q in cc (w)

  -- a called operation has its call
  pub has-call : (o : Operation) (p : ℕ)
      → In o (operations (record { names = register_names es; events = events_after [] es }))
      → o.process ≡ Some p
      → (e : Event) × IsEventIn (record { names = register_names es; events = events_after [] es })
      (o.call - 2) e o × (e.what ≡ Call (op_kind o))
  has-call o p a q = elim (split (length (register_names es)) (events_after [] es) o a) [
    | inl s ↦ absurd (none-called o s.0 p s.2 q)
    | inr c ↦
        let x = called-one (events_after [] es) o c in
        let place : x.0 ≡ o.call - 2 = omega (arith, x.2.call) in (
          x.1,
          subst (λ k. IsEventIn (record { names = register_names es; events = events_after [] es }) k x.1 o)
              place (call-in o x.0 x.1 c x.2),
          what-call x.1.what x.2.is_call ∙ ap Call (sym x.2.kind),
        )
  ]

  -- and its reply, where it is completed
  pub has-reply : (o : Operation) (p : ℕ)
      → In o (operations (record { names = register_names es; events = events_after [] es }))
      → o.process ≡ Some p → IsCompleted o
      → (e : Event) × IsEventIn (record { names = register_names es; events = events_after [] es })
      (o.reply - 2) e o × (e.what ≡ Reply (op_kind o))
  has-reply o p a q done = elim (split (length (register_names es)) (events_after [] es) o a) [
    | inl s ↦ absurd (none-called o s.0 p s.2 q)
    | inr c ↦
        let x = called-one (events_after [] es) o c in
        elim x.2.ends [
          | inl w ↦ absurd (false≢true (sym w.open_one ∙ done))
          | inr r ↦
              let place : r.0 ≡ o.reply - 2 = omega (arith, r.2.reply) in
              let t = replied-to es acc o x.0 r.0 x.1 r.1 x.2 r.2 in (
                r.1,
                subst (λ k. IsEventIn (record { names = register_names es; events = events_after [] es }) k
                    r.1 o) place (reply-in o x.0 r.0 x.1 r.1 c x.2 r.2),
                what-reply r.1.what r.2.is_reply ∙ ap Reply (t.kind ∙ sym x.2.kind),
              )
        ]
  ]

  -- a write and a completed operation have a value
  pub has-value : (o : Operation)
      → In o (operations (record { names = register_names es; events = events_after [] es }))
      → IsWrite o ⊎ IsCompleted o → (v : Val) × (value_of o ≡ Some v)
  has-value o a full = elim (split (length (register_names es)) (events_after [] es) o a) [
    | inl s ↦ (Null, ap value_of s.2)
    | inr c ↦
        let x = called-one (events_after [] es) o c in
        elim (kind-cases (kind_in x.1.what)) [
          | inl w ↦
              let n = called-value x.0 x.1 x.2.there x.2.is_call (ap writes w) in
              (n.0, x.2.value n.0 (x.2.writes_as ∙ ap writes w) n.1)
          | inr d ↦
              let read : is_write o ≡ false = x.2.writes_as ∙ ap writes d in
              elim full [
                | inl u ↦ absurd (false≢true (sym read ∙ u))
                | inr done ↦ elim x.2.ends [
                  | inl w ↦ absurd (false≢true (sym w.open_one ∙ done))
                  | inr r ↦ let t = replied-to es acc o x.0 r.0 x.1 r.1 x.2 r.2 in let v = t.read d in
                      (v.0, r.2.value read ∙ v.1)
                ]
              ]
        ]
  ]

  -- an operation is of a register that has a name
  pub has-register : (o : Operation)
      → In o (operations (record { names = register_names es; events = events_after [] es }))
      → o.register < length (register_names es)
  has-register o a = elim (split (length (register_names es)) (events_after [] es) o a) [
    | inl s ↦ subst (λ k. k < length (register_names es)) (sym (ap (λ (z : Operation). z.register) s.2)) s.1
    | inr c ↦
        let x = called-one (events_after [] es) o c in
        let l = line-at es acc x.0 x.1 x.2.there in
        subst (λ k. k < length (register_names es)) (sym x.2.register)
        (register-below es acc x.0 l.0 x.1 l.1 (sym (call-line (take x.0 es) l.0 x.1 l.1.is)
        ∙ x.2.is_call))
  ]

-- ---- the same of a recorded history

pub operation-has-value : (h : History) → IsRecorded h → (o : Operation) → In o (operations h)
    → IsWrite o ⊎ IsCompleted o → (v : Val) × (value_of o ≡ Some v)
operation-has-value h rec o =
    subst (λ (g : History). In o (operations g) → IsWrite o ⊎ IsCompleted o
    → (v : Val) × (value_of o ≡ Some v)) (sym rec.is) (has-value rec.events rec.accepted o)

pub call-has-value : (h : History) → IsRecorded h → (i : ℕ) (e : Event) → slice_get h.events i ≡ Some e
    → is_a_call e.what ≡ true → writes (kind_in e.what) ≡ true → (v : Val) × (e.value ≡ Some v)
call-has-value h rec i e =
    subst (λ (g : History). slice_get g.events i ≡ Some e → is_a_call e.what ≡ true
    → writes (kind_in e.what) ≡ true → (v : Val) × (e.value ≡ Some v)) (sym rec.is)
    (called-value rec.events rec.accepted i e)

pub operation-has-register : (h : History) → IsRecorded h → (o : Operation) → In o (operations h)
    → o.register < length h.names
operation-has-register h rec o =
    subst (λ (g : History). In o (operations g)
    → o.register < length g.names) (sym rec.is) (has-register rec.events rec.accepted o)

pub event-has-operation : (h : History) → IsRecorded h → (i : ℕ) (e : Event) → slice_get h.events i ≡ Some e
    → belongs_at h.events i e ≡ true → (o : Operation) × IsEventIn h i e o
event-has-operation h rec i e =
    subst (λ (g : History). slice_get g.events i ≡ Some e → belongs_at g.events i e ≡ true
    → (o : Operation) × IsEventIn g i e o) (sym rec.is) (event-has rec.events rec.accepted i e)

pub event-has-no-operation : (h : History) → IsRecorded h → (i : ℕ) (e : Event)
    → slice_get h.events i ≡ Some e → belongs_at h.events i e ≡ false → (o : Operation) → In o (operations h)
    → IsEventOf i o → ⊥
event-has-no-operation h rec i e =
    subst (λ (g : History). slice_get g.events i ≡ Some e → belongs_at g.events i e ≡ false → (o : Operation)
    → In o (operations g) → IsEventOf i o → ⊥) (sym rec.is) (event-has-none rec.events rec.accepted i e)

pub event-register : (h : History) → IsRecorded h → (i r : ℕ) → key_at by_register h.events i ≡ Some r
    → r < length h.names
event-register h rec i r =
    subst (λ (g : History). key_at by_register g.events i ≡ Some r
    → r < length g.names) (sym rec.is) (λ q. by_event (slice_get (events_after [] rec.events) i) refl q)
  where
    by_event : (o : Option Event) → slice_get (events_after [] rec.events) i ≡ o
        → option_and_then by_register o ≡ Some r → r < length (register_names rec.events)
    by_event None at q = absurd (cc (q))
    by_event (Some e) at q =
        let l =
        line-at rec.events rec.accepted i e at in register-named rec.events rec.accepted i l.0 e l.1 r q

pub calls-have-registers : (h : History) → IsRecorded h → HaveRegisters h.events
calls-have-registers h rec =
    subst (λ (g : History). HaveRegisters g.events) (sym rec.is) (λ i e at call. (
      number_in e.register,
      call-register rec.events rec.accepted i e at call,
    ))

pub event-has-one : (h : History) → IsRecorded h → (i : ℕ) (o p : Operation) → In o (operations h)
    → In p (operations h) → IsEventOf i o → IsEventOf i p → o ≡ p
event-has-one h rec i o p =
    subst (λ (g : History). In o (operations g) → In p (operations g) → IsEventOf i o → IsEventOf i p
    → o ≡ p) (sym rec.is) (event-one rec.events rec.accepted i o p)

pub operation-has-call : (h : History) → IsRecorded h → (o : Operation) (p : ℕ) → In o (operations h)
    → o.process ≡ Some p → (e : Event) × IsEventIn h (o.call - 2) e o × (e.what ≡ Call (op_kind o))
operation-has-call h rec o p =
    subst (λ (g : History). In o (operations g) → o.process ≡ Some p
    → (e : Event) × IsEventIn g (o.call - 2) e o × (e.what ≡ Call (op_kind o))) (sym rec.is)
    (has-call rec.events rec.accepted o p)

pub operation-has-reply : (h : History) → IsRecorded h → (o : Operation) (p : ℕ) → In o (operations h)
    → o.process ≡ Some p → IsCompleted o → (e : Event) × IsEventIn h (o.reply - 2) e o
    × (e.what ≡ Reply (op_kind o))
operation-has-reply h rec o p =
    subst (λ (g : History). In o (operations g) → o.process ≡ Some p → IsCompleted o
    → (e : Event) × IsEventIn g (o.reply - 2) e o × (e.what ≡ Reply (op_kind o))) (sym rec.is)
    (has-reply rec.events rec.accepted o p)

pub initial-there : (h : History) (r : ℕ) → r < length h.names
    → In (initial_write r) (of_register r (operations h))
initial-there h r l =
    In-of_register r (operations h) (initial_write r)
    (In-left (initial_write r) (initial_writes (length h.names)) (calls h.events)
    (In-initials (length h.names) r l)) refl

-- ---- the writes of a single writer

pub writes-take-turns : (ops : List Operation) → IsHistory ops → HasSingleWriter ops → (v w : Operation)
    → In v ops → In w ops → IsWrite v → IsWrite w → (v ≡ w) ⊎ (Precedes v w ⊎ Precedes w v)
writes-take-turns ops h single v w i j u x = go v.process refl w.process refl
  where
    go : (p : Option ℕ) → v.process ≡ p → (q : Option ℕ) → w.process ≡ q
        → (v ≡ w) ⊎ (Precedes v w ⊎ Precedes w v)
    go None a None b =
        let c = h.initial v i a in
        let d = h.initial w j b in
        inl (c ∙ (ap initial_write (h.one v w i j) ∙ sym d))
    go None a (Some q) b =
        let c = ap (λ (z : Operation). z.reply) (h.initial v i a) in
        let d = h.called w q j b in
        inr (inl (omega (arith, c, d)))
    go (Some p) a None b =
        let c = ap (λ (z : Operation). z.reply) (h.initial w j b) in
        let d = h.called v p i a in
        inr (inr (omega (arith, c, d)))
    go (Some p) a (Some q) b =
        let same : p ≡ q = single v w p q i j u x a b in
        h.turns v w p i j a (b ∙ ap Some (sym same))
