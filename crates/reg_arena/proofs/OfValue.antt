-- Operations by their names, and the members of a register's value by the arena's entry.
use Rattle.std.proofs.Common.{◌≡◌, ℕ, ◌+◌, ◌-◌, ◌<◌, ◌≤◌, ◌&&◌, ◌||◌, not, nat_lt, cond, Bool, true}
use Rattle.std.proofs.Common.{false, List, length, take, slice_get, Option, Some, None, ◌⊎◌, inl, inr}
use Rattle.std.proofs.Common.{refl, sym, ap, subst, ◌∙◌, arith, option_map, option_and_then}
use Rattle.std.specs.Option.{option_or}
use Rattle.std.proofs.lemmas.Bool.{cases_order, ltb-true, ltb-false, false≢true, and_parts, or_right}
use Rattle.history_text.specs.declared.event.Val.{Val}
use Rattle.history_text.specs.declared.event.Val.TheVariants.{Null, Int}
use Rattle.history_model.specs.Lists.{In}
use Rattle.history_text.specs.declared.event.OpKind.{OpKind}
use Rattle.history_text.specs.declared.event.OpKind.TheVariants.{ReadOp, WriteOp}
use Rattle.history_model.specs.Events.{Asked}
use Rattle.history_model.specs.History.{History, IsRecorded, history_of}
use Rattle.history_model.specs.Operations.{calls, operations, is_a_call, op_kind, value_of}
use Rattle.history_model.specs.declared.operation.Operation.{Operation}
use Rattle.history_model.specs.Operations.{is_a_reply, kind_in, initial_write, initial_writes}
use Rattle.history_model.specs.Operations.{writes, is_write, IsWrite, IsCompleted}
use Rattle.history_model.specs.Walking.{IsFirstOf, key_at, by_process, by_register, by_value}
use Rattle.history_model.specs.Naming.{IsNamed, IsEventOf, IsEventIn, IsOperOf}
use Rattle.history_model.specs.Naming.{begins_at, belongs_at, name_by}
use Rattle.history_model.specs.OfValue.{IsMember, IsWriteOf, IsLastCall, IsFirstReply}
use Rattle.reg_arena.specs.Lists.EventLists.{IsCallAt, IsCallOf as IsColumnCall, IsKeptWrite, IsLastRead}
use Rattle.reg_arena.specs.Lists.EventLists.{by_write, by_reply, by_read, later}
use Rattle.reg_arena.specs.ValueTimes.{initial_call}
use Rattle.reg_arena.specs.Lists.Tables.{item_at}
use Rattle.history_model.specs.declared.ids.EvId.{EvId}
use Rattle.history_model.specs.declared.ids.RegId.{RegId}
use Rattle.history_model.specs.declared.ids.Oper.TheVariants.{Initial, Called}
use Rattle.history_model.specs.declared.event.Event.{Event}
use Rattle.history_model.specs.declared.event.What.{What}
use Rattle.history_model.specs.declared.event.What.TheVariants.{Reply}
use Rattle.reg_arena.proofs.ListLemmas.Append.{key-within, write-call, write-value, reply-said}
use Rattle.reg_arena.proofs.ListLemmas.Append.{reply-value, read-said, read-value}
use Rattle.reg_arena.proofs.ListLemmas.ByValue.{key-both, key-parts}
use Rattle.history_model.proofs.Walking.{number-known}
use Rattle.history_model.proofs.Recorded.{In-initials, initials-In}
use Rattle.history_model.proofs.Belonging.{IsCallOf, IsReplied, called-one}
use Rattle.history_model.proofs.Accepted.{line-at, call-asks, asked-value, call-line}
use Rattle.history_model.proofs.Turns.{call-event, not-again}
use Rattle.history_model.proofs.Plain.{changes-kind}
use Rattle.history_model.proofs.Named.{begun-at, event-has-operation, event-has-no-operation}
use Rattle.history_model.proofs.Named.{operation-has-call, operation-has-reply}
use Rattle.history_model.proofs.Lists.{In-left, append-In, slice_get_inside}

-- ---- names

pub initial-named : (h : History) (r : RegId) → r.0 < length h.names
    → IsNamed h (Initial r) (initial_write r.0)
initial-named h r l = record {
  one = In-left _ (initial_writes (length h.names)) _ (In-initials (length h.names) r.0 l);
  named = refl;
}

-- an operation that a process called is named by its call
pub called-named : (h : History) (o : Operation) (p i : ℕ) → In o (operations h) → o.process ≡ Some p
    → o.call ≡ i + 2 → IsNamed h (Called (record { 0 = i })) o
called-named h o p i there q c = record {
  one = there;
  named =
      ap (λ x. name_by x o) q ∙ (let t : o.call - 2 ≡ i = omega (arith, c) in
      ap (λ m. Called (record { 0 = m })) t);
}

-- an initial write, or an operation of a call
pub known : (h : History) (o : Operation) → In o (operations h) → ((r : ℕ) × (o ≡ initial_write r))
    ⊎ ((p : ℕ) × (o.process ≡ Some p) × ((k : ℕ) × (e : Event) × IsCallOf h.events o k e))
known h o i = elim (append-In o (initial_writes (length h.names)) (calls h.events) i) [
  | inl j ↦ let x = initials-In (length h.names) o j in inl (x.0, x.2)
  | inr c ↦ let x = called-one h.events o c in inr (x.1.process, x.2.process, x)
]

-- ---- an event and its call

module _ (h : History) (rec : IsRecorded h) where
  event-of : (i : ℕ) (e : Event) (o : Operation) → IsEventIn h i e o → IsEventOf i o
  event-of i e o x = elim x.is [ inl q ↦ inl (x.call q).1 | inr q ↦ let r = x.reply q in inr (r.0, r.1) ]

  -- the call of an event is that of the event's operation
  pub call-of_event : (i c : ℕ) (e : Event) (o : Operation) → IsEventIn h i e o → IsCallAt h.events i c
      → o.call ≡ c + 2
  call-of_event i c e o x k = elim x.is [
    | inl q ↦ (x.call q).1 ∙ ap (λ m. m + 2) (sym (k.own (e, x.at, ap is_a_call q)))
    | inr q ↦
        let r = x.reply q in
        elim (known h o x.one) [
          | inl w ↦ absurd (let a = ap (λ (o : Operation). o.process) w.1 in let b = x.process in cc (a, b))
          | inr w ↦ elim w.2.2.ends [
            | inl pending ↦ absurd (false≢true (sym pending.open_one ∙ r.0))
            | inr y ↦ by_place w.2.0 w.2.1 w.2.2 y.0 y.1 y.2 r.1 (ap is_a_call q)
          ]
        ]
  ]
    where
      here : key_at by_process h.events i ≡ Some e.process
      here = ap (option_and_then by_process) x.at

      there : key_at by_process h.events c ≡ Some k.call.0.process
      there = ap (option_and_then by_process) k.call.1

      by_place : (n : ℕ) (f : Event) → IsCallOf h.events o n f → (j : ℕ) (g : Event)
          → IsReplied h.events o n f.process j g → o.reply ≡ i + 2 → is_a_call e.what ≡ false → o.call ≡ c + 2
      by_place n f y j g z reply ends =
          let m : j ≡ i = omega (arith, z.reply, reply) in
          let own : f.process ≡ e.process =
          let a =
          y.process in let b =
          x.process in let q : Some f.process ≡ Some e.process = sym a ∙ b in cc (q) in
          let same : k.call.0.process ≡ e.process =
          let a =
          k.process in let q : Some k.call.0.process ≡ Some e.process =
          sym there ∙ (a ∙ here) in cc (q) in
          let before : c < i = elim (cases_order c i) [
            | inl q ↦ absurd (let w = k.call.1 in let v = x.at in let u = ap (slice_get h.events) q in
                let s : k.call.0 ≡ e =
                cc (w, v, u) in
                false≢true (sym ends ∙ (sym (ap (λ (v : Event). is_a_call v.what) s) ∙ k.call.2)))
            | inr d ↦ elim d [ inl l ↦ l | inr g ↦ absurd (let o = k.order in omega arith) ]
          ] in
          elim (cases_order n c) [
            | inl q ↦ y.call ∙ ap (λ n. n + 2) q
            | inr d ↦ elim d [
              | inl l ↦ absurd (z.between c k.call.0 l (omega (arith, before, m)) k.call.1 (same ∙ sym own))
              | inr g ↦ absurd
                  (k.between n g (omega (arith, z.order, m)) (ap (option_and_then by_process) y.there
                  ∙ (ap Some own ∙ sym here)))
            ]
          ]

  -- a call with a value writes
  pub call-writes : (i : ℕ) (e : Event) (v : Val) → slice_get h.events i ≡ Some e → is_a_call e.what ≡ true
      → e.value ≡ Some v → writes (kind_in e.what) ≡ true
  call-writes i e v at call value =
      let at' : slice_get (history_of rec.events).events i ≡ Some e =
      ap (λ (g : History). slice_get g.events i) (sym rec.is) ∙ at in
      let l = line-at rec.events rec.accepted i e at' in
      let a = call-asks l.0.kind (sym (call-line (take i rec.events) l.0 e l.1.is) ∙ call) in
      let says = call-event rec.events i l.0 a.0 e l.1.is a.1 in
      by_asked a.0 says.says.kind (says.value) ((asked-value l.0.kind a.0 a.1).0) a.0.kind refl
    where
      by_asked : (a : Asked) → kind_in e.what ≡ a.kind → e.value ≡ a.value
          → (a.kind ≡ ReadOp → a.value ≡ None) → (k : OpKind) → a.kind ≡ k → writes (kind_in e.what) ≡ true
      by_asked a q w none ReadOp r = absurd (let n = none r in cc (n, w, value))
      by_asked a q w none WriteOp r = ap writes (q ∙ r)

  -- the event of a key
  event-by : {K : Type 0} (key : Event → Option K) (i : ℕ) (k : K) → key_at key h.events i ≡ Some k
      → (e : Event) × (slice_get h.events i ≡ Some e) × (key e ≡ Some k)
  event-by key i k q =
      let l = key-within key h.events i k q in
      let e = slice_get_inside h.events i l in
      (e.0, e.1, sym (ap (option_and_then key) e.1) ∙ q)

  -- no value is written twice
  write-once : (k : ℕ × Val) (s t : ℕ) → key_at by_write h.events s ≡ Some k
      → key_at by_write h.events t ≡ Some k → s < t → ⊥
  write-once k s t a b lt =
      let e = event-by by_write s k a in
      let f = event-by by_write t k b in
      let line : (i : ℕ) (g : Event) → slice_get h.events i ≡ Some g
      → slice_get (history_of rec.events).events i ≡ Some g =
      λ i g at. ap (λ (x : History). slice_get x.events i) (sym rec.is) ∙ at in
      let l = line-at rec.events rec.accepted s e.0 (line s e.0 e.1) in
      let m = line-at rec.events rec.accepted t f.0 (line t f.0 f.1) in
      let call_e = write-call e.0 k e.2 in
      let call_f = write-call f.0 k f.2 in
      let p = key-parts e.0 k (write-value e.0 k e.2) in
      let q = key-parts f.0 k (write-value f.0 k f.2) in
      not-again rec.events rec.accepted s t l.0 m.0 e.0 f.0 l.1 m.1 lt
      (sym (call-line (take s rec.events) l.0 e.0 l.1.is)
      ∙ call_e) (sym (call-line (take t rec.events) m.0 f.0 m.1.is) ∙ call_f)
      (call-writes s e.0 k.1 e.1 call_e p.1) (call-writes t f.0 k.1 f.1 call_f q.1)
      (number-known e.0 k.0 p.0 ∙ sym (number-known f.0 k.0 q.0)) (p.1 ∙ sym q.1)

  write-one : (k : ℕ × Val) (s t : ℕ) → key_at by_write h.events s ≡ Some k
      → key_at by_write h.events t ≡ Some k → s ≡ t
  write-one k s t a b = elim (cases_order s t) [
    | inl q ↦ q
    | inr w ↦ elim w [
      | inl less ↦ absurd (write-once k s t a b less)
      | inr more ↦ absurd (write-once k t s b a more)
    ]
  ]

  -- an event with a value belongs to a member, if it belongs to an operation
  pub event-member : (i : ℕ) (k : ℕ × Val) (e : Event) → slice_get h.events i ≡ Some e → by_value e ≡ Some k
      → belongs_at h.events i e ≡ true → (o : Operation) × IsEventIn h i e o × IsMember h k.0 k.1 o
  event-member i k e at key has =
      let o = event-has-operation h rec i e at has in
      let v = key-parts e k key in
      (o.0, o.1, member o.0 o.1 v.0 v.1)
    where
      member : (o : Operation) → IsEventIn h i e o → by_register e ≡ Some k.0 → e.value ≡ Some k.1
          → IsMember h k.0 k.1 o
      member o x r v =
          let own = x.register in
          let register : o.register ≡ k.0 = cc (own, r) in
          elim x.is [
            | inl q ↦
                let w : IsWrite o =
                changes-kind o.act
                ∙ (sym (ap (λ (z : What). writes (kind_in z)) q)
                ∙ call-writes i e k.1 at (ap is_a_call q) v) in
                record { there = x.one; register = register; value = (x.call q).2 w ∙ v; full = inl w }
            | inr q ↦ record {
              there = x.one;
              register = register;
              value = (x.reply q).2 ∙ v;
              full = inr (x.reply q).0;
            }
          ]

  -- the keys of the events of a member
  value-key : (k : ℕ × Val) (o : Operation) (i : ℕ) (e : Event) → IsMember h k.0 k.1 o → IsEventIn h i e o
      → value_of o ≡ e.value → by_value e ≡ Some k
  value-key k o i e m x v = key-both e k (x.register ∙ ap Some m.register) (sym v ∙ m.value)

  pub write-event : (k : ℕ × Val) (o : Operation) (p : ℕ) → IsMember h k.0 k.1 o → o.process ≡ Some p
      → IsWrite o → (i : ℕ) × (e : Event) × (slice_get h.events i ≡ Some e)
      × (key_at by_write h.events i ≡ Some k) × (key_at by_value h.events i ≡ Some k) × (o.call ≡ i + 2)
  write-event k o p m q w =
      let x = operation-has-call h rec o p m.there q in
      let c = x.1.call x.2 in
      let key = value-key k o (o.call - 2) x.0 m x.1 (c.2 w) in (
        o.call - 2,
        x.0,
        x.1.at,
        ap (option_and_then by_write) x.1.at
            ∙ (ap (λ b. cond b (by_value x.0) None) (ap is_a_call x.2) ∙ key),
        ap (option_and_then by_value) x.1.at ∙ key,
        c.1,
      )

  pub reply-event : (k : ℕ × Val) (o : Operation) (p : ℕ) → IsMember h k.0 k.1 o → o.process ≡ Some p
      → IsCompleted o
      → (i : ℕ) × (e : Event) × IsEventIn h i e o × (e.what ≡ Reply (op_kind o))
      × (key_at by_reply h.events i ≡ Some k) × (key_at by_value h.events i ≡ Some k) × (o.reply ≡ i + 2)
  reply-event k o p m q d =
      let x = operation-has-reply h rec o p m.there q d in
      let c = x.1.reply x.2 in
      let key = value-key k o (o.reply - 2) x.0 m x.1 c.2 in (
        o.reply - 2,
        x.0,
        x.1,
        x.2,
        ap (option_and_then by_reply) x.1.at
            ∙ (ap (λ b. cond b (by_value x.0) None) (ap is_a_reply x.2) ∙ key),
        ap (option_and_then by_value) x.1.at ∙ key,
        c.1,
      )

  -- the initial write is the member of null that nobody called
  pub initial-null : (k : ℕ × Val) (o : Operation) (r : ℕ) → IsMember h k.0 k.1 o → o ≡ initial_write r
      → k.1 ≡ Null
  initial-null k o r m q = let a = m.value in let b = ap value_of q in cc (a, b)

  pub initial-member : (r : ℕ) → r < length h.names → IsMember h r Null (initial_write r)
  initial-member r l = record {
    there = In-left _ (initial_writes (length h.names)) _ (In-initials (length h.names) r l);
    register = refl;
    value = refl;
    full = inl refl;
  }

  -- ---- the write of a value

  -- the operation of a write's call that didn't fail
  kept-member : (k : ℕ × Val) (id : EvId) → IsKeptWrite h.events k (Some id)
      → (o : Operation) × IsNamed h (Called id) o × IsMember h k.0 k.1 o × IsWrite o × (o.call ≡ id.0 + 2)
  kept-member k id f =
      let e = event-by by_write id.0 k f.0.1 in
      let call = write-call e.0 k e.2 in
      let value = write-value e.0 k e.2 in
      let x =
      event-member id.0 k e.0 e.1 value
      (or_right (is_a_reply e.0.what) (begins_at h.events id.0 e.0) (f.1 e.0 e.1)) in
      let y = x.1 in
      elim y.is [
        | inl q ↦
            let w : IsWrite x.0 =
            changes-kind (x.0).act
            ∙ (sym (ap (λ (z : What). writes (kind_in z)) q)
            ∙ call-writes id.0 e.0 k.1 e.1 call (key-parts e.0 k value).1) in
            (x.0, called-named h x.0 e.0.process id.0 y.one y.process (y.call q).1, x.2, w, (y.call q).1)
        | inr q ↦ absurd (false≢true (sym (ap is_a_call q) ∙ call))
      ]

  pub write-is : (r : ℕ) (v : Val) (id : EvId) → IsKeptWrite h.events (r, v) (Some id)
      → IsWriteOf h r v (Some (Called id))
  write-is r v id f = let x = kept-member (r, v) id f in (x.0, x.1, x.2, x.3)

  -- a write that was called has its call kept
  called-kept : (k : ℕ × Val) (o : Operation) (p : ℕ) (w : Option EvId) → IsMember h k.0 k.1 o
      → o.process ≡ Some p → IsWrite o → IsKeptWrite h.events k w
      → (id : EvId) × (w ≡ Some id) × (o.call ≡ id.0 + 2)
  called-kept k o p w m q u f =
      let y = write-event k o p m q u in
      go w y.0 y.1 y.2 y.3 y.5 f
    where
      begun : (i : ℕ) (e : Event) → slice_get h.events i ≡ Some e → o.call ≡ i + 2
          → begins_at h.events i e ≡ true
      begun i e at c = elim (known h o m.there) [
        | inl x ↦ absurd (let t = ap (λ (o : Operation). o.call) x.1 in omega (arith, t, c))
        | inr x ↦
            let z = x.2.2 in
            let s : x.2.0 ≡ i = omega (arith, c, z.call) in
            let a = z.there in
            let b = ap (slice_get h.events) s in
            let same : x.2.1 ≡ e = cc (a, b, at) in
            ap (λ (v : Event). begins_at h.events i v) (sym same)
            ∙ (ap (λ j. begins_at h.events j x.2.1) (sym s) ∙ begun-at h.events x.2.0 x.2.1 z.begun)
      ]

      go : (w : Option EvId) (i : ℕ) (e : Event) → slice_get h.events i ≡ Some e
          → key_at by_write h.events i ≡ Some k → o.call ≡ i + 2 → IsKeptWrite h.events k w
          → (id : EvId) × (w ≡ Some id) × (o.call ≡ id.0 + 2)
      go None i e at key c f =
          absurd (false≢true
          (sym (f (record { 0 = i }) e (omega arith, key, λ j _ lt x. write-once k j i x key lt) at)
          ∙ begun i e at c))
      go (Some id) i e at key c f = (id, refl, c ∙ ap (λ n. n + 2) (write-one k i id.0 key f.0.1))

  pub write-none : (r : ℕ) (v : Val) → (v ≡ Null → ⊥) → IsKeptWrite h.events (r, v) None
      → IsWriteOf h r v None
  write-none r v ne f = λ o m w. elim (known h o m.there) [
    | inl x ↦ ne (initial-null (r, v) o x.0 m x.1)
    | inr x ↦ let y = called-kept (r, v) o x.0 None m x.1 w f in let q = y.1 in cc (q)
  ]

  pub write-initial : (r : RegId) → r.0 < length h.names → IsWriteOf h r.0 Null (Some (Initial r))
  write-initial r l = (initial_write r.0, initial-named h r l, initial-member r.0 l, refl)

  -- ---- the last call and the first reply, by the entry

  module _ (k : ℕ × Val) (calls : List (Option EvId)) (at : (i : ℕ) (e : Event)
      → slice_get h.events i ≡ Some e → IsColumnCall h.events i e (item_at calls i)) where
    -- the call of an event that belongs to an operation
    column-call : (i : ℕ) (e : Event) (o : Operation) → IsEventIn h i e o → belongs_at h.events i e ≡ true
        → (c : EvId) × (item_at calls i ≡ Some c) × (o.call ≡ c.0 + 2)
    column-call i e o x has = go (item_at calls i) refl (at i e x.at)
      where
        go : (c : Option EvId) → item_at calls i ≡ c → IsColumnCall h.events i e c
            → (c : EvId) × (item_at calls i ≡ Some c) × (o.call ≡ c.0 + 2)
        go None q y = absurd (false≢true (sym y ∙ has))
        go (Some c) q y = (c, q, call-of_event i c.0 e o x y.1)

    -- the read called last
    read-member : (c : EvId) → IsLastRead h.events calls k (Some c) → (o : Operation) × IsMember h k.0 k.1 o
        × (o.call ≡ c.0 + 2)
    read-member c l =
        let e = event-by by_read l.0.0 k l.0.1 in
        let reply =
        (and_parts (is_a_reply e.0.what) (not (writes (kind_in e.0.what))) (read-said e.0 k e.2)).0 in
        let has : belongs_at h.events l.0.0 e.0 ≡ true = ap (λ b. b || begins_at h.events l.0.0 e.0) reply in
        let x = event-member l.0.0 k e.0 e.1 (read-value e.0 k e.2) has in
        let c' = column-call l.0.0 e.0 x.0 x.1 has in
        let q = l.0.2 in
        let p = c'.1 in
        let same : c'.0 ≡ c = cc (p, q) in
        (x.0, x.2, c'.2 ∙ ap (λ (v : EvId). v.0 + 2) same)

    -- a completed read is called no later
    read-below : (o : Operation) (p : ℕ) (l : Option EvId) → IsMember h k.0 k.1 o → o.process ≡ Some p
        → is_write o ≡ false → IsCompleted o → IsLastRead h.events calls k l
        → (c : EvId) × (l ≡ Some c) × (o.call ≤ c.0 + 2)
    read-below o p l m q u d r =
        let y = reply-event k o p m q d in
        let value : by_value y.1 ≡ Some k = sym (ap (option_and_then by_value) y.2.at) ∙ y.5 in
        let reply = ap is_a_reply y.3 in
        let key : key_at by_read h.events y.0 ≡ Some k =
        ap (option_and_then by_read) y.2.at
        ∙ (ap (λ (z : What). cond (is_a_reply z && not (writes (kind_in z))) (by_value y.1) None) y.3
        ∙ (ap (λ b. cond (true && not b) (by_value y.1) None) (sym (changes-kind o.act) ∙ u) ∙ value)) in
        let c = column-call y.0 y.1 o y.2 (ap (λ b. b || begins_at h.events y.0 y.1) reply) in
        go l r y.0 key c.0 c.1 c.2
      where
        go : (l : Option EvId) → IsLastRead h.events calls k l → (i : ℕ) → key_at by_read h.events i ≡ Some k
            → (c : EvId) → item_at calls i ≡ Some c → o.call ≡ c.0 + 2
            → (d : EvId) × (l ≡ Some d) × (o.call ≤ d.0 + 2)
        go None r i key c at call = absurd (r i key)
        go (Some d) r i key c at call = let b = r.1 i c key at in (d, refl, omega (arith, call, b))

    kind-cases : (b : Bool) → (b ≡ true) ⊎ (b ≡ false)
    kind-cases true = inl refl
    kind-cases false = inr refl

    -- each member is the initial write, the kept write, or a read
    member-below : (w l : Option EvId) → IsKeptWrite h.events k w → IsLastRead h.events calls k l
        → (o : Operation) → IsMember h k.0 k.1 o
        → ((k.1 ≡ Null) × (o.call ≡ 0))
        ⊎ (((id : EvId) × (w ≡ Some id) × (o.call ≡ id.0 + 2))
        ⊎ ((id : EvId) × (l ≡ Some id) × (o.call ≤ id.0 + 2)))
    member-below w l f r o m = elim (known h o m.there) [
      | inl z ↦ inl (initial-null k o z.0 m z.1, ap (λ (o : Operation). o.call) z.1)
      | inr z ↦ elim (kind-cases (is_write o)) [
        | inl u ↦ inr (inl (called-kept k o z.0 w m z.1 u f))
        | inr u ↦ inr (inr (elim m.full [
          | inl x ↦ absurd (false≢true (sym u ∙ x))
          | inr d ↦ read-below o z.0 l m z.1 u d r
        ]))
      ]
    ]

    pub last-call_is : (w l : Option EvId) → k.0 < length h.names → IsKeptWrite h.events k w
        → IsLastRead h.events calls k l
        → IsLastCall h k.0 k.1
        (option_or (option_map (λ (id : EvId). id.0 + 2) (later w l)) (initial_call k.1))
    last-call_is w l named f r = go w l f r (member-below w l f r)
      where
        Below : Option EvId → Option EvId → Type 0
        Below w l =
            (o : Operation) → IsMember h k.0 k.1 o
            → ((k.1 ≡ Null) × (o.call ≡ 0))
            ⊎ (((id : EvId) × (w ≡ Some id) × (o.call ≡ id.0 + 2))
            ⊎ ((id : EvId) × (l ≡ Some id) × (o.call ≤ id.0 + 2)))

        none : (v : Val) → k.1 ≡ v → Below None None → IsLastCall h k.0 k.1 (initial_call v)
        none Null q b = (
          (
            initial_write k.0,
            subst (λ v. IsMember h k.0 v (initial_write k.0)) (sym q) (initial-member k.0 named),
            refl,
          ),
          λ o m. elim (b o m) [
            | inl x ↦ omega (arith, x.1)
            | inr x ↦ elim x [
              | inl y ↦ absurd (let s = y.1 in cc (s))
              | inr y ↦ absurd (let s = y.1 in cc (s))
            ]
          ],
        )
        none (Int n) q b =
            λ o m. elim (b o m) [
              | inl x ↦ (let s = x.0 in cc (s, q))
              | inr x ↦ elim x [ inl y ↦ (let s = y.1 in cc (s)) | inr y ↦ (let s = y.1 in cc (s)) ]
            ]

        id-is : (a b : EvId) → Some a ≡ Some b → a.0 ≡ b.0
        id-is a b q = let s : a ≡ b = cc (q) in ap (λ (v : EvId). v.0) s

        go : (w l : Option EvId) → IsKeptWrite h.events k w → IsLastRead h.events calls k l → Below w l
            → IsLastCall h k.0 k.1
            (option_or (option_map (λ (id : EvId). id.0 + 2) (later w l)) (initial_call k.1))
        go None None f r b = none k.1 refl b
        go (Some a) None f r b = let x = kept-member k a f in (
          (x.0, x.2, x.4),
          λ o m. elim (b o m) [
            | inl y ↦ omega (arith, y.1)
            | inr y ↦ elim y [
              | inl z ↦ omega (arith, z.2, id-is a z.0 z.1)
              | inr z ↦ absurd (let s = z.1 in cc (s))
            ]
          ],
        )
        go None (Some c) f r b = let x = read-member c r in (
          (x.0, x.1, x.2),
          λ o m. elim (b o m) [
            | inl y ↦ omega (arith, y.1)
            | inr y ↦ elim y [
              | inl z ↦ absurd (let s = z.1 in cc (s))
              | inr z ↦ omega (arith, z.2, id-is c z.0 z.1)
            ]
          ],
        )
        go (Some a) (Some c) f r b = by_test (nat_lt a.0 c.0) refl
          where
            by_test : (t : Bool) → nat_lt a.0 c.0 ≡ t → IsLastCall h k.0 k.1 (Some ((cond t c a).0 + 2))
            by_test true t = let lt = ltb-true a.0 c.0 t in let x = read-member c r in (
              (x.0, x.1, x.2),
              λ o m. elim (b o m) [
                | inl y ↦ omega (arith, y.1)
                | inr y ↦ elim y [
                  | inl z ↦ omega (arith, z.2, id-is a z.0 z.1, lt)
                  | inr z ↦ omega (arith, z.2, id-is c z.0 z.1)
                ]
              ],
            )
            by_test false t = let le = ltb-false a.0 c.0 t in let x = kept-member k a f in (
              (x.0, x.2, x.4),
              λ o m. elim (b o m) [
                | inl y ↦ omega (arith, y.1)
                | inr y ↦ elim y [
                  | inl z ↦ omega (arith, z.2, id-is a z.0 z.1)
                  | inr z ↦ omega (arith, z.2, id-is c z.0 z.1, le)
                ]
              ],
            )

  module _ (k : ℕ × Val) where
    -- no event has the value
    pub first-reply_none : ((i : ℕ) → key_at by_value h.events i ≡ Some k → ⊥) → (k.1 ≡ Null → ⊥)
        → IsFirstReply h k.0 k.1 None
    first-reply_none none ne =
        λ o m d. elim (known h o m.there) [
          | inl z ↦ ne (initial-null k o z.0 m z.1)
          | inr z ↦ let e = reply-event k o z.0 m z.1 d in none e.0 e.5
        ]

    pub first-reply_null : k.1 ≡ Null → k.0 < length h.names → IsFirstReply h k.0 k.1 (Some 1)
    first-reply_null q l = (
      (
        initial_write k.0,
        subst (λ v. IsMember h k.0 v (initial_write k.0)) (sym q) (initial-member k.0 l),
        refl,
        refl,
      ),
      λ o m d. elim (known h o m.there) [
        | inl z ↦ let c = ap (λ (o : Operation). o.reply) z.1 in omega (arith, c)
        | inr z ↦ let e = reply-event k o z.0 m z.1 d in omega (arith, e.6)
      ],
    )

    pub first-reply_entry : (o : Option EvId) → (k.1 ≡ Null → ⊥) → IsFirstOf by_reply h.events k o
        → IsFirstReply h k.0 k.1 (option_map (λ id. id.0 + 2) o)
    first-reply_entry None ne f = λ o m d. elim (known h o m.there) [
      | inl z ↦ ne (initial-null k o z.0 m z.1)
      | inr z ↦ let e = reply-event k o z.0 m z.1 d in f e.0 (omega arith) e.4
    ]
    first-reply_entry (Some id) ne f =
        let e = event-by by_reply id.0 k f.1 in
        let reply = reply-said e.0 k e.2 in
        let x =
        event-member id.0 k e.0 e.1 (reply-value e.0 k e.2)
        (ap (λ b. b || begins_at h.events id.0 e.0) reply) in
        let y = x.1 in
        let what : e.0.what ≡ Reply (op_kind x.0) =
        elim y.is [ inl q ↦ absurd (false≢true (sym (ap is_a_reply q) ∙ reply)) | inr q ↦ q ] in
        let r = y.reply what in (
          (x.0, x.2, r.0, r.1),
          λ o m d. elim (known h o m.there) [
            | inl z ↦ absurd (ne (initial-null k o z.0 m z.1))
            | inr z ↦ let g = reply-event k o z.0 m z.1 d in elim (cases_order g.0 id.0) [
              | inl q ↦ omega (arith, g.6, q)
              | inr c ↦ elim c [
                | inl l ↦ absurd (f.2 g.0 (omega arith) l g.4)
                | inr m ↦ omega (arith, g.6, m)
              ]
            ]
          ],
        )

  -- the operation of an event, named by the event's call
  pub event-operation : (i : ℕ) (e : Event) (c : Option EvId) → slice_get h.events i ≡ Some e
      → IsColumnCall h.events i e c → IsOperOf h i (option_map Called c)
  event-operation i e None at k = event-has-no-operation h rec i e at k
  event-operation i e (Some c) at k =
      let x = event-has-operation h rec i e at k.0 in (
        x.0,
        called-named h x.0 e.process c.0 x.1.one x.1.process (call-of_event i c.0 e x.0 x.1 k.1),
        event-of i e x.0 x.1,
      )
