-- The operations of each register of an accepted history satisfy the facts on which the laws stand.
use Rattle.std.proofs.Common.{◌≡◌, ℕ, zero, suc, ◌+◌, ◌<◌, ◌≤◌, Bool, true, false}
use Rattle.std.proofs.Common.{List, [], ◌++◌, is_some, length, take, slice_get, Some, None, ◌⊎◌}
use Rattle.std.proofs.Common.{inl, inr, refl, sym, ap, subst, ◌∙◌, arith}
use Rattle.std.proofs.lemmas.Bool.{cases_order, eqb-true, eq-eqb, false≢true}
use Rattle.std.proofs.lemmas.Option.{slice_get_within}
use Rattle.history_text.specs.declared.event.Val.TheVariants.{Null, Int}
use Rattle.history_text.specs.declared.event.LineEvent.{LineEvent}
use Rattle.history_model.specs.Lists.{In}
use Rattle.history_model.specs.Refusals.{AreAccepted}
use Rattle.history_model.specs.History.{History, IsRecorded, events_after, event_after, register_names}
use Rattle.history_model.specs.Acts.{asks, is_plain}
use Rattle.history_model.specs.Operations.{calls, is_a_call, is_a_reply, is_a_fail, kind_in}
use Rattle.history_model.specs.declared.operation.Operation.{Operation}
use Rattle.history_model.specs.Operations.{IsWrite, IsCompleted, Precedes}
use Rattle.history_model.specs.Operations.{IsHistory, is_write, value_of, writes}
use Rattle.history_model.specs.Operations.{initial_write, initial_writes, is_of, operations, of_register}
use Rattle.history_model.specs.declared.event.Event.{Event}
use Rattle.history_model.specs.declared.event.What.{What}
use Rattle.history_model.specs.declared.event.What.TheVariants.{Call, Reply, Fail, Crash}
use Rattle.history_model.proofs.Accepted.{line-at, at-after, call-line, crash-line, reply-line}
use Rattle.history_model.proofs.Turns.{no-two-calls, none-after-crash, not-again, read-call, write-value}
use Rattle.history_model.proofs.Turns.{IsReplyTo, reply-event}
use Rattle.history_model.proofs.Plain.{read-asks, reading}
use Rattle.history_model.proofs.Belonging.{IsCallOf, IsPending, IsReplied, IsNextAt, IsLastAt}
use Rattle.history_model.proofs.Belonging.{next-at, called-one, same-call}
use Rattle.history_model.proofs.Lists.{filter-In, In-filter, append-In}

pub of_register-In : (k : ℕ) (h : List Operation) (a : Operation) → In a (of_register k h)
    → In a h × (a.register ≡ k)
of_register-In k h a i =
    let r = filter-In (is_of k) a h i in (r.0, eqb-true _ _ r.1)

pub In-of_register : (k : ℕ) (h : List Operation) (a : Operation) → In a h → a.register ≡ k
    → In a (of_register k h)
In-of_register k h a i q = In-filter (is_of k) a h i (eq-eqb _ _ q)

pub initials-In : (m : ℕ) (a : Operation) → In a (initial_writes m)
    → (j : ℕ) × (j < m) × (a ≡ initial_write j)
initials-In zero a i = elim i [ ]
initials-In (suc m) a (inl e) = (m, omega arith, e)
initials-In (suc m) a (inr i) = let r = initials-In m a i in (r.0, omega (arith, r.1), r.2)

pub In-initials : (m j : ℕ) → j < m → In (initial_write j) (initial_writes m)
In-initials zero j l = absurd (omega arith)
In-initials (suc m) j l =
    elim (cases_order j m) [
      | inl e ↦ inl (ap initial_write e)
      | inr c ↦ elim c [ inl b ↦ inr (In-initials m j b) | inr g ↦ absurd (omega arith) ]
    ]

-- an operation of the events, or an initial write
abbrev pub Known : List Event → Operation → Type 0
Known evs a = ((j : ℕ) × (a ≡ initial_write j)) ⊎ In a (calls evs)

pub reply-no_call : (w : What) → is_a_reply w ≡ true → is_a_call w ≡ true → ⊥
reply-no_call (Call kind) r c = false≢true r
reply-no_call (Reply kind) r c = false≢true c
reply-no_call (Fail kind) r c = false≢true r
reply-no_call Crash r c = false≢true r

module _ (es : List LineEvent) (acc : AreAccepted es) where
  row : (a : Operation) → In a (calls (events_after [] es))
      → (k : ℕ) × (e : Event) × IsCallOf (events_after [] es) a k e
  row a i = called-one (events_after [] es) a i

  pub times : (a : Operation) (i : In a (calls (events_after [] es))) → (2 ≤ a.call) × (a.call < a.reply)
      × (a.call < length (events_after [] es) + 2) × (a.reply ≤ length (events_after [] es) + 2)
  times a i =
      let x = row a i in
      let c = x.2 in
      let b = slice_get_within (events_after [] es) x.0 x.1 c.there in
      elim c.ends [
        | inl p ↦ (
          omega (arith, c.call),
          omega (arith, c.call, p.reply, b),
          omega (arith, c.call, b),
          omega (arith, p.reply),
        )
        | inr r ↦
            let y = r.2 in
            let d = slice_get_within (events_after [] es) r.0 r.1 y.there in (
              omega (arith, c.call),
              omega (arith, c.call, y.reply, y.order),
              omega (arith, c.call, b),
              omega (arith, y.reply, d),
            )
      ]

  initial-one : (j k : ℕ) (a b : Operation) → a ≡ initial_write j → b ≡ initial_write k
      → a.register ≡ b.register → a ≡ b
  initial-one j k a b e f r =
      let jk : j ≡ k =
      sym (ap (λ (o : Operation). o.register) e) ∙ (r ∙ ap (λ (o : Operation). o.register) f) in
      e ∙ (ap initial_write jk ∙ sym f)

  life : (a : Operation) → Known (events_after [] es) a → a.call < a.reply
  life a (inl (j, e)) = omega (arith, ap (λ (o : Operation). o.call) e, ap (λ (o : Operation). o.reply) e)
  life a (inr i) = (times a i).1

  calls-one : (a b : Operation) → Known (events_after [] es) a → Known (events_after [] es) b
      → a.register ≡ b.register → a.call ≡ b.call → a ≡ b
  calls-one a b (inl (j, e)) (inl (k, f)) r q = initial-one j k a b e f r
  calls-one a b (inl (i, e)) (inr j) r q =
      absurd (omega (arith, q, ap (λ (o : Operation). o.call) e, (times b j).0))
  calls-one a b (inr i) (inl (j, f)) r q =
      absurd (omega (arith, q, ap (λ (o : Operation). o.call) f, (times a i).0))
  calls-one a b (inr i) (inr j) r q = same-call (events_after [] es) a b i j q

  -- of two calls of a process with one reply, the later would stand between
  pub not_before : (a b : Operation) → In a (calls (events_after [] es)) → In b (calls (events_after [] es))
      → IsCompleted a → IsCompleted b → a.reply ≡ b.reply → a.call < b.call → ⊥
  not_before a b i j d f q lt =
      let x = row a i in
      let z = row b j in
      elim x.2.ends [
        | inl p ↦ false≢true (sym p.open_one ∙ d)
        | inr r ↦ elim z.2.ends [
          | inl p ↦ false≢true (sym p.open_one ∙ f)
          | inr t ↦
              let u = r.2 in
              let v = t.2 in
              let places : r.0 ≡ t.0 = omega (arith, q, u.reply, v.reply) in
              let g : r.1 ≡ t.1 =
              let m =
              u.there in let n =
              v.there in let s = ap (slice_get (events_after [] es)) places in cc (m, n, s) in
              let same : z.1.process ≡ x.1.process =
              sym v.process ∙ (ap (λ (w : Event). w.process) (sym g) ∙ u.process) in
              u.between z.0 z.1 (omega (arith, lt, x.2.call, z.2.call)) (omega (
                arith,
                places,
                v.order,
              )) z.2.there same
        ]
      ]

  replies-one : (a b : Operation) → Known (events_after [] es) a → Known (events_after [] es) b
      → a.register ≡ b.register → IsCompleted a → IsCompleted b → a.reply ≡ b.reply → a ≡ b
  replies-one a b (inl (j, e)) (inl (k, f)) r d g q = initial-one j k a b e f r
  replies-one a b (inl (i, e)) (inr j) o d g q =
      absurd (omega (arith, q, ap (λ (o : Operation). o.reply) e, (times b j).0, (times b j).1))
  replies-one a b (inr i) (inl (j, f)) o d g q =
      absurd (omega (arith, q, ap (λ (o : Operation). o.reply) f, (times a i).0, (times a i).1))
  replies-one a b (inr i) (inr j) o d g q = elim (cases_order a.call b.call) [
    | inl e ↦ same-call (events_after [] es) a b i j e
    | inr r ↦ elim r [
      | inl lt ↦ absurd (not_before a b i j d g q lt)
      | inr gt ↦ absurd (not_before b a j i g d (sym q) gt)
    ]
  ]

  -- one place has one event
  pub one-event : (j k : ℕ) (g e : Event) → slice_get (events_after [] es) j ≡ Some g
      → slice_get (events_after [] es) k ≡ Some e → j ≡ k → g ≡ e
  one-event j k g e m n q = let s = ap (slice_get (events_after [] es)) q in cc (m, n, s)

  pub apart-called : (a b : Operation) (i : In a (calls (events_after [] es)))
      (j : In b (calls (events_after [] es))) → a.reply ≡ b.call → ⊥
  apart-called a b i j q =
      let x = row a i in
      let z = row b j in
      elim x.2.ends [
        | inl p ↦ omega (arith, p.reply, q, (times b j).2)
        | inr r ↦
            let u = r.2 in
            let g = one-event r.0 z.0 r.1 z.1 u.there z.2.there (omega (arith, q, u.reply, z.2.call)) in
            reply-no_call r.1.what u.is_reply (ap (λ (v : Event). is_a_call v.what) g ∙ z.2.is_call)
      ]

  -- no call comes after a call of its process
  two-calls : (k j : ℕ) (e g : Event) → slice_get (events_after [] es) k ≡ Some e → is_a_call e.what ≡ true
      → IsNextAt (events_after [] es) k e.process j g → is_a_call g.what ≡ true → ⊥
  two-calls k j e g at call x other =
      let first = line-at es acc k e at in
      let second = line-at es acc j g x.there in
      no-two-calls es acc k j first.0 second.0 first.1.there second.1.there x.order
      (sym (ap (λ (v : Event). v.process) second.1.is)
      ∙ (x.process ∙ ap (λ (v : Event). v.process) first.1.is))
      (sym (call-line (take k es) first.0 e first.1.is) ∙ call)
      (sym (call-line (take j es) second.0 g second.1.is) ∙ other)
      (λ m y l n at same. x.between m (event_after (take m es) y) l n (at-after [] es m y at) (same
      ∙ sym (ap (λ (v : Event). v.process) first.1.is)))

  -- no event comes after a crash of its process
  crash-last : (j : ℕ) (g : Event) → slice_get (events_after [] es) j ≡ Some g → is_a_call g.what ≡ false
      → is_a_reply g.what ≡ false → is_a_fail g.what ≡ false → IsLastAt (events_after [] es) j g.process
  crash-last j g at c r f u h lt there same = elim (next-at (events_after [] es) j g.process _ refl) [
    | inl x ↦ x.1 u h lt there same
    | inr x ↦
        let n = x.3 in
        let first = line-at es acc j g at in
        let second = line-at es acc x.0 x.1 n.there in
        none-after-crash es acc j x.0 first.0 second.0 first.1.there second.1.there n.order
        (sym (ap (λ (v : Event). v.process) second.1.is)
        ∙ (n.process ∙ ap (λ (v : Event). v.process) first.1.is))
        (crash-line (take j es) first.0 g first.1.is c r f)
        (λ m y l k at' q. n.between m (event_after (take m es) y) l k (at-after [] es m y at') (q
        ∙ sym (ap (λ (v : Event). v.process) first.1.is)))
  ]

  -- no call comes after a pending operation of its process
  pending-last : (o : Operation) (k u : ℕ) (e f : Event) → slice_get (events_after [] es) k ≡ Some e
      → is_a_call e.what ≡ true → IsPending (events_after [] es) o k e.process → k < u
      → slice_get (events_after [] es) u ≡ Some f → f.process ≡ e.process → is_a_call f.what ≡ true → ⊥
  pending-last o k u e f at call p lt there same other = elim p.rest [
    | inl last ↦ last u f lt there same
    | inr x ↦
        let n = x.2 in
        elim (cases_order u x.0) [
          | inl q ↦ two-calls k x.0 e x.1 at call n
              (ap (λ (v : Event). is_a_call v.what) (one-event x.0 u x.1 f n.there there (sym q)) ∙ other)
          | inr w ↦ elim w [
            | inl less ↦ n.between u f lt less there same
            | inr more ↦ by_kind x.0 x.1 n x.3 x.4 more (is_a_call x.1.what) refl
          ]
        ]
  ]
    where
      by_kind : (j : ℕ) (g : Event) → IsNextAt (events_after [] es) k e.process j g
          → is_a_reply g.what ≡ false → is_a_fail g.what ≡ false → j < u → (b : Bool)
          → is_a_call g.what ≡ b → ⊥
      by_kind j g n r d more true c = two-calls k j e g at call n c
      by_kind j g n r d more false c = crash-last j g n.there c r d u f more there (same ∙ sym n.process)

  apart : (a b : Operation) → Known (events_after [] es) a → Known (events_after [] es) b
      → a.reply ≡ b.call → ⊥
  apart a b (inl (j, e)) (inl (k, f)) q =
      omega (arith, q, ap (λ (o : Operation). o.reply) e, ap (λ (o : Operation). o.call) f)
  apart a b (inl (i, e)) (inr j) q = omega (arith, q, ap (λ (o : Operation). o.reply) e, (times b j).0)
  apart a b (inr i) (inl (j, f)) q = omega (arith, q, ap (λ (o : Operation). o.call) f, (times a i).1)
  apart a b (inr i) (inr j) q = apart-called a b i j q

  -- the reply of an operation is a reply to its call
  pub replied-to : (o : Operation) (k j : ℕ) (e g : Event) → IsCallOf (events_after [] es) o k e
      → IsReplied (events_after [] es) o k e.process j g → IsReplyTo es k j e g
  replied-to o k j e g c r =
      let second = line-at es acc j g r.there in
      let x =
      reply-event es acc j second.0 g second.1 (sym (reply-line (take j es) second.0 g second.1.is)
      ∙ r.is_reply) in
      let t = x.2 in
      let first = line-at es acc k e c.there in
      elim (cases_order x.0 k) [
        | inl q ↦
            let same : x.1 ≡ e =
            let a =
            t.there in let b =
            c.there in let s = ap (slice_get (events_after [] es)) q in cc (a, b, s) in
            subst (λ (v : Event). IsReplyTo es k j v g) same (subst (λ s. IsReplyTo es s j x.1 g) q t)
        | inr w ↦ elim w [
          | inl less ↦ absurd
              (t.between k first.0 less r.order first.1.there (sym (ap (λ (v : Event). v.process) first.1.is)
              ∙ sym r.process))
          | inr more ↦ absurd (r.between x.0 x.1 more t.order t.there (t.process ∙ r.process))
        ]
      ]

  -- they are reads and writes
  plain : (a : Operation) → Known (events_after [] es) a → is_plain a.act ≡ true
  plain a (inl (j, e)) = ap (λ (o : Operation). is_plain o.act) e
  plain a (inr i) = (row a i).2.plain

  -- a read has a value exactly if it is completed
  reads : (a : Operation) → Known (events_after [] es) a → is_write a ≡ false → asks a.act ≡ a.completed
  reads a (inl (j, e)) r = absurd (false≢true (sym r ∙ ap is_write e))
  reads a (inr i) r =
      let x = row a i in
      let c = x.2 in
      let l = line-at es acc x.0 x.1 c.there in
      let read : writes (kind_in x.1.what) ≡ false = sym c.writes_as ∙ r in
      read-asks a.act c.plain r ∙ elim c.ends [
        | inl p ↦
            ap is_some (c.unread r p.open_one
            ∙ read-call es x.0 l.0 x.1 l.1 (sym (call-line (take x.0 es) l.0 x.1 l.1.is) ∙ c.is_call) read)
            ∙ sym p.open_one
        | inr y ↦
            let t = replied-to a x.0 y.0 x.1 y.1 c y.2 in
            ap is_some (y.2.value r ∙ (t.read (reading (kind_in x.1.what) read)).1) ∙ sym y.2.completed
      ]

  -- a pending operation has the last time
  last : (a : Operation) → Known (events_after [] es) a → a.completed ≡ false
      → a.reply ≡ length (events_after [] es) + 2
  last a (inl (j, e)) d = absurd (false≢true (sym d ∙ ap (λ (o : Operation). o.completed) e))
  last a (inr i) d =
      elim (row a i).2.ends [ inl p ↦ p.reply | inr r ↦ absurd (false≢true (sym d ∙ r.2.completed)) ]

  -- a reply is an event before the end
  reply-below : (a : Operation) → Known (events_after [] es) a → IsCompleted a
      → a.reply < length (events_after [] es) + 2
  reply-below a (inl (j, e)) d = omega (arith, ap (λ (o : Operation). o.reply) e)
  reply-below a (inr i) d =
      elim (row a i).2.ends [
        | inl p ↦ absurd (false≢true (sym p.open_one ∙ d))
        | inr r ↦ let b = slice_get_within (events_after [] es) r.0 r.1 r.2.there in
            omega (arith, r.2.reply)
      ]

  call-below : (a : Operation) → Known (events_after [] es) a → a.call < length (events_after [] es) + 2
  call-below a (inl (j, e)) = omega (arith, ap (λ (o : Operation). o.call) e)
  call-below a (inr i) = (times a i).2

  -- no call writes null
  not-null : (a : Operation) → In a (calls (events_after [] es)) → IsWrite a → value_of a ≡ Some Null → ⊥
  not-null a i u q =
      let x = row a i in
      let l = line-at es acc x.0 x.1 x.2.there in
      let n =
      write-value es x.0 l.0 x.1 l.1 (sym (call-line (take x.0 es) l.0 x.1 l.1.is)
      ∙ x.2.is_call) (sym x.2.writes_as ∙ u) in
      let z : Some Null ≡ Some (Int n.0) = sym q ∙ x.2.value (Int n.0) u n.1 in
      cc (z)

  -- of two writes of a value the one isn't before the other
  not-twice : (a b : Operation) → In a (calls (events_after [] es)) → In b (calls (events_after [] es))
      → a.register ≡ b.register → IsWrite a → IsWrite b → value_of a ≡ value_of b → a.call < b.call → ⊥
  not-twice a b i j r u v q lt =
      let x = row a i in
      let z = row b j in
      let l = line-at es acc x.0 x.1 x.2.there in
      let m = line-at es acc z.0 z.1 z.2.there in
      let called = sym (call-line (take x.0 es) l.0 x.1 l.1.is) ∙ x.2.is_call in
      let called' = sym (call-line (take z.0 es) m.0 z.1 m.1.is) ∙ z.2.is_call in
      let written = write-value es x.0 l.0 x.1 l.1 called (sym x.2.writes_as ∙ u) in
      let written' = write-value es z.0 m.0 z.1 m.1 called' (sym z.2.writes_as ∙ v) in
      not-again es acc x.0 z.0 l.0 m.0 x.1 z.1 l.1 m.1 (omega (arith, lt, x.2.call, z.2.call)) called called'
      (sym x.2.writes_as ∙ u) (sym z.2.writes_as ∙ v) (sym x.2.register ∙ (r ∙ z.2.register))
      (written.1
      ∙ (sym (x.2.value (Int written.0) u written.1) ∙ (q
      ∙ (z.2.value (Int written'.0) v written'.1 ∙ sym written'.1))))

  values : (a b : Operation) → Known (events_after [] es) a → Known (events_after [] es) b
      → a.register ≡ b.register → IsWrite a → IsWrite b → value_of a ≡ value_of b → a ≡ b
  values a b (inl (j, e)) (inl (k, f)) r u v q = initial-one j k a b e f r
  values a b (inl (i, e)) (inr j) r u v q =
      absurd (not-null b j v (sym q ∙ ap value_of e))
  values a b (inr i) (inl (j, f)) r u v q = absurd (not-null a i u (q ∙ ap value_of f))
  values a b (inr i) (inr j) r u v q = elim (cases_order a.call b.call) [
    | inl e ↦ same-call (events_after [] es) a b i j e
    | inr c ↦ elim c [
      | inl lt ↦ absurd (not-twice a b i j r u v q lt)
      | inr gt ↦ absurd (not-twice b a j i (sym r) v u (sym q) gt)
    ]
  ]

  -- the later of two calls of a process comes after the earlier's reply
  after : (a b : Operation) (i : In a (calls (events_after [] es))) (j : In b (calls (events_after [] es)))
      → a.process ≡ b.process → a.call < b.call → Precedes a b
  after a b i j q lt =
      let x = row a i in
      let z = row b j in
      let some : Some x.1.process ≡ Some z.1.process = sym x.2.process ∙ (q ∙ z.2.process) in
      let same : z.1.process ≡ x.1.process = cc (some) in
      let later : x.0 < z.0 = omega (arith, lt, x.2.call, z.2.call) in
      elim x.2.ends [
        | inl p ↦ absurd
            (pending-last a x.0 z.0 x.1 z.1 x.2.there x.2.is_call p later z.2.there same z.2.is_call)
        | inr r ↦
            let u = r.2 in
            elim (cases_order a.reply b.call) [
              | inl e ↦ absurd (apart-called a b i j e)
              | inr c ↦ elim c [
                | inl l ↦ l
                | inr g ↦ absurd
                    (u.between z.0 z.1 later (omega (arith, g, u.reply, z.2.call)) z.2.there same)
              ]
            ]
      ]

  pub turns : (a b : Operation) (p : ℕ) → Known (events_after [] es) a → Known (events_after [] es) b
      → a.process ≡ Some p → b.process ≡ Some p → (a ≡ b) ⊎ (Precedes a b ⊎ Precedes b a)
  turns a b p (inl (j, e)) k q s =
      let n = ap (λ (o : Operation). o.process) e in absurd (let z : None ≡ Some p = sym n ∙ q in cc (z))
  turns a b p (inr i) (inl (j, f)) q s =
      let n = ap (λ (o : Operation). o.process) f in absurd (let z : None ≡ Some p = sym n ∙ s in cc (z))
  turns a b p (inr i) (inr j) q s = elim (cases_order a.call b.call) [
    | inl e ↦ inl (same-call (events_after [] es) a b i j e)
    | inr c ↦ inr (elim c [
      | inl lt ↦ inl (after a b i j (q ∙ sym s) lt)
      | inr gt ↦ inr (after b a j i (s ∙ sym q) gt)
    ])
  ]

  pub known-whole : (m : ℕ) (a : Operation) → In a (initial_writes m ++ calls (events_after [] es))
      → Known (events_after [] es) a
  known-whole m a i =
      elim (append-In a (initial_writes m) (calls (events_after [] es)) i) [
        | inl j ↦
            (let x = initials-In m a j in inl (x.0, x.2))
        | inr j ↦ inr j
      ]

  known : (m k : ℕ) (a : Operation) → In a (of_register k (initial_writes m ++ calls (events_after [] es)))
      → Known (events_after [] es) a × (a.register ≡ k)
  known m k a i =
      let r = of_register-In k (initial_writes m ++ calls (events_after [] es)) a i in
      (known-whole m a r.0, r.1)

  initial : (a : Operation) → Known (events_after [] es) a → a.process ≡ None → a ≡ initial_write a.register
  initial a (inl (j, e)) q = e ∙ ap initial_write (sym (ap (λ (o : Operation). o.register) e))
  initial a (inr i) q =
      absurd (let x = (row a i).2.process in let z : None ≡ Some (row a i).1.process = sym q ∙ x in cc (z))

  called-late : (a : Operation) (p : ℕ) → Known (events_after [] es) a → a.process ≡ Some p → 2 ≤ a.call
  called-late a p (inl (j, e)) q =
      absurd (let n = ap (λ (o : Operation). o.process) e in let z : None ≡ Some p = sym n ∙ q in cc (z))
  called-late a p (inr i) q = (times a i).0

  pub recorded-here : (m k : ℕ) → IsHistory (of_register k (initial_writes m ++ calls (events_after [] es)))
  recorded-here m k =
      let one : (a b : Operation) → In a (of_register k (initial_writes m ++ calls (events_after [] es)))
      → In b (of_register k (initial_writes m ++ calls (events_after [] es))) → a.register ≡ b.register =
      λ a b i j. (known m k a i).1 ∙ sym (known m k b j).1 in
      record {
        one = one;
        life = λ a i. life a (known m k a i).0;
        calls = λ a b i j. calls-one a b (known m k a i).0 (known m k b j).0 (one a b i j);
        replies = λ a b i j. replies-one a b (known m k a i).0 (known m k b j).0 (one a b i j);
        apart = λ a b i j. apart a b (known m k a i).0 (known m k b j).0;
        pending = λ a b i j d. omega (arith, last a (known m k a i).0 d, call-below b (known m k b j).0);
        horizon = λ a b i j d g. omega (arith, last a (known m k a i).0 d, reply-below b (known m k b j).0 g);
        values = λ a b i j. values a b (known m k a i).0 (known m k b j).0 (one a b i j);
        turns = λ a b p i j. turns a b p (known m k a i).0 (known m k b j).0;
        initial = λ a i. initial a (known m k a i).0;
        called = λ a p i. called-late a p (known m k a i).0;
        plain = λ a i. plain a (known m k a i).0;
        reads = λ a i. reads a (known m k a i).0;
      }

pub accepted-history : (h : History) → IsRecorded h → (r : ℕ) → IsHistory (of_register r (operations h))
accepted-history h rec r =
    subst (λ (g : History). IsHistory (of_register r (operations g))) (sym rec.is)
    (recorded-here rec.events rec.accepted (length (register_names rec.events)) r)

pub operations-take-turns : (h : History) → IsRecorded h → (a b : Operation) (p : ℕ) → In a (operations h)
    → In b (operations h) → a.process ≡ Some p → b.process ≡ Some p → (a ≡ b) ⊎ (Precedes a b ⊎ Precedes b a)
operations-take-turns h rec =
    subst (λ (g : History). (a b : Operation) (p : ℕ) → In a (operations g) → In b (operations g)
    → a.process ≡ Some p → b.process ≡ Some p → (a ≡ b) ⊎ (Precedes a b ⊎ Precedes b a)) (sym rec.is)
    (λ a b p i j. turns rec.events rec.accepted a b p
    (known-whole rec.events rec.accepted (length (register_names rec.events)) a i)
    (known-whole rec.events rec.accepted (length (register_names rec.events)) b j))
