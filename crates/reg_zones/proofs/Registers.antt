-- The events of a register and its operations belong together.
use Rattle.std.proofs.Common.{◌≡◌, ℕ, ◌+◌, ◌-◌, ◌<◌, ◌≤◌, Option, Some, None, unwrap_or}
use Rattle.std.proofs.Common.{length, ◌⊎◌, inl, inr, refl, sym, ap, subst, ◌∙◌, arith}
use Rattle.std.proofs.lemmas.Bool.{cases_Bool, cases_lt}
use Rattle.history_text.specs.declared.event.Val.{Val}
use Rattle.history_model.specs.declared.ids.EvId.{EvId}
use Rattle.history_model.specs.declared.ids.Oper.{Oper}
use Rattle.history_model.specs.declared.ids.Oper.TheVariants.{Initial, Called}
use Rattle.history_model.specs.Lists.{In}
use Rattle.history_model.specs.History.{History}
use Rattle.history_model.specs.Operations.{IsWrite, IsCompleted, is_write, value_of}
use Rattle.history_model.specs.declared.operation.Operation.{Operation}
use Rattle.history_model.specs.Operations.{of_register, operations, initial_write}
use Rattle.history_model.specs.Walking.{by_register, key_at}
use Rattle.history_model.specs.Naming.{IsEventOf, IsNamed, IsOperOf, name_by, name_of}
use Rattle.history_model.specs.OfValue.{IsMember, IsFirstReply, IsLastCall}
use Rattle.reg_zones.specs.Clusters.{IsKept, IsInCluster, first_reply, last_call}
use Rattle.reg_zones.specs.Clusters.{low_end, HasFirstReply, HasLastCall}
use Rattle.reg_zones.proofs.Known.{IsKnown, process-of}
use Rattle.reg_zones.proofs.Ends.{kept-member, first_reply-at, first_reply-is, last_call-at, last_call-is}
use Rattle.reg_zones.proofs.ClearBelow.{first_completed}
use Rattle.reg_zones.proofs.Walks.{key-within}
use Rattle.history_model.proofs.Recorded.{In-of_register, of_register-In}

-- nobody called it, or some process did
pub cases_process : (p : Option ℕ) → (p ≡ None) ⊎ ((q : ℕ) × (p ≡ Some q))
cases_process None = inl refl
cases_process (Some q) = inr (q, refl)

module _ (h : History) (r : ℕ) (y : IsKnown h r) where
  -- an operation of the register that has an event was called by a process
  pub event-process : (i : ℕ) (o : Operation) → In o (of_register r (operations h)) → IsEventOf i o
      → (p : ℕ) × (o.process ≡ Some p)
  event-process = process-of (of_register r (operations h)) y.history

  -- the event of an operation of the register is of the register
  pub event-key : (i : ℕ) (o : Operation) → In o (of_register r (operations h)) → IsEventOf i o
      → key_at by_register h.events i ≡ Some r
  event-key i o k t =
      let j = of_register-In r (operations h) o k in
      y.event i o j.0 t ∙ ap Some j.1

  -- an event of the register is of an operation of the register
  pub key-operation : (i : ℕ) (o : Operation) → key_at by_register h.events i ≡ Some r → In o (operations h)
      → IsEventOf i o → In o (of_register r (operations h))
  key-operation i o k j t = let own = y.event i o j t in In-of_register r (operations h) o j (cc (own, k))

  -- the operation that an event of the register begins
  pub begun : (id : EvId) (o : Operation) → key_at by_register h.events id.0 ≡ Some r
      → IsNamed h (Called id) o → In o (of_register r (operations h)) × (o.call ≡ id.0 + 2)
  begun id o k n = elim (cases_process o.process) [
    | inl q ↦ absurd (let m = ap (λ p. name_by p o) q in let w = n.named in cc (m, w))
    | inr p ↦
        let w : Called (record { 0 = o.call - 2 }) ≡ Called id = sym (ap (λ q. name_by q o) p.1) ∙ n.named in
        let v : record { 0 = o.call - 2 } ≡ id = cc (w) in
        let c = y.called o p.0 n.one p.1 in
        let u : o.call ≡ id.0 + 2 = omega (arith, ap (λ (x : EvId). x.0) v) in
        (key-operation id.0 o k n.one (inl u), u)
  ]

  -- ---- names

  -- an operation's name by the time of its call
  pub call-name : (a : Operation) → In a (of_register r (operations h))
      → (a.call < 2 → name_of a ≡ Initial (record { 0 = r }))
      × (2 ≤ a.call → name_of a ≡ Called (record { 0 = a.call - 2 }))
  call-name a k = elim (cases_process a.process) [
    | inl n ↦
        let e = y.history.initial a k n in
        let j = of_register-In r (operations h) a k in (
          λ l. ap (λ q. name_by q a) n ∙ ap (λ m. Initial (record { 0 = m })) j.1,
          λ l. absurd (omega (arith, l, ap (λ (o : Operation). o.call) e)),
        )
    | inr p ↦ (λ l. absurd (omega (arith, l, y.history.called a p.0 k p.1)), λ l. ap (λ q. name_by q a) p.1)
  ]

  -- the name that the arena gives an event's operation
  pub found-name : (i : ℕ) (found : Option Oper) (other : Oper) → IsOperOf h i found → (a : Operation)
      → In a (operations h) → IsEventOf i a → name_of a ≡ unwrap_or found other
  found-name i None other f a j t = absurd (f a j t)
  found-name i (Some name) other f a j t = ap name_of (y.one i a f.0 j f.1.one t f.2) ∙ f.1.named

  -- the initial write alone replies before all events
  pub early-reply : (a : Operation) → In a (of_register r (operations h)) → a.reply < 2
      → name_of a ≡ Initial (record { 0 = r })
  early-reply a k l = let lives = y.history.life a k in (call-name a k).0 (omega arith)

  pub reply-event : (a : Operation) → In a (of_register r (operations h)) → IsCompleted a → 2 ≤ a.reply
      → a.reply - 2 < length h.events
  reply-event a k d l =
      key-within h.events (a.reply - 2) r (event-key (a.reply - 2) a k (inr (d, omega arith)))

  -- ---- clusters

  pub member-cluster : (v : Val) (o : Operation) → IsMember h r v o
      → IsInCluster (of_register r (operations h)) (Some v) o
  member-cluster v o m = record {
    within = In-of_register r (operations h) o m.there m.register;
    value = m.value;
    counts = m.full;
  }

  pub cluster-member : (v : Val) (o : Operation) → IsInCluster (of_register r (operations h)) (Some v) o
      → IsMember h r v o
  cluster-member v o m = let j = of_register-In r (operations h) o m.within in record {
    there = j.0;
    register = j.1;
    value = m.value;
    full = m.counts;
  }

  pub first_reply-found : (v : Val) (t : ℕ) → IsFirstReply h r v (Some t)
      → t ≡ first_reply (of_register r (operations h)) (Some v)
  first_reply-found v t f =
      let ops = of_register r (operations h) in
      let a = f.0 in
      let m = member-cluster v a.0 a.1 in
      sym (first_reply-is ops (Some v) a.0 m (λ b n. elim (cases_Bool b.completed) [
        | inl d ↦ omega (arith, f.1 b (cluster-member v b n) d, a.3)
        | inr d ↦ omega (arith, y.history.horizon b a.0 n.within m.within d a.2)
      ]) ∙ a.3)

  pub last_call-found : (v : Val) (t : ℕ) → IsLastCall h r v (Some t)
      → t ≡ last_call (of_register r (operations h)) (Some v)
  last_call-found v t f =
      let a = f.0 in
      sym (last_call-is (of_register r (operations h)) (Some v) a.0 (member-cluster v a.0 a.1)
      (λ b n. omega (arith, f.1 b (cluster-member v b n), a.2)) ∙ a.2)

  -- a kept write's cluster has a completed operation
  pub kept-completed : (v : Val) (w : Operation) → IsKept (of_register r (operations h)) w
      → value_of w ≡ Some v
      → (o : Operation) × IsMember h r v o × IsCompleted o
  kept-completed v w k e = elim k.kept [
    | inl d ↦ (w, cluster-member v w (record { within = k.within; value = e; counts = inl k.write }), d)
    | inr q ↦ (
      q.0,
      cluster-member v q.0 (record { within = q.1; value = q.2.value ∙ e; counts = inr q.2.completed }),
      q.2.completed,
    )
  ]

  -- and a write whose cluster has one is kept
  pub completed-kept : (v : Val) (w o : Operation) → In w (of_register r (operations h)) → IsWrite w
      → value_of w ≡ Some v → IsMember h r v o → IsCompleted o → IsKept (of_register r (operations h)) w
  completed-kept v w o i u e m d =
      let n = member-cluster v o m in
      record {
        within = i;
        write = u;
        kept = elim (cases_Bool (is_write o)) [
          | inl t ↦ inl (subst IsCompleted (y.history.values o w n.within i t u (n.value ∙ sym e)) d)
          | inr t ↦ inr (o, n.within, record { read = t; completed = d; value = n.value ∙ sym e })
        ];
      }

  -- ---- low ends

  -- the low end of a kept write's cluster is the call or the reply of one of its operations
  pub low_end-at : (w : Operation) → IsKept (of_register r (operations h)) w
      → (a : Operation) × IsInCluster (of_register r (operations h)) (value_of w) a
      × ((a.call ≡ low_end (of_register r (operations h)) (value_of w))
      ⊎ (IsCompleted a × (a.reply ≡ low_end (of_register r (operations h)) (value_of w))))
  low_end-at w k =
      let ops = of_register r (operations h) in
      let f = first_reply-at ops (value_of w) w (kept-member ops w k) in
      let s = last_call-at ops (value_of w) w (kept-member ops w k) in
      elim (cases_lt (first_reply ops (value_of w)) (last_call ops (value_of w))) [
        | inl p ↦ (
          f.0,
          f.1,
          inr (
            first_completed ops w f.0 y.history k (record { member = f.1; least = f.2 }),
            omega (arith, f.2),
          ),
        )
        | inr p ↦ (s.0, s.1, inl (omega (arith, s.2)))
      ]

  -- at an event of the register it is of the event's operation
  pub low_end-event : (i : ℕ) (o w : Operation) → In o (operations h) → IsEventOf i o
      → IsKept (of_register r (operations h)) w → low_end (of_register r (operations h)) (value_of w) ≡ i + 2
      → IsInCluster (of_register r (operations h)) (value_of w) o
  low_end-event i o w j t k e =
      let a = low_end-at w k in
      let at : IsEventOf i a.0 = elim a.2 [ inl c ↦ inl (c ∙ e) | inr c ↦ inr (c.0, c.1 ∙ e) ] in
      let same = y.one i a.0 o (of_register-In r (operations h) a.0 a.1.within).0 j at t in
      subst (IsInCluster (of_register r (operations h)) (value_of w)) same a.1

  -- at an event of no operation that counts no low end is
  pub unmet_low_end : (i : ℕ) (w : Operation)
      → ((a : Operation) → In a (of_register r (operations h)) → IsEventOf i a → IsWrite a ⊎ IsCompleted a
      → ⊥) → IsKept (of_register r (operations h)) w
      → low_end (of_register r (operations h)) (value_of w) ≡ i + 2 → ⊥
  unmet_low_end i w none k e =
      let a = low_end-at w k in
      none a.0 a.1.within (elim a.2 [ inl c ↦ inl (c ∙ e) | inr c ↦ inr (c.0, c.1 ∙ e) ]) a.1.counts

  -- where no event of the register is, no low end is
  pub no_low_end : (i : ℕ) (w : Operation) → (key_at by_register h.events i ≡ Some r → ⊥)
      → IsKept (of_register r (operations h)) w
      → low_end (of_register r (operations h)) (value_of w) ≡ i + 2 → ⊥
  no_low_end i w none k e = unmet_low_end i w (λ a j t counts. none (event-key i a j t)) k e

  -- before all events there is the initial cluster's low end alone
  pub initial_low : (w : Operation) → IsKept (of_register r (operations h)) w
      → low_end (of_register r (operations h)) (value_of w) < 2 → w ≡ initial_write r
  initial_low w k lt =
      let a = low_end-at w k in
      let ops = of_register r (operations h) in
      elim (cases_process a.0.process) [
        | inl n ↦
            let e = y.history.initial a.0 a.1.within n in
            let v : value_of w ≡ value_of (initial_write r) = sym a.1.value ∙ ap value_of e in
            y.history.values w (initial_write r) k.within y.initial k.write refl v
        | inr p ↦
            let c = y.history.called a.0 p.0 a.1.within p.1 in
            let lives = y.history.life a.0 a.1.within in
            absurd (elim a.2 [ inl q ↦ omega (arith, q) | inr q ↦ omega (arith, q.1) ])
      ]

  -- the operation that replies first in a kept write's cluster
  pub first_replied : (w : Operation) → IsKept (of_register r (operations h)) w
      → (a : Operation) × HasFirstReply (of_register r (operations h)) (value_of w) a × IsCompleted a
  first_replied w k =
      let ops = of_register r (operations h) in
      let f = first_reply-at ops (value_of w) w (kept-member ops w k) in
      let x : HasFirstReply ops (value_of w) f.0 = record { member = f.1; least = f.2 } in
      (f.0, x, first_completed ops w f.0 y.history k x)

  -- and the one called last
  pub last_called : (w : Operation) → IsKept (of_register r (operations h)) w
      → (a : Operation) × HasLastCall (of_register r (operations h)) (value_of w) a
  last_called w k =
      let ops = of_register r (operations h) in
      let s = last_call-at ops (value_of w) w (kept-member ops w k) in
      (s.0, record { member = s.1; greatest = s.2 })
