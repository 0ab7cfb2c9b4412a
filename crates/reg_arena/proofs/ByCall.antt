-- The operation of a call, by the link to the next event of its process.
use Rattle.std.proofs.Common.{◌≡◌, ℕ, suc, ◌+◌, ◌-◌, ◌<◌, cond, true, false, List, length}
use Rattle.std.proofs.Common.{drop, slice_get, Option, Some, None, inl, inr, refl, sym, ap}
use Rattle.std.proofs.Common.{subst, ◌∙◌, arith, option_map, option_and_then, unwrap_or}
use Rattle.std.proofs.lemmas.Bool.{cases_order}
use Rattle.history_model.specs.declared.event.Event.{Event}
use Rattle.history_model.specs.declared.ids.EvId.{EvId}
use Rattle.history_model.specs.declared.ids.RegId.{RegId}
use Rattle.history_model.specs.Lists.{In}
use Rattle.history_model.specs.History.{History, IsRecorded}
use Rattle.history_model.specs.Operations.{next_of, reply_in, operation, is_a_reply}
use Rattle.history_model.specs.declared.operation.Operation.{Operation}
use Rattle.history_model.specs.Operations.{kind_in, number_in, calls, initial_writes, writes}
use Rattle.history_model.specs.Acts.{kind_of_act, plain_act, value_of_act}
use Rattle.history_model.specs.declared.op.Op.{Op}
use Rattle.history_text.specs.declared.event.OpKind.{OpKind}
use Rattle.history_text.specs.declared.event.OpKind.TheVariants.{ReadOp, WriteOp}
use Rattle.history_text.specs.declared.event.Val.{Val}
use Rattle.history_model.specs.declared.ids.Oper.TheVariants.{Called}
use Rattle.history_model.specs.Walking.{IsLeastFrom, IsNextOf, key_at, by_process, IsReplyOf, timed}
use Rattle.history_model.specs.Naming.{IsNamed, begins_at, name_of, op_shown}
use Rattle.history_model.proofs.Belonging.{IsNextAt, next-at, call-In}
use Rattle.history_model.proofs.Named.{at-begun, call-has-value}
use Rattle.history_model.proofs.Walking.{begins-call}
use Rattle.history_model.proofs.Lists.{In-right}
use Rattle.history_model.proofs.Plain.{plain-kind, written-value}

-- the next event of a process is the one that the link leads to
pub next-linked : (evs : List Event) (i : ℕ) (e : Event) (o : Option EvId) → slice_get evs i ≡ Some e
    → IsNextOf by_process evs i o → next_of e.process (suc (i + 2)) (drop (suc i) evs) ≡ timed evs o
next-linked evs i e o at n =
    elim (next-at evs i e.process (next_of e.process (suc (2 + i)) (drop (suc i) evs)) refl) [
      | inl x ↦ time ∙ (x.0 ∙ sym (last o link x.1))
      | inr x ↦ time ∙ (x.2 ∙ sym (found o link x.0 x.1 x.3))
    ]
  where
    time : next_of e.process (suc (i + 2)) (drop (suc i) evs)
        ≡ next_of e.process (suc (2 + i)) (drop (suc i) evs)
    time = let t : i + 2 ≡ 2 + i = omega arith in ap (λ m. next_of e.process (suc m) (drop (suc i) evs)) t

    link : IsLeastFrom (λ j. key_at by_process evs j ≡ Some e.process) (i + 1) o
    link = n e.process (ap (option_and_then by_process) at)

    event-at : (j : ℕ) → key_at by_process evs j ≡ Some e.process → (g : Event) × (slice_get evs j ≡ Some g)
        × (g.process ≡ e.process)
    event-at j h = go (slice_get evs j) refl h
      where
        go : (o : Option Event) → slice_get evs j ≡ o → option_and_then by_process o ≡ Some e.process
            → (g : Event) × (slice_get evs j ≡ Some g) × (g.process ≡ e.process)
        go None q h = absurd (cc (h))
        go (Some g) q h = (g, q, cc (h))

    last : (o : Option EvId) → IsLeastFrom (λ j. key_at by_process evs j ≡ Some e.process) (i + 1) o
        → ((u : ℕ) (g : Event) → i < u → slice_get evs u ≡ Some g → g.process ≡ e.process → ⊥)
        → timed evs o ≡ None
    last None l none = refl
    last (Some j) l none =
        let g = event-at j.0 l.1 in absurd (none j.0 g.0 (let b = l.0 in omega arith) g.1 g.2)

    found : (o : Option EvId) → IsLeastFrom (λ j. key_at by_process evs j ≡ Some e.process) (i + 1) o
        → (j : ℕ) (g : Event) → IsNextAt evs i e.process j g → timed evs o ≡ Some (j + 2, g)
    found None l j g x =
        absurd (let b = x.order in
        l j (omega arith) (ap (option_and_then by_process) x.there ∙ ap Some x.process))
    found (Some m) l j g x = elim (cases_order m.0 j) [
      | inl q ↦ ap (option_map (λ (e : Event). (m.0 + 2, e))) (ap (slice_get evs) q ∙ x.there)
          ∙ ap (λ k. Some (k + 2, g)) q
      | inr w ↦ elim w [
        | inl less ↦ let h = event-at m.0 l.1 in
            absurd (x.between m.0 h.0 (let b = l.0 in omega arith) less h.1 h.2)
        | inr more ↦ absurd (let b = x.order in
            l.2 j (omega arith) more (ap (option_and_then by_process) x.there ∙ ap Some x.process))
      ]
    ]

-- ---- the reply of a call

pub reply-none : (evs : List Event) (i : ℕ) → IsNextOf by_process evs i None → IsReplyOf evs i None
reply-none evs i n e at = ap reply_in (next-linked evs i e None at n)

pub reply-some : (evs : List Event) (i : ℕ) (j : EvId) (r : Event) → IsNextOf by_process evs i (Some j)
    → slice_get evs j.0 ≡ Some r → is_a_reply r.what ≡ true → IsReplyOf evs i (Some j)
reply-some evs i j r n there q e at =
    let t : timed evs (Some j) ≡ Some (j.0 + 2, r) = ap (option_map (λ (e : Event). (j.0 + 2, e))) there in
    ap reply_in (next-linked evs i e (Some j) at n ∙ t)
    ∙ (ap (λ b. cond b (Some (j.0 + 2, r)) None) q ∙ sym t)

pub reply-other : (evs : List Event) (i : ℕ) (j : EvId) (r : Event) → IsNextOf by_process evs i (Some j)
    → slice_get evs j.0 ≡ Some r → is_a_reply r.what ≡ false → IsReplyOf evs i None
reply-other evs i j r n there q e at =
    let t : timed evs (Some j) ≡ Some (j.0 + 2, r) = ap (option_map (λ (e : Event). (j.0 + 2, e))) there in
    ap reply_in (next-linked evs i e (Some j) at n ∙ t) ∙ ap (λ b. cond b (Some (j.0 + 2, r)) None) q

-- ---- the operation of a call

abbrev op_with : Event → ℕ → Option ℕ → RegId → OpKind → Option Val → Op
op_with e t u r k v = record {
  line = e.line;
  call = t;
  reply = u;
  process = Some e.process;
  register = r;
  kind = k;
  value = v;
}

-- a write has a value
abbrev pub IsValued : OpKind → Option Val → Type 0
IsValued k v = writes k ≡ true → (u : Val) × (v ≡ Some u)

plain-value : (k : OpKind) (v : Option Val) → IsValued k v → value_of_act (plain_act k v) ≡ v
plain-value ReadOp v w = refl
plain-value WriteOp v w = let u = w refl in written-value WriteOp v u.0 refl u.1 ∙ sym u.1

module _ (e : Event) (t : ℕ) (u : Option ℕ) (r : RegId) (k : OpKind) (v : Option Val) (w : IsValued k v) where
  -- an operation is shown with its kind and value
  as-shown : op_with e t u r k v
      ≡ op_with e t u r (kind_of_act (plain_act k v)) (value_of_act (plain_act k v))
  as-shown =
      ap (λ l. op_with e t u r l v) (sym (plain-kind k v))
      ∙ ap (op_with e t u r (kind_of_act (plain_act k v))) (sym (plain-value k v w))

-- the call of a write has a value
pub call-valued : (h : History) → IsRecorded h → (i : ℕ) (e : Event) → slice_get h.events i ≡ Some e
    → ((f : Event) × (slice_get h.events i ≡ Some f) × (begins_at h.events i f ≡ true))
    → IsValued (kind_in e.what) e.value
call-valued h rec i e at c w =
    let a = c.1 in
    let same : c.0 ≡ e = cc (a, at) in
    let begun = ap (begins_at h.events i) (sym same) ∙ c.2 in
    call-has-value h rec i e at
    (begins-call e (next_of e.process (suc (i + 2)) (drop (suc i) h.events)) begun) w

-- the operation of a call has its event's name
named : (n i : ℕ) (e : Event) (o : Option (ℕ × Event))
    → name_of (operation n (2 + i) e o) ≡ Called (record { 0 = i })
named n i e None = let t : 2 + i - 2 ≡ i = omega arith in ap (λ m. Called (record { 0 = m })) t
named n i e (Some r) = let t : 2 + i - 2 ≡ i = omega arith in ap (λ m. Called (record { 0 = m })) t

register-is : (o : Option RegId) → unwrap_or o (record { 0 = 0 }) ≡ record { 0 = number_in o }
register-is None = refl
register-is (Some r) = refl

module _ (h : History) (i : EvId) (e : Event) (at : slice_get h.events i.0 ≡ Some e) (c : (f : Event)
    × (slice_get h.events i.0 ≡ Some f) × (begins_at h.events i.0 f ≡ true)) (register : RegId)
    (reg : register ≡ unwrap_or e.register (record { 0 = 0 }))
    (valued : IsValued (kind_in e.what) e.value) where
  begun : begins_at h.events i.0 e ≡ true
  begun = let a = c.1 in let same : c.0 ≡ e = cc (a, at) in ap (begins_at h.events i.0) (sym same) ∙ c.2

  -- the operation with its reply
  by-reply : (o : Option (ℕ × Event))
      → reply_in (next_of e.process (suc (i.0 + 2)) (drop (suc i.0) h.events)) ≡ o
      → (x : Operation) × IsNamed h (Called i) x × (x ≡ operation (length h.events + 2) (2 + i.0) e o)
  by-reply o r =
      let t : 2 + i.0 ≡ i.0 + 2 = omega arith in
      let q : reply_in (next_of e.process (suc (2 + i.0)) (drop (suc i.0) h.events)) ≡ o =
      ap (λ m. reply_in (next_of e.process (suc m) (drop (suc i.0) h.events))) t ∙ r in
      let inside = call-In (length h.events + 2) 2 h.events i.0 e at (at-begun h.events i.0 e begun) in
      let there =
      subst (λ y. In (operation (length h.events + 2) (2 + i.0) e y) (calls h.events)) q inside in (
        operation (length h.events + 2) (2 + i.0) e o,
        record {
          one =
              In-right (operation (length h.events + 2) (2 + i.0) e o) (initial_writes (length h.names))
              (calls h.events) there;
          named = named (length h.events + 2) i.0 e o;
        },
        refl,
      )

  abbrev shown : Option ℕ → Option Val → Op
  shown u v = record {
    line = e.line;
    call = i.0 + 2;
    reply = u;
    process = Some e.process;
    register = register;
    kind = kind_in e.what;
    value = v;
  }

  abbrev k : OpKind
  k = kind_in e.what

  same-register : register ≡ record { 0 = number_in e.register }
  same-register = reg ∙ register-is e.register

  pub pending : IsReplyOf h.events i.0 None → (o : Operation) × IsNamed h (Called i) o
      × (shown None e.value ≡ op_shown o)
  pending r =
      let x = by-reply None (r e at) in
      let t : i.0 + 2 ≡ 2 + i.0 = omega arith in (
        x.0,
        x.1,
        ap (λ m. op_with e m None register k e.value) t
            ∙ (ap (λ g. op_with e (2 + i.0) None g k e.value) same-register
            ∙ (as-shown e (2 + i.0) None (record { 0 = number_in e.register }) k e.value valued
            ∙ ap op_shown (sym x.2))),
      )

  pub replied : (j : EvId) (r : Event) (v : Option Val) → IsReplyOf h.events i.0 (Some j)
      → slice_get h.events j.0 ≡ Some r → v ≡ cond (writes (kind_in e.what)) e.value r.value
      → (o : Operation) × IsNamed h (Called i) o × (shown (Some (j.0 + 2)) v ≡ op_shown o)
  replied j r v n there q =
      let x = by-reply (Some (j.0 + 2, r)) (n e at ∙ ap (option_map (λ (e : Event). (j.0 + 2, e))) there) in
      let t : i.0 + 2 ≡ 2 + i.0 = omega arith in (
        x.0,
        x.1,
        ap (λ m. op_with e m (Some (j.0 + 2)) register k v) t
            ∙ (ap (λ g. op_with e (2 + i.0) (Some (j.0 + 2)) g k v) same-register
            ∙ (ap (op_with e (2 + i.0) (Some (j.0 + 2)) (record { 0 = number_in e.register }) k) q
            ∙ (as-shown e (2 + i.0) (Some (j.0 + 2)) (record { 0 = number_in e.register }) k
            (cond (writes k) e.value r.value) (λ w.
            let u = valued w in (u.0, ap (λ b. cond b e.value r.value) w ∙ u.1))
            ∙ ap op_shown (sym x.2)))),
      )
