-- The calls of each register stand in time as those of a history.
use Rattle.std.proofs.Common.{◌≡◌, ℕ, ◌+◌, ◌<◌, suc, drop, cond, not, ◌&&◌, Bool, true, false, List, length}
use Rattle.std.proofs.Common.{slice_get, refl}
use Rattle.std.proofs.Common.{Option, Some, None, ◌⊎◌, inl, inr, sym, ap, ◌∙◌, arith}
use Rattle.std.proofs.lemmas.Bool.{cases_order, false≢true}
use Rattle.std.proofs.lemmas.Option.{slice_get_within}
use Rattle.history_model.specs.Calls.{Calls, begins, calls_of, has_failed, next_after, operation, reply_in}
use Rattle.history_model.specs.Lists.{In}
use Rattle.history_model.specs.Operations.{IsCompleted, is_of, of_register}
use Rattle.history_model.specs.Timed.{AreTimedCalls}
use Rattle.history_model.specs.declared.operation.Operation.{Operation}
use Rattle.history_model.proofs.Ascending.{Ascends, ascends-calls, ascends-filter}
use Rattle.history_model.proofs.Ascending.{in_order, not_before, same-call}
use Rattle.history_model.proofs.Calling.{IsNextAt, is-called, next-at}
use Rattle.history_model.proofs.Recorded.{of_register-In}

one-event : {Event : Type 0} (es : List Event) (i j : ℕ) (e f : Event) → slice_get es i ≡ Some e
    → slice_get es j ≡ Some f → i ≡ j → e ≡ f
one-event es i j e f p q same = let h : Some e ≡ Some f = sym p ∙ (ap (slice_get es) same ∙ q) in cc (h)

module _ {Event : Type 0} (calls : Calls Event) (events : List Event) where
  -- the time of a missing reply
  abbrev after_all : ℕ
  after_all = length events + 2

  -- the reply to the call e at place k is the event g at place j
  pub record IsReplyAt (a : Operation) (k : ℕ) (e : Event) (j : ℕ) (g : Event) : Type 0 where
    pub time : a.reply ≡ j + 2
    pub completed : a.completed ≡ true
    pub replies : calls.is_reply g ≡ true
    pub next : IsNextAt calls events k (calls.process e) j g

  -- a is the operation of a call, with its reply or without one
  pub record IsCallAt (a : Operation) : Type 0 where
    pub place : ℕ
    pub event : Event
    pub there : slice_get events place ≡ Some event
    pub time : a.call ≡ place + 2
    pub is_call : calls.is_call event ≡ true
    pub register : a.register ≡ calls.register event
    pub ends : ((j : ℕ) × (g : Event) × IsReplyAt a place event j g)
        ⊎ ((a.completed ≡ false) × (a.reply ≡ after_all))

  is-begun : (e : Event) (next : Option (ℕ × Event)) → begins calls e next ≡ true → calls.is_call e ≡ true
  is-begun e next h = go (calls.is_call e) (has_failed calls next) h
    where
      go : (b f : Bool) → (b && not f) ≡ true → b ≡ true
      go true f h = refl
      go false f h = absurd (false≢true h)

  pub call-at : (a : Operation) → In a (calls_of calls events) → IsCallAt a
  call-at a i =
      let x = is-called calls after_all 2 events a i in
      by_reply x.0 x.1 x.2.0 (is-begun x.1 _ x.2.1) x.2.2
    where
      by_reply : (k : ℕ) (e : Event) → slice_get events k ≡ Some e → calls.is_call e ≡ true
          → a ≡ operation calls after_all (2 + k) e
          (reply_in calls (next_after calls (2 + k) e (drop (suc k) events))) → IsCallAt a
      by_reply k e at is q =
          elim (next-at calls events k (calls.process e)
          (next_after calls (2 + k) e (drop (suc k) events)) refl) [
            | inl x ↦ pending (q ∙ ap (λ o. operation calls after_all (2 + k) e (reply_in calls o)) x.0)
            | inr x ↦ by_kind x.0 x.1 x.3 (calls.is_reply x.1) refl
                (q ∙ ap (λ o. operation calls after_all (2 + k) e (reply_in calls o)) x.2)
          ]
        where
          pending : a ≡ operation calls after_all (2 + k) e None → IsCallAt a
          pending q = record {
            place = k;
            event = e;
            there = at;
            time = ap (λ (a : Operation). a.call) q ∙ omega arith;
            is_call = is;
            register = ap (λ (a : Operation). a.register) q;
            ends = inr (ap (λ (a : Operation). a.completed) q, ap (λ (a : Operation). a.reply) q);
          }

          by_kind : (j : ℕ) (g : Event) → IsNextAt calls events k (calls.process e) j g → (b : Bool)
              → calls.is_reply g ≡ b
              → a ≡ operation calls after_all (2 + k) e (cond (calls.is_reply g) (Some (j + 2, g)) None)
              → IsCallAt a
          by_kind j g x false r q =
              pending (q ∙ ap (λ b. operation calls after_all (2 + k) e (cond b (Some (j + 2, g)) None)) r)
          by_kind j g x true r q =
              let z = q ∙ ap (λ b. operation calls after_all (2 + k) e (cond b (Some (j + 2, g)) None)) r in
              record {
                place = k;
                event = e;
                there = at;
                time = ap (λ (a : Operation). a.call) z ∙ omega arith;
                is_call = is;
                register = ap (λ (a : Operation). a.register) z;
                ends = inl (
                  j,
                  g,
                  record {
                    time = ap (λ (a : Operation). a.reply) z;
                    completed = ap (λ (a : Operation). a.completed) z;
                    replies = r;
                    next = x;
                  },
                );
              }

  ascending : Ascends 2 (calls_of calls events)
  ascending = ascends-calls calls after_all 2 events

  -- each call comes before the time of a missing reply
  called-before : (a : Operation) → In a (calls_of calls events) → a.call < after_all
  called-before a i =
      let c = call-at a i in omega (arith, c.time, slice_get_within events c.place c.event c.there)

  life : (a : Operation) → In a (calls_of calls events) → a.call < a.reply
  life a i = let c = call-at a i in elim c.ends [
    | inl r ↦ let x = r.2 in omega (arith, c.time, x.time, x.next.order)
    | inr r ↦ omega (arith, called-before a i, r.1)
  ]

  pending : (a b : Operation) → In a (calls_of calls events) → In b (calls_of calls events)
      → a.completed ≡ false → b.call < a.reply
  pending a b i j n = elim (call-at a i).ends [
    | inl r ↦ absurd (false≢true (sym n ∙ r.2.completed))
    | inr r ↦ omega (arith, called-before b j, r.1)
  ]

  replied-at : (a : Operation) → In a (calls_of calls events) → IsCompleted a
      → (c : IsCallAt a) × (j : ℕ) × (g : Event) × IsReplyAt a c.place c.event j g
  replied-at a i d = let c = call-at a i in elim c.ends [
    | inl r ↦ (c, r.0, r.1, r.2)
    | inr r ↦ absurd (false≢true (sym r.0 ∙ d))
  ]

  -- no call of the process stands between a call and its reply
  not-later : (a b : Operation) → In a (calls_of calls events) → In b (calls_of calls events) → IsCompleted a
      → IsCompleted b → a.reply ≡ b.reply → a.call < b.call → ⊥
  not-later a b i j h k same l =
      let x = replied-at a i h in
      let y = replied-at b j k in
      let c = x.0 in
      let d = y.0 in
      let r = x.3 in
      let u = y.3 in
      let q =
      one-event events x.1 y.1 x.2 y.2 r.next.there u.next.there (omega (arith, r.time, u.time, same)) in
      let process = sym u.next.process ∙ (sym (ap calls.process q) ∙ r.next.process) in
      r.next.between d.place d.event (omega (arith, c.time, d.time, l)) (omega (
        arith,
        r.time,
        u.time,
        u.next.order,
        same,
      )) d.there process

  replies : (a b : Operation) → In a (calls_of calls events) → In b (calls_of calls events) → IsCompleted a
      → IsCompleted b → a.reply ≡ b.reply → a ≡ b
  replies a b i j h k same = elim (cases_order a.call b.call) [
    | inl q ↦ same-call 2 (calls_of calls events) ascending a b i j q
    | inr w ↦ elim w [
      | inl l ↦ absurd (not-later a b i j h k same l)
      | inr l ↦ absurd (not-later b a j i k h (sym same) l)
    ]
  ]

  -- if no event is a call and a reply
  module _ (one : (e : Event) → calls.is_call e ≡ true → calls.is_reply e ≡ true → ⊥) where
    apart : (a b : Operation) → In a (calls_of calls events) → In b (calls_of calls events) → a.reply
        ≡ b.call
        → ⊥
    apart a b i j same = let d = call-at b j in elim (call-at a i).ends [
      | inl k ↦
          let r = k.2 in
          let q =
          one-event events k.0 d.place k.1 d.event r.next.there d.there
          (omega (arith, r.time, d.time, same)) in
          one d.event d.is_call (sym (ap calls.is_reply q) ∙ r.replies)
      | inr r ↦ omega (arith, called-before b j, r.1, same)
    ]

    pub calls-timed : (r : ℕ) → AreTimedCalls r (of_register r (calls_of calls events))
    calls-timed r = record {
      register = λ a i. (own a i).1;
      called = λ a i. not_before 2 (calls_of calls events) ascending a (own a i).0;
      ascending =
          in_order 2 (of_register r (calls_of calls events))
          (ascends-filter (is_of r) 2 (calls_of calls events) ascending);
      life = λ a i. life a (own a i).0;
      apart = λ a b i j. apart a b (own a i).0 (own b j).0;
      replies = λ a b i j. replies a b (own a i).0 (own b j).0;
      pending = λ a b i j. pending a b (own a i).0 (own b j).0;
    }
      where
        own : (a : Operation) → In a (of_register r (calls_of calls events))
            → In a (calls_of calls events) × (a.register ≡ r)
        own a i = of_register-In r (calls_of calls events) a i
