-- The times of a timeline differ, and those of some of its operations too.
use Rattle.std.proofs.Common.{◌≡◌, ℕ, zero, suc, ◌<◌, Bool, List, [], ◌∷◌, slice_get}
use Rattle.std.proofs.Common.{Some, option_map, inl, inr, sym, ap, ◌∙◌, arith}
use Rattle.std.specs.List.{filter}
use Rattle.std.proofs.lemmas.Bool.{cases_Bool}
use Rattle.history_model.specs.Lists.{In, Before}
use Rattle.history_model.proofs.Lists.{filter-In, filter-Before, Before-total, slice_get-In}
use Rattle.history_model.specs.declared.operation.Operation.{Operation}
use Rattle.history_model.specs.Operations.{IsCompleted}
use Rattle.configurations.specs.declared.moment.Moment.{Moment}
use Rattle.configurations.specs.declared.moment.Moment.TheVariants.{Call, Reply}
use Rattle.register_search.specs.Timeline.{AreCalls, AreTimes, IsTimeline, time_by}
use Rattle.register_search.proofs.Linked.{place-of, reply-time}
use Rattle.register_search.proofs.Replies.{completed-reply_of}

-- ---- of all operations

module _ (r : ℕ) (ops : List Operation) (events : List Moment) (line : IsTimeline r ops events) where
  call-time : (k : ℕ) (a : Operation) → slice_get ops k ≡ Some a → time_by ops (Call k) ≡ Some a.call
  call-time k a e = ap (option_map (λ (o : Operation). o.call)) e

  replied-apart : (a b : Operation) → In a ops → In b ops → IsCompleted a → a.reply ≡ b.call → ⊥
  replied-apart a b i j d s =
      let t = a.reply in
      let x = place-of ops a i in
      let y = place-of ops b j in
      let replies = reply-time r ops events line x.0 a t x.1 (completed-reply_of a d) in
      let calls = call-time y.0 b y.1 in
      elim (Before-total (Reply x.0) (Call y.0) events (line.all (Reply x.0) t replies)
      (line.all (Call y.0) b.call calls)) [
        | inl same ↦ cc (same)
        | inr d ↦ elim d [
          | inl h ↦ let lt = line.ascending (Reply x.0) (Call y.0) t b.call h replies calls in omega arith
          | inr h ↦ let lt = line.ascending (Call y.0) (Reply x.0) b.call t h calls replies in omega arith
        ]
      ]

  reply-apart : (a b : Operation) → In a ops → In b ops → a.reply ≡ b.call → ⊥
  reply-apart a b i j s = elim (cases_Bool a.completed) [
    | inl d ↦ replied-apart a b i j d s
    | inr n ↦ let lt = line.calls.pending a b i j n in omega arith
  ]

  one-reply : (a b : Operation) → In a ops → In b ops → IsCompleted a → IsCompleted b → a.reply ≡ b.reply
      → a ≡ b
  one-reply a b i j d e s =
      let t = b.reply in
      let x = place-of ops a i in
      let y = place-of ops b j in
      let u = reply-time r ops events line x.0 a t x.1 (completed-reply_of a d ∙ ap Some s) in
      let v = reply-time r ops events line y.0 b t y.1 (completed-reply_of b e) in
      elim (Before-total (Reply x.0) (Reply y.0) events (line.all (Reply x.0) t u)
      (line.all (Reply y.0) t v)) [
        | inl same ↦
            let place : x.0 ≡ y.0 = cc (same) in
            let one : Some a ≡ Some b = sym x.1 ∙ (ap (slice_get ops) place ∙ y.1) in
            cc (one)
        | inr d ↦ elim d [
          | inl h ↦ absurd (let lt = line.ascending (Reply x.0) (Reply y.0) t t h u v in omega arith)
          | inr h ↦ absurd (let lt = line.ascending (Reply y.0) (Reply x.0) t t h v u in omega arith)
        ]
      ]

  pub timeline-times : AreTimes ops
  timeline-times = record {
    timed = record { life = line.life; apart = reply-apart };
    replies = one-reply;
  }

-- ---- of some operations

get-Before : (ops : List Operation) (j k : ℕ) (a b : Operation) → j < k → slice_get ops j ≡ Some a
    → slice_get ops k ≡ Some b → Before a b ops
get-Before [] j k a b l e f = absurd (cc (e))
get-Before (x ∷ ops) zero zero a b l e f = absurd (omega arith)
get-Before (x ∷ ops) zero (suc k) a b l e f =
    let same : x ≡ a = cc (e) in inl (sym same, slice_get-In ops k b f)
get-Before (x ∷ ops) (suc j) zero a b l e f = absurd (omega arith)
get-Before (x ∷ ops) (suc j) (suc k) a b l e f = inr (get-Before ops j k a b (omega arith) e f)

Before-get : (ops : List Operation) (a b : Operation) → Before a b ops
    → (j : ℕ) × (k : ℕ) × (j < k) × (slice_get ops j ≡ Some a) × (slice_get ops k ≡ Some b)
Before-get [] a b h = absurd h
Before-get (x ∷ ops) a b (inl h) =
    let y = place-of ops b h.1 in (0, suc y.0, omega arith, ap Some (sym h.0), y.1)
Before-get (x ∷ ops) a b (inr h) =
    let y = Before-get ops a b h in (suc y.0, suc y.1, omega (arith, y.2), y.3, y.4)

module _ (p : Operation → Bool) (ops : List Operation) where
  pub some-calls : (r : ℕ) → AreCalls r ops → AreCalls r (filter p ops)
  some-calls r c = record {
    register = λ a i. c.register a (filter-In p a ops i).0;
    called = λ a i. c.called a (filter-In p a ops i).0;
    ascending = λ j k a b l e f.
        let x = Before-get ops a b (filter-Before p a b ops (get-Before (filter p ops) j k a b l e f)) in
        c.ascending x.0 x.1 a b x.2 x.3 x.4;
    pending = λ a b i j. c.pending a b (filter-In p a ops i).0 (filter-In p b ops j).0;
  }

  pub some-times : AreTimes ops → AreTimes (filter p ops)
  some-times t = record {
    timed = record {
      life = λ a i. t.timed.life a (filter-In p a ops i).0;
      apart = λ a b i j. t.timed.apart a b (filter-In p a ops i).0 (filter-In p b ops j).0;
    };
    replies = λ a b i j. t.replies a b (filter-In p a ops i).0 (filter-In p b ops j).0;
  }
