-- The calls and the replies of a register are in order by numbers.
use Rattle.std.proofs.Common.{◌≡◌, ℕ, ◌<◌, List, [], ◌∷◌, slice_get, Option, Some, None, option_map}
use Rattle.std.proofs.Common.{option_and_then, ◌⊎◌, inl, inr, refl, sym, ap, subst, ◌∙◌, arith}
use Rattle.std.specs.List.{AllZip}
use Rattle.history_text.specs.declared.event.Val.{Val}
use Rattle.history_model.specs.Lists.{In, Before}
use Rattle.history_model.proofs.Lists.{slice_get-In}
use Rattle.history_model.specs.declared.operation.Operation.{Operation}
use Rattle.history_model.specs.Operations.{reply_of}
use Rattle.configurations.specs.declared.moment.Moment.{Moment}
use Rattle.configurations.specs.declared.moment.Moment.TheVariants.{Call, Reply}
use Rattle.configurations.specs.declared.op.Op.{Op}
use Rattle.configurations.specs.declared.op.TheConstants.{NEVER}
use Rattle.configurations.specs.Ops.{option_rank, rank_at}
use Rattle.configurations.specs.Runs.{AreInOrder, without}
use Rattle.configurations.proofs.Lists.{without-In}
use Rattle.register_search.specs.ByNumbers.{IsByNumber, IsRank}
use Rattle.register_search.specs.Timeline.{IsTimeline, time_by}
use Rattle.register_search.proofs.ByNumbers.{at-place}
use Rattle.register_search.proofs.Replies.{reply_of-completed}

-- the moments from some time on: each later moment of the operations is among them too
record AreLast (ops : List Operation) (es : List Moment) : Type 0 where
  only : (e : Moment) → In e es → (t : ℕ) × (time_by ops e ≡ Some t)
  ascending : (e f : Moment) (s t : ℕ) → Before e f es → time_by ops e ≡ Some s
      → time_by ops f ≡ Some t → s < t
  later : (e f : Moment) (s t : ℕ) → In e es → time_by ops e ≡ Some s → time_by ops f ≡ Some t → s < t
      → In f es

rest : (ops : List Operation) (x : Moment) (es : List Moment) → AreLast ops (x ∷ es) → AreLast ops es
rest ops x es l = record {
  only = λ e i. l.only e (inr i);
  ascending = λ e f s t b. l.ascending e f s t (inr b);
  later = λ e f s t i p q lt. elim (l.later e f s t (inr i) p q lt) [
    | inl same ↦ absurd (let gt = l.ascending x e t s (inl (refl, i)) (ap (time_by ops) (sym same) ∙ q) p in
        omega arith)
    | inr j ↦ j
  ];
}

called-at : (ops : List Operation) (k t : ℕ) → time_by ops (Call k) ≡ Some t
    → (a : Operation) × (slice_get ops k ≡ Some a)
called-at ops k t h = go (slice_get ops k) refl h
  where
    go : (o : Option Operation) → slice_get ops k ≡ o → option_map (λ (a : Operation). a.call) o ≡ Some t
        → (a : Operation) × (slice_get ops k ≡ Some a)
    go None e h = absurd (cc (h))
    go (Some a) e h = (a, e)

replied-at : (ops : List Operation) (k t : ℕ) → time_by ops (Reply k) ≡ Some t
    → (a : Operation) × (slice_get ops k ≡ Some a) × (reply_of a ≡ Some t)
replied-at ops k t h = go (slice_get ops k) refl h
  where
    go : (o : Option Operation) → slice_get ops k ≡ o
        → option_and_then reply_of o ≡ Some t
        → (a : Operation) × (slice_get ops k ≡ Some a) × (reply_of a ≡ Some t)
    go None e h = absurd (cc (h))
    go (Some a) e h = (a, e, h)

-- the operations of these numbers are called, and those that reply do so among these moments
record AreOpen (ops : List Operation) (numbers : List ℕ) (es : List Moment) : Type 0 where
  there : (i : ℕ) → In i numbers → (a : Operation) × (slice_get ops i ≡ Some a)
  replies : (i t : ℕ) → In i numbers → time_by ops (Reply i) ≡ Some t → In (Reply i) es

-- one more is called
after-call : (ops : List Operation) (k : ℕ) (numbers : List ℕ) (es : List Moment) (a : Operation)
    → slice_get ops k ≡ Some a
    → ((t : ℕ) → time_by ops (Reply k) ≡ Some t → In (Reply k) es) → AreOpen ops numbers (Call k ∷ es)
    → AreOpen ops (k ∷ numbers) es
after-call ops k numbers es a e own o = record {
  there = λ i h. elim h [ inl same ↦ (a, ap (slice_get ops) same ∙ e) | inr j ↦ o.there i j ];
  replies = λ i t h p. elim h [
    | inl same ↦ subst (λ n. In (Reply n) es) (sym same)
        (own t (ap (λ n. time_by ops (Reply n)) (sym same) ∙ p))
    | inr j ↦ elim (o.replies i t j p) [ inl head ↦ absurd (cc (head)) | inr f ↦ f ]
  ];
}

-- one replies
after-reply : (ops : List Operation) (k : ℕ) (numbers : List ℕ) (es : List Moment)
    → AreOpen ops numbers (Reply k ∷ es)
    → AreOpen ops (without k numbers) es
after-reply ops k numbers es o = record {
  there = λ i h. o.there i (without-In k i numbers h).0;
  replies = λ i t h p.
      let w = without-In k i numbers h in
      elim (o.replies i t w.0 p) [ inl head ↦ absurd (w.1 (cc (head))) | inr f ↦ f ];
}

module _ (number : Val
    → Option ℕ) (ops : List Operation) (numbered : List Op) (each : AllZip (IsByNumber number) ops numbered)
    (life : (a : Operation) → In a ops → a.call < a.reply) where
  -- the rank of an operation goes by its reply
  rank-of : (k : ℕ) (a : Operation) → slice_get ops k ≡ Some a → IsRank (reply_of a) (rank_at numbered k)
  rank-of k a e =
      let x =
      at-place number ops numbered each k a e in
      subst (IsRank (reply_of a)) (sym (ap option_rank x.1)) (x.2).rank

  -- the rank of what replies is the time of its reply
  reply-rank : (k t : ℕ) → time_by ops (Reply k) ≡ Some t
      → (rank_at numbered k ≡ t) × (rank_at numbered k < NEVER)
  reply-rank k t h =
      let x = replied-at ops k t h in subst (λ o. IsRank o (rank_at numbered k)) x.2 (rank-of k x.0 x.1)

  -- a reply comes after its call
  replies-later : (k : ℕ) (a : Operation) (es : List Moment) → slice_get ops k ≡ Some a
      → AreLast ops (Call k ∷ es)
      → (t : ℕ) → time_by ops (Reply k) ≡ Some t → In (Reply k) es
  replies-later k a es e l t h =
      let f : reply_of a ≡ Some t = sym (ap (option_and_then reply_of) e) ∙ h in
      let lt : a.call < t = omega (arith, life a (slice_get-In ops k a e), (reply_of-completed a t f).1) in
      elim (l.later (Call k) (Reply k) a.call t (inl refl)
      (ap (option_map (λ (b : Operation). b.call)) e) h lt) [
        | inl head ↦ absurd (cc (head))
        | inr i ↦ i
      ]

  -- what is open as one replies replies later, or never
  ranked : (k i : ℕ) (a : Operation) (es : List Moment) → slice_get ops i ≡ Some a
      → AreLast ops (Reply k ∷ es)
      → ((t : ℕ) → time_by ops (Reply i) ≡ Some t → In (Reply i) (Reply k ∷ es))
      → (i ≡ k) ⊎ (rank_at numbered k < rank_at numbered i)
  ranked k i a es e l own = go (reply_of a) refl (rank-of i a e)
    where
      first : (t : ℕ) × (time_by ops (Reply k) ≡ Some t)
      first = l.only (Reply k) (inl refl)

      go : (o : Option ℕ) → reply_of a ≡ o → IsRank (reply_of a) (rank_at numbered i)
          → (i ≡ k) ⊎ (rank_at numbered k < rank_at numbered i)
      go None f r =
          let never : rank_at numbered i ≡ NEVER = subst (λ o. IsRank o (rank_at numbered i)) f r in
          let below = (reply-rank k first.0 first.1).1 in
          inr (omega (arith, never, below))
      go (Some t) f r =
          let is : time_by ops (Reply i) ≡ Some t = ap (option_and_then reply_of) e ∙ f in
          elim (own t is) [
            | inl head ↦ inl (cc (head))
            | inr j ↦ inr (
                let lt = l.ascending (Reply k) (Reply i) first.0 t (inl (refl, j)) first.1 is in
                omega (arith, lt, (reply-rank k first.0 first.1).0, (reply-rank i t is).0))
          ]

  in-order : (es : List Moment) (numbers : List ℕ) → AreLast ops es → AreOpen ops numbers es
      → AreInOrder numbered numbers es
  in-order [] numbers l o = tt
  in-order (Call k ∷ es) numbers l o =
      let t = l.only (Call k) (inl refl) in
      let x = called-at ops k t.0 t.1 in (
        λ i. let lt = l.ascending (Call k) (Call k) t.0 t.0 (inl (refl, i)) t.1 t.1 in omega arith,
        in-order es (k ∷ numbers) (rest ops (Call k) es l)
            (after-call ops k numbers es x.0 x.1 (replies-later k x.0 es x.1 l) o),
      )
  in-order (Reply k ∷ es) numbers l o = (
    λ i h. let x = o.there i h in ranked k i x.0 es x.1 l (λ t p. o.replies i t h p),
    in-order es (without k numbers) (rest ops (Reply k) es l) (after-reply ops k numbers es o),
  )

-- all moments of a register
pub timeline-in-order : (r : ℕ) (number : Val
    → Option ℕ) (ops : List Operation) (numbered : List Op) (events : List Moment)
    → AllZip (IsByNumber number) ops numbered → IsTimeline r ops events → AreInOrder numbered [] events
timeline-in-order r number ops numbered events each line =
    in-order number ops numbered each line.life events [] (record {
      only = line.only;
      ascending = line.ascending;
      later = λ e f s t i p q lt. line.all f t q;
    }) (record { there = λ i h. absurd h; replies = λ i t h p. absurd h })
