-- A legal order of a register's operations, by the numbers of its calls.
use Rattle.std.proofs.Common.{◌≡◌, ℕ, suc, ◌≤◌, List, [], ◌∷◌, slice_get, Option, Some, None}
use Rattle.std.proofs.Common.{option_map, option_and_then, inl, inr, refl, sym, ap, subst, ◌∙◌, arith}
use Rattle.std.proofs.lemmas.Bool.{cases_order}
use Rattle.history_text.specs.declared.event.Val.{Val}
use Rattle.history_text.specs.declared.event.Val.TheVariants.{Null}
use Rattle.history_model.specs.Lists.{In, Before}
use Rattle.history_model.proofs.Lists.{Before-first, Before-second, slice_get-In}
use Rattle.history_model.specs.declared.operation.Operation.{Operation}
use Rattle.history_model.specs.InTurn.{Meets}
use Rattle.history_model.specs.Legal.{IsLegal, IsMet, IsAtomic}
use Rattle.history_model.specs.Operations.{IsAsking, Precedes, initial_write, reply_of}
use Rattle.history_model.proofs.InTurn.{in-turn}
use Rattle.configurations.specs.declared.moment.Moment.{Moment}
use Rattle.configurations.specs.declared.moment.Moment.TheVariants.{Call, Reply}
use Rattle.register_search.specs.Taking.{option_suits, option_left_by, left_at}
use Rattle.register_search.specs.Timeline.{AreCalls, IsTimeline, time_by}
use Rattle.register_search.proofs.LegalOrder.{MeetsAt, IsNumbered}
use Rattle.register_search.proofs.Replies.{reply_of-completed}

-- ---- numbers and what they stand for

-- the operations of these numbers are these
abbrev pub Stand : List Operation → List ℕ → List Operation → Type 0
Stand ops [] [] = Unit {0}
Stand ops [] (a ∷ xs) = ⊥
Stand ops (k ∷ ks) [] = ⊥
Stand ops (k ∷ ks) (a ∷ xs) = (slice_get ops k ≡ Some a) × Stand ops ks xs

module _ (ops : List Operation) where
  pub stand-In : (ks : List ℕ) (xs : List Operation) (k : ℕ) → Stand ops ks xs → In k ks
      → (a : Operation) × In a xs × (slice_get ops k ≡ Some a)
  stand-In [] xs k s i = absurd i
  stand-In (j ∷ ks) [] k s i = absurd s
  stand-In (j ∷ ks) (a ∷ xs) k s (inl e) = (a, inl refl, ap (slice_get ops) e ∙ s.0)
  stand-In (j ∷ ks) (a ∷ xs) k s (inr i) = let r = stand-In ks xs k s.1 i in (r.0, inr r.1, r.2)

  pub In-stand : (ks : List ℕ) (xs : List Operation) (a : Operation) → Stand ops ks xs → In a xs
      → (k : ℕ) × In k ks × (slice_get ops k ≡ Some a)
  In-stand [] [] a s i = absurd i
  In-stand [] (b ∷ xs) a s i = absurd s
  In-stand (j ∷ ks) [] a s i = absurd i
  In-stand (j ∷ ks) (b ∷ xs) a s (inl e) = (j, inl refl, s.0 ∙ ap Some (sym e))
  In-stand (j ∷ ks) (b ∷ xs) a s (inr i) = let r = In-stand ks xs a s.1 i in (r.0, inr r.1, r.2)

  pub stand-Before : (ks : List ℕ) (xs : List Operation) (j k : ℕ) → Stand ops ks xs → Before j k ks
      → (a : Operation) × (b : Operation) × Before a b xs × (slice_get ops j ≡ Some a)
      × (slice_get ops k ≡ Some b)
  stand-Before [] xs j k s h = absurd h
  stand-Before (i ∷ ks) [] j k s h = absurd s
  stand-Before (i ∷ ks) (a ∷ xs) j k s (inl h) =
      let r = stand-In ks xs k s.1 h.1 in (a, r.0, inl (refl, r.1), ap (slice_get ops) h.0 ∙ s.0, r.2)
  stand-Before (i ∷ ks) (a ∷ xs) j k s (inr h) =
      let r = stand-Before ks xs j k s.1 h in (r.0, r.1, inr r.2, r.3, r.4)

  pub Before-stand : (ks : List ℕ) (xs : List Operation) (a b : Operation) → Stand ops ks xs → Before a b xs
      → (j : ℕ) × (k : ℕ) × Before j k ks × (slice_get ops j ≡ Some a) × (slice_get ops k ≡ Some b)
  Before-stand [] [] a b s h = absurd h
  Before-stand [] (c ∷ xs) a b s h = absurd s
  Before-stand (i ∷ ks) [] a b s h = absurd h
  Before-stand (i ∷ ks) (c ∷ xs) a b s (inl h) =
      let r = In-stand ks xs b s.1 h.1 in (i, r.0, inl (refl, r.1), s.0 ∙ ap Some (sym h.0), r.2)
  Before-stand (i ∷ ks) (c ∷ xs) a b s (inr h) =
      let r = Before-stand ks xs a b s.1 h in (r.0, r.1, inr r.2, r.3, r.4)

  pub meets-stand : (ks : List ℕ) (xs : List Operation) (v : Val) → Stand ops ks xs → Meets v xs
      → MeetsAt ops v ks
  meets-stand [] xs v s m = tt
  meets-stand (k ∷ ks) [] v s m = absurd s
  meets-stand (k ∷ ks) (a ∷ xs) v s m = (
    ap (λ o. option_suits o v) s.0 ∙ m.0,
    meets-stand ks xs (left_at ops k v) s.1
        (subst (λ w. Meets w xs) (sym (ap (λ o. option_left_by o v) s.0)) m.1),
  )

-- each operation of a list stands at some place of it
pub place-of : (ops : List Operation) (a : Operation) → In a ops → (k : ℕ) × (slice_get ops k ≡ Some a)
place-of [] a i = absurd i
place-of (b ∷ ops) a (inl e) = (0, ap Some (sym e))
place-of (b ∷ ops) a (inr i) = let r = place-of ops a i in (suc r.0, r.1)

pub numbers-of : (ops xs : List Operation) → ((a : Operation) → In a xs → In a ops)
    → (ks : List ℕ) × Stand ops ks xs
numbers-of ops [] there = ([], tt)
numbers-of ops (a ∷ xs) there =
    let k = place-of ops a (there a (inl refl)) in
    let rest = numbers-of ops xs (λ b i. there b (inr i)) in
    (k.0 ∷ rest.0, (k.1, rest.1))

-- two places of one operation are one
pub one-place : (r : ℕ) (ops : List Operation) → AreCalls r ops → (j k : ℕ) (a : Operation)
    → slice_get ops j ≡ Some a → slice_get ops k ≡ Some a → j ≡ k
one-place r ops c j k a x y = elim (cases_order j k) [
  | inl e ↦ e
  | inr d ↦ elim d [
    | inl lt ↦ absurd (let q = c.ascending j k a a lt x y in omega arith)
    | inr gt ↦ absurd (let q = c.ascending k j a a gt y x in omega arith)
  ]
]

-- ---- the initial write

module _ (r : ℕ) (ops order : List Operation) (called : (a : Operation) → In a ops
    → 2 ≤ a.call) (l : IsLegal (initial_write r ∷ ops) order) where
  initial-there : In (initial_write r) order
  initial-there = l.completion.all (initial_write r) (inl refl) refl

  not-initial : (a : Operation) → In a ops → a ≡ initial_write r → ⊥
  not-initial a i e = let c = called a i in omega (arith, c, ap (λ (o : Operation). o.call) e)

  -- it stands first
  pub initial-first : (rest : List Operation) × (order ≡ initial_write r ∷ rest)
      × ((a : Operation) → In a rest → In a ops)
  initial-first = go order refl initial-there
    where
      go : (xs : List Operation) → order ≡ xs → In (initial_write r) xs
          → (rest : List Operation) × (order ≡ initial_write r ∷ rest)
          × ((a : Operation) → In a rest → In a ops)
      go [] e i = absurd i
      go (x ∷ xs) e (inl f) = (
        xs,
        e ∙ ap (λ y. y ∷ xs) (sym f),
        λ a i. elim (l.completion.only a (subst (In a) (sym e) (inr i))) [
          | inl s ↦ absurd (l.completion.once a (subst (Before a a) (sym e) (inl (s ∙ f, i))))
          | inr k ↦ k
        ],
      )
      go (x ∷ xs) e (inr f) = elim (l.completion.only x (subst (In x) (sym e) (inl refl))) [
        | inl s ↦ absurd
            (l.completion.once x (subst (Before x x) (sym e) (inl (refl, subst (λ y. In y xs) (sym s) f))))
        | inr k ↦ let c = called x k in
            absurd (l.keeps x (initial_write r) (subst (Before x (initial_write r)) (sym e) (inl (refl, f)))
            (omega arith))
      ]

-- ---- the events

module _ (r : ℕ) (ops : List Operation) (events : List Moment) (t : IsTimeline r ops events) where
  in-range : (k : ℕ) → In (Call k) events → (a : Operation) × (slice_get ops k ≡ Some a)
  in-range k i = go (slice_get ops k) refl (t.only (Call k) i)
    where
      go : (o : Option Operation) → slice_get ops k ≡ o → (s : ℕ) × (time_by ops (Call k) ≡ Some s)
          → (a : Operation) × (slice_get ops k ≡ Some a)
      go None e x = absurd (let f = sym (ap (option_map (λ (a : Operation). a.call)) e) ∙ x.1 in cc)
      go (Some a) e x = (a, e)

  pub reply-of : (k : ℕ) → In (Reply k) events → (a : Operation) × (s : ℕ) × (slice_get ops k ≡ Some a)
      × (reply_of a ≡ Some s)
  reply-of k i = go (slice_get ops k) refl (t.only (Reply k) i)
    where
      go : (o : Option Operation) → slice_get ops k ≡ o → (s : ℕ) × (time_by ops (Reply k) ≡ Some s)
          → (a : Operation) × (s : ℕ) × (slice_get ops k ≡ Some a) × (reply_of a ≡ Some s)
      go None e x = absurd (let f = sym (ap (option_and_then reply_of) e) ∙ x.1 in cc)
      go (Some a) e x = (a, x.0, e, sym (ap (option_and_then reply_of) e) ∙ x.1)

  call-time : (k : ℕ) (a : Operation) → slice_get ops k ≡ Some a → time_by ops (Call k) ≡ Some a.call
  call-time k a e = ap (option_map (λ (a : Operation). a.call)) e

  pub reply-time : (k : ℕ) (a : Operation) (s : ℕ) → slice_get ops k ≡ Some a → reply_of a ≡ Some s
      → time_by ops (Reply k) ≡ Some s
  reply-time k a s e f = ap (option_and_then reply_of) e ∙ f

  called-once : (k : ℕ) → Before (Call k) (Call k) events → ⊥
  called-once k b =
      let a = in-range k (Before-first (Call k) (Call k) events b) in
      let lt =
      t.ascending (Call k) (Call k) (a.0).call (a.0).call b (call-time k a.0 a.1) (call-time k a.0 a.1) in
      omega arith

  -- what replies before a call precedes it
  reply-precedes : (j k : ℕ) (a b : Operation) → slice_get ops j ≡ Some a → slice_get ops k ≡ Some b
      → Before (Reply j) (Call k) events → Precedes a b
  reply-precedes j k a b e f h =
      let x = reply-of j (Before-first (Reply j) (Call k) events h) in
      let same : x.0 ≡ a = cc (x.2, e) in
      let s : reply_of a ≡ Some x.1 = subst (λ o. reply_of o ≡ Some x.1) same x.3 in
      let lt = t.ascending (Reply j) (Call k) x.1 b.call h (reply-time j a x.1 e s) (call-time k b f) in
      omega (arith, lt, (reply_of-completed a x.1 s).1)

  replied-later : (k : ℕ) → Before (Reply k) (Call k) events → ⊥
  replied-later k h =
      let x = in-range k (Before-second (Reply k) (Call k) events h) in
      let p = reply-precedes k k x.0 x.0 x.1 x.1 h in
      omega (arith, p, t.life x.0 (slice_get-In ops k x.0 x.1))

  -- a legal order, by numbers
  pub numbered : IsAtomic (initial_write r ∷ ops) → (ks : List ℕ) × IsNumbered ops events ks
  numbered atomic =
      let order = atomic.0 in
      let l = atomic.1 in
      let first = initial-first r ops order t.calls.called l in
      let rest = first.0 in
      let e = first.1 in
      let own : (a : Operation) → In a rest → In a ops = first.2 in
      let n = numbers-of ops rest own in
      let ks = n.0 in
      let once : (a : Operation) → Before a a (initial_write r ∷ rest) → ⊥ =
      λ a b. l.completion.once a (subst (Before a a) (sym e) b) in
      let met = subst (λ xs. (a : Operation) → In a xs → IsAsking a → IsMet xs a) e l.met in (
        ks,
        record {
          calls = called-once;
          replies = replied-later;
          once = λ k b.
              let s = stand-Before ops ks rest k k n.1 b in
              let same : s.0 ≡ s.1 = cc (s.3, s.4) in
              once s.0 (inr (subst (λ x. Before s.0 x rest) (sym same) s.2));
          only =
              λ k i. let s = stand-In ops ks rest k n.1 i in t.all (Call k) (s.0).call (call-time k s.0 s.2);
          all = λ k i.
              let x = reply-of k i in
              let own = slice_get-In ops k x.0 x.2 in
              let there = l.completion.all x.0 (inr own) (reply_of-completed x.0 x.1 x.3).0 in
              elim (subst (In x.0) e there) [
                | inl s ↦ absurd (let c = t.calls.called x.0 (slice_get-In ops k x.0 x.2) in
                    omega (arith, c, ap (λ (o : Operation). o.call) s))
                | inr j ↦
                    let s = In-stand ops ks rest x.0 n.1 j in
                    subst (λ m. In m ks) (one-place r ops t.calls s.0 k x.0 s.2 x.2) s.1
              ];
          keeps = λ j k h b.
              let s = stand-Before ops ks rest j k n.1 h in
              l.keeps s.0 s.1 (subst (Before s.0 s.1) (sym e) (inr s.2))
              (reply-precedes k j s.1 s.0 s.4 s.3 b);
          meets =
              meets-stand ops ks rest Null n.1
              ((in-turn r rest once (λ a i. t.calls.register a (own a i))).0 met);
        },
      )
