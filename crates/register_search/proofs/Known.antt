-- The operations that are known at a time stand at the places of the same ones
-- among all, and theirs are the first moments.
use Rattle.std.proofs.Common.{◌≡◌, ℕ, zero, suc, ◌<◌, ◌≤◌, nat_le, true, false, List, [], ◌∷◌}
use Rattle.std.proofs.Common.{map, take, slice_get, Option, Some, None, option_map, option_and_then}
use Rattle.std.proofs.Common.{◌⊎◌, inl, inr, refl, sym, ap, subst, ◌∙◌, arith}
use Rattle.std.proofs.lemmas.Bool.{cases_Bool, false≢true, leb-true, le-leb}
use Rattle.std.specs.List.{filter}
use Rattle.history_model.specs.Lists.{In, Before}
use Rattle.history_model.proofs.Lists.{map-In, filter-In, slice_get-In}
use Rattle.history_model.specs.declared.operation.Operation.{Operation}
use Rattle.history_model.specs.Cut.{known_at, is_called_by, cut_at}
use Rattle.history_model.proofs.Filters.{filter-pass, filter-fail, filter-none}
use Rattle.history_model.specs.Operations.{reply_of}
use Rattle.configurations.specs.declared.moment.Moment.{Moment}
use Rattle.configurations.specs.declared.moment.Moment.TheVariants.{Call, Reply}
use Rattle.register_search.specs.Timeline.{AreCalls, IsTimeline, time_by}
use Rattle.register_search.proofs.Linked.{place-of}
use Rattle.register_search.proofs.Replies.{known-reply, known-reply_of, reply_of-completed, reply_of-known}

-- ---- places

abbrev IsAscending : List Operation → Type 0
IsAscending ops =
    (j k : ℕ) (a b : Operation) → j < k → slice_get ops j ≡ Some a → slice_get ops k ≡ Some b
    → a.call < b.call

module _ (t : ℕ) where
  rest : (x : Operation) (ops : List Operation) → IsAscending (x ∷ ops) → IsAscending ops
  rest x ops up j k a b l e f = up (suc j) (suc k) a b (omega arith) e f

  later : (x : Operation) (ops : List Operation) → IsAscending (x ∷ ops) → (y : Operation) → In y ops
      → x.call < y.call
  later x ops up y i = let k = place-of ops y i in up 0 (suc k.0) x y (omega arith) refl k.1

  late : (x : Operation) (ops : List Operation) → IsAscending (x ∷ ops) → nat_le x.call t ≡ false
      → (y : Operation) → In y ops → nat_le y.call t ≡ false
  late x ops up n y i = elim (cases_Bool (nat_le y.call t)) [
    | inl e ↦
        let lt = later x ops up y i in
        let le = leb-true y.call t e in
        absurd (false≢true (sym n ∙ le-leb x.call t (omega arith)))
    | inr e ↦ e
  ]

  none-late : (x : Operation) (ops : List Operation) → IsAscending (x ∷ ops) → nat_le x.call t ≡ false
      → cut_at t (x ∷ ops) ≡ []
  none-late x ops up n =
      ap (map (known_at t)) (filter-fail (is_called_by t) x ops n
      ∙ filter-none (is_called_by t) ops (late x ops up n))

  pub one-known : (x : Operation) (ops : List Operation) → nat_le x.call t ≡ true
      → cut_at t (x ∷ ops) ≡ known_at t x ∷ cut_at t ops
  one-known x ops y = ap (map (known_at t)) (filter-pass (is_called_by t) x ops y)

  -- what is known at a place is of the operation at that place
  pub from-known : (ops : List Operation) → IsAscending ops → (k : ℕ) (a : Operation)
      → slice_get (cut_at t ops) k ≡ Some a → (b : Operation) × (slice_get ops k ≡ Some b)
      × (a ≡ known_at t b) × (b.call ≤ t)
  from-known [] up k a e = absurd (cc (e))
  from-known (x ∷ ops) up zero a e = elim (cases_Bool (nat_le x.call t)) [
    | inl y ↦
        let f = subst (λ xs. slice_get xs 0 ≡ Some a) (one-known x ops y) e in
        let same : known_at t x ≡ a = cc (f) in
        (x, refl, sym same, leb-true x.call t y)
    | inr n ↦ absurd (let f = subst (λ xs. slice_get xs 0 ≡ Some a) (none-late x ops up n) e in cc (f))
  ]
  from-known (x ∷ ops) up (suc k) a e = elim (cases_Bool (nat_le x.call t)) [
    | inl y ↦ from-known ops (rest x ops up) k a
        (subst (λ xs. slice_get xs (suc k) ≡ Some a) (one-known x ops y) e)
    | inr n ↦ absurd (let f = subst (λ xs. slice_get xs (suc k) ≡ Some a) (none-late x ops up n) e in cc (f))
  ]

  pub to-known : (ops : List Operation) → IsAscending ops → (k : ℕ) (b : Operation) → slice_get ops k ≡ Some b
      → b.call ≤ t → slice_get (cut_at t ops) k ≡ Some (known_at t b)
  to-known [] up k b e l = absurd (cc (e))
  to-known (x ∷ ops) up zero b e l =
      let same : x ≡ b = cc (e) in
      let y = le-leb x.call t (omega (arith, ap (λ (o : Operation). o.call) same)) in
      ap (λ xs. slice_get xs 0) (one-known x ops y) ∙ ap (λ o. Some (known_at t o)) same
  to-known (x ∷ ops) up (suc k) b e l =
      let lt = later x ops up b (slice_get-In ops k b e) in
      let y = le-leb x.call t (omega arith) in
      ap (λ xs. slice_get xs (suc k)) (one-known x ops y) ∙ to-known ops (rest x ops up) k b e l

  pub known-calls : (r : ℕ) (ops : List Operation) → AreCalls r ops → AreCalls r (cut_at t ops)
  known-calls r ops c = record {
    register =
        λ a i. let k =
        map-In (known_at t) a (filter (is_called_by t) ops) i in ap (λ (o : Operation). o.register) k.2
        ∙ c.register k.0 (filter-In (is_called_by t) k.0 ops k.1).0;
    called =
        λ a i. let k =
        map-In (known_at t) a (filter (is_called_by t) ops) i in let le =
        c.called k.0 (filter-In (is_called_by t) k.0 ops k.1).0 in
        omega (arith, le, ap (λ (o : Operation). o.call) k.2);
    ascending = λ j k a b l e f.
        let x = from-known ops c.ascending j a e in
        let y = from-known ops c.ascending k b f in
        let lt = c.ascending j k x.0 y.0 l x.1 y.1 in
        omega (arith, lt, ap (λ (o : Operation). o.call) x.2, ap (λ (o : Operation). o.call) y.2);
    pending = λ a b i j n.
        let k = map-In (known_at t) a (filter (is_called_by t) ops) i in
        let m = map-In (known_at t) b (filter (is_called_by t) ops) j in
        let le = leb-true m.0.call t (filter-In (is_called_by t) m.0 ops m.1).1 in
        elim (known-reply t k.0) [
          | inl y ↦ absurd
              (false≢true (sym n ∙ (ap (λ (o : Operation). o.completed) k.2 ∙ y.0)))
          | inr y ↦ omega (
            arith,
            le,
            y.1,
            ap (λ (o : Operation). o.reply) k.2,
            ap (λ (o : Operation). o.call) m.2,
          )
        ];
  }

-- ---- moments

module _ (t r : ℕ) (ops : List Operation) (events : List Moment) (line : IsTimeline r ops events) where
  abbrev up : IsAscending ops
  up = line.calls.ascending

  -- a moment that is known has its time
  from-time : (e : Moment) (s : ℕ) → time_by (cut_at t ops) e ≡ Some s → (time_by ops e ≡ Some s) × (s ≤ t)
  from-time (Call k) s h = go (slice_get (cut_at t ops) k) refl
    where
      go : (o : Option Operation) → slice_get (cut_at t ops) k ≡ o → (time_by ops (Call k) ≡ Some s) × (s ≤ t)
      go None e = absurd (let f = sym (ap (option_map (λ (a : Operation). a.call)) e) ∙ h in cc (f))
      go (Some a) e =
          let b = from-known t ops line.calls.ascending k a e in
          let f : Some a.call ≡ Some s = sym (ap (option_map (λ (a : Operation). a.call)) e) ∙ h in
          let same : a.call ≡ s = cc (f) in
          let own = ap (λ (o : Operation). o.call) b.2 in
          (ap (option_map (λ (a : Operation). a.call)) b.1 ∙ ap Some (sym own ∙ same), omega (arith, b.3))
  from-time (Reply k) s h = go (slice_get (cut_at t ops) k) refl
    where
      go : (o : Option Operation) → slice_get (cut_at t ops) k ≡ o
          → (time_by ops (Reply k) ≡ Some s) × (s ≤ t)
      go None e = absurd (let f = sym (ap (option_and_then reply_of) e) ∙ h in cc (f))
      go (Some a) e =
          let b = from-known t ops line.calls.ascending k a e in
          let f : reply_of a ≡ Some s = sym (ap (option_and_then reply_of) e) ∙ h in
          let y = known-reply_of t b.0 s (sym (ap reply_of b.2) ∙ f) in
          (ap (option_and_then reply_of) b.1 ∙ y.0, y.1)

  -- one that came by then is known
  to-time : (e : Moment) (s : ℕ) → time_by ops e ≡ Some s → s ≤ t → time_by (cut_at t ops) e ≡ Some s
  to-time (Call k) s h l = go (slice_get ops k) refl
    where
      go : (o : Option Operation) → slice_get ops k ≡ o → time_by (cut_at t ops) (Call k) ≡ Some s
      go None e = absurd (let f = sym (ap (option_map (λ (a : Operation). a.call)) e) ∙ h in cc (f))
      go (Some b) e =
          let f : Some b.call ≡ Some s = sym (ap (option_map (λ (a : Operation). a.call)) e) ∙ h in
          let same : b.call ≡ s = cc (f) in
          ap (option_map (λ (a : Operation). a.call))
          (to-known t ops line.calls.ascending k b e (omega arith)) ∙ f
  to-time (Reply k) s h l = go (slice_get ops k) refl
    where
      go : (o : Option Operation) → slice_get ops k ≡ o → time_by (cut_at t ops) (Reply k) ≡ Some s
      go None e = absurd (let f = sym (ap (option_and_then reply_of) e) ∙ h in cc (f))
      go (Some b) e =
          let f : reply_of b ≡ Some s = sym (ap (option_and_then reply_of) e) ∙ h in
          let lt = line.life b (slice_get-In ops k b e) in
          let same = (reply_of-completed b s f).1 in
          ap (option_and_then reply_of)
          (to-known t ops line.calls.ascending k b e (omega arith)) ∙ reply_of-known t b s f l

In-split : {A : Type 0} (i : ℕ) (x a : A) (xs : List A) → slice_get xs i ≡ Some x → In a xs
    → In a (take (suc i) xs) ⊎ Before x a xs
In-split i x a [] e h = absurd h
In-split zero x a (y ∷ xs) e (inl h) = inl (inl h)
In-split zero x a (y ∷ xs) e (inr h) = let same : y ≡ x = cc (e) in inr (inl (sym same, h))
In-split (suc i) x a (y ∷ xs) e (inl h) = inl (inl h)
In-split (suc i) x a (y ∷ xs) e (inr h) =
    elim (In-split i x a xs e h) [ inl j ↦ inl (inr j) | inr b ↦ inr (inr b) ]

take-split : {A : Type 0} (i : ℕ) (x a : A) (xs : List A) → slice_get xs i ≡ Some x → In a (take (suc i) xs)
    → (a ≡ x) ⊎ Before a x xs
take-split i x a [] e h = absurd h
take-split zero x a (y ∷ xs) e (inl h) = let same : y ≡ x = cc (e) in inl (h ∙ same)
take-split zero x a (y ∷ xs) e (inr h) = absurd h
take-split (suc i) x a (y ∷ xs) e (inl h) = inr (inl (h, slice_get-In xs i x e))
take-split (suc i) x a (y ∷ xs) e (inr h) =
    elim (take-split i x a xs e h) [ inl j ↦ inl j | inr b ↦ inr (inr b) ]

take-In : {A : Type 0} (i : ℕ) (a : A) (xs : List A) → In a (take i xs) → In a xs
take-In zero a xs h = absurd h
take-In (suc i) a [] h = absurd h
take-In (suc i) a (x ∷ xs) (inl e) = inl e
take-In (suc i) a (x ∷ xs) (inr h) = inr (take-In i a xs h)

take-Before : {A : Type 0} (i : ℕ) (a b : A) (xs : List A) → Before a b (take i xs) → Before a b xs
take-Before zero a b xs h = absurd h
take-Before (suc i) a b [] h = absurd h
take-Before (suc i) a b (x ∷ xs) (inl e) = inl (e.0, take-In i b xs e.1)
take-Before (suc i) a b (x ∷ xs) (inr h) = inr (take-Before i a b xs h)

-- the moments up to one of them are those of what is known at its time
pub known-timeline : (r : ℕ) (ops : List Operation) (events : List Moment) → IsTimeline r ops events
    → (i t : ℕ) (last : Moment) → slice_get events i ≡ Some last → time_by ops last ≡ Some t
    → IsTimeline r (cut_at t ops) (take (suc i) events)
known-timeline r ops events line i t last at is = record {
  calls = known-calls t r ops line.calls;
  life = λ a h.
      let k = map-In (known_at t) a (filter (is_called_by t) ops) h in
      let f = filter-In (is_called_by t) k.0 ops k.1 in
      let call = ap (λ (o : Operation). o.call) k.2 in
      let reply = ap (λ (o : Operation). o.reply) k.2 in
      elim (known-reply t k.0) [
        | inl y ↦ omega (arith, line.life k.0 f.0, y.1, call, reply)
        | inr y ↦ omega (arith, leb-true k.0.call t f.1, y.1, call, reply)
      ];
  all = λ e s h.
      let y = from-time t r ops events line e s h in
      elim (In-split i last e events at (line.all e s y.0)) [
        | inl j ↦ j
        | inr b ↦ absurd (let lt = line.ascending last e t s b is y.0 in omega (arith, y.1))
      ];
  only = λ e h.
      let s = line.only e (take-In (suc i) e events h) in
      let by : s.0 ≤ t = elim (take-split i last e events at h) [
        | inl same ↦
            let f : Some s.0 ≡ Some t = sym s.1 ∙ (ap (time_by ops) same ∙ is) in
            let one : s.0 ≡ t = cc (f) in
            omega arith
        | inr b ↦ let lt = line.ascending e last s.0 t b s.1 is in omega arith
      ] in
      (s.0, to-time t r ops events line e s.0 s.1 by);
  ascending =
      λ e f s u b p q.
      line.ascending e f s u (take-Before (suc i) e f events b) (from-time t r ops events line e s p).0
      (from-time t r ops events line f u q).0;
}
