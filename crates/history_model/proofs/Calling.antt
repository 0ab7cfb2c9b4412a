-- What holds of the calls of any program: where their events stand, and their next events.
use Rattle.std.proofs.Common.{◌≡◌, ℕ, zero, suc, ◌+◌, ◌-◌, ◌<◌, ◌==◌, cond, Bool}
use Rattle.std.proofs.Common.{true, false, List, [], ◌∷◌, length, drop, slice_get, Option}
use Rattle.std.proofs.Common.{Some, None, ◌⊎◌, inl, inr, refl, sym, ap, subst, ◌∙◌, arith}
use Rattle.std.proofs.lemmas.Bool.{eqb-true, eqb-false}
use Rattle.history_model.specs.Lists.{In}
use Rattle.history_model.specs.Calls.{Calls, begins, calls_from, calls_of, next_after, next_of, operation}
use Rattle.history_model.specs.Calls.{reply_in}
use Rattle.history_model.specs.declared.operation.Operation.{Operation}

pub drop-get : {X : Type 0} (xs : List X) (m j : ℕ) → slice_get (drop m xs) j ≡ slice_get xs (m + j)
drop-get xs zero j = let e : j ≡ 0 + j = omega arith in ap (slice_get xs) e
drop-get [] (suc m) j = refl
drop-get (x ∷ xs) (suc m) j =
    let e : suc (m + j) ≡ suc m + j = omega arith in drop-get xs m j ∙ ap (slice_get (x ∷ xs)) e

module _ {Event : Type 0} (calls : Calls Event) where
  -- ---- the next event of a process

  -- r is the first event of p among those from time s on
  pub record IsNext (p s : ℕ) (es : List Event) (r : ℕ × Event) : Type 0 where
    pub place : ℕ
    pub time : r.0 ≡ s + place
    pub there : slice_get es place ≡ Some r.1
    pub process : calls.process r.1 ≡ p
    pub first : (u : ℕ) (g : Event) → u < place → slice_get es u ≡ Some g → calls.process g ≡ p → ⊥

  pub next-some : (p s : ℕ) (es : List Event) (r : ℕ × Event) → next_of calls p s es ≡ Some r
      → IsNext p s es r
  next-some p s [] r h = absurd (cc (h))
  next-some p s (e ∷ es) r h = go (calls.process e == p) refl h (next-some p (suc s) es r)
    where
      go : (b : Bool) → (calls.process e == p) ≡ b → cond b (Some (s, e)) (next_of calls p (suc s) es)
          ≡ Some r
          → (next_of calls p (suc s) es ≡ Some r → IsNext p (suc s) es r) → IsNext p s (e ∷ es) r
      go true d k f =
          let q : (s, e) ≡ r = cc (k) in
          subst (IsNext p s (e ∷ es)) q (record {
            place = zero;
            time = omega arith;
            there = refl;
            process = eqb-true (calls.process e) p d;
            first = λ u g l. absurd (omega arith);
          })
      go false d k f = further (f k)
        where
          further : IsNext p (suc s) es r → IsNext p s (e ∷ es) r
          further n = record {
            place = suc n.place;
            time = omega (arith, n.time);
            there = n.there;
            process = n.process;
            first = earlier;
          }
            where
              earlier : (u : ℕ) (g : Event) → u < suc n.place → slice_get (e ∷ es) u ≡ Some g
                  → calls.process g ≡ p → ⊥
              earlier zero g l at q =
                  let z : e ≡ g = cc (at) in eqb-false (calls.process e) p d (ap calls.process z ∙ q)
              earlier (suc u) g l at q = n.first u g (omega arith) at q

  pub next-none : (p s : ℕ) (es : List Event) → next_of calls p s es ≡ None → (u : ℕ) (g : Event)
      → slice_get es u ≡ Some g → calls.process g ≡ p → ⊥
  next-none p s [] h u g at q = absurd (cc (at))
  next-none p s (e ∷ es) h u g at q = go (calls.process e == p) refl h u at (next-none p (suc s) es)
    where
      go : (b : Bool) → (calls.process e == p) ≡ b → cond b (Some (s, e)) (next_of calls p (suc s) es)
          ≡ None → (u : ℕ)
          → slice_get (e ∷ es) u ≡ Some g
          → (next_of calls p (suc s) es ≡ None → (u : ℕ) (g : Event) → slice_get es u ≡ Some g
          → calls.process g ≡ p
          → ⊥) → ⊥
      go true d k u at f = absurd (cc (k))
      go false d k zero at f = let z : e ≡ g = cc (at) in eqb-false (calls.process e) p d
          (ap calls.process z ∙ q)
      go false d k (suc u) at f = f k u g at q

  -- the event g at place j is the next one of process p after place k
  pub record IsNextAt (evs : List Event) (k p j : ℕ) (g : Event) : Type 0 where
    pub there : slice_get evs j ≡ Some g
    pub process : calls.process g ≡ p
    pub order : k < j
    pub between : (u : ℕ) (y : Event) → k < u → u < j → slice_get evs u ≡ Some y → calls.process y ≡ p → ⊥

  -- process p has no event after place k
  abbrev pub IsLastAt : List Event → ℕ → ℕ → Type 0
  IsLastAt evs k p = (u : ℕ) (g : Event) → k < u → slice_get evs u ≡ Some g → calls.process g ≡ p → ⊥

  -- the next event of a process, in the list from its time on
  pub next-at : (evs : List Event) (k p : ℕ) (o : Option (ℕ × Event))
      → next_of calls p (suc (2 + k)) (drop (suc k) evs) ≡ o
      → ((o ≡ None) × IsLastAt evs k p) ⊎ ((j : ℕ) × (g : Event) × (o ≡ Some (j + 2, g))
      × IsNextAt evs k p j g)
  next-at evs k p None n =
      inl (
        refl,
        λ u g l there same.
            next-none p (suc (2 + k)) (drop (suc k) evs) n (u - suc k) g
            (let z : suc k + (u - suc k) ≡ u = omega (arith, l) in
            drop-get evs (suc k) (u - suc k) ∙ (ap (slice_get evs) z ∙ there)) same,
      )
  next-at evs k p (Some r) n =
      let x = next-some p (suc (2 + k)) (drop (suc k) evs) r n in
      let t : r.0 ≡ (suc k + x.place) + 2 = omega (arith, x.time) in
      inr (
        suc k + x.place,
        r.1,
        ap (λ m. Some (m, r.1)) t,
        record {
          there = sym (drop-get evs (suc k) x.place) ∙ x.there;
          process = x.process;
          order = omega arith;
          between =
              λ u y l m there same.
              x.first (u - suc k) y (omega arith) (let z : suc k + (u - suc k) ≡ u = omega (arith, l) in
              drop-get evs (suc k) (u - suc k) ∙ (ap (slice_get evs) z ∙ there)) same;
        },
      )

  -- ---- an operation and the event of its call

  -- the operation o is that of the event e at place k, where the first event has time s
  abbrev pub IsOperationAt : ℕ → ℕ → List Event → Operation → ℕ → Event → Type 0
  IsOperationAt n s es o k e =
      (slice_get es k ≡ Some e) × (begins calls e (next_after calls (s + k) e (drop (suc k) es)) ≡ true)
      × (o ≡ operation calls n (s + k) e (reply_in calls (next_after calls (s + k) e (drop (suc k) es))))

  -- an operation among the calls is that of an event
  pub is-called : (n s : ℕ) (es : List Event) (o : Operation) → In o (calls_from calls n s es)
      → (k : ℕ) × (e : Event) × IsOperationAt n s es o k e
  is-called n s [] o h = elim h [ ]
  is-called n s (e ∷ es) o h = go (begins calls e (next_after calls s e es)) refl h
      (is-called n (suc s) es o)
    where
      later : ((k : ℕ) × (f : Event) × IsOperationAt n (suc s) es o k f)
          → (k : ℕ) × (f : Event) × IsOperationAt n s (e ∷ es) o k f
      later x =
          let t : suc s + x.0 ≡ s + suc x.0 = omega arith in
          let y = x.2 in (
            suc x.0,
            x.1,
            (
              y.0,
              subst (λ m. begins calls x.1 (next_after calls m x.1 (drop (suc x.0) es)) ≡ true) t y.1,
              y.2 ∙ ap (λ m. operation calls n m x.1 (reply_in calls
                  (next_after calls m x.1 (drop (suc x.0) es)))) t,
            ),
          )

      go : (b : Bool) → begins calls e (next_after calls s e es) ≡ b
          → In o (cond b (operation calls n s e (reply_in calls (next_after calls s e es))
          ∷ calls_from calls n (suc s) es)
          (calls_from calls n (suc s) es))
          → (In o (calls_from calls n (suc s) es) → (k : ℕ) × (f : Event) × IsOperationAt n (suc s) es o k f)
          → (k : ℕ) × (f : Event) × IsOperationAt n s (e ∷ es) o k f
      go true d (inl q) rest =
          let t : s ≡ s + 0 = omega arith in (
            0,
            e,
            (
              refl,
              subst (λ m. begins calls e (next_after calls m e es) ≡ true) t d,
              q ∙ ap (λ m. operation calls n m e (reply_in calls (next_after calls m e es))) t,
            ),
          )
      go true d (inr i) rest = later (rest i)
      go false d i rest = later (rest i)

  -- two operations of one call are one
  pub same-call : (evs : List Event) (a b : Operation) → In a (calls_of calls evs)
      → In b (calls_of calls evs)
      → a.call ≡ b.call → a ≡ b
  same-call evs a b i j q =
      let x = is-called (length evs + 2) 2 evs a i in
      let y = is-called (length evs + 2) 2 evs b j in
      let u = x.2 in
      let v = y.2 in
      let cx : a.call ≡ 2 + x.0 =
      ap (λ (o : Operation). o.call) u.2
      ∙ time (2 + x.0) x.1 (reply_in calls (next_after calls (2 + x.0) x.1 (drop (suc x.0) evs))) in
      let cy : b.call ≡ 2 + y.0 =
      ap (λ (o : Operation). o.call) v.2
      ∙ time (2 + y.0) y.1 (reply_in calls (next_after calls (2 + y.0) y.1 (drop (suc y.0) evs))) in
      let k : x.0 ≡ y.0 = omega (arith, q, cx, cy) in
      let e : x.1 ≡ y.1 = let m = u.0 in let n = v.0 in let s = ap (slice_get evs) k in cc (m, n, s) in
      u.2 ∙ (ap (λ m.
      operation calls (length evs + 2) (2 + m) x.1
      (reply_in calls (next_after calls (2 + m) x.1 (drop (suc m) evs)))) k
      ∙ (ap (λ (v : Event).
      operation calls (length evs + 2) (2 + y.0) v
      (reply_in calls (next_after calls (2 + y.0) v (drop (suc y.0) evs)))) e ∙ sym v.2))
    where
      time : (t : ℕ) (e : Event) (r : Option (ℕ × Event)) → (operation calls (length evs + 2) t e r).call ≡ t
      time t e None = refl
      time t e (Some r) = refl

  -- the call at a place is an operation's, if it didn't fail
  pub call-In : (n s : ℕ) (es : List Event) (k : ℕ) (e : Event) → slice_get es k ≡ Some e
      → begins calls e (next_after calls (s + k) e (drop (suc k) es)) ≡ true
      → In (operation calls n (s + k) e (reply_in calls (next_after calls (s + k) e (drop (suc k) es))))
      (calls_from calls n s es)
  call-In n s [] k e at begun = absurd (cc (at))
  call-In n s (x ∷ xs) zero e at begun =
      let q : x ≡ e = cc (at) in
      let t : s + 0 ≡ s = omega arith in
      let z : operation calls n (s + 0) e (reply_in calls (next_after calls (s + 0) e xs))
      ≡ operation calls n s x (reply_in calls (next_after calls s x xs)) =
      ap (λ m. operation calls n m e (reply_in calls (next_after calls m e xs))) t
      ∙ ap (λ (v : Event). operation calls n s v (reply_in calls (next_after calls s v xs))) (sym q) in
      let c : begins calls x (next_after calls s x xs) ≡ true =
      ap (λ (v : Event). begins calls v (next_after calls s v xs)) q
      ∙ (ap (λ m. begins calls e (next_after calls m e xs)) (sym t) ∙ begun) in
      subst (λ b. In (operation calls n (s + 0) e (reply_in calls (next_after calls (s + 0) e xs)))
      (cond b (operation calls n s x (reply_in calls (next_after calls s x xs))
      ∷ calls_from calls n (suc s) xs)
      (calls_from calls n (suc s) xs))) (sym c) (inl z)
  call-In n s (x ∷ xs) (suc k) e at begun =
      let t : suc s + k ≡ s + suc k = omega arith in
      let begun' : begins calls e (next_after calls (suc s + k) e (drop (suc k) xs)) ≡ true =
      ap (λ m. begins calls e (next_after calls m e (drop (suc k) xs))) t ∙ begun in
      deeper (begins calls x (next_after calls s x xs))
      (subst (λ m. In (operation calls n m e (reply_in calls (next_after calls m e (drop (suc k) xs))))
      (calls_from calls n (suc s) xs)) t (call-In n (suc s) xs k e at begun'))
    where
      deeper : (b : Bool)
          → In (operation calls n (s + suc k) e (reply_in calls
          (next_after calls (s + suc k) e (drop (suc k) xs))))
          (calls_from calls n (suc s) xs)
          → In (operation calls n (s + suc k) e (reply_in calls
          (next_after calls (s + suc k) e (drop (suc k) xs))))
          (cond b (operation calls n s x (reply_in calls (next_after calls s x xs))
          ∷ calls_from calls n (suc s) xs)
          (calls_from calls n (suc s) xs))
      deeper true i = inr i
      deeper false i = i
