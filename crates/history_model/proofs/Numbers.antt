-- The registers' names and numbers as events are appended: a new name comes last, and a number stays.
use Rattle.std.proofs.Common.{◌≡◌, ℕ, suc, ◌+◌, ◌<◌, ◌≤◌, cond, Bool, true, false, not, List}
use Rattle.std.proofs.Common.{[], ◌∷◌, ◌++◌, length, slice_get, Option, Some, None, ◌⊎◌, inl}
use Rattle.std.proofs.Common.{inr, refl, sym, ap, subst, ◌∙◌, arith, option_map, append-nil}
use Rattle.std.specs.Prelude.{filter_map, bytes_eq}
use Rattle.std.specs.List.{filter, position_or_len}
use Rattle.std.proofs.lemmas.List.Elements.{filter_map-append, filter-append}
use Rattle.std.proofs.lemmas.Slice.Eq.{bytes_eq-Decides}
use Rattle.std.proofs.lemmas.Bool.{false≢true}
use Rattle.std.proofs.lemmas.List.{length_push}
use Rattle.history_text.specs.declared.event.LineEvent.{LineEvent}
use Rattle.history_model.specs.Lists.{In}
use Rattle.history_model.specs.Events.{Asked, asked_by}
use Rattle.history_model.specs.History.{first_names, register_names, register_number}
use Rattle.history_model.proofs.Lists.{In-filter}

abbrev Name : Type 0
Name = List ℕ

same-true : (a b : Name) → a ≡ b → bytes_eq a b ≡ true
same-true a b e = (bytes_eq-Decides a b).1 e

true-same : (a b : Name) → bytes_eq a b ≡ true → a ≡ b
true-same a b e = (bytes_eq-Decides a b).0 e

-- ---- the place of a name in a list of names

pub is-In : (a : Name) (ns : List Name) → In a ns ⊎ (In a ns → ⊥)
is-In a [] = inr (λ h. h)
is-In a (n ∷ ns) = go (bytes_eq a n) refl (is-In a ns)
  where
    go : (b : Bool) → bytes_eq a n ≡ b → In a ns ⊎ (In a ns → ⊥) → In a (n ∷ ns) ⊎ (In a (n ∷ ns) → ⊥)
    go true e r = inl (inl (true-same a n e))
    go false e (inl i) = inl (inr i)
    go false e (inr f) = inr (λ h. elim h [ inl q ↦ false≢true (sym e ∙ same-true a n q) | inr i ↦ f i ])

pub place-in : (a : Name) (ns : List Name) → In a ns → (position_or_len (bytes_eq a) ns < length ns)
    × (slice_get ns (position_or_len (bytes_eq a) ns) ≡ Some a)
place-in a [] h = elim h [ ]
place-in a (n ∷ ns) h = go (bytes_eq a n) refl h (place-in a ns)
  where
    go : (b : Bool) → bytes_eq a n ≡ b → In a (n ∷ ns)
        → (In a ns → (position_or_len (bytes_eq a) ns < length ns)
        × (slice_get ns (position_or_len (bytes_eq a) ns) ≡ Some a))
        → (cond (not b) (1 + position_or_len (bytes_eq a) ns) 0 < suc (length ns))
        × (slice_get (n ∷ ns) (cond (not b) (1 + position_or_len (bytes_eq a) ns) 0) ≡ Some a)
    go true e h rest = (omega arith, ap Some (sym (true-same a n e)))
    go false e (inl q) rest = absurd (false≢true (sym e ∙ same-true a n q))
    go false e (inr i) rest =
        let r = rest i in
        let t : 1 + position_or_len (bytes_eq a) ns ≡ suc (position_or_len (bytes_eq a) ns) = omega arith in
        (omega (arith, r.0), ap (slice_get (n ∷ ns)) t ∙ r.1)

pub place-out : (a : Name) (ns : List Name) → (In a ns → ⊥) → position_or_len (bytes_eq a) ns ≡ length ns
place-out a [] h = refl
place-out a (n ∷ ns) h = go (bytes_eq a n) refl (place-out a ns (λ i. h (inr i)))
  where
    go : (b : Bool) → bytes_eq a n ≡ b → position_or_len (bytes_eq a) ns ≡ length ns
        → cond (not b) (1 + position_or_len (bytes_eq a) ns) 0 ≡ suc (length ns)
    go true e r = absurd (h (inl (true-same a n e)))
    go false e r = omega (arith, r)

pub place-append : (a : Name) (ns ms : List Name) → In a ns
    → position_or_len (bytes_eq a) (ns ++ ms) ≡ position_or_len (bytes_eq a) ns
place-append a [] ms h = elim h [ ]
place-append a (n ∷ ns) ms h = go (bytes_eq a n) refl h (place-append a ns ms)
  where
    go : (b : Bool) → bytes_eq a n ≡ b → In a (n ∷ ns)
        → (In a ns → position_or_len (bytes_eq a) (ns ++ ms) ≡ position_or_len (bytes_eq a) ns)
        → cond (not b) (1 + position_or_len (bytes_eq a) (ns ++ ms)) 0
        ≡ cond (not b) (1 + position_or_len (bytes_eq a) ns) 0
    go true e h rest = refl
    go false e (inl q) rest = absurd (false≢true (sym e ∙ same-true a n q))
    go false e (inr i) rest = ap (λ k. 1 + k) (rest i)

pub place-last : (a : Name) (ns : List Name) → (In a ns → ⊥)
    → position_or_len (bytes_eq a) (ns ++ a ∷ []) ≡ length ns
place-last a [] h = go (bytes_eq a a) refl
  where
    go : (b : Bool) → bytes_eq a a ≡ b → cond (not b) (1 + 0) 0 ≡ 0
    go true e = refl
    go false e = absurd (false≢true (sym e ∙ same-true a a refl))
place-last a (n ∷ ns) h = go (bytes_eq a n) refl (place-last a ns (λ i. h (inr i)))
  where
    go : (b : Bool) → bytes_eq a n ≡ b → position_or_len (bytes_eq a) (ns ++ a ∷ []) ≡ length ns
        → cond (not b) (1 + position_or_len (bytes_eq a) (ns ++ a ∷ [])) 0 ≡ suc (length ns)
    go true e r = absurd (h (inl (true-same a n e)))
    go false e r = omega (arith, r)

-- ---- one more name

filter-In : {A : Type 0} (p : A → Bool) (a : A) (xs : List A) → In a (filter p xs) → In a xs
filter-In p a [] h = absurd h
filter-In p a (x ∷ xs) h = go (p x) h (filter-In p a xs)
  where
    go : (b : Bool) → In a (cond b (x ∷ filter p xs) (filter p xs)) → (In a (filter p xs) → In a xs)
        → In a (x ∷ xs)
    go true (inl i) f = inl i
    go true (inr k) f = inr (f k)
    go false k f = inr (f k)

differs-not : (x y : Name) → (y ≡ x → ⊥) → not (bytes_eq y x) ≡ true
differs-not x y h = go (bytes_eq y x) refl
  where
    go : (b : Bool) → bytes_eq y x ≡ b → not b ≡ true
    go true e = absurd (h (true-same y x e))
    go false e = refl

differs-same : (x y : Name) → y ≡ x → not (bytes_eq y x) ≡ false
differs-same x y e = ap not (same-true y x e)

filter-push-in : (x : Name) (ns : List Name) (y : Name) → y ≡ x
    → filter (λ n. not (bytes_eq n x)) (ns ++ y ∷ []) ≡ filter (λ n. not (bytes_eq n x)) ns
filter-push-in x ns y e =
    filter-append (λ n. not (bytes_eq n x)) ns (y ∷ [])
    ∙ (ap (λ b. filter (λ n. not (bytes_eq n x)) ns ++ cond b (y ∷ []) []) (differs-same x y e)
    ∙ append-nil (filter (λ n. not (bytes_eq n x)) ns))

filter-push-out : (x : Name) (ns : List Name) (y : Name) → (y ≡ x → ⊥)
    → filter (λ n. not (bytes_eq n x)) (ns ++ y ∷ []) ≡ filter (λ n. not (bytes_eq n x)) ns ++ y ∷ []
filter-push-out x ns y h =
    filter-append (λ n. not (bytes_eq n x)) ns (y ∷ [])
    ∙ ap (λ b. filter (λ n. not (bytes_eq n x)) ns ++ cond b (y ∷ []) []) (differs-not x y h)

mutual-push : (xs : List Name) (y : Name)
    → (In y (first_names xs) → first_names (xs ++ y ∷ []) ≡ first_names xs)
    × ((In y (first_names xs) → ⊥) → first_names (xs ++ y ∷ []) ≡ first_names xs ++ y ∷ [])
mutual-push [] y = (λ h. elim h [ ], λ h. refl)
mutual-push (x ∷ xs) y = step (mutual-push xs y) (is-In y (first_names xs))
  where
    step : (In y (first_names xs) → first_names (xs ++ y ∷ []) ≡ first_names xs)
        × ((In y (first_names xs) → ⊥) → first_names (xs ++ y ∷ []) ≡ first_names xs ++ y ∷ [])
        → In y (first_names xs) ⊎ (In y (first_names xs) → ⊥)
        → (In y (first_names (x ∷ xs)) → first_names (x ∷ xs ++ y ∷ []) ≡ first_names (x ∷ xs))
        × ((In y (first_names (x ∷ xs)) → ⊥) → first_names (x ∷ xs ++ y ∷ []) ≡ first_names (x ∷ xs)
        ++ y ∷ [])
    step r (inl i) = (
      λ _. ap (λ ns. x ∷ filter (λ n. not (bytes_eq n x)) ns) (r.0 i),
      λ out. absurd (out
          (inr (In-filter (λ n. not (bytes_eq n x)) y (first_names xs) i
          (differs-not x y (λ e. out (inl e)))))),
    )
    step r (inr f) = (
      λ h. elim h [
        | inl e ↦ ap (λ ns. x ∷ filter (λ n. not (bytes_eq n x)) ns) (r.1 f)
            ∙ ap (λ ns. x ∷ ns) (filter-push-in x (first_names xs) y e)
        | inr i ↦ absurd (f (filter-In (λ n. not (bytes_eq n x)) y (first_names xs) i))
      ],
      λ out. ap (λ ns. x ∷ filter (λ n. not (bytes_eq n x)) ns) (r.1 f)
          ∙ ap (λ ns. x ∷ ns) (filter-push-out x (first_names xs) y (λ e. out (inl e))),
    )

-- ---- one more event

abbrev names_called : List LineEvent → List Name
names_called es =
    filter_map (λ (e : LineEvent). option_map (λ (call : Asked). call.register) (asked_by e.kind)) es

called-push : (es : List LineEvent) (e : LineEvent) (a : Asked) → asked_by e.kind ≡ Some a
    → names_called (es ++ e ∷ []) ≡ names_called es ++ a.register ∷ []
called-push es e a h =
    filter_map-append (λ (e : LineEvent). option_map (λ (call : Asked). call.register) (asked_by e.kind)) es
    (e ∷ [])
    ∙ ap (λ o. names_called es ++ filter_map (λ (o : Option Name). o) (o ∷ []))
    (ap (option_map (λ (call : Asked). call.register)) h)

replied-push : (es : List LineEvent) (e : LineEvent) → asked_by e.kind ≡ None
    → names_called (es ++ e ∷ []) ≡ names_called es
replied-push es e h =
    filter_map-append (λ (e : LineEvent). option_map (λ (call : Asked). call.register) (asked_by e.kind)) es
    (e ∷ [])
    ∙ (ap (λ o. names_called es ++ filter_map (λ (o : Option Name). o) (o ∷ []))
    (ap (option_map (λ (call : Asked). call.register)) h) ∙ append-nil (names_called es))

-- a reply names no register
pub names-replied : (es : List LineEvent) (e : LineEvent) → asked_by e.kind ≡ None
    → register_names (es ++ e ∷ []) ≡ register_names es
names-replied es e h = ap first_names (replied-push es e h)

-- a call of a known register names none that is new
pub names-known : (es : List LineEvent) (e : LineEvent) (a : Asked) → asked_by e.kind ≡ Some a
    → In a.register (register_names es) → register_names (es ++ e ∷ []) ≡ register_names es
names-known es e a h i =
    ap first_names (called-push es e a h) ∙ (mutual-push (names_called es) a.register).0 i

-- a call of a new register puts its name last
pub names-new : (es : List LineEvent) (e : LineEvent) (a : Asked) → asked_by e.kind ≡ Some a
    → (In a.register (register_names es) → ⊥) → register_names (es ++ e ∷ []) ≡ register_names es
    ++ a.register ∷ []
names-new es e a h f = ap first_names (called-push es e a h) ∙ (mutual-push (names_called es) a.register).1 f

-- what a list of names keeps when one is appended
pub record Keeps (old new : List Name) : Type 0 where
  pub names : (n : Name) → In n old → In n new
  pub numbers : (n : Name) → In n old → position_or_len (bytes_eq n) new ≡ position_or_len (bytes_eq n) old
  pub grows : length old ≤ length new

keeps-same : (old new : List Name) → new ≡ old → Keeps old new
keeps-same old new e = subst (Keeps old) (sym e) (record {
  names = λ n i. i;
  numbers = λ n i. refl;
  grows = omega arith;
})

In-push : (n : Name) (ns ms : List Name) → In n ns → In n (ns ++ ms)
In-push n [] ms h = elim h [ ]
In-push n (x ∷ ns) ms (inl e) = inl e
In-push n (x ∷ ns) ms (inr i) = inr (In-push n ns ms i)

pub keeps-push : (es : List LineEvent) (e : LineEvent)
    → Keeps (register_names es) (register_names (es ++ e ∷ []))
keeps-push es e = go (asked_by e.kind) refl
  where
    go : (o : Option Asked) → asked_by e.kind ≡ o → Keeps (register_names es) (register_names (es ++ e ∷ []))
    go None h = keeps-same (register_names es) (register_names (es ++ e ∷ [])) (names-replied es e h)
    go (Some a) h = elim (is-In a.register (register_names es)) [
      | inl i ↦ keeps-same (register_names es) (register_names (es ++ e ∷ [])) (names-known es e a h i)
      | inr f ↦ subst (Keeps (register_names es)) (sym (names-new es e a h f)) (record {
        names = λ n i. In-push n (register_names es) (a.register ∷ []) i;
        numbers = λ n i. place-append n (register_names es) (a.register ∷ []) i;
        grows = omega (arith, length_push (register_names es) a.register);
      })
    ]

-- the name of a call is one of the names from then on, and its number is the one that it had at the call
pub called-known : (es : List LineEvent) (e : LineEvent) (a : Asked) → asked_by e.kind ≡ Some a
    → In a.register (register_names (es ++ e ∷ []))
    × (position_or_len (bytes_eq a.register) (register_names (es ++ e ∷ [])) ≡ register_number es a.register)
called-known es e a h = elim (is-In a.register (register_names es)) [
  | inl i ↦ let q = names-known es e a h i in
      (subst (In a.register) (sym q) i, ap (position_or_len (bytes_eq a.register)) q)
  | inr f ↦ let q = names-new es e a h f in (
    subst (In a.register) (sym q) (last a.register (register_names es)),
    ap (position_or_len (bytes_eq a.register)) q
        ∙ (place-last a.register (register_names es) f ∙ sym (place-out a.register (register_names es) f)),
  )
]
  where
    last : (n : Name) (ns : List Name) → In n (ns ++ n ∷ [])
    last n [] = inl refl
    last n (x ∷ ns) = inr (last n ns)
