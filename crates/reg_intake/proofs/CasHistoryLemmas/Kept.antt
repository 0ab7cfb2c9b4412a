-- The places of the last events, as one more event is taken in.
use Rattle.std.proofs.Common.{◌≡◌, ℕ, ◌+◌, ◌<◌, cond, Bool, true, false, List, [], ◌∷◌, ◌++◌, drop}
use Rattle.std.proofs.Common.{length, slice_get, Option, Some, None, ◌⊎◌, inl, inr, refl, sym, ap, ◌∙◌}
use Rattle.std.proofs.Common.{arith, eqb, nat_lt, option_and_then, option_map, length-append}
use Rattle.std.specs.Option.{option_or}
use Rattle.std.specs.Ordering.{is_eq, nat_cmp}
use Rattle.std.specs.declared.cmp.Ordering.TheVariants.{Less, Equal, Greater}
use Rattle.std.proofs.lemmas.Bool.{eqb-true, eqb-false, eq-eqb, ltb-true}
use Rattle.std.proofs.lemmas.List.{drop_all, drop-append-le, length-drop}
use Rattle.std.proofs.lemmas.Option.{slice_get_within}
use Rattle.history_text.specs.declared.limits.TheConstants.{MAX_EVENTS}
use Rattle.history_model.specs.Lists.{last_with}
use Rattle.history_model.proofs.Lists.{slice_get-append, slice_get-push, slice_get-push_other}
use Rattle.history_model.proofs.Lists.{slice_get_inside}
use Rattle.history_text.specs.declared.event.AnyEvent.{AnyEvent}
use Rattle.history_model.specs.Table.{call_while_open, end_without_call, failing, last_event, late_refusal}
use Rattle.history_model.specs.Table.{refusal_after, too_many}
use Rattle.history_model.specs.declared.refusal.Reason.TheVariants.{Disagreement, NoValue}
use Rattle.reg_intake.specs.CasHistory.Events.{any_form, failed_by, replied_by}
use Rattle.reg_intake.specs.CasHistory.History.{any_calls}
use Rattle.reg_intake.specs.CasHistory.Kept.{IsKept, event_at, link_at, linked_from}
use Rattle.reg_intake.specs.CasHistory.Refusals.{any_rules}
use Rattle.history_model.specs.Calls.{next_of}
use Rattle.history_model.proofs.Accepted.{last-some, or-first, or-second}
use Rattle.reg_intake.proofs.CasHistoryLemmas.Linked.{count-linked, is-or-not, link-last, link-new, link-same}
use Rattle.reg_intake.proofs.CasHistoryLemmas.Linked.{next-kept, next-new}

-- the test of a map's keys is that of the processes
pub same_key : (a b : ℕ) → is_eq (nat_cmp a b) ≡ eqb a b
same_key a b = go (nat_lt a b) refl (eqb a b) refl
  where
    go : (l : Bool) → nat_lt a b ≡ l → (e : Bool) → eqb a b ≡ e
        → is_eq (cond l Less (cond e Equal Greater)) ≡ e
    go true l true e = absurd (omega (arith, ltb-true a b l, eqb-true a b e))
    go true l false e = refl
    go false l true e = refl
    go false l false e = refl

pub last-push : {X : Type 0} (test : X → Bool) (xs : List X) (y : X)
    → last_with test (xs ++ y ∷ []) ≡ cond (test y) (Some y) (last_with test xs)
last-push test [] y = refl
last-push {X} test (x ∷ xs) y =
    ap (λ o. option_or o (cond (test x) (Some x) None)) (last-push test xs y)
    ∙ go (test y)
  where
    go : (b : Bool)
        → option_or (cond b (Some y) (last_with test xs)) (cond (test x) (Some x) None)
        ≡ cond b (Some y) (option_or (last_with test xs) (cond (test x) (Some x) None))
    go true = refl
    go false = refl

-- one more event: its process has its last event there
module _ (events : List AnyEvent) (e : AnyEvent) (next : List (Option ℕ)) (old new : ℕ → Option ℕ)
    (k : IsKept events next old) (room : length events < MAX_EVENTS)
    (is : (p : ℕ) → new p ≡ cond (is_eq (nat_cmp e.process p)) (Some (length events)) (old p)) where
  abbrev n : ℕ
  n = length events

  abbrev longer : List AnyEvent
  longer = events ++ e ∷ []

  abbrev now : List (Option ℕ)
  now = linked_from (next ++ None ∷ []) (old e.process) n

  at-new : (p : ℕ) → new p ≡ cond (eqb e.process p) (Some n) (old p)
  at-new p = is p ∙ ap (λ b. cond b (Some n) (old p)) (same_key e.process p)

  -- the event at a kept place is of the process
  owner : (p i : ℕ) (x : AnyEvent) → old p ≡ Some i → slice_get events i ≡ Some x → x.process ≡ p
  owner p i x h at =
      let last = last-some (λ (g : AnyEvent). eqb g.process p) events x (k.last p
      ∙ ap (option_and_then (slice_get events)) h ∙ at) in
      eqb-true x.process p last.passes

  found : (p : ℕ) (b : Bool) (o : Option ℕ) → old p ≡ o
      → cond b (Some e) (last_event any_form events p) ≡ option_and_then (slice_get longer)
      (cond b (Some n) o)
  found p true o q = sym (slice_get-push events e)
  found p false None q = k.last p ∙ ap (option_and_then (slice_get events)) q
  found p false (Some i) q =
      k.last p
      ∙ (ap (option_and_then (slice_get events)) q
      ∙ sym (slice_get-push_other events e i (λ same. omega (arith, k.within p i q, same))))

  inside : (p i : ℕ) (b : Bool) (o : Option ℕ) → old p ≡ o → cond b (Some n) o ≡ Some i → i < length longer
  inside p i true o q h =
      let same : n ≡ i = cc (h) in omega (arith, same, length-append events (e ∷ []))
  inside p i false o q h = omega (arith, k.within p i (q ∙ h), length-append events (e ∷ []))

  -- the place of the new event, or of one before it
  place-of : (i : ℕ) (x : AnyEvent) → slice_get longer i ≡ Some x
      → ((i ≡ n) × (x ≡ e)) ⊎ ((i < n) × (slice_get events i ≡ Some x))
  place-of i x at = go (eqb i n) refl
    where
      go : (b : Bool) → eqb i n ≡ b → ((i ≡ n) × (x ≡ e)) ⊎ ((i < n) × (slice_get events i ≡ Some x))
      go true d =
          let here : i ≡ n = eqb-true i n d in
          let got : Some e ≡ Some x =
          sym (slice_get-push events e) ∙ (ap (slice_get longer) (sym here) ∙ at) in
          let same : x ≡ e = cc (got) in
          inl (here, same)
      go false d =
          let apart = eqb-false i n d in
          let old_one = sym (slice_get-push_other events e i apart) ∙ at in
          inr (slice_get_within events i x old_one, old_one)

  link-here : link_at now n ≡ None
  link-here = link-last next n k.linked.count (old e.process) (λ m h. k.within e.process m h)

  link-other : (i : ℕ) → i < n → (old e.process ≡ Some i → ⊥) → link_at now i ≡ link_at next i
  link-other i l other = link-same next n k.linked.count (old e.process) i l other

  link-before : (i : ℕ) → old e.process ≡ Some i → link_at now i ≡ Some n
  link-before i h =
      ap (λ was. link_at (linked_from (next ++ None ∷ []) was n) i) h
      ∙ link-new next n k.linked.count i (k.within e.process i h)

  linked-none : (names : List (List ℕ)) (i : ℕ) (x : AnyEvent) → i < n → slice_get events i ≡ Some x
      → link_at next i ≡ None → (b : Bool) → eqb e.process x.process ≡ b
      → cond b (Some (n + 2, e)) None ≡ event_at longer (link_at now i)
  linked-none names i x l at none true d =
      let same : x.process ≡ e.process = sym (eqb-true e.process x.process d) in
      let before : old e.process ≡ Some i = ap old (sym same) ∙ k.unlinked i x at none in
      sym (ap (event_at longer) (link-before i before)
      ∙ ap (option_map (λ (e : AnyEvent). (n + 2, e))) (slice_get-push events e))
  linked-none names i x l at none false d =
      sym (ap (event_at longer) (link-other i l
      (λ h. eqb-false e.process x.process d (sym (owner e.process i x h at))) ∙ none))

  linked-old : (names : List (List ℕ)) (i : ℕ) (x : AnyEvent) → i < n → slice_get events i ≡ Some x
      → (o : Option ℕ) → link_at next i ≡ o
      → next_of (any_calls names) x.process (i + 1 + 2) (drop (i + 1) events ++ e ∷ [])
      ≡ event_at longer (link_at now i)
  linked-old names i x l at None d =
      let left = length-drop (i + 1) events in
      next-new names x.process e (i + 1 + 2) (n + 2) (drop (i + 1) events) (omega (arith, left, l))
      (k.linked.each names i x at ∙ ap (event_at events) d)
      ∙ linked-none names i x l at d (eqb e.process x.process) refl
  linked-old names i x l at (Some j) d =
      let below = k.below i j l d in
      let there = slice_get_inside events j below in
      let meant : event_at events (Some j) ≡ Some (j + 2, there.0) =
      ap (option_map (λ (e : AnyEvent). (j + 2, e))) there.1 in
      let kept : link_at now i ≡ Some j =
      link-other i l (λ h. let none : None ≡ Some j = sym (k.ends e.process i h) ∙ d in cc (none)) ∙ d in
      next-kept names x.process e (i + 1 + 2) (drop (i + 1) events) (j + 2, there.0)
      (k.linked.each names i x at ∙ (ap (event_at events) d ∙ meant))
      ∙ sym (ap (event_at longer) kept
      ∙ ap (option_map (λ (e : AnyEvent). (j + 2, e))) (slice_get-append events (e ∷ []) j below ∙ there.1))

  linked-now : (names : List (List ℕ)) (i : ℕ) (x : AnyEvent) → slice_get longer i ≡ Some x
      → next_of (any_calls names) x.process (i + 1 + 2) (drop (i + 1) longer)
      ≡ event_at longer (link_at now i)
  linked-now names i x at = elim (place-of i x at) [
    | inl h ↦
        let past : drop (i + 1) longer ≡ [] =
        drop_all (i + 1) longer (omega (arith, h.0, length-append events (e ∷ []))) in
        ap (next_of (any_calls names) x.process (i + 1 + 2)) past
        ∙ sym (ap (event_at longer) (ap (link_at now) h.0 ∙ link-here))
    | inr h ↦
        ap (next_of (any_calls names) x.process (i + 1 + 2))
        (drop-append-le (i + 1) events (e ∷ []) (omega (arith, h.0)))
        ∙ linked-old names i x h.0 h.1 (link_at next i) refl
  ]

  below-now : (i j : ℕ) → i < length longer → link_at now i ≡ Some j → j < length longer
  below-now i j l h = elim (is-or-not (old e.process) i) [
    | inl before ↦
        let got : Some n ≡ Some j = sym (link-before i before) ∙ h in
        let same : n ≡ j = cc (got) in
        omega (arith, same, length-append events (e ∷ []))
    | inr other ↦ go (eqb i n) refl other
  ]
    where
      go : (b : Bool) → eqb i n ≡ b → (old e.process ≡ Some i → ⊥) → j < length longer
      go true d other =
          let got : None ≡ Some j = sym link-here ∙ (ap (link_at now) (sym (eqb-true i n d)) ∙ h) in
          absurd (cc (got))
      go false d other =
          let apart = eqb-false i n d in
          let short : i < n = omega (arith, l, length-append events (e ∷ []), apart) in
          let was = k.below i j short (sym (link-other i short other) ∙ h) in
          omega (arith, was, length-append events (e ∷ []))

  ends-now : (p i : ℕ) (b : Bool) → eqb e.process p ≡ b → cond b (Some n) (old p) ≡ Some i
      → link_at now i ≡ None
  ends-now p i true d h =
      let same : n ≡ i = cc (h) in ap (link_at now) (sym same) ∙ link-here
  ends-now p i false d h =
      let l = k.within p i h in
      let there = slice_get_inside events i l in
      link-other i l (λ other. eqb-false e.process p d
      (sym (owner e.process i there.0 other there.1) ∙ owner p i there.0 h there.1))
      ∙ k.ends p i h

  unlinked-now : (i : ℕ) (x : AnyEvent) → slice_get longer i ≡ Some x → link_at now i ≡ None
      → new x.process ≡ Some i
  unlinked-now i x at none = elim (place-of i x at) [
    | inl h ↦
        let own : e.process ≡ x.process = ap (λ (g : AnyEvent). g.process) (sym h.1) in
        at-new x.process
        ∙ (ap (λ b. cond b (Some n) (old x.process)) (eq-eqb e.process x.process own)
        ∙ ap Some (sym h.0))
    | inr h ↦
        let other : old e.process ≡ Some i → ⊥ =
        λ before. let got : Some n ≡ None = sym (link-before i before) ∙ none in cc (got) in
        let was = k.unlinked i x h.1 (sym (link-other i h.0 other) ∙ none) in
        at-new x.process ∙ go x i (eqb e.process x.process) refl other was
  ]
    where
      go : (x : AnyEvent) (i : ℕ) (b : Bool) → eqb e.process x.process ≡ b → (old e.process ≡ Some i → ⊥)
          → old x.process ≡ Some i → cond b (Some n) (old x.process) ≡ Some i
      go x i true d other was = absurd (other (ap old (eqb-true e.process x.process d) ∙ was))
      go x i false d other was = was

  pub kept-push : IsKept longer now new
  kept-push = record {
    few = omega (arith, room, length-append events (e ∷ []));
    last =
        λ p. last-push (λ (g : AnyEvent). eqb g.process p) events e
        ∙ (found p (eqb e.process p) (old p) refl
        ∙ ap (option_and_then (slice_get longer)) (sym (at-new p)));
    within = λ p i h. inside p i (eqb e.process p) (old p) refl (sym (at-new p) ∙ h);
    linked = record {
      count =
          omega (
            arith,
            count-linked next n k.linked.count (old e.process),
            length-append events (e ∷ []),
          );
      each = linked-now;
    };
    below = below-now;
    ends = λ p i h. ends-now p i (eqb e.process p) refl (sym (at-new p) ∙ h);
    unlinked = unlinked-now;
  }

-- an event without a refusal has a place
pub room : (count : ℕ) (last : Option AnyEvent) (e : AnyEvent) → refusal_after any_rules count last e []
    ≡ None
    → count < MAX_EVENTS
room count last e h =
    let h2 = or-second (call_while_open any_rules last e) _ h in
    let h3 = or-second (end_without_call any_rules last e) _ h2 in
    let h4 = or-second (failing any_rules _ Disagreement last e (replied_by e.kind)) _ h3 in
    let h5 = or-second (failing any_rules _ Disagreement last e (failed_by e.kind)) _ h4 in
    let h6 = or-second (failing any_rules _ NoValue last e (replied_by e.kind)) _ h5 in
    below (or-first (too_many any_rules count e) _ (or-first (late_refusal any_rules count last e) _ h6))
  where
    below : too_many any_rules count e ≡ None → count < MAX_EVENTS
    below h = grind arith
