-- The names of registers and their numbers, as one more is called.
use Rattle.std.proofs.Common.{◌≡◌, ℕ, ◌<◌, ◌≤◌, ◌+◌, cond, Bool, true, false, List, [], ◌∷◌, ◌++◌, length}
use Rattle.std.proofs.Common.{map, Option, Some, None, inl, inr, refl, sym, ap, subst, ◌∙◌, arith}
use Rattle.std.proofs.Common.{nat_lt, length-append, append-nil, append_assoc, option_map}
use Rattle.std.specs.Prelude.{filter_map, bytes_eq}
use Rattle.std.specs.List.{position_or_len}
use Rattle.std.proofs.lemmas.List.{map-append}
use Rattle.std.proofs.lemmas.List.Elements.{filter_map-append}
use Rattle.history_text.specs.declared.event.Kind.TheVariants.{CallRead}
use Rattle.history_text.specs.declared.event.LineEvent.{LineEvent}
use Rattle.history_model.specs.Events as plain
use Rattle.history_model.specs.History as plain_history
use Rattle.history_model.proofs.Numbers.{is-In, place-in, place-last, place-out, names-known, names-new}
use Rattle.history_text.specs.declared.event.AnyEvent.{AnyEvent}
use Rattle.reg_intake.specs.CasHistory.Events.{Called, called_by}
use Rattle.reg_intake.specs.CasHistory.History.{register_names}
use Rattle.history_model.specs.History.{first_names}
use Rattle.reg_arena.specs.Numbered.{with_name}
use Rattle.reg_arena.proofs.Numbered.{with-known, with-new}
use Rattle.reg_intake.specs.CasHistory.Kept.{with_called}

abbrev Name : Type 0
Name = List ℕ

pub length-with : (names : List Name) (o : Option Name) → length (with_name names o) ≤ length names + 1
length-with names None = omega arith
length-with names (Some name) = go (nat_lt (position_or_len (bytes_eq name) names) (length names))
  where
    go : (b : Bool) → length (cond b names (names ++ name ∷ [])) ≤ length names + 1
    go true = omega arith
    go false = omega (arith, length-append names (name ∷ []))

-- ---- the names that events call, by those of plain histories

calling : Name → LineEvent
calling name = record { line = 0; process = 0; kind = CallRead name }

called-all : (names : List Name) → plain_history.register_names (map calling names) ≡ first_names names
unfolding calling
called-all names = ap first_names (all names)
  where
    all : (names : List Name)
        → filter_map (λ (e : LineEvent).
        option_map (λ (call : plain.Asked). call.register) (plain.asked_by e.kind))
        (map calling names) ≡ names
    all [] = refl
    all (name ∷ names) = ap (λ ns. name ∷ ns) (all names)

-- the first of each, of names and one more
pub first-push : (names : List Name) (name : Name)
    → first_names (names ++ name ∷ []) ≡ with_name (first_names names) (Some name)
unfolding calling
first-push names name = elim (is-In name (plain_history.register_names (map calling names))) [
  | inl i ↦
      let within =
      subst (λ ns. position_or_len (bytes_eq name) ns < length ns) (called-all names)
      (place-in name _ i).0 in
      all ∙ (names-known (map calling names) (calling name) _ refl i
      ∙ (called-all names ∙ sym (with-known (first_names names) name within)))
  | inr f ↦
      let out =
      subst (λ ns. position_or_len (bytes_eq name) ns ≡ length ns) (called-all names)
      (place-out name _ f) in
      all ∙ (names-new (map calling names) (calling name) _ refl f
      ∙ (ap (λ ns. ns ++ name ∷ []) (called-all names) ∙ sym (with-new (first_names names) name out)))
]
  where
    all : first_names (names ++ name ∷ []) ≡ plain_history.register_names (map calling names
        ++ calling name ∷ [])
    all =
        sym (called-all (names ++ name ∷ []))
        ∙ ap plain_history.register_names (map-append calling names (name ∷ []))

-- a call's name is one more
pub names-call : (events : List AnyEvent) (e : AnyEvent) (call : Called) → called_by e.kind ≡ Some call
    → register_names (events ++ e ∷ []) ≡ with_name (register_names events) (Some call.register)
names-call events e call h =
    ap first_names
    (filter_map-append (λ (e : AnyEvent).
    option_map (λ (call : Called). call.register) (called_by e.kind)) events (e ∷ []))
    ∙ (ap (λ (o : Option Called).
    first_names (filter_map (λ (e : AnyEvent).
    option_map (λ (call : Called). call.register) (called_by e.kind)) events
    ++ filter_map (λ (o : Option Name). o) (option_map (λ (call : Called). call.register) o ∷ []))) h
    ∙ first-push (filter_map (λ (e : AnyEvent).
    option_map (λ (call : Called). call.register) (called_by e.kind)) events) call.register)

-- any other event adds none
pub names-other : (events : List AnyEvent) (e : AnyEvent) → called_by e.kind ≡ None
    → register_names (events ++ e ∷ []) ≡ register_names events
names-other events e h =
    ap first_names
    (filter_map-append (λ (e : AnyEvent).
    option_map (λ (call : Called). call.register) (called_by e.kind)) events (e ∷ []))
    ∙ (ap (λ (o : Option Called).
    first_names (filter_map (λ (e : AnyEvent).
    option_map (λ (call : Called). call.register) (called_by e.kind)) events
    ++ filter_map (λ (o : Option Name). o) (option_map (λ (call : Called). call.register) o ∷ []))) h
    ∙ ap first_names
    (append-nil (filter_map (λ (e : AnyEvent).
    option_map (λ (call : Called). call.register) (called_by e.kind)) events)))

-- ---- their numbers

-- the number of a name, by the names with it
pub number-with : (names : List Name) (name : Name)
    → position_or_len (bytes_eq name) (with_name names (Some name)) ≡ position_or_len (bytes_eq name) names
number-with names name = elim (is-In name names) [
  | inl i ↦ ap (position_or_len (bytes_eq name)) (with-known names name (place-in name names i).0)
  | inr f ↦
      ap (position_or_len (bytes_eq name)) (with-new names name (place-out name names f))
      ∙ (place-last name names f ∙ sym (place-out name names f))
]

pub below-with : (names : List Name) (name : Name)
    → position_or_len (bytes_eq name) names < length (with_name names (Some name))
below-with names name = elim (is-In name names) [
  | inl i ↦
      let within = (place-in name names i).0 in
      omega (arith, within, ap length (with-known names name within))
  | inr f ↦
      let out = place-out name names f in
      omega (arith, out, ap length (with-new names name out), length-append names (name ∷ []))
]

-- ---- the names of some events, and of more

-- the names of one event more
pub names-event : (events : List AnyEvent) (e : AnyEvent)
    → register_names (events ++ e ∷ []) ≡ with_called (register_names events) e
names-event events e = go (called_by e.kind) refl
  where
    go : (o : Option Called) → called_by e.kind ≡ o
        → register_names (events ++ e ∷ [])
        ≡ with_name (register_names events) (option_map (λ (call : Called). call.register) o)
    go None d = names-other events e d
    go (Some call) d = names-call events e call d

longer-with : (names : List Name) (o : Option Name)
    → (more : List Name) × (with_name names o ≡ names ++ more)
longer-with names None = ([], sym (append-nil names))
longer-with names (Some name) = go (nat_lt (position_or_len (bytes_eq name) names) (length names))
  where
    go : (b : Bool) → (more : List Name) × (cond b names (names ++ name ∷ []) ≡ names ++ more)
    go true = ([], sym (append-nil names))
    go false = (name ∷ [], refl)

-- the names of some events stay the first ones
pub names-grow : (events after : List AnyEvent)
    → (more : List Name) × (register_names (events ++ after) ≡ register_names events ++ more)
names-grow events [] = ([], ap register_names (append-nil events) ∙ sym (append-nil (register_names events)))
names-grow events (e ∷ after) =
    let later = names-grow (events ++ e ∷ []) after in
    let one =
    longer-with (register_names events) (option_map (λ (call : Called). call.register) (called_by e.kind))
    in (
      one.0 ++ later.0,
      ap register_names (sym (append_assoc events (e ∷ []) after))
          ∙ (later.1 ∙ (ap (λ names. names ++ later.0) (names-event events e ∙ one.1)
          ∙ append_assoc (register_names events) one.0 later.0)),
    )
