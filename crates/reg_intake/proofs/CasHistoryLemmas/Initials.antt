-- Each register has its initial write, and no other register has an operation.
use Rattle.std.proofs.Common.{◌≡◌, ℕ, zero, suc, ◌+◌, ◌<◌, not, Bool, true, false, List, take, drop}
use Rattle.std.proofs.Common.{[], ◌∷◌, ◌++◌, length, slice_get, Option, Some, None, option_map}
use Rattle.std.proofs.Common.{inl, inr, refl, sym, ap, subst, ◌∙◌, arith}
use Rattle.std.specs.Prelude.{bytes_eq, filter_map}
use Rattle.std.specs.List.{cons_option, position_or_len}
use Rattle.std.proofs.lemmas.Bool.{eqb-true}
use Rattle.std.proofs.lemmas.List.{take-append-drop}
use Rattle.std.proofs.lemmas.List.Elements.{filter-append}
use Rattle.std.proofs.lemmas.Slice.Eq.{bytes_eq-Decides}
use Rattle.history_model.specs.History.{first_names}
use Rattle.history_model.specs.Lists.{In}
use Rattle.history_model.proofs.Lists.{In-filter}
use Rattle.history_model.proofs.Accepted.{take-get}
use Rattle.history_model.proofs.Numbers.{place-append, place-in}
use Rattle.history_text.specs.declared.event.AnyEvent.{AnyEvent}
use Rattle.history_model.specs.declared.operation.Operation.{Operation}
use Rattle.history_model.specs.Operations.{initial_write, initial_writes, is_of, of_register}
use Rattle.history_model.proofs.Filters.{filter-none}
use Rattle.reg_intake.specs.CasHistory.Events.{Called, called_by}
use Rattle.reg_intake.specs.CasHistory.History.{calls, calls_of, any_calls, number_of, operations}
use Rattle.reg_intake.specs.CasHistory.History.{register_names}
use Rattle.history_model.proofs.Accepted.{some-of}
use Rattle.reg_intake.proofs.CasHistoryLemmas.Named.{names-grow}
use Rattle.history_model.proofs.Initials.{none-initial, one-initial}
use Rattle.history_model.proofs.Timed.{call-at}

-- ---- the names that are called are names of registers

In-first : (names : List (List ℕ)) (name : List ℕ) → In name names → In name (first_names names)
In-first [] name h = h
In-first (x ∷ names) name (inl e) = inl e
In-first (x ∷ names) name (inr i) = go (bytes_eq name x) refl (In-first names name i)
  where
    go : (b : Bool) → bytes_eq name x ≡ b → In name (first_names names) → In name (first_names (x ∷ names))
    go true d rest = inl ((bytes_eq-Decides name x).0 d)
    go false d rest = inr (In-filter (λ n. not (bytes_eq n x)) name (first_names names) rest (ap not d))

called-In : (events : List AnyEvent) (i : ℕ) (e : AnyEvent) (call : Called) → slice_get events i ≡ Some e
    → called_by e.kind ≡ Some call
    → In call.register
    (filter_map (λ (e : AnyEvent).
    option_map (λ (call : Called). call.register) (called_by e.kind)) events)
called-In [] i e call at h = absurd (cc (at))
called-In (x ∷ events) zero e call at h =
    let same : x ≡ e = cc (at) in
    subst (λ o. In call.register
    (cons_option (option_map (λ (call : Called). call.register) o)
    (filter_map (λ (e : AnyEvent). option_map (λ (call : Called). call.register) (called_by e.kind))
    events)))
    (sym (ap (λ (e : AnyEvent). called_by e.kind) same ∙ h))
    (inl refl)
called-In (x ∷ events) (suc i) e call at h = go (called_by x.kind) (called-In events i e call at h)
  where
    go : (o : Option Called)
        → In call.register
        (filter_map (λ (e : AnyEvent).
        option_map (λ (call : Called). call.register) (called_by e.kind)) events)
        → In call.register
        (cons_option (option_map (λ (call : Called). call.register) o)
        (filter_map (λ (e : AnyEvent).
        option_map (λ (call : Called). call.register) (called_by e.kind)) events))
    go None k = k
    go (Some c) k = inr k

call-register : (events : List AnyEvent) (a : Operation) → In a (calls events)
    → a.register < length (register_names events)
call-register events a i =
    let c = call-at (any_calls (register_names events)) events a i in
    let call = some-of (called_by c.event.kind) c.is_call in
    let known = In-first _ call.0.register (called-In events c.place c.event call.0 c.there call.1) in
    let place = c.register ∙ ap (number_of (register_names events)) call.1 in
    omega (arith, place, (place-in call.0.register (register_names events) known).0)

-- the number of a call's register, by the names of the events up to it
pub number-kept : (events : List AnyEvent) (i : ℕ) (e : AnyEvent) → slice_get events i ≡ Some e
    → number_of (register_names (take (i + 1) events)) (called_by e.kind)
    ≡ number_of (register_names events) (called_by e.kind)
number-kept events i e at = go (called_by e.kind) refl
  where
    go : (o : Option Called) → called_by e.kind ≡ o
        → number_of (register_names (take (i + 1) events)) o ≡ number_of (register_names events) o
    go None d = refl
    go (Some call) d =
        let inside = take-get events (i + 1) i (omega arith) ∙ at in
        let known = In-first _ call.register (called-In (take (i + 1) events) i e call inside d) in
        let more = names-grow (take (i + 1) events) (drop (i + 1) events) in
        sym (ap (position_or_len (bytes_eq call.register))
        (ap register_names (sym (take-append-drop (i + 1) events)) ∙ more.1)
        ∙ place-append call.register (register_names (take (i + 1) events)) more.0 known)

-- ---- all operations

pub named : (events : List AnyEvent) (r : ℕ) → r < length (register_names events)
    → of_register r (operations events) ≡ initial_write r ∷ calls_of events r
named events r l =
    filter-append (is_of r) (initial_writes (length (register_names events))) (calls events)
    ∙ ap (λ ops. ops ++ calls_of events r) (one-initial (length (register_names events)) r l)

pub none : (events : List AnyEvent) (r : ℕ) → (r < length (register_names events) → ⊥)
    → of_register r (operations events) ≡ []
none events r out =
    filter-append (is_of r) (initial_writes (length (register_names events))) (calls events)
    ∙ (ap (λ ops. ops
    ++ calls_of events r) (none-initial (length (register_names events)) r (omega (arith, out)))
    ∙ filter-none (is_of r) (calls events) (λ a i. go a i (is_of r a) refl))
  where
    go : (a : Operation) → In a (calls events) → (b : Bool) → is_of r a ≡ b → b ≡ false
    go a i true d =
        absurd (out (let q = eqb-true a.register r d in omega (arith, q, call-register events a i)))
    go a i false d = refl
