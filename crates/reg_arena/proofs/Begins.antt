-- Whether an event begins an operation, by the call beside it.
use Rattle.std.proofs.Common.{◌≡◌, ℕ, nat_eq, false, slice_get, Some}
use Rattle.std.proofs.Common.{None, refl, ap, ◌∙◌, ◌||◌, Bool, true}
use Rattle.std.proofs.Common.{sym, List}
use Rattle.std.proofs.lemmas.Bool.{eq-eqb, ne_eqb, false≢true, or_parts}
use Rattle.history_model.specs.declared.event.Event.{Event}
use Rattle.history_model.proofs.Recorded.{reply-no_call}
use Rattle.history_model.proofs.Walking.{begins-call}
use Rattle.history_model.specs.Operations.{is_a_call, is_a_reply}
use Rattle.history_model.specs.Naming.{begins_at}
use Rattle.history_model.specs.declared.ids.EvId.{EvId}
use Rattle.reg_arena.specs.Lists.EventLists.{IsCallAt, IsCallOf}

-- an event without a call begins no operation
pub begins-none : (es : List Event) (i : ℕ) (e : Event) → IsCallOf es i e None → false ≡ begins_at es i e
begins-none es i e none = sym ((or_parts (is_a_reply e.what) (begins_at es i e) none).1)

-- an event begins an operation where it is its own call
pub begins-some : (es : List Event) (i : ℕ) (e : Event) (c : EvId) → slice_get es i ≡ Some e
    → IsCallOf es i e (Some c) → nat_eq c.0 i ≡ begins_at es i e
begins-some es i e c at said = own (begins_at es i e) refl
  where
    h : IsCallAt es i c.0
    h = said.1

    or-first : (a b : Bool) → (a || b) ≡ true → b ≡ false → a ≡ true
    or-first true b h q = refl
    or-first false b h q = absurd (false≢true (sym q ∙ h))

    own : (b : Bool) → begins_at es i e ≡ b → nat_eq c.0 i ≡ b
    own true q = eq-eqb c.0 i (h.own (e, at, begins-call e _ q))
    own false q =
        let reply = or-first (is_a_reply e.what) (begins_at es i e) said.0 q in
        ne_eqb c.0 i (λ s.
        let w = h.call.1 in
        let u = ap (slice_get es) s in
        let same : h.call.0 ≡ e = cc (w, u, at) in
        reply-no_call e.what reply (ap (λ (v : Event). is_a_call v.what) (sym same) ∙ h.call.2))
