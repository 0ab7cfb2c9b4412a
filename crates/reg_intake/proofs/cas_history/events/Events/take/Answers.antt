-- The event that was taken in is the last one of its process, and the one before it is linked to it.
use Rattle.std.proofs.Common.{◌≡◌, ◌∷◌, [], ◌++◌, ℕ, cond, length, Some, None, subst, sym, ap, ◌∙◌, arith}
use Rattle.std.specs.Ordering.{nat_cmp, is_eq}
use Rattle.std.specs.BTreeMap.{get}
use Rattle.reg_intake.specs.CasHistory.Kept.{IsKept, linked_from}
use Rattle.reg_intake.proofs.CasHistoryLemmas.Kept.{kept-push, room}
use Rattle.reg_intake.proofs.cas_history.events.Events.take.Goals as goal

pub link-requires-clause-place : goal.link-requires-clause-place
link-requires-clause-place c =
    room c.len-place.result _ c.args.event (sym c.event_refusal.ensures ∙ c.in_default.is)

pub invariant_of-self-in-Ok : goal.invariant_of-self-in-Ok
invariant_of-self-in-Ok c =
    let events = c.self.inside.events.items in
    let event = c.args.event in
    let old = λ (p : ℕ). get nat_cmp c.self.inside.last p in
    let new = λ (p : ℕ). get nat_cmp c.insert.new.self p in
    let place : c.len-place.result ≡ length events =
    omega (arith, c.len-place.ensures, c.self.inside.events.ok) in
    let below = room c.len-place.result _ event (sym c.event_refusal.ensures ∙ c.in_default.is) in
    let is =
    λ (p : ℕ). c.in-Ok.ensures.updates.0 p
    ∙ ap (λ n. cond (is_eq (nat_cmp event.process p)) (Some n) (old p)) place in
    let linked =
    c.link.ensures
    ∙ (ap (λ next. linked_from next c.in-Ok.before c.len-place.result) c.in_ok-push_unlinked.ensures.next
    ∙ (ap (λ was. linked_from (c.self.inside.next.items ++ None ∷ []) was c.len-place.result)
    c.in-Ok.ensures.old
    ∙ ap (linked_from (c.self.inside.next.items ++ None ∷ []) (old event.process)) place)) in
    subst (λ events. IsKept events c.link.new.next.items new) (sym c.in_ok-push_unlinked.ensures.events)
    (subst (λ next. IsKept (events ++ event ∷ []) next new) (sym linked)
    (kept-push events event c.self.inside.next.items old new c.self.invariant
    (omega (arith, below, place)) is))
