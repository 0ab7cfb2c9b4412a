-- A call is refused as the definition says, by what the arena tells of
-- its process, its register and its value.
use Rattle.std.proofs.Common.{◌≡◌, slice_get, Some, None, refl, sym, ap, subst, ◌∙◌}
use Rattle.history_model.specs.History.{History}
use Rattle.reg_arena.specs.Step.{IsOpenCall, IsStanding, IsNumber, IsWritten}
use Rattle.reg_arena.proofs.Refused.{call-open, call-wrote, call-free, unopened, written-within}
use Rattle.reg_arena.proofs.arena.Arena.call_refusal.Goals as goal

pub returns-in-Opened : goal.returns-in-Opened
returns-in-Opened c =
    λ es acc q. ap Some c.refused.ensures
    ∙ sym (call-open es c.args.event.now acc c.requires.0 c.requires.2 c.in-Opened.opened c.event.result
    (subst (λ (h : History). IsOpenCall h.events c.args.event.now.process c.in-Opened.opened) q
    c.in-Opened.ensures)
    (subst (λ (h : History). slice_get h.events c.in-Opened.opened.call.0 ≡ Some c.event.result) q
    c.event.ensures.at))

pub event-requires-in-Some : goal.event-requires-in-Some
event-requires-in-Some c =
    written-within c.args.self.now.events c.requires.1 c.requires.0.value c.in-Some.write
    (c.in-Some.ensures c.requires.1 c.requires.0.value c.requires.4)

pub returns-in-Some : goal.returns-in-Some
returns-in-Some c =
    λ es acc q. ap Some c.refused-in-Some.ensures
    ∙ sym (call-wrote es c.args.event.now acc c.requires.0 c.requires.2 c.requires.1 c.requires.0.value
    c.in-Some.write c.event-in-Some.result refl
    (subst (λ (h : History). IsNumber h.names c.requires.0.register c.requires.1) q c.requires.3)
    (unopened es c.args.event.now acc c.standing-standing.result
    (subst (λ (h : History). IsStanding h.events c.args.event.now.process c.standing-standing.result) q
    c.standing-standing.ensures) c.in_default.not-Opened)
    (subst (λ (h : History). IsWritten h.events c.requires.1 c.requires.0.value (Some c.in-Some.write)) q
    (c.in-Some.ensures c.requires.1 c.requires.0.value c.requires.4))
    (subst (λ (h : History). slice_get h.events c.in-Some.write.0 ≡ Some c.event-in-Some.result) q
    c.event-in-Some.ensures.at))

pub returns : goal.returns
returns c =
    λ es acc q. c.late_refusal.ensures es acc q
    ∙ sym (call-free es c.args.event.now acc c.requires.0 c.requires.2 c.requires.1
    (subst (λ (h : History). IsNumber h.names c.requires.0.register c.requires.1) q c.requires.3)
    (unopened es c.args.event.now acc c.standing-standing.result
    (subst (λ (h : History). IsStanding h.events c.args.event.now.process c.standing-standing.result) q
    c.standing-standing.ensures) c.in_default.not-Opened)
    (subst (λ (h : History). IsWritten h.events c.requires.1 c.requires.0.value None) q
    (c.in_default-written.ensures c.requires.1 c.requires.0.value c.requires.4)))
