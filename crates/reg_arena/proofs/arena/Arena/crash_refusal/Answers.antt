-- After a crash the limit comes first, and then the crash.
use Rattle.std.proofs.Common.{◌≡◌, cond, nat_le, length, slice_get, Some, None, sym, ap, subst, ◌∙◌}
use Rattle.history_text.specs.declared.limits.TheConstants.{MAX_EVENTS}
use Rattle.history_model.specs.Refusals.{refused}
use Rattle.history_model.specs.History.{History}
use Rattle.reg_arena.specs.Step.{IsStanding}
use Rattle.reg_arena.specs.declared.process_standing.Standing.TheVariants.{Crashed}
use Rattle.reg_arena.proofs.Refused.{late-full, late-crashed}
use Rattle.reg_arena.proofs.arena.Arena.crash_refusal.Goals as goal
use Rattle.history_model.specs.declared.refusal.Reason.TheVariants.{TooMany}

pub returns-in-Some : goal.returns-in-Some
returns-in-Some c = λ es acc q.
    sym (late-full es c.args.event.now c.in-Some.refusal
    (subst (λ (h : History).
    cond (nat_le MAX_EVENTS (length h.events)) (Some (refused c.args.event.now TooMany)) None
    ≡ Some c.in-Some.refusal) q (sym c.too_many.ensures ∙ c.in-Some.is)))

pub returns-in-None : goal.returns-in-None
returns-in-None c = λ es acc q.
    ap Some c.refused.ensures ∙ sym (late-crashed es c.args.event.now acc c.args.crash c.event.result
    (subst (λ (h : History). IsStanding h.events c.args.event.now.process (Crashed c.args.crash)) q
    c.requires)
    (subst (λ (h : History). slice_get h.events c.args.crash.0 ≡ Some c.event.result) q c.event.ensures.at)
    (subst (λ (h : History).
    cond (nat_le MAX_EVENTS (length h.events)) (Some (refused c.args.event.now TooMany)) None ≡ None) q
    (sym c.too_many.ensures ∙ c.in-None.is)))
