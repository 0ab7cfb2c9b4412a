use Rattle.std.proofs.Common.{cond, nat_le, length, Some, None, sym, ap, subst, ◌∙◌}
use Rattle.history_text.specs.declared.limits.TheConstants.{MAX_EVENTS}
use Rattle.history_model.specs.Refusals.{refused}
use Rattle.history_model.specs.History.{History}
use Rattle.reg_arena.specs.Step.{IsStanding}
use Rattle.reg_arena.specs.declared.process_standing.Standing.TheVariants.{Opened, Free}
use Rattle.reg_arena.proofs.Open.{open-some, free-none}
use Rattle.reg_arena.proofs.Refused.{late-alive}
use Rattle.reg_arena.proofs.arena.Arena.late_refusal.Goals as goal
use Rattle.history_model.specs.declared.refusal.Reason.TheVariants.{TooMany}

pub returns-in-Opened : goal.returns-in-Opened
returns-in-Opened c = λ es acc q.
    let h =
    subst (λ (h : History). IsStanding h.events c.args.event.now.process (Opened c.in-Opened.field-0)) q
    (subst (IsStanding c.args.self.now.events c.args.event.now.process) c.in-Opened.is c.requires) in
    c.too_many.ensures
    ∙ (ap (λ (h : History).
    cond (nat_le MAX_EVENTS (length h.events)) (Some (refused c.args.event.now TooMany)) None) q
    ∙ sym (late-alive es c.args.event.now
    (open-some es acc c.args.event.now.process c.in-Opened.field-0 h).2.free))

pub returns-in-Free : goal.returns-in-Free
returns-in-Free c = λ es acc q.
    let h =
    subst (λ (h : History). IsStanding h.events c.args.event.now.process Free) q
    (subst (IsStanding c.args.self.now.events c.args.event.now.process) c.in-Free.is c.requires) in
    c.too_many-in-Free.ensures
    ∙ (ap (λ (h : History).
    cond (nat_le MAX_EVENTS (length h.events)) (Some (refused c.args.event.now TooMany)) None) q
    ∙ sym (late-alive es c.args.event.now (free-none es acc c.args.event.now.process h).1))
