-- A fail of an open call is refused as the definition says, by what the arena tells of the call.
use Rattle.std.proofs.Common.{arith, cond, nat_le, length, slice_get, true}
use Rattle.std.proofs.Common.{false, Some, None, sym, ap, subst, ◌∙◌}
use Rattle.history_text.specs.declared.limits.TheConstants.{MAX_EVENTS}
use Rattle.reg_arena.specs.Lists.EventLists.{events_in}
use Rattle.history_model.specs.Refusals.{refused}
use Rattle.history_model.specs.History.{History, IsRecorded}
use Rattle.reg_arena.specs.Step.{IsOpenCall}
use Rattle.reg_arena.proofs.Step.{open-name, open-named}
use Rattle.reg_arena.proofs.Refused.{fail-tested}
use Rattle.reg_arena.proofs.arena.Arena.fail_refusal.Goals as goal
use Rattle.history_model.specs.declared.refusal.Reason.TheVariants.{TooMany}

pub fail_agrees-requires : goal.fail_agrees-requires
fail_agrees-requires c =
    let known =
    open-named c.args.self.now (subst IsRecorded c.self.view_is c.self.invariant.2)
    c.args.event.now.process c.args.opened c.requires.opened in
    let same = ap (λ (h : History). length h.names) c.self.view_is in
    omega (arith, known, same)

pub returns-then-not-fail_agrees : goal.returns-then-not-fail_agrees
returns-then-not-fail_agrees c = λ es acc q.
    let o =
    subst (λ (h : History). IsOpenCall h.events c.args.event.now.process c.args.opened) q
    c.requires.opened in
    let name =
    open-name c.self.inside.names (events_in c.self.inside.lists) c.args.self.now c.self.view_is
    (subst IsRecorded c.self.view_is c.self.invariant.2) c.args.event.now.process c.args.opened
    c.requires.opened in
    let at =
    ap (λ (h : History). slice_get h.names c.args.opened.register.0) (sym (c.self.view_is ∙ q))
    ∙ name.1 in
    ap Some c.refused.ensures
    ∙ sym (fail-tested es c.args.event.now acc c.args.opened name.0 o at c.args.parts.now c.requires.fail
    c.fail_agrees.result false (c.fail_agrees.ensures name.0 name.1) c.if-not-fail_agrees.true)

pub returns : goal.returns
returns c = λ es acc q.
    let o =
    subst (λ (h : History). IsOpenCall h.events c.args.event.now.process c.args.opened) q
    c.requires.opened in
    let name =
    open-name c.self.inside.names (events_in c.self.inside.lists) c.args.self.now c.self.view_is
    (subst IsRecorded c.self.view_is c.self.invariant.2) c.args.event.now.process c.args.opened
    c.requires.opened in
    let at =
    ap (λ (h : History). slice_get h.names c.args.opened.register.0) (sym (c.self.view_is ∙ q))
    ∙ name.1 in
    c.too_many.ensures
    ∙ (ap (λ (h : History).
    cond (nat_le MAX_EVENTS (length h.events)) (Some (refused c.args.event.now TooMany)) None) q
    ∙ sym (fail-tested es c.args.event.now acc c.args.opened name.0 o at c.args.parts.now c.requires.fail
    c.fail_agrees.result true (c.fail_agrees.ensures name.0 name.1) c.if-not-fail_agrees.false))
