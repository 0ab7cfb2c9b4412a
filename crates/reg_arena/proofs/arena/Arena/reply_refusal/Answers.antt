-- A reply of an open call is refused as the definition says, by what the arena tells of the call.
use Rattle.std.proofs.Common.{arith, cond, nat_le, length, slice_get, Some}
use Rattle.std.proofs.Common.{None, inl, inr, sym, ap, subst, ◌∙◌}
use Rattle.history_text.specs.declared.limits.TheConstants.{MAX_EVENTS}
use Rattle.reg_arena.specs.Lists.EventLists.{events_in}
use Rattle.history_model.specs.Refusals.{refused}
use Rattle.history_model.specs.History.{History, IsRecorded}
use Rattle.reg_arena.specs.Step.{IsOpenCall}
use Rattle.reg_arena.proofs.Step.{open-name, open-named}
use Rattle.reg_arena.proofs.Refused.{reply-disagreeing, reply-empty, reply-free}
use Rattle.reg_arena.proofs.arena.Arena.reply_refusal.Goals as goal
use Rattle.reg_arena.proofs.arena.Arena.reply_refusal.Goals.{else-is_none-via-then-is_none+else-is_none-2}
use Rattle.reg_arena.proofs.arena.Arena.reply_refusal.Goals.{else-is_none-via-else-is_none}
use Rattle.history_model.specs.declared.refusal.Reason.TheVariants.{TooMany}

pub reply_agrees-requires : goal.reply_agrees-requires
reply_agrees-requires c =
    let known =
    open-named c.args.self.now (subst IsRecorded c.self.view_is c.self.invariant.2)
    c.args.event.now.process c.args.opened c.requires.opened in
    let same = ap (λ (h : History). length h.names) c.self.view_is in
    omega (arith, known, same)

pub returns-then-not-reply_agrees : goal.returns-then-not-reply_agrees
returns-then-not-reply_agrees c = λ es acc q.
    let o =
    subst (λ (h : History). IsOpenCall h.events c.args.event.now.process c.args.opened) q
    c.requires.opened in
    let name =
    open-name c.self.inside.names (events_in c.self.inside.lists) c.args.self.now c.self.view_is
    (subst IsRecorded c.self.view_is c.self.invariant.2) c.args.event.now.process c.args.opened
    c.requires.opened in
    let at =
    ap (λ (h : History). slice_get h.names c.args.opened.register.0) (sym (c.self.view_is ∙ q))
    ∙ name.1 in
    ap Some c.refused.ensures
    ∙ sym (reply-disagreeing es c.args.event.now acc c.args.opened name.0 o at c.args.parts.now
    c.requires.reply c.reply_agrees.result (c.reply_agrees.ensures name.0 name.1)
    c.if-not-reply_agrees.true)

pub returns-then-is_none-2 : goal.returns-then-is_none-2
returns-then-is_none-2 c = λ es acc q.
    let o =
    subst (λ (h : History). IsOpenCall h.events c.args.event.now.process c.args.opened) q
    c.requires.opened in
    let name =
    open-name c.self.inside.names (events_in c.self.inside.lists) c.args.self.now c.self.view_is
    (subst IsRecorded c.self.view_is c.self.invariant.2) c.args.event.now.process c.args.opened
    c.requires.opened in
    let at =
    ap (λ (h : History). slice_get h.names c.args.opened.register.0) (sym (c.self.view_is ∙ q))
    ∙ name.1 in
    ap Some c.refused-then-is_none-2.ensures
    ∙ sym (reply-empty es c.args.event.now acc c.args.opened name.0 o at c.args.parts.now c.requires.reply
    c.reply_agrees.result (c.reply_agrees.ensures name.0 name.1) c.if-not-reply_agrees.false
    c.if-is_none.ensures c.if-is_none-2.ensures)

pub returns : goal.returns
returns c = λ es acc q.
    let o =
    subst (λ (h : History). IsOpenCall h.events c.args.event.now.process c.args.opened) q
    c.requires.opened in
    let name =
    open-name c.self.inside.names (events_in c.self.inside.lists) c.args.self.now c.self.view_is
    (subst IsRecorded c.self.view_is c.self.invariant.2) c.args.event.now.process c.args.opened
    c.requires.opened in
    let at =
    ap (λ (h : History). slice_get h.names c.args.opened.register.0) (sym (c.self.view_is ∙ q))
    ∙ name.1 in
    c.too_many.ensures
    ∙ (ap (λ (h : History).
    cond (nat_le MAX_EVENTS (length h.events)) (Some (refused c.args.event.now TooMany)) None) q
    ∙ sym (reply-free es c.args.event.now acc c.args.opened name.0 o at c.args.parts.now c.requires.reply
    c.reply_agrees.result (c.reply_agrees.ensures name.0 name.1) c.if-not-reply_agrees.false
    (elim c.else-is_none.branch [
      | else-is_none-via-then-is_none+else-is_none-2 w ↦ inr w.if-is_none-2.ensures
      | else-is_none-via-else-is_none w ↦ inl w.if-is_none.ensures
    ])))
