use Rattle.std.proofs.Common.{◌≡◌, ◌-◌, ℕ, MatchOption, subst, rules, ◌∙◌, ap}
use Rattle.history_model.specs.Cut.{cut_at}
use Rattle.register_search.specs.Verdicts.{RepliesAt}
use Rattle.register_search.proofs.Beginnings.{checked-before}
use Rattle.register_search.proofs.verdict.legal_before.Goals as goal

pub returns-in-Some-2 : goal.returns-in-Some-2
returns-in-Some-2 c =
    let replies : RepliesAt c.args.ops.now c.args.reply c.in-Some.time =
    subst (λ o. MatchOption o ((t : ℕ) → RepliesAt c.args.ops.now c.args.reply t → ⊥)
    (λ t. RepliesAt c.args.ops.now c.args.reply t)) c.in-Some.is c.reply_time.ensures in
    let known : c.deref.result.now ≡ cut_at (c.in-Some.time - 1) c.args.ops.now =
    c.deref.ensures.value ∙ (c.in_ok-known.ensures ∙ ap (λ t. cut_at t c.args.ops.now) (search rules)) in
    checked-before c.args.ops.now c.deref.result.now c.args.reply c.in-Some.time c.args.order.items
    c.in_ok-check_order.field-0 c.in-Some-2.field-0 replies known c.in-Some-2.is
    (rw c.deref-2.ensures.value at c.in_ok-check_order.ensures)
