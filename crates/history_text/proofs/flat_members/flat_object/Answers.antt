-- The brace, a comma and one more member, or a member and the closing brace.
use Rattle.std.proofs.Common.{◌≡◌, ◌∷◌, length, eqb-true, sym, ap, ◌∙◌, arith}
use Rattle.history_text.proofs.Joined.{open_first, open_more, open_end}
use Rattle.history_text.proofs.flat_members.flat_object.Goals as goal

pub loop-init : goal.loop-init
loop-init c =
    open_first c.args.operations c.args.text.now c.skip_spaces.result.now c.in_ok-after.field-0.now
    c.skip_spaces-rest.result.now c.skip_spaces.ensures c.in_ok-after.ensures c.skip_spaces-rest.ensures

pub returns-then-mark-eq125 : goal.returns-then-mark-eq125
returns-then-mark-eq125 c =
    let l = c.loop in
    let m = c.in_ok-more in
    let behind = c.in_ok-mark.behind.now in
    let last = c.skip_spaces-then-mark-eq125 in
    let brace : c.in_ok-mark.mark ≡ 125 = omega arith in
    let none = eqb-true (length last.result.now) 0 (sym c.is_empty.ensures ∙ c.if-not-is_empty.false) in
    open_end c.args.operations c.args.text.now l.rest.now m.next.now c.skip_spaces-in-loop.result.now
    behind l.found m.more
    l.invariant m.ensures c.skip_spaces-in-loop.ensures last.result.now
    (c.in_ok-mark.ensures ∙ ap (λ x. x ∷ behind) brace) last.ensures none

pub loop-preserved : goal.loop-preserved
loop-preserved c =
    let l = c.loop in
    let m = c.in_ok-more in
    let behind = c.in_ok-mark.behind.now in
    let comma : c.in_ok-mark.mark ≡ 44 = omega arith in
    open_more c.args.operations c.args.text.now l.rest.now m.next.now c.skip_spaces-in-loop.result.now
    behind l.found m.more
    l.invariant m.ensures c.skip_spaces-in-loop.ensures c.skip_spaces-rest-in-loop.result.now
    (c.in_ok-mark.ensures ∙ ap (λ x. x ∷ behind) comma) c.skip_spaces-rest-in-loop.ensures
