-- An event joins the list of its register, known or the next.
use Rattle.std.proofs.Common.{◌≡◌, ◌<◌, ◌∷◌, ◌++◌, [], length, None, refl, ap, arith}
use Rattle.std.proofs.lemmas.Option.{slice_get_past, slice_get_read}
use Rattle.reg_arena.specs.Lists.Rows.{Columns}
use Rattle.reg_arena.proofs.ListLemmas.Joining.{ends-pushed, ends-set, joined-known, joined-new}
use Rattle.reg_arena.proofs.event_lists.joins.link_register.Goals as goal

pub returns-then-number-len-clause-joined : goal.returns-then-number-len-clause-joined
returns-then-number-len-clause-joined c =
    let ends = c.args.registers.now.items in
    let known : c.args.register.0 < length ends = omega (arith, c.if-number-len.true, c.len.ensures) in
    let was =
    slice_get_read ends _ c.args.register.0 c.index-ends.result.now refl known c.index-ends.ensures in
    let l = c.requires.within c.index-ends.result.now was in
    joined-known c.args.rows.now.in_register _ _ _ c.args.register.0 c.args.id c.index-ends.result.now was
    (ends-set ends c.args.register.0 _ known) (omega (arith, c.requires.column))
    (ap (λ (k : Columns). k.in_register ++ None ∷ []) c.link_in_register.ensures)

pub returns-in_ok-push-clause-joined : goal.returns-in_ok-push-clause-joined
returns-in_ok-push-clause-joined c =
    let ends = c.args.registers.now.items in
    let next : c.args.register.0 ≡ length ends =
    omega (arith, c.if-number-len.false, c.len.ensures, c.requires.next) in
    joined-new c.args.rows.now.in_register _ _ _ c.args.register.0 c.args.id
    (slice_get_past ends c.args.register.0 (omega arith))
    (rw c.in_ok-push.ensures.items (ends-pushed ends c.args.register.0 _ next)) refl
