use Rattle.std.proofs.Common.{arith, subst}
use Rattle.std.specs.List.{AllZip}
use Rattle.std.proofs.lemmas.Result.{IfOk-weaker}
use Rattle.parallel.proofs.Callers.{all-given}
use Rattle.level_report.proofs.Sharing.{IsLineOf, lines-of-all}
use Rattle.level_report.proofs.registers.register_lines.Goals as goal

pub returns-clause-lines : goal.returns-clause-lines
returns-clause-lines g c =
    let h = c.args.arena.now in
    let asked = c.args.settings.asked in
    IfOk-weaker c.map_each.result _ _
    (λ v made.
    let given =
    all-given _ _ (IsLineOf h c.asked-asked.result) (λ id reg is. is) c.as_slice.result.now v.items made in
    lines-of-all h asked c.register_count-count.result c.in_ok-ids.ids.items v.items c.in_ok-ids.ensures
    c.register_count-count.ensures.count
    (subst (λ a. AllZip (IsLineOf h a) c.in_ok-ids.ids.items v.items) c.asked-asked.ensures
    (subst (λ ids. AllZip (IsLineOf h c.asked-asked.result) ids v.items) c.as_slice.ensures.value given)))
    c.map_each.ensures

pub returns-clause-few : goal.returns-clause-few
returns-clause-few g c =
    let h = c.args.arena.now in
    let asked = c.args.settings.asked in
    IfOk-weaker c.map_each.result _ _
    (λ v made.
    let given =
    all-given _ _ (IsLineOf h c.asked-asked.result) (λ id reg is. is) c.as_slice.result.now v.items made in
    let all = lines-of-all h asked c.register_count-count.result c.in_ok-ids.ids.items v.items
    c.in_ok-ids.ensures
    c.register_count-count.ensures.count
    (subst (λ a. AllZip (IsLineOf h a) c.in_ok-ids.ids.items v.items) c.asked-asked.ensures
    (subst (λ ids. AllZip (IsLineOf h c.asked-asked.result) ids v.items) c.as_slice.ensures.value given)) in
    omega (arith, all.count, c.register_count-count.ensures.count, c.register_count-count.ensures.bound))
    c.map_each.ensures
