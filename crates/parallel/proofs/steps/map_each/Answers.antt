-- What the pieces were collected to is what the closure gave at each item.
use Rattle.std.proofs.Common.{◌∙◌, ap, sym, subst}
use Rattle.std.specs.Prelude.{IfOk}
use Rattle.parallel.specs.Parts.{GivesEach}
use Rattle.parallel.proofs.Made.{given}
use Rattle.parallel.proofs.steps.map_each.Goals as goal

pub collect-requires-clause-ready : goal.collect-requires-clause-ready
collect-requires-clause-ready g c =
    rw (c.map.ensures.base, c.map.ensures.f, c.with_min_len.ensures.base, c.par_iter.ensures)
    (λ κs known k d within x shown. (c.requires k d within x shown, λ y made. tt))

pub returns : goal.returns
returns g c =
    let h = c.in_ok-collect.ensures in
    let f = c.map.result.f in
    let slice =
    ap (λ b. b.base.slice.now) c.map.ensures.base
    ∙ ap (λ b. b.slice.now) c.with_min_len.ensures.base
    ∙ c.par_iter.ensures in
    rw (sym c.map.ensures.f)
    (subst (λ xs. IfOk c.in_ok-collect.field-0 (λ v. GivesEach g.F.Fn f xs v.items)) (h.1.1 ∙ slice)
    (given g.F.Fn f h.1.0 h.0 c.in_ok-collect.field-0 h.1.2 h.2))
