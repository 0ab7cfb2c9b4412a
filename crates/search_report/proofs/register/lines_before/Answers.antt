use Rattle.std.proofs.Common.{subst, sym, refl, ap, ◌∙◌}
use Rattle.register_search.specs.Timeline.{operations_at}
use Rattle.search_report.specs.Meaning.{lines_of}
use Rattle.search_report.specs.Registers.{AreLinesBefore}
use Rattle.std.proofs.Common.{Some}
use Rattle.search_report.proofs.register.lines_before.Goals as goal

pub returns-in_ok-lines_of_places-in-Some : goal.returns-in_ok-lines_of_places-in-Some
returns-in_ok-lines_of_places-in-Some c =
    let shown = c.in_ok-lines_of_places-in-Some.field-0 in
    subst (λ before. AreLinesBefore c.args.ops.now before (Some shown)) (sym c.in-Some.is) (
      shown,
      refl,
      c.in_ok-lines_of_places-in-Some.ensures
          ∙ ap (λ xs. lines_of (operations_at c.args.ops.now xs)) c.deref.ensures.value,
    )
