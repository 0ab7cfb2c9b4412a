use Rattle.std.proofs.Common.{◌∙◌, ap, Some, subst, sym}
use Rattle.level_report.specs.Called.{AreCalled}
use Rattle.level_report.specs.Judged.{IsJudgement}
use Rattle.level_report.specs.Shown.{AreReady}
use Rattle.level_report.proofs.register.register_line.Goals as goal

pub judged-requires-clause-by_call : goal.judged-requires-clause-by_call
judged-requires-clause-by_call c =
    (subst AreReady (sym c.deref.ensures.value) c.in_ok-ops.ensures.ready).by_call

pub returns : goal.returns
returns c =
    let h = c.args.arena.now in
    let r = c.args.register.0 in
    let found =
    subst (λ ops. IsJudgement ops c.args.asked c.in_ok-found.found)
    (c.deref.ensures.value ∙ c.in_ok-ops.ensures.all) c.in_ok-found.ensures in
    record {
      name = c.name.ensures.at ∙ ap Some (sym c.in_ok-new.ensures);
      operations =
          subst (λ ops. AreCalled ops c.called.result) (c.deref-2.ensures.value ∙ c.in_ok-ops.ensures.all)
          c.called.ensures;
      freshness = found.freshness;
      guarantees = found.guarantees;
      order = found.order;
    }
