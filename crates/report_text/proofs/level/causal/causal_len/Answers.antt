use Rattle.report_text.proofs.JsonFieldLemmas.Fields.{one_of}
use Rattle.report_text.proofs.LevelLemmas.CausalFields.{causal_count}
use Rattle.report_text.proofs.level.causal.causal_len.Goals as goal

pub returns-clause-fields : goal.returns-clause-fields
returns-clause-fields c =
    let causal = c.args.causal.now in
    causal_count causal _ _
    (one_of causal.fault c.is_some.result c.one_if.result c.is_some.ensures c.one_if.ensures)
    (one_of causal.order c.is_some-2.result c.one_if-2.result c.is_some-2.ensures c.one_if-2.ensures)
