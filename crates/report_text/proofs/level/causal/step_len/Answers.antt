use Rattle.report_text.proofs.JsonFieldLemmas.Fields.{one_of}
use Rattle.report_text.proofs.LevelLemmas.CausalFields.{step_count}
use Rattle.report_text.proofs.level.causal.step_len.Goals as goal

pub returns : goal.returns
returns c =
    let step = c.args.step.now in
    step_count step _ _
    (one_of step.knew c.is_some.result c.one_if.result c.is_some.ensures c.one_if.ensures)
    (one_of step.read c.is_some-2.result c.one_if-2.result c.is_some-2.ensures c.one_if-2.ensures)
