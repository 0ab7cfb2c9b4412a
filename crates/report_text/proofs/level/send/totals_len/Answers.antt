use Rattle.report_text.proofs.JsonFieldLemmas.Fields.{one_of}
use Rattle.report_text.proofs.LevelLemmas.Counts.{totals_count}
use Rattle.report_text.proofs.level.send.totals_len.Goals as goal

pub returns : goal.returns
returns c =
    let totals = c.args.totals.now in
    totals_count totals _ _ _ _ _ c.causal_len.ensures.fields
    (one_of totals.gap c.is_some.result c.one_if.result c.is_some.ensures c.one_if.ensures)
    (one_of totals.monotonic c.is_some-2.result c.one_if-2.result c.is_some-2.ensures c.one_if-2.ensures)
    (one_of totals.own_writes c.is_some-3.result c.one_if-3.result c.is_some-3.ensures c.one_if-3.ensures)
    (one_of totals.unclean c.is_some-4.result c.one_if-4.result c.is_some-4.ensures c.one_if-4.ensures)
