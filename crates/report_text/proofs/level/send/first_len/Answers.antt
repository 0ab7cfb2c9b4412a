use Rattle.report_text.proofs.JsonFieldLemmas.Fields.{one_of}
use Rattle.report_text.proofs.LevelLemmas.Counts.{first_count}
use Rattle.report_text.proofs.level.send.first_len.Goals as goal

pub returns-clause-fields : goal.returns-clause-fields
returns-clause-fields c =
    let reg = c.args.reg.now in
    first_count reg _ _ _ _ _ _ _ _
    (one_of reg.freshness.back c.is_some.result c.one_if.result c.is_some.ensures c.one_if.ensures)
    (one_of reg.freshness.back_read c.is_some-2.result c.one_if-2.result c.is_some-2.ensures
    c.one_if-2.ensures)
    (one_of reg.freshness.early c.is_some-3.result c.one_if-3.result c.is_some-3.ensures c.one_if-3.ensures)
    (one_of reg.freshness.gap c.is_some-4.result c.one_if-4.result c.is_some-4.ensures c.one_if-4.ensures)
    (one_of reg.freshness.inverted c.is_some-5.result c.one_if-5.result c.is_some-5.ensures
    c.one_if-5.ensures)
    (one_of reg.freshness.inverted_read c.is_some-6.result c.one_if-6.result c.is_some-6.ensures
    c.one_if-6.ensures)
    (one_of reg.freshness.lost c.is_some-7.result c.one_if-7.result c.is_some-7.ensures c.one_if-7.ensures)
    (one_of reg.freshness.lost_write c.is_some-8.result c.one_if-8.result c.is_some-8.ensures
    c.one_if-8.ensures)
