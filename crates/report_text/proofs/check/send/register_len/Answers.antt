use Rattle.report_text.proofs.JsonFieldLemmas.Fields.{one_of}
use Rattle.report_text.proofs.CheckLemmas.Fields.{register_count}
use Rattle.report_text.proofs.check.send.register_len.Goals as goal

pub returns : goal.returns
returns c =
    let reg = c.args.reg.now in
    register_count reg _ _ _ _ _ _
    (one_of reg.fault c.is_some.result c.one_if.result c.is_some.ensures c.one_if.ensures)
    (one_of reg.inversion c.is_some-2.result c.one_if-2.result c.is_some-2.ensures c.one_if-2.ensures)
    (one_of reg.order c.is_some-3.result c.one_if-3.result c.is_some-3.ensures c.one_if-3.ensures)
    (one_of reg.points c.is_some-4.result c.one_if-4.result c.is_some-4.ensures c.one_if-4.ensures)
    (one_of reg.regular_read c.is_some-5.result c.one_if-5.result c.is_some-5.ensures c.one_if-5.ensures)
    (one_of reg.safe_read c.is_some-6.result c.one_if-6.result c.is_some-6.ensures c.one_if-6.ensures)
