use Rattle.std.proofs.lemmas.Result.{on_ok_weaker}
use Rattle.report_text.specs.Search.Text.{register_parts}
use Rattle.report_text.proofs.JsonFieldLemmas.Fields.{sends_object}
use Rattle.report_text.proofs.search.send.RegisterReportSerialize.serialize.Goals as goal

pub returns : goal.returns
returns g c =
    let at = g.S.Serializer.written in
    let reg = c.args.self.now in
    on_ok_weaker c.end_map.result (λ e.
    sends_object (register_parts reg reg.atomicity) c.register_len.result (at c.args.out.now)
    (at c.begin_map.new.self) (at c.send_register_parts.new.out)
    (at c.end_map.new.self) c.register_len.ensures c.in_ok-begin_map.ensures
    c.in_ok-send_register_parts.ensures e) c.end_map.ensures
