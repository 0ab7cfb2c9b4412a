use Rattle.std.proofs.lemmas.Result.{on_ok_weaker}
use Rattle.report_text.specs.Level.Text.{totals_parts}
use Rattle.report_text.proofs.JsonFieldLemmas.Fields.{sends_object}
use Rattle.report_text.proofs.level.send.TotalsSerialize.serialize.Goals as goal

pub returns : goal.returns
returns g c =
    let at = g.S.Serializer.written in
    on_ok_weaker c.end_map.result (λ e.
    sends_object (totals_parts c.args.self.now) c.totals_len.result (at c.args.out.now)
    (at c.begin_map.new.self) (at c.send_totals_parts.new.out)
    (at c.end_map.new.self) c.totals_len.ensures c.in_ok-begin_map.ensures
    c.in_ok-send_totals_parts.ensures e) c.end_map.ensures
