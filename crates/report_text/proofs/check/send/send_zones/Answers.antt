use Rattle.std.proofs.Common.{refl}
use Rattle.std.proofs.lemmas.Result.{on_ok_weaker}
use Rattle.report_text.specs.Check.Text.{fault_parts}
use Rattle.report_text.specs.declared.check.report.FaultLines.TheVariants.{Zones}
use Rattle.report_text.proofs.JsonFieldLemmas.Fields.{sends_object}
use Rattle.report_text.proofs.check.send.send_zones.Goals as goal

pub returns : goal.returns
returns g c =
    let at = g.S.Serializer.written in
    on_ok_weaker c.end_map.result (λ e.
    sends_object (fault_parts (Zones c.args.writes c.args.first c.args.second)) 4 (at c.args.out.now)
    (at c.begin_map.new.self) (at c.send_pair-3.new.out)
    (at c.end_map.new.self) refl c.in_ok-begin_map.ensures (
      at c.send_pair.new.out,
      c.in_ok-send_pair.ensures,
      (
        at c.send_text.new.out,
        c.in_ok-send_text.ensures,
        (
          at c.send_pair-2.new.out,
          c.in_ok-send_pair-2.ensures,
          (at c.send_pair-3.new.out, c.in_ok-send_pair-3.ensures, refl),
        ),
      ),
    ) e) c.end_map.ensures
