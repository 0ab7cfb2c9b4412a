use Rattle.std.proofs.Common.{refl}
use Rattle.std.proofs.lemmas.Result.{on_ok_weaker}
use Rattle.report_text.specs.Level.Text.{gap_parts}
use Rattle.report_text.proofs.JsonFieldLemmas.Fields.{sends_object}
use Rattle.report_text.proofs.level.objects.send_gap.Goals as goal

pub returns : goal.returns
returns g c =
    let at = g.S.Serializer.written in
    on_ok_weaker c.end_map.result (λ e.
    sends_object (gap_parts c.args.gap) 4 (at c.args.out.now) (at c.begin_map.new.self)
    (at c.send_pair-3.new.out) (at c.end_map.new.self) refl c.in_ok-begin_map.ensures (
      at c.send_number.new.out,
      c.in_ok-send_number.ensures,
      (
        at c.send_pair.new.out,
        c.in_ok-send_pair.ensures,
        (
          at c.send_pair-2.new.out,
          c.in_ok-send_pair-2.ensures,
          (at c.send_pair-3.new.out, c.in_ok-send_pair-3.ensures, refl),
        ),
      ),
    ) e) c.end_map.ensures
