use Rattle.std.proofs.Common.{refl}
use Rattle.std.proofs.lemmas.Result.{on_ok_weaker}
use Rattle.report_text.proofs.check.send.send_summary_parts.Goals as goal

pub returns : goal.returns
returns g c =
    let at = g.S.Serializer.written in
    on_ok_weaker c.send_number-2.result (λ e. (
      at c.send_yes_or_no.new.out,
      c.in_ok-send_yes_or_no.ensures,
      (
        at c.send_number.new.out,
        c.in_ok-send_number.ensures,
        (
          at c.show_lines.new.out,
          c.in_ok-show_lines.ensures,
          (at c.send_number-2.new.out, e, refl),
        ),
      ),
    )) c.send_number-2.ensures
