use Rattle.std.proofs.Common.{refl}
use Rattle.std.proofs.lemmas.Result.{on_ok_weaker}
use Rattle.report_text.proofs.level.send.send_first_totals.Goals as goal

pub returns : goal.returns
returns g c =
    let at = g.S.Serializer.written in
    on_ok_weaker c.send_total.result (λ e. (
      at c.send_yes_or_no.new.out,
      c.in_ok-send_yes_or_no.ensures,
      (at c.send_total.new.out, e, refl),
    ))
    c.send_total.ensures
