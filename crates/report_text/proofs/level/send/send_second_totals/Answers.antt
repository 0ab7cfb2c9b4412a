use Rattle.std.proofs.Common.{refl}
use Rattle.std.proofs.lemmas.Result.{on_ok_weaker}
use Rattle.report_text.proofs.level.send.send_second_totals.Goals as goal

pub returns : goal.returns
returns g c =
    let at = g.S.Serializer.written in
    on_ok_weaker c.show_yes_or_no-2.result (λ e. (
      at c.show_total.new.out,
      c.in_ok-show_total.ensures,
      (
        at c.send_total.new.out,
        c.in_ok-send_total.ensures,
        (
          at c.send_total-2.new.out,
          c.in_ok-send_total-2.ensures,
          (
            at c.show_yes_or_no.new.out,
            c.in_ok-show_yes_or_no.ensures,
            (
              at c.send_total-3.new.out,
              c.in_ok-send_total-3.ensures,
              (
                at c.send_total-4.new.out,
                c.in_ok-send_total-4.ensures,
                (at c.show_yes_or_no-2.new.out, e, refl),
              ),
            ),
          ),
        ),
      ),
    ))
    c.show_yes_or_no-2.ensures
