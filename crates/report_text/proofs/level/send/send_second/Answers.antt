use Rattle.std.proofs.Common.{refl}
use Rattle.std.proofs.lemmas.Result.{on_ok_weaker}
use Rattle.report_text.proofs.level.send.send_second.Goals as goal

pub returns : goal.returns
returns g c =
    let at = g.S.Serializer.written in
    on_ok_weaker c.show_fault-2.result (λ e. (
      at c.show_yes_or_no.new.out,
      c.in_ok-show_yes_or_no.ensures,
      (
        at c.show_fault.new.out,
        c.in_ok-show_fault.ensures,
        (
          at c.show_order.new.out,
          c.in_ok-show_order.ensures,
          (
            at c.show_order_level.new.out,
            c.in_ok-show_order_level.ensures,
            (
              at c.show_number.new.out,
              c.in_ok-show_number.ensures,
              (
                at c.show_missed.new.out,
                c.in_ok-show_missed.ensures,
                (
                  at c.show_yes_or_no-2.new.out,
                  c.in_ok-show_yes_or_no-2.ensures,
                  (at c.show_fault-2.new.out, e, refl),
                ),
              ),
            ),
          ),
        ),
      ),
    ))
    c.show_fault-2.ensures
