use Rattle.std.proofs.Common.{refl}
use Rattle.std.proofs.lemmas.Result.{on_ok_weaker}
use Rattle.report_text.proofs.level.send.send_first.Goals as goal

pub returns : goal.returns
returns g c =
    let at = g.S.Serializer.written in
    on_ok_weaker c.show_number-4.result (λ e. (
      at c.send_yes_or_no.new.out,
      c.in_ok-send_yes_or_no.ensures,
      (
        at c.show_number.new.out,
        c.in_ok-show_number.ensures,
        (
          at c.show_went_back.new.out,
          c.in_ok-show_went_back.ensures,
          (
            at c.show_early.new.out,
            c.in_ok-show_early.ensures,
            (
              at
                  c.show_gap.new.out,
              c.in_ok-show_gap.ensures,
              (
                at c.show_number-2.new.out,
                c.in_ok-show_number-2.ensures,
                (
                  at c.show_went_back-2.new.out,
                  c.in_ok-show_went_back-2.ensures,
                  (
                    at c.show_number-3.new.out,
                    c.in_ok-show_number-3.ensures,
                    (at c.show_number-4.new.out, e, refl),
                  ),
                ),
              ),
            ),
          ),
        ),
      ),
    ))
    c.show_number-4.ensures
