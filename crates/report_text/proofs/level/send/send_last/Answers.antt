use Rattle.std.proofs.Common.{refl}
use Rattle.std.proofs.lemmas.Result.{on_ok_weaker}
use Rattle.report_text.proofs.level.send.send_last.Goals as goal

pub returns : goal.returns
returns g c =
    let at = g.S.Serializer.written in
    on_ok_weaker c.send_number.result (λ e. (
      at c.show_number.new.out,
      c.in_ok-show_number.ensures,
      (
        at
            c.show_missed.new.out,
        c.in_ok-show_missed.ensures,
        (
          at c.show_pairs.new.out,
          c.in_ok-show_pairs.ensures,
          (
            at c.show_number-2.new.out,
            c.in_ok-show_number-2.ensures,
            (
              at
                  c.send_number.new.out,
              e,
              refl,
            ),
          ),
        ),
      ),
    )) c.send_number.ensures
