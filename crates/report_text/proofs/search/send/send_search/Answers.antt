use Rattle.std.proofs.Common.{codes, refl, subst}
use Rattle.std.proofs.lemmas.Result.{on_ok_weaker}
use Rattle.report_text.specs.JsonFields.Fields.{always, number_json, numbers_json}
use Rattle.report_text.specs.JsonFields.Sends.{SendsFields}
use Rattle.report_text.proofs.search.send.send_search.Goals as goal

pub returns : goal.returns
returns g c =
    let at = g.S.Serializer.written in
    on_ok_weaker c.send_number.result (λ e. (
      at c.send_numbers.new.out,
      subst (λ lines. SendsFields (always (codes "asks") (numbers_json lines)) (at c.args.out.now)
          (at c.send_numbers.new.out)) c.as_slice.ensures.value c.in_ok-send_numbers.ensures,
      (
        at c.show_numbers.new.out,
        c.in_ok-show_numbers.ensures,
        (
          at c.send_text.new.out,
          c.in_ok-send_text.ensures,
          (
            at c.send_number.new.out,
            subst (λ n. SendsFields (always (codes "reply") (number_json n)) (at c.send_text.new.out)
                (at c.send_number.new.out)) c.from.ensures e,
            refl,
          ),
        ),
      ),
    )) c.send_number.ensures
