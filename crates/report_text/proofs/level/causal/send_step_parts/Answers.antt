use Rattle.std.proofs.Common.{codes, refl, subst}
use Rattle.std.proofs.lemmas.Result.{on_ok_weaker}
use Rattle.serde_json.specs.Data.{string}
use Rattle.report_text.specs.JsonFields.Fields.{always}
use Rattle.report_text.specs.JsonFields.Sends.{SendsFields}
use Rattle.report_text.proofs.level.causal.send_step_parts.Goals as goal

pub returns : goal.returns
returns g c =
    let at = g.S.Serializer.written in
    on_ok_weaker c.send_text.result (λ e. (
      at c.send_number.new.out,
      c.in_ok-send_number.ensures,
      (
        at c.show_numbers.new.out,
        c.in_ok-show_numbers.ensures,
        (
          at c.show_number.new.out,
          c.in_ok-show_number.ensures,
          (
            at c.send_number-2.new.out,
            c.in_ok-send_number-2.ensures,
            (
              at c.send_text.new.out,
              subst (λ t. SendsFields (always (codes "why") (string t)) (at c.send_number-2.new.out)
                  (at c.send_text.new.out)) c.word.ensures e,
              refl,
            ),
          ),
        ),
      ),
    )) c.send_text.ensures
