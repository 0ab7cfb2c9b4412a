use Rattle.std.proofs.Common.{codes, refl, subst}
use Rattle.std.proofs.lemmas.Result.{on_ok_weaker}
use Rattle.serde_json.specs.Data.{string}
use Rattle.report_text.specs.JsonFields.Fields.{always}
use Rattle.report_text.specs.JsonFields.Sends.{SendsFields}
use Rattle.report_text.proofs.level.send.send_third.Goals as goal

pub returns : goal.returns
returns g c =
    let at = g.S.Serializer.written in
    let named =
    subst (λ t. SendsFields (always (codes "register") (string t)) (at c.send_number-2.new.out)
    (at c.send_text.new.out)) c.as_str.ensures.text c.in_ok-send_text.ensures in
    on_ok_weaker c.show_fault-2.result (λ e. (
      at c.send_number.new.out,
      c.in_ok-send_number.ensures,
      (
        at
            c.send_number-2.new.out,
        c.in_ok-send_number-2.ensures,
        (
          at c.send_text.new.out,
          named,
          (
            at
                c.send_yes_or_no.new.out,
            c.in_ok-send_yes_or_no.ensures,
            (
              at c.send_yes_or_no-2.new.out,
              c.in_ok-send_yes_or_no-2.ensures,
              (
                at c.show_fault.new.out,
                c.in_ok-show_fault.ensures,
                (
                  at
                      c.send_yes_or_no-3.new.out,
                  c.in_ok-send_yes_or_no-3.ensures,
                  (
                    at
                        c.show_fault-2.new.out,
                    e,
                    refl,
                  ),
                ),
              ),
            ),
          ),
        ),
      ),
    )) c.show_fault-2.ensures
