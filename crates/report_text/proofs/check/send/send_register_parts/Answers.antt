use Rattle.std.proofs.Common.{refl, subst, codes}
use Rattle.std.proofs.lemmas.Result.{on_ok_weaker}
use Rattle.serde_json.specs.Data.{string}
use Rattle.report_text.specs.JsonFields.Fields.{always}
use Rattle.report_text.specs.JsonFields.Sends.{SendsFields}
use Rattle.report_text.proofs.check.send.send_register_parts.Goals as goal

pub returns : goal.returns
returns g c =
    let at = g.S.Serializer.written in
    let named =
    subst (λ t. SendsFields (always (codes "register") (string t)) (at c.send_number-2.new.out)
    (at c.send_text.new.out)) c.as_str.ensures.text c.in_ok-send_text.ensures in
    on_ok_weaker c.send_number-3.result (λ e. (
      at c.send_yes_or_no.new.out,
      c.in_ok-send_yes_or_no.ensures,
      (
        at c.show_fault.new.out,
        c.in_ok-show_fault.ensures,
        (
          at c.show_pair.new.out,
          c.in_ok-show_pair.ensures,
          (
            at c.show_lines.new.out,
            c.in_ok-show_lines.ensures,
            (
              at c.send_number.new.out,
              c.in_ok-send_number.ensures,
              (
                at c.show_lines-2.new.out,
                c.in_ok-show_lines-2.ensures,
                (
                  at c.send_number-2.new.out,
                  c.in_ok-send_number-2.ensures,
                  (
                    at c.send_text.new.out,
                    named,
                    (
                      at c.send_verdict.new.out,
                      c.in_ok-send_verdict.ensures,
                      (
                        at c.show_number.new.out,
                        c.in_ok-show_number.ensures,
                        (
                          at c.send_verdict-2.new.out,
                          c.in_ok-send_verdict-2.ensures,
                          (
                            at c.show_number-2.new.out,
                            c.in_ok-show_number-2.ensures,
                            (at c.send_number-3.new.out, e, refl),
                          ),
                        ),
                      ),
                    ),
                  ),
                ),
              ),
            ),
          ),
        ),
      ),
    )) c.send_number-3.ensures
