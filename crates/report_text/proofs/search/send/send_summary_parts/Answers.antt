use Rattle.std.proofs.Common.{codes, refl, subst, ◌∙◌}
use Rattle.std.proofs.lemmas.Result.{on_ok_weaker}
use Rattle.report_text.specs.JsonFields.Fields.{always, number_json}
use Rattle.report_text.specs.JsonFields.Sends.{SendsFields}
use Rattle.report_text.proofs.search.send.send_summary_parts.Goals as goal

pub returns : goal.returns
returns g c =
    let at = g.S.Serializer.written in
    on_ok_weaker c.send_number-2.result (λ e. (
      at c.send_outcome.new.out,
      c.in_ok-send_outcome.ensures,
      (
        at c.send_number.new.out,
        c.in_ok-send_number.ensures,
        (
          at c.send_number-2.new.out,
          subst (λ n. SendsFields (always (codes "registers") (number_json n)) (at c.send_number.new.out)
              (at c.send_number-2.new.out)) (c.len.ensures ∙ c.args.report.now.registers.ok.0) e,
          refl,
        ),
      ),
    )) c.send_number-2.ensures
