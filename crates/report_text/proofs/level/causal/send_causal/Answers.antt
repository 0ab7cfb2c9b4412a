use Rattle.std.proofs.Common.{codes, refl, subst}
use Rattle.std.proofs.lemmas.Result.{on_ok_weaker}
use Rattle.serde_json.specs.Data.{string}
use Rattle.report_text.specs.JsonFields.Fields.{always}
use Rattle.report_text.specs.JsonFields.Sends.{SendsFields}
use Rattle.report_text.proofs.level.causal.send_causal.Goals as goal

pub returns : goal.returns
returns g c =
    let at = g.S.Serializer.written in
    let said =
    subst (λ t. SendsFields (always (codes "causal") (string t)) (at c.args.out.now)
    (at c.send_text.new.out)) c.word.ensures c.in_ok-send_text.ensures in
    on_ok_weaker c.show_numbers.result (λ e. (
      at c.send_text.new.out,
      said,
      (
        at c.show_causal_fault.new.out,
        c.in_ok-show_causal_fault.ensures,
        (at c.show_numbers.new.out, e, refl),
      ),
    )) c.show_numbers.ensures
