use Rattle.std.proofs.Common.{refl}
use Rattle.std.proofs.lemmas.Result.{on_ok_weaker}
use Rattle.report_text.proofs.JsonFieldLemmas.Fields.{sends_parts}
use Rattle.report_text.specs.Level.Causal.{causal_parts}
use Rattle.report_text.specs.Level.Text.{first_totals, last_totals, second_totals}
use Rattle.report_text.proofs.level.send.send_totals_parts.Goals as goal

pub returns : goal.returns
returns g c =
    let at = g.S.Serializer.written in
    let totals = c.args.totals.now in
    on_ok_weaker c.send_last_totals.result (λ e. (
      at c.send_first_totals.new.out,
      sends_parts (first_totals totals) (at c.args.out.now) (at c.send_first_totals.new.out)
          c.in_ok-send_first_totals.ensures,
      (
        at c.send_causal.new.out,
        sends_parts (causal_parts totals.causal) (at c.send_first_totals.new.out) (at c.send_causal.new.out)
            c.in_ok-send_causal.ensures,
        (
          at c.send_second_totals.new.out,
          sends_parts (second_totals totals) (at c.send_causal.new.out) (at c.send_second_totals.new.out)
              c.in_ok-send_second_totals.ensures,
          (
            at c.send_last_totals.new.out,
            sends_parts (last_totals totals) (at c.send_second_totals.new.out)
                (at c.send_last_totals.new.out) e,
            refl,
          ),
        ),
      ),
    )) c.send_last_totals.ensures
