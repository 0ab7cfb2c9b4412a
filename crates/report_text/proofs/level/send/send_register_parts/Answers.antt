use Rattle.std.proofs.Common.{refl}
use Rattle.std.proofs.lemmas.Result.{on_ok_weaker}
use Rattle.report_text.proofs.JsonFieldLemmas.Fields.{sends_parts}
use Rattle.report_text.specs.Level.Text.{first_parts, last_parts, second_parts, third_parts}
use Rattle.report_text.proofs.level.send.send_register_parts.Goals as goal

pub returns : goal.returns
returns g c =
    let at = g.S.Serializer.written in
    let reg = c.args.reg.now in
    on_ok_weaker c.send_last.result (λ e. (
      at c.send_first.new.out,
      sends_parts (first_parts reg) (at c.args.out.now) (at c.send_first.new.out) c.in_ok-send_first.ensures,
      (
        at c.send_second.new.out,
        sends_parts (second_parts reg) (at c.send_first.new.out) (at c.send_second.new.out)
            c.in_ok-send_second.ensures,
        (
          at c.send_third.new.out,
          sends_parts (third_parts reg) (at c.send_second.new.out) (at c.send_third.new.out)
              c.in_ok-send_third.ensures,
          (
            at c.send_last.new.out,
            sends_parts (last_parts reg) (at c.send_third.new.out) (at c.send_last.new.out) e,
            refl,
          ),
        ),
      ),
    )) c.send_last.ensures
