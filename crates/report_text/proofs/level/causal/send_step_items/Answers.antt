use Rattle.std.proofs.Common.{◌≡◌, [], map, drop, Some, sym, subst, arith}
use Rattle.std.proofs.lemmas.List.{drop_all}
use Rattle.std.proofs.lemmas.Result.{on_ok_weaker}
use Rattle.serde.specs.Event.{Logs, seq_begins}
use Rattle.serde_json.specs.Events.{SendsItems}
use Rattle.report_text.specs.JsonFields.Fields.{items_of}
use Rattle.report_text.specs.Level.Causal.{step_json}
use Rattle.report_text.proofs.LevelLemmas.CausalFields.{items_len-steps}
use Rattle.report_text.proofs.level.causal.send_step_items.Goals as goal

pub returns : goal.returns
returns g c =
    let xs = c.args.steps.now in
    let first = g.S.Serializer.written c.begin_seq.new.self in
    let end = g.S.Serializer.written c.end_seq.new.self in
    let begun =
    subst (λ n. Logs (g.S.Serializer.written c.args.out.now) first (seq_begins (Some n)))
    (sym (items_len-steps xs)) c.in_ok-begin_seq.ensures in
    let none : drop c.loop-step.step-index xs ≡ [] = drop_all c.loop-step.step-index xs (omega arith) in
    on_ok_weaker c.end_seq.result (λ e. (
      first,
      begun,
      c.loop-step.invariant end
          (subst (λ ys. SendsItems (items_of (map step_json ys)) (g.S.Serializer.written c.loop-step.out)
          end) (sym none) e),
    )) c.end_seq.ensures
