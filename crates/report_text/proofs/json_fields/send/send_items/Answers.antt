use Rattle.std.proofs.Common.{◌≡◌, [], map, drop, Some, sym, subst, arith}
use Rattle.std.proofs.lemmas.List.{drop_all}
use Rattle.std.proofs.lemmas.Result.{on_ok_weaker}
use Rattle.serde.specs.Event.{Logs, seq_begins}
use Rattle.serde_json.specs.Events.{SendsItems}
use Rattle.report_text.specs.JsonFields.Fields.{items_of, number_json}
use Rattle.report_text.proofs.JsonFieldLemmas.Fields.{items_len-numbers}
use Rattle.report_text.proofs.json_fields.send.send_items.Goals as goal

pub returns : goal.returns
returns g c =
    let xs = c.args.numbers.now in
    let first = g.S.Serializer.written c.begin_seq.new.self in
    let end = g.S.Serializer.written c.end_seq.new.self in
    let begun =
    subst (λ n. Logs (g.S.Serializer.written c.args.out.now) first (seq_begins (Some n)))
    (sym (items_len-numbers xs)) c.in_ok-begin_seq.ensures in
    let none : drop c.loop-n.n-index xs ≡ [] = drop_all c.loop-n.n-index xs (omega arith) in
    on_ok_weaker c.end_seq.result (λ e. (
      first,
      begun,
      c.loop-n.invariant end
          (subst (λ ys. SendsItems (items_of (map number_json ys)) (g.S.Serializer.written c.loop-n.out) end)
          (sym none) e),
    )) c.end_seq.ensures
