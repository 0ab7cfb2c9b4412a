use Rattle.std.proofs.Common.{◌≡◌, [], map, drop, Some, sym, subst, arith}
use Rattle.std.proofs.lemmas.List.{drop_all}
use Rattle.std.proofs.lemmas.Result.{on_ok_weaker}
use Rattle.serde.specs.Event.{Logs, seq_begins}
use Rattle.serde_json.specs.Events.{SendsItems}
use Rattle.report_text.specs.JsonFields.Fields.{items_of, pair_json}
use Rattle.report_text.proofs.LevelLemmas.Fields.{items_len-pairs}
use Rattle.report_text.proofs.level.objects.send_pair_items.Goals as goal

pub returns : goal.returns
returns g c =
    let xs = c.args.pairs.now in
    let first = g.S.Serializer.written c.begin_seq.new.self in
    let end = g.S.Serializer.written c.end_seq.new.self in
    let begun =
    subst (λ n. Logs (g.S.Serializer.written c.args.out.now) first (seq_begins (Some n)))
    (sym (items_len-pairs xs)) c.in_ok-begin_seq.ensures in
    let none : drop c.loop-pair.pair-index xs ≡ [] = drop_all c.loop-pair.pair-index xs (omega arith) in
    on_ok_weaker c.end_seq.result (λ e. (
      first,
      begun,
      c.loop-pair.invariant end
          (subst (λ ys. SendsItems (items_of (map pair_json ys)) (g.S.Serializer.written c.loop-pair.out)
          end) (sym none) e),
    )) c.end_seq.ensures
