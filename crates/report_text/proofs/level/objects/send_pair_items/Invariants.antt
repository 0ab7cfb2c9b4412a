use Rattle.std.proofs.Common.{drop, map}
use Rattle.serde.specs.Event.{Log}
use Rattle.serde_json.specs.Events.{SendsItems}
use Rattle.report_text.specs.JsonFields.Fields.{items_of, pair_json}
use Rattle.report_text.proofs.level.objects.send_pair_items.Given as goal

-- whatever ends it well from here ends it well from the start
abbrev pub invariant-loop-pair : goal.invariant-loop-pair
invariant-loop-pair g l =
    (end : Log) → SendsItems (items_of (map pair_json (drop l.pair-index l.pairs)))
    (g.S.Serializer.written l.out) end
    → SendsItems (items_of (map pair_json l.pairs)) (g.S.Serializer.written l.initial.out) end
