use Rattle.std.proofs.Common.{drop, map}
use Rattle.serde.specs.Event.{Log}
use Rattle.serde_json.specs.Events.{SendsItems}
use Rattle.report_text.specs.JsonFields.Fields.{items_of, number_json}
use Rattle.report_text.proofs.json_fields.send.send_items.Given as goal

-- whatever ends it well from here ends it well from the start
abbrev pub invariant-loop-n : goal.invariant-loop-n
invariant-loop-n g l =
    (end : Log) → SendsItems (items_of (map number_json (drop l.n-index l.numbers)))
    (g.S.Serializer.written l.out) end
    → SendsItems (items_of (map number_json l.numbers)) (g.S.Serializer.written l.initial.out) end
