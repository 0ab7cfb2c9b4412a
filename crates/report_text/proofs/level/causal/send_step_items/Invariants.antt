use Rattle.std.proofs.Common.{drop, map}
use Rattle.serde.specs.Event.{Log}
use Rattle.serde_json.specs.Events.{SendsItems}
use Rattle.report_text.specs.JsonFields.Fields.{items_of}
use Rattle.report_text.specs.Level.Causal.{step_json}
use Rattle.report_text.proofs.level.causal.send_step_items.Given as goal

-- whatever ends it well from here ends it well from the start
abbrev pub invariant-loop-step : goal.invariant-loop-step
invariant-loop-step g l =
    (end : Log) → SendsItems (items_of (map step_json (drop l.step-index l.steps)))
    (g.S.Serializer.written l.out) end
    → SendsItems (items_of (map step_json l.steps)) (g.S.Serializer.written l.initial.out) end
