use Rattle.causal_order.specs.SessionClocks.Steps.{AreSources}
use Rattle.causal_order.proofs.session_clocks.sources.sources.Given as goal

abbrev pub invariant-loop-place : goal.invariant-loop-place
invariant-loop-place l = AreSources l.ops l.place l.sources.items
