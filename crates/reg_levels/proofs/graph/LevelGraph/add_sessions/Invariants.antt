use Rattle.std.proofs.Common.{ℕ, nat_eq}
use Rattle.std.specs.HashMap.{get}
use Rattle.reg_levels.specs.LevelGraph.{IsLatestOf}
use Rattle.reg_levels.proofs.Latest.{AreSessionsBelow}
use Rattle.reg_levels.proofs.graph.LevelGraph.add_sessions.Given as goal

abbrev pub invariant-loop-place : goal.invariant-loop-place
invariant-loop-place l = record {
  sessions : AreSessionsBelow l.guarantee l.ops l.numbers l.place l.fn.self l.self;
  latest : (q : ℕ) → IsLatestOf l.guarantee l.ops l.numbers q l.place (get nat_eq l.latest q);
}
