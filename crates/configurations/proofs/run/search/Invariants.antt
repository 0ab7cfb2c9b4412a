use Rattle.std.proofs.Common.{◌≡◌}
use Rattle.std.specs.Prelude.{IsTrue}
use Rattle.slot_sets.specs.Sets.{has}
use Rattle.configurations.specs.Configs.{AreHeld}
use Rattle.configurations.specs.Tables.{IsTable}
use Rattle.configurations.proofs.Going.{Covers}
use Rattle.configurations.proofs.run.search.Given as goal

abbrev pub invariant-loop-place : goal.invariant-loop-place
invariant-loop-place g l = record {
  table : IsTable l.table;
  held : AreHeld (has l.table.used) l.now;
  ops : l.table.ops.items ≡ l.fn.table.ops.items;
  covers : IsTrue l.whole → Covers l.fn.table.ops.items l.fn.events l.place l.table l.now;
}
