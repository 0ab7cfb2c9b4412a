use Rattle.std.proofs.Common.{ℕ, ◌≡◌, ◌≤◌, ◌-◌, slice_get, Some, length}
use Rattle.configurations.specs.declared.config.Config.{Config}
use Rattle.configurations.specs.Configs.{AreApart, GoesBy, free_of, owed_by}
use Rattle.configurations.specs.Tables.{call_at}
use Rattle.configurations.proofs.run.put_down_all.Given as goal

abbrev pub invariant-loop-i : goal.invariant-loop-i
invariant-loop-i g l = record {
  apart : AreApart l.table l.reply l.lists.work l.lists.next;
  goes : (at : ℕ) (c : Config g.row.W) → length l.now.list.items - l.i ≤ at
      → slice_get l.now.list.items at ≡ Some c
      → GoesBy l.table (call_at l.table l.reply) l.lists.work l.lists.next c.value (owed_by l.table c)
      (free_of l.table c);
}
