use Rattle.std.proofs.Common.{ℕ, ◌≡◌, ◌<◌, slice_get, Some}
use Rattle.configurations.specs.declared.config.Config.{Config}
use Rattle.configurations.specs.Configs.{AreApart, AreKept, IsGoneOver}
use Rattle.configurations.specs.Tables.{call_at}
use Rattle.configurations.proofs.reply.pass.Given as goal

abbrev pub invariant-loop-at : goal.invariant-loop-at
invariant-loop-at g l = record {
  apart : AreApart l.table l.reply l.lists.work l.lists.next;
  kept : AreKept l.fn.lists.work l.fn.lists.next l.lists.work l.lists.next;
  gone : (at : ℕ) (c : Config g.row.W) → at < l.at
      → slice_get l.lists.work.list.items at ≡ Some c
      → IsGoneOver l.table (call_at l.table l.reply) l.lists.work l.lists.next c;
}
