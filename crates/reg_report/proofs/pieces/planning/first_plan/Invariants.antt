use Rattle.std.proofs.Common.{◌≡◌, ℕ, length, slice_get, Some}
use Rattle.reg_report.specs.declared.pieces.tasks.Task.{Task}
use Rattle.reg_report.specs.declared.pieces.tasks.Task.TheVariants.{First}
use Rattle.reg_report.proofs.pieces.planning.first_plan.Given as goal

abbrev pub invariant-loop-number : goal.invariant-loop-number
invariant-loop-number l = record {
  count : length l.tasks.items ≡ l.number;
  each : (r : ℕ) (t : Task) → slice_get l.tasks.items r ≡ Some t → t ≡ First (record { 0 = r });
}
