-- The operations of the events before the place are listed.
use Rattle.std.proofs.Common.{◌≡◌, ◌≤◌, ◌+◌, ◌++◌, ℕ, length, take}
use Rattle.history_model.specs.Operations.{of_register}
use Rattle.reg_intake.specs.CasHistory.History.{calls, calls_of, register_names}
use Rattle.reg_intake.specs.CasHistory.Listed.{listed}
use Rattle.reg_intake.proofs.CasHistoryLemmas.Listed.{left_from}
use Rattle.reg_intake.proofs.cas_history.registers.Registers.of.Given as goal

abbrev pub invariant-loop-place : goal.invariant-loop-place
invariant-loop-place l = record {
  names : l.registers.naming ≡ register_names (take l.place l.events);
  few : length l.registers.naming ≤ l.place;
  whole : length l.registers.operations.items ≡ length l.registers.naming;
  each : (r : ℕ)
      → listed l.registers.operations.items r ++ of_register r (left_from l.events l.place)
      ≡ calls_of l.events r;
  counted : l.registers.count ≤ l.place;
  count : l.registers.count + length (left_from l.events l.place) ≡ length (calls l.events);
}
