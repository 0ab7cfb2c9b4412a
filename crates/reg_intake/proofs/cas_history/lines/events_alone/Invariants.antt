-- The lines before those that are left were taken in.
use Rattle.std.proofs.Common.{[]}
use Rattle.std.specs.Prelude.{IfSome}
use Rattle.reg_intake.specs.CasHistory.Blocks.{IsStart, left_of}
use Rattle.reg_intake.specs.CasHistory.Input.{history_lines}
use Rattle.reg_intake.proofs.CasHistoryLemmas.Taking.{IsTakenTo}
use Rattle.reg_intake.proofs.CasHistoryLemmas.Walking.{bytes_left}
use Rattle.reg_intake.proofs.cas_history.lines.events_alone.Given as goal

abbrev pub invariant-loop-start : goal.invariant-loop-start
invariant-loop-start l = record {
  start : IfSome l.start (IsStart l.bytes);
  taken : IsTakenTo (history_lines l.bytes) (left_of l.bytes l.start) [] l.events;
}

abbrev pub decreases-loop-start : goal.decreases-loop-start
decreases-loop-start l = bytes_left l.bytes l.start
