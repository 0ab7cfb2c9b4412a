-- The lines before those that are left were taken in or read.
use Rattle.std.proofs.Common.{◌++◌, []}
use Rattle.std.specs.Prelude.{IfSome}
use Rattle.reg_intake.specs.CasHistory.Blocks.{IsStart, left_of}
use Rattle.reg_intake.specs.CasHistory.Input.{history_lines}
use Rattle.reg_intake.specs.CasHistory.Taken.{read_in}
use Rattle.reg_intake.proofs.CasHistoryLemmas.Taking.{IsTakenTo}
use Rattle.reg_intake.proofs.CasHistoryLemmas.Walking.{bytes_left}
use Rattle.reg_intake.proofs.cas_history.lines.events_in.Given as goal

abbrev pub invariant-loop-ahead : goal.invariant-loop-ahead
invariant-loop-ahead g l = record {
  next : IfSome l.ahead.next (IsStart l.bytes);
  taken : IsTakenTo (history_lines l.bytes) (read_in l.ahead.parts.items ++ left_of l.bytes l.ahead.next) []
      l.events;
}

abbrev pub decreases-loop-ahead : goal.decreases-loop-ahead
decreases-loop-ahead g l = bytes_left l.bytes l.ahead.next
