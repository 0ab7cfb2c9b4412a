use Rattle.std.proofs.Common.{◌≡◌, ◌+◌, All, length}
use Rattle.std.specs.Prelude.{IfSome}
use Rattle.job_board.specs.declared.limits.TheConstants.{FULL_WEIGHT}
use Rattle.reg_report.specs.Pieces.Workers.{IsHandedBack, IsJoined, weight_back, weight_so_far}
use Rattle.reg_report.proofs.pieces.workers.gathered.Given as goal

abbrev pub invariant-loop-worked : goal.invariant-loop-worked
invariant-loop-worked l = record {
  back : All (IsHandedBack l.arena l.plan l.board) l.back.items;
  weight : weight_so_far l.whole + weight_back l.back.items ≡ FULL_WEIGHT;
  judgements : length l.pieces.judgements ≡ length l.plan.tasks;
  reads : length l.pieces.reads ≡ length l.plan.tasks;
  whole : IfSome l.whole (IsJoined l.arena l.plan.tasks l.board l.pieces l.refused);
}

abbrev pub decreases-loop-worked : goal.decreases-loop-worked
decreases-loop-worked l = length l.back.items
