use Rattle.std.proofs.Common.{◌≡◌, length}
use Rattle.reg_report.proofs.pieces.kept.Pieces.empty.Given as goal

abbrev pub invariant-loop : goal.invariant-loop
invariant-loop l = record {
  judgements : length l.judgements.items ≡ l.counter;
  reads : length l.reads.items ≡ l.counter;
}
