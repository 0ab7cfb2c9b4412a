use Rattle.reg_report.proofs.Counting.{IsCount}
use Rattle.reg_report.proofs.Tallying.{AreCounting}
use Rattle.reg_report.proofs.tally.count_calls.Given as goal

abbrev pub invariant-loop-number : goal.invariant-loop-number
invariant-loop-number l = record {
  operations : IsCount l.arena.events l.operations l.number;
  tallies : AreCounting l.arena l.number l.tallies.items;
}
