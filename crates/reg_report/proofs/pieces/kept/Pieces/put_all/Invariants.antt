use Rattle.std.proofs.Common.{◌≡◌, length}
use Rattle.reg_report.specs.Pieces.Slots.{AreWithin, with_pieces}
use Rattle.reg_report.proofs.pieces.kept.Pieces.put_all.Given as goal

abbrev pub invariant-loop-number : goal.invariant-loop-number
invariant-loop-number l = record {
  judgements : AreWithin (length l.self.judgements) l.done.items;
  reads : AreWithin (length l.self.reads) l.done.items;
  put : with_pieces l.self l.done.items ≡ with_pieces l.initial.self l.fn.done.items;
}

abbrev pub decreases-loop-number : goal.decreases-loop-number
decreases-loop-number l = length l.done.items
