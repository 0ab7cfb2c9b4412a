use Rattle.std.proofs.Common.{length, ap, arith}
use Rattle.history_model.specs.Lamport.{completed_reads}
use Rattle.history_model.specs.Operations.{register_of}
use Rattle.reg_lamport.proofs.Cuts.{list-length}
use Rattle.reg_report.proofs.pieces.bad_reads.BadReads.of_cut.Goals as goal

pub among-bad-requires-clause-part : goal.among-bad-requires-clause-part
among-bad-requires-clause-part c =
    let h = c.args.arena.now in
    let all = list-length h c.in_ok-list.list c.in_ok-list.ensures.1 in
    let own = ap (λ n. length (completed_reads (register_of h n))) c.in_ok-list.ensures.0 in
    (c.requires.part.0, omega (arith, c.requires.part.1, all, own))
