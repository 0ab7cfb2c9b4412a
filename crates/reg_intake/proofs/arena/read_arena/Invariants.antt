-- The arena, the lines read ahead and what is held are all that was pulled, and each turn leaves less to
-- pull, or no lines to number.
use Rattle.std.proofs.Common.{vec_len}
use Rattle.reg_intake.specs.Underway.{IsUnderway}
use Rattle.reg_intake.proofs.Turning.{left_to_do}
use Rattle.reg_intake.proofs.arena.read_arena.Given as goal

abbrev pub invariant-loop-reader : goal.invariant-loop-reader
invariant-loop-reader g l =
    IsUnderway (g.S.Source.left l.fn.source) (g.S.Source.left l.source) (g.S.Source.failed l.fn.source)
    (g.S.Source.failed l.source) l.intake l.reader l.underway

abbrev pub decreases-loop-reader : goal.decreases-loop-reader
decreases-loop-reader g l = left_to_do l.intake.pulled (vec_len l.reader.unnumbered)
