-- The lines before `from` were cut off.
use Rattle.std.proofs.Common.{◌-◌, length}
use Rattle.reg_intake.proofs.CasHistoryLemmas.Walking.{IsCutTo}
use Rattle.reg_intake.proofs.cas_history.blocks.next_block.Given as goal

abbrev pub invariant-loop-count : goal.invariant-loop-count
invariant-loop-count l = IsCutTo l.bytes l.fn.start l.spans.items l.line l.from

abbrev pub decreases-loop-count : goal.decreases-loop-count
decreases-loop-count l = length l.bytes - l.from
