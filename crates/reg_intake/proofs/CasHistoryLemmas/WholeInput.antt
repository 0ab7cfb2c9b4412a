-- The lines of a whole input, which are taken in block after block.
use Rattle.std.proofs.Common.{◌≡◌, ◌∙◌, ◌++◌, ℕ, List, Option, Some, ap, subst, sym}
use Rattle.history_text.specs.declared.event.AnyEvent.{AnyEvent}
use Rattle.reg_intake.specs.CasHistory.Blocks.{left_of}
use Rattle.reg_intake.specs.CasHistory.Refusals.{Line}
use Rattle.reg_intake.specs.declared.cas_history.blocks.Start.{Start}
use Rattle.reg_intake.proofs.CasHistoryLemmas.Taking.{IsTakenTo}

-- what was read of a block stands behind what was read ahead, and before what is left
pub block-read : (all : List Line) (input : List ℕ) (ahead : List Line) (start : Option Start) (at : Start)
    (lines : List Line) (next : Option Start) (old now : List AnyEvent) → start ≡ Some at
    → lines ++ left_of input next ≡ left_of input (Some at)
    → IsTakenTo all (ahead ++ left_of input start) old now
    → IsTakenTo all (ahead ++ (lines ++ left_of input next)) old now
block-read all input ahead start at lines next old now is cut so_far =
    subst (λ ls. IsTakenTo all (ahead ++ ls) old now) (ap (left_of input) is ∙ sym cut) so_far
