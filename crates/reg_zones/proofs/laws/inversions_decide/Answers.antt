use Rattle.reg_zones.proofs.Inversions.{decide, fault_inverted}
use Rattle.reg_zones.proofs.laws.inversions_decide.Goals as goal

pub returns-clause-atomic : goal.returns-clause-atomic
returns-clause-atomic c ops y single = decide ops y (c.single_writer_takes_turns.ensures ops y single)

pub returns-clause-fault : goal.returns-clause-fault
returns-clause-fault c ops fault y single regular f =
    fault_inverted ops y (c.single_writer_takes_turns.ensures ops y single) regular fault f
