use Rattle.reg_intake.proofs.arena.arena_of.Goals as goal

pub returns-clause-err : goal.returns-clause-err
returns-clause-err g c = c.refusal_of_all.ensures _ _ c.in-Err.ensures.err
