use Rattle.std.proofs.Common.{subst}
use Rattle.history_model.specs.Naming.{IsOper, IsOperOf}
use Rattle.history_model.proofs.Named.{has-oper}
use Rattle.program_tests.proofs.regcheck.operations.precedes.Goals as goal

pub precedes-requires-clause-one : goal.precedes-requires-clause-one
precedes-requires-clause-one c =
    let e =
    subst (IsOperOf c.args.arena.now c.args.one) c.in-Some-Some.is-0 c.op_of.ensures in
    subst (IsOper c.args.arena.now) e.1.named (has-oper c.args.arena.now e.0 e.1.one)

pub precedes-requires-clause-other : goal.precedes-requires-clause-other
precedes-requires-clause-other c =
    let e =
    subst (IsOperOf c.args.arena.now c.args.other) c.in-Some-Some.is-1 c.op_of-2.ensures in
    subst (IsOper c.args.arena.now) e.1.named (has-oper c.args.arena.now e.0 e.1.one)
