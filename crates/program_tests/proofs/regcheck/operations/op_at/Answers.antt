use Rattle.std.proofs.Common.{subst}
use Rattle.history_model.specs.Naming.{IsOper, IsOperOf}
use Rattle.history_model.proofs.Named.{has-oper}
use Rattle.program_tests.proofs.regcheck.operations.op_at.Goals as goal

pub op-requires : goal.op-requires
op-requires c =
    let e =
    subst (IsOperOf c.args.arena.now c.args.id.0) c.in-Some.is c.op_of.ensures in
    subst (IsOper c.args.arena.now) e.1.named (has-oper c.args.arena.now e.0 e.1.one)
