use Rattle.std.proofs.Common.{refl, sym, subst}
use Rattle.history_model.specs.Operations.{initial_write}
use Rattle.history_model.specs.Naming.{IsOper, IsNamed}
use Rattle.history_model.specs.declared.ids.Oper.{Oper}
use Rattle.reg_arena.proofs.OfValue.{initial-named}
use Rattle.reg_arena.proofs.arena.Arena.op.Goals as goal

pub returns-in-Initial : goal.returns-in-Initial
returns-in-Initial c = (
  initial_write c.in-Initial.register.0,
  subst (λ (name : Oper). IsNamed c.args.self.now name (initial_write c.in-Initial.register.0))
      (sym c.in-Initial.is)
      (initial-named c.args.self.now c.in-Initial.register
      (subst (IsOper c.args.self.now) c.in-Initial.is c.requires)),
  refl,
)
