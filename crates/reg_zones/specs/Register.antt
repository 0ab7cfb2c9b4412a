-- The operations of a register of an arena.
use Rattle.std.specs.Prelude.{List}
use Rattle.history_model.specs.Operations.{register_of}
use Rattle.history_model.specs.declared.operation.Operation.{Operation}
use Rattle.reg_zones.specs.declared.register.Register.{Register}

abbrev pub operations_of : Register → List Operation
operations_of register = register_of register.arena.now register.id.0
