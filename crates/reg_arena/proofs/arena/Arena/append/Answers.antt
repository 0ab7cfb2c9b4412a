-- The lists and the names grow together, or both are empty.
use Rattle.std.proofs.Common.{ap, arith, length}
use Rattle.history_model.specs.History.{History}
use Rattle.reg_arena.proofs.Step.{number-within}
use Rattle.reg_arena.proofs.arena.Arena.append.Goals as goal

pub append-requires-clause-register : goal.append-requires-clause-register
append-requires-clause-register c =
    let within =
    number-within c.args.self.now.names c.args.name c.args.event.now.register c.requires.registers in
    omega (arith, within, ap (λ (h : History). length h.names) c.self.view_is, c.self.invariant.1)
