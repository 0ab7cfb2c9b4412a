-- A new register has no operations.
use Rattle.std.proofs.Common.{ap, sym, ◌∙◌, length, bytes_eq, arith}
use Rattle.std.specs.List.{position_or_len}
use Rattle.reg_arena.proofs.ListLemmas.Keys.{place-within}
use Rattle.reg_intake.specs.CasHistory.Listed.{listed}
use Rattle.reg_intake.proofs.CasHistoryLemmas.Listed.{listed-push}
use Rattle.reg_intake.proofs.CasHistoryLemmas.Named.{below-with, number-with}
use Rattle.reg_intake.proofs.cas_history.registers.Registers.number.Goals as goal

pub returns-in_ok-push-clause-number : goal.returns-in_ok-push-clause-number
returns-in_ok-push-clause-number c =
    let name = c.args.name.now in
    c.in_ok-number.ensures.number
    ∙ sym (ap (position_or_len (bytes_eq name)) c.in_ok-number.ensures.names
    ∙ number-with c.args.self.now.naming name)

pub returns-in_ok-push-clause-below : goal.returns-in_ok-push-clause-below
returns-in_ok-push-clause-below c =
    omega (
      arith,
      ap length c.in_ok-number.ensures.names,
      c.in_ok-number.ensures.number,
      below-with c.args.self.now.naming c.args.name.now,
    )

pub returns-in_ok-push-clause-listed : goal.returns-in_ok-push-clause-listed
returns-in_ok-push-clause-listed c = λ r.
    ap (λ registers. listed registers r) c.in_ok-push.ensures.items
    ∙ listed-push c.args.self.now.operations.items c.new.result c.new.ensures.items r

pub overflow_cast-number : goal.overflow_cast-number
overflow_cast-number c =
    omega (
      arith,
      c.in_ok-number.ensures.number,
      place-within (bytes_eq c.args.name.now) c.args.self.now.naming,
      c.requires.few,
    )
