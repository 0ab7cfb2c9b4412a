use Rattle.std.proofs.Common.{inl}
use Rattle.configurations.proofs.reply.try_slot.Goals as goal

-- the call of another slot goes first
pub returns-then-branch-clause-goes : goal.returns-then-branch-clause-goes
returns-then-branch-clause-goes g c = λ _. inl (c.in_ok-is_led.ensures c.if-branch.true)
