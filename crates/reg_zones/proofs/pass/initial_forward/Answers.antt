use Rattle.std.proofs.Common.{◌∙◌, sym}
use Rattle.std.proofs.lemmas.Bool.{false≢true}
use Rattle.reg_zones.proofs.Known.{facts}
use Rattle.reg_zones.proofs.Passing.{met_forward, met_backward}
use Rattle.reg_zones.proofs.pass.initial_forward.Goals as goal

pub returns-then-is_forward : goal.returns-then-is_forward
returns-then-is_forward c =
    met_forward c.args.register.arena.now c.args.register.id.0 (facts c.args.register) _ c.requires
    (c.is_forward.ensures.0 c.if-is_forward.true)

pub returns-else-is_forward : goal.returns-else-is_forward
returns-else-is_forward c =
    met_backward c.args.register.arena.now c.args.register.id.0 (facts c.args.register) _ c.requires
    (λ l. false≢true (sym c.if-is_forward.false ∙ c.is_forward.ensures.1 l))
