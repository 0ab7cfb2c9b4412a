use Rattle.reg_arena.proofs.Step.{error-step, memory-step}
use Rattle.reg_arena.proofs.arena.Arena.call.Goals as goal

pub returns-in_err-accept : goal.returns-in_err-accept
returns-in_err-accept c =
    λ es acc q. error-step es c.args.event.now _ c.from_residual.result c.in_err-accept.field-0.0
    c.from_residual.ensures.1 (c.in_err-accept.ensures.refused es acc q)

pub returns-in_err-add_call : goal.returns-in_err-add_call
returns-in_err-add_call c =
    λ es acc q. memory-step es c.args.event.now _ c.from_residual-in_err-add_call.result
    c.from_residual-in_err-add_call.ensures.1

pub returns : goal.returns
returns c = λ es acc q. (c.in_ok-accept.ensures.taken.free es acc q, c.in_ok-add_call.ensures es acc q)
