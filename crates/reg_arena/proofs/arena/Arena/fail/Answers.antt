use Rattle.history_model.proofs.Accepted.{fail-ends}
use Rattle.reg_arena.proofs.Step.{error-step, memory-step}
use Rattle.reg_arena.proofs.arena.Arena.fail.Goals as goal

pub ended_call-requires : goal.ended_call-requires
ended_call-requires c = (c.args.parts.now, fail-ends c.args.event.now.kind c.args.parts.now c.requires)

pub returns-in_err-opened : goal.returns-in_err-opened
returns-in_err-opened c =
    λ es acc q. error-step es c.args.event.now _ c.from_residual.result c.in_err-opened.field-0.0
    c.from_residual.ensures.1 (c.in_err-opened.ensures.err es acc q)

pub returns-in_err-accept : goal.returns-in_err-accept
returns-in_err-accept c =
    λ es acc q. error-step es c.args.event.now _ c.from_residual-in_err-accept.result
    c.in_err-accept.field-0.0 c.from_residual-in_err-accept.ensures.1
    (c.in_err-accept.ensures.refused es acc q)

pub returns-in_err-add_fail : goal.returns-in_err-add_fail
returns-in_err-add_fail c =
    λ es acc q. memory-step es c.args.event.now _ c.from_residual-in_err-add_fail.result
    c.from_residual-in_err-add_fail.ensures.1

pub returns : goal.returns
returns c = λ es acc q. (c.in_ok-accept.ensures.taken.free es acc q, c.in_ok-add_fail.ensures es acc q)
