use Rattle.std.proofs.Common.{sym, ◌∙◌}
use Rattle.reg_arena.proofs.Refused.{crash-late}
use Rattle.reg_arena.proofs.Step.{error-step, memory-step}
use Rattle.reg_arena.proofs.arena.Arena.crash.Goals as goal

pub accept-requires : goal.accept-requires
accept-requires c =
    λ es acc q. c.late_refusal.ensures es acc q ∙ sym (crash-late es c.args.event.now c.requires)

pub returns-in_err-accept : goal.returns-in_err-accept
returns-in_err-accept c =
    λ es acc q. error-step es c.args.event.now _ c.from_residual.result c.in_err-accept.field-0.0
    c.from_residual.ensures.1 (c.in_err-accept.ensures.refused es acc q)

pub returns-in_err-add_crash : goal.returns-in_err-add_crash
returns-in_err-add_crash c =
    λ es acc q. memory-step es c.args.event.now _ c.from_residual-in_err-add_crash.result
    c.from_residual-in_err-add_crash.ensures.1

pub returns : goal.returns
returns c = λ es acc q. (c.in_ok-accept.ensures.taken.free es acc q, c.in_ok-add_crash.ensures es acc q)
