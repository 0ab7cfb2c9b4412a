use Rattle.std.proofs.Common.{ap, subst, option_map, ℕ}
use Rattle.history_model.specs.History.{IsRecorded}
use Rattle.history_model.specs.Operations.{is_a_call}
use Rattle.history_model.specs.declared.ids.RegId.{RegId}
use Rattle.history_model.proofs.Named.{calls-have-registers}
use Rattle.reg_arena.proofs.arena.Arena.standing.Goals as goal

-- a call has a register
pub returns-in-None : goal.returns-in-None
returns-in-None c =
    let k =
    calls-have-registers c.args.self.now (subst IsRecorded c.self.view_is c.self.invariant.2)
    c.in-Some.last.0 c.event-event.result c.event-event.ensures.at (ap is_a_call c.in-Call.is) in
    absurd (let a = ap (option_map {U = ℕ} (λ (r : RegId). r.0)) c.in-None.is in let b = k.1 in cc (a, b))
