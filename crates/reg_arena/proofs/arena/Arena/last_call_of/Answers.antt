use Rattle.std.proofs.Common.{◌≡◌, slice_get, sym, subst, Some}
use Rattle.history_model.specs.History.{History, IsRecorded}
use Rattle.history_model.specs.Walking.{by_value, key_at}
use Rattle.history_model.specs.OfValue.{IsLastCall}
use Rattle.reg_arena.proofs.Times.{key-there, times-there, last-of_event}
use Rattle.reg_arena.proofs.arena.Arena.last_call_of.Goals as goal

pub last_time-requires : goal.last_time-requires
last_time-requires c =
    λ y q. times-there c.self.inside.names c.self.inside.lists c.self.invariant.0 c.self.invariant.2
    c.args.id.0 c.entry_of.result c.entry_of.ensures y q

pub returns-in-Some-clause-last : goal.returns-in-Some-clause-last
returns-in-Some-clause-last c = λ k h.
    let at =
    subst (λ (h : History). slice_get h.events c.args.id.0 ≡ Some c.event.result)
    (sym c.self.view_is) c.event.ensures.at in
    let key = subst (λ (h : History). key_at by_value h.events c.args.id.0 ≡ Some k) (sym c.self.view_is) h in
    subst (λ (h : History). IsLastCall h k.0 k.1 c.last_time.result) c.self.view_is
    (last-of_event c.self.inside.names c.self.inside.lists c.self.invariant.0 c.self.invariant.2 c.args.id.0
    c.event.result c.in-Some.value at c.in-Some.is k key c.entry_of.result c.last_time.result
    c.entry_of.ensures c.last_time.ensures)

pub returns-in-Some-clause-none : goal.returns-in-Some-clause-none
returns-in-Some-clause-none c =
    λ q. absurd (key-there c.args.self.now (subst IsRecorded c.self.view_is c.self.invariant.2) c.args.id.0
    c.event.result c.in-Some.value c.event.ensures.at c.in-Some.is q)
