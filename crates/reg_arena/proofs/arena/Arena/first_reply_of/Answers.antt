use Rattle.std.proofs.Common.{◌≡◌, slice_get, sym, subst, Some}
use Rattle.history_model.specs.History.{History, IsRecorded}
use Rattle.history_model.specs.Walking.{by_value, key_at}
use Rattle.history_model.specs.OfValue.{IsFirstReply}
use Rattle.reg_arena.proofs.Times.{key-there, times-there, first-of_event}
use Rattle.reg_arena.proofs.arena.Arena.first_reply_of.Goals as goal

pub reply_time-requires : goal.reply_time-requires
reply_time-requires c =
    λ y q. times-there c.self.inside.names c.self.inside.lists c.self.invariant.0 c.self.invariant.2
    c.args.id.0 c.entry_of.result c.entry_of.ensures y q

pub returns-in-Some-clause-first : goal.returns-in-Some-clause-first
returns-in-Some-clause-first c = λ k h.
    let at =
    subst (λ (h : History). slice_get h.events c.args.id.0 ≡ Some c.event.result)
    (sym c.self.view_is) c.event.ensures.at in
    let key = subst (λ (h : History). key_at by_value h.events c.args.id.0 ≡ Some k) (sym c.self.view_is) h in
    subst (λ (h : History). IsFirstReply h k.0 k.1 c.reply_time.result) c.self.view_is
    (first-of_event c.self.inside.names c.self.inside.lists c.self.invariant.0 c.self.invariant.2 c.args.id.0
    c.event.result c.in-Some.value at c.in-Some.is k key c.entry_of.result c.reply_time.result
    c.entry_of.ensures c.reply_time.ensures)

pub returns-in-Some-clause-none : goal.returns-in-Some-clause-none
returns-in-Some-clause-none c =
    λ q. absurd (key-there c.args.self.now (subst IsRecorded c.self.view_is c.self.invariant.2) c.args.id.0
    c.event.result c.in-Some.value c.event.ensures.at c.in-Some.is q)
