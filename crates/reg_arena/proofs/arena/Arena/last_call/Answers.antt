use Rattle.std.proofs.Common.{sym, ap, subst, ◌∙◌, arith, length}
use Rattle.history_model.specs.History.{History}
use Rattle.history_model.specs.OfValue.{IsLastCall}
use Rattle.reg_arena.specs.ValueTimes.{last_time}
use Rattle.reg_arena.proofs.Times.{has-times, last-time}
use Rattle.reg_arena.proofs.arena.Arena.last_call.Goals as goal

pub last_time-requires : goal.last_time-requires
last_time-requires c =
    λ y q. has-times c.self.inside.lists c.self.invariant.0 (
      c.args.register.0,
      c.args.value,
    ) y (sym c.entry.ensures ∙ q)

pub returns : goal.returns
returns c =
    let l = ap (λ (h : History). length h.names) c.self.view_is in
    subst (λ (h : History). IsLastCall h c.args.register.0 c.args.value c.last_time.result) c.self.view_is
    (subst (IsLastCall _ c.args.register.0 c.args.value)
    (sym (c.last_time.ensures ∙ ap (last_time c.args.value) c.entry.ensures))
    (last-time c.self.inside.names c.self.inside.lists c.self.invariant.0 c.self.invariant.2
    (c.args.register.0, c.args.value) (omega (arith, c.requires, l))))
