use Rattle.std.proofs.Common.{◌≡◌, ◌-◌, Some, sym, ap, subst, ◌∙◌, arith}
use Rattle.history_model.specs.Walking.{by_value, key_at}
use Rattle.reg_zones.proofs.Known.{facts}
use Rattle.reg_zones.proofs.ValuedEvents.{read-late, read-key}
use Rattle.reg_zones.proofs.Walks.{value-within}
use Rattle.reg_zones.proofs.reads.write_of_read.Goals as goal

pub at-requires : goal.at-requires
at-requires c =
    let q =
    c.requires in omega (
      arith,
      read-late c.args.register.arena.now c.args.register.id.0 (facts c.args.register) q.0 q.1 q.2,
      q.4,
    )

pub write_of_event-requires : goal.write_of_event-requires
write_of_event-requires c =
    let q = c.requires in
    let h = c.args.register.arena.now in
    let k = read-key h c.args.register.id.0 (facts c.args.register) q.0 q.1 q.2 c.args.read.value q.3 in
    omega (arith, value-within h.events (q.0.reply - 2) _ k, q.4, c.at.ensures)

pub returns : goal.returns
returns c =
    let q = c.requires in
    let h = c.args.register.arena.now in
    let k = read-key h c.args.register.id.0 (facts c.args.register) q.0 q.1 q.2 c.args.read.value q.3 in
    c.write_of_event.ensures.write (
      c.args.register.id.0,
      c.args.read.value,
    )
    (subst (λ i. key_at by_value h.events i ≡ Some (c.args.register.id.0, c.args.read.value))
    (ap (λ n. n - 2) q.4 ∙ sym c.at.ensures) k)
