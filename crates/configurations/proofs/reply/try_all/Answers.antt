use Rattle.std.proofs.Common.{◌||◌, inl, inr, true, ◌≡◌}
use Rattle.std.proofs.lemmas.Bool.{or_left, or_right}
use Rattle.slot_sets.specs.Sets.{has}
use Rattle.configurations.proofs.Replying.{call_member, gone_over}
use Rattle.configurations.proofs.reply.try_all.Goals as goal

pub returns-clause-goes : goal.returns-clause-goes
returns-clause-goes g c =
    let t = c.args.table.now in
    let config = c.args.config.now in
    gone_over t c.requires.table config c.requires.held c.args.reply c.requires.reply.0
    c.try_each.new.lists.work c.try_each.new.lists.next
    (call_member t c.requires.table config.owed c.args.reply c.requires.reply.0 c.requires.reply.1)
    (λ q o f.
    let either : (has config.owed q || has config.free q) ≡ true = elim o [
      | inl a ↦ or_left (has config.owed q) (has config.free q) a
      | inr a ↦ or_right (has config.owed q) (has config.free q) a
    ] in
    c.in_ok-try_each.ensures.goes q (c.fitting-fitting.ensures.all q either f (c.none.ensures q)))
