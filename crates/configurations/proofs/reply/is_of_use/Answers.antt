use Rattle.std.proofs.Common.{◌∙◌, ◌≡◌, ap, inl, inr, not, sym, false}
use Rattle.std.proofs.lemmas.Bool.{and_from, false≢true}
use Rattle.slot_sets.specs.Sets.{has}
use Rattle.configurations.specs.Ops.{asks_at}
use Rattle.configurations.proofs.Replying.{same_slot, slot_at, write_test}
use Rattle.configurations.proofs.reply.is_of_use.Goals as goal

pub returns : goal.returns
returns g c = λ no u.
    let t = c.args.table.now in
    let i = c.requires.table in
    let slot = c.args.slot in
    elim u [
      | inl e ↦ c.if-slot-reply.false (same_slot t i slot c.args.reply c.requires.slot c.requires.reply e)
      | inr v ↦ elim v [
        | inl a ↦
            let owed = slot_at t i c.args.config.now.owed slot c.requires.held.0 c.requires.slot a.1 in
            let other : has t.writes slot ≡ false = write_test t i slot c.requires.slot ∙ a.0 in
            let must =
            c.must_change.ensures
            ∙ and_from (has c.args.config.now.owed slot) (not (has t.writes slot)) owed (ap not other) in
            false≢true (sym c.if-must_change.false ∙ must)
        | inr a ↦ c.is_asked.ensures no (a.0, a.1, ap (asks_at t.ops.items a.0) c.left.ensures ∙ a.2)
      ]
    ]
