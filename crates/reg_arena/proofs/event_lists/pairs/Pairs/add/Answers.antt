-- The pair that is added has a key that no other has.
use Rattle.std.proofs.Common.{◌≡◌, None, position, sym, subst, ◌∙◌}
use Rattle.reg_arena.specs.Lists.Pairs.{key_eq}
use Rattle.reg_arena.proofs.ListLemmas.Pairing.{none-number}
use Rattle.reg_arena.proofs.event_lists.pairs.Pairs.add.Goals as goal

pub enter-requires-clause-new : goal.enter-requires-clause-new
enter-requires-clause-new c = λ n p at is.
    none-number c.self.inside.pairs.items (c.args.register, c.args.value)
    (subst (λ keys. position (key_eq (c.args.register, c.args.value)) keys ≡ None)
    (sym c.self.view_is) c.requires.new) n p at (is ∙ c.fitting-pair.ensures.key)
