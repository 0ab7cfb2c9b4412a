use Rattle.std.proofs.Common.{◌∙◌, ◌||◌, ap, sym}
use Rattle.slot_sets.specs.Sets.{has}
use Rattle.configurations.proofs.Standing.{stands_for_it}
use Rattle.configurations.proofs.config.stands_for.Goals as goal

pub returns-then-is_within-2 : goal.returns-then-is_within-2
returns-then-is_within-2 g c = λ yes.
    stands_for_it c.args.table.now c.args.first.now c.args.second.now c.requires.table c.requires.held
    c.if-first-second.true (c.is_within-then-is_within.ensures.0 c.if-is_within-2.true)
    (c.is_within.ensures.0 c.if-is_within.true) (λ q b.
    ap (λ x. x || has c.args.table.now.looks q) (sym (c.union.ensures q))
    ∙ (sym (c.union-then-is_within-2.ensures q) ∙ c.is_within-then-is_within-2.ensures.0 yes q b))
