use Rattle.std.proofs.Common.{◌∙◌, ◌||◌, ap}
use Rattle.slot_sets.specs.Sets.{has}
use Rattle.configurations.proofs.Tables.{fitting_test}
use Rattle.configurations.proofs.table.Table.fitting.Goals as goal

pub returns : goal.returns
returns g c = λ q u.
    c.union.ensures q
    ∙ (ap (λ x. x || has c.args.self.now.writes q) (c.either.ensures q)
    ∙ fitting_test c.args.self.now c.args.value q (has c.asked.result q) c.requires (c.asked.ensures q) u)
