use Rattle.std.proofs.Common.{is_some, ap, ◌∙◌}
use Rattle.std.proofs.Math.Facts.{to_z-of_z}
use Rattle.register_search.specs.ValueNumbers.{number_at}
use Rattle.register_search.proofs.value_numbers.ValueNumbers.contains.Goals as goal

pub returns : goal.returns
returns c =
    c.is_some.ensures
    ∙ ap is_some (c.find.ensures ∙ ap (number_at c.args.self.now) (to_z-of_z c.ranges.value))
