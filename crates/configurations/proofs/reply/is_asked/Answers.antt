use Rattle.std.proofs.Common.{◌∙◌, not, ap}
use Rattle.std.proofs.lemmas.Bool.{and_from}
use Rattle.slot_sets.specs.Sets.{has}
use Rattle.configurations.proofs.Replying.{not_asked}
use Rattle.configurations.proofs.reply.is_asked.Goals as goal

pub returns : goal.returns
returns g c = λ no.
    not_asked c.args.table.now c.requires.table c.args.config.now c.requires.held c.args.value c.union.result
    c.minus.result c.union.ensures (λ q u fits other.
    c.minus.ensures q
    ∙ and_from (has c.fitting.result q) (not (has c.args.table.now.writes q))
    (c.fitting.ensures q u ∙ fits) (ap not other)) (c.meets.ensures.no no)
