use Rattle.std.proofs.Common.{◌∙◌, sym}
use Rattle.std.proofs.lemmas.Bool.{false≢true}
use Rattle.configurations.proofs.table.Table.over.Goals as goal

pub returns : goal.returns
returns g c = record {
  room = c.requires.room;
  each = λ q used. absurd (false≢true (sym (c.none.ensures q) ∙ used));
  others = λ q v _. c.in_ok-nothing_asked.ensures v q;
}
