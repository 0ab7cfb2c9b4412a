use Rattle.std.proofs.Common.{◌∙◌, arith, sym}
use Rattle.configurations.proofs.Tables.{nothing_past}
use Rattle.configurations.proofs.table.Table.asked.Goals as goal

pub returns-else-place-len : goal.returns-else-place-len
returns-else-place-len g c = λ q.
    c.none.ensures q
    ∙ sym (nothing_past c.args.self.now.asks.items c.args.value q
    (omega (arith, c.len.ensures, c.if-place-len.false)))
