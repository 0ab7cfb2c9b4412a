use Rattle.std.proofs.Common.{map, sym, ap, ◌∙◌}
use Rattle.reg_zones.specs.Order.{shown}
use Rattle.history_model.specs.Placed.{placed}
use Rattle.reg_zones.proofs.Unique.{one_canonical}
use Rattle.reg_zones.proofs.laws.one_order.Goals as goal

pub returns-clause-canonical : goal.returns-clause-canonical
returns-clause-canonical c ops xs ys k l = one_canonical ops xs ys k l

pub returns-clause-answer : goal.returns-clause-answer
returns-clause-answer c ops xs ys a b =
    a.is ∙ (ap (λ o. map shown (placed o)) (one_canonical ops a.order b.order a.canonical b.canonical)
    ∙ sym b.is)
