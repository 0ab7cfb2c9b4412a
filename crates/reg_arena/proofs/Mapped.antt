-- The name of an operation, from the event of its call.
use Rattle.std.proofs.Common.{◌≡◌, Option, Some, None, ap}
use Rattle.std.specs.Prelude.{IsSomeAnd}
use Rattle.std.specs.Option.{MatchOption, option_map}
use Rattle.history_model.specs.declared.ids.EvId.{EvId}
use Rattle.history_model.specs.declared.ids.Oper.{Oper}
use Rattle.history_model.specs.declared.ids.Oper.TheVariants.{Called}

pub named-by : (o : Option EvId) (r : Option Oper)
    → MatchOption o (r ≡ None) (λ x. IsSomeAnd r (λ y. y ≡ Called x)) → r ≡ option_map Called o
named-by None r h = h
named-by (Some x) None h = absurd h
named-by (Some x) (Some y) h = ap (λ z. Some z) h
