use Rattle.std.proofs.Common.{ℕ, ◌∷◌, subst}
use Rattle.std.specs.Prelude.{IfSome}
use Rattle.history_model.specs.Legal.{IsAtomic}
use Rattle.history_model.specs.Operations.{initial_write}
use Rattle.register_search.specs.Timeline.{AreCalls}
use Rattle.register_search.specs.Unwritten.{IsFirstUnwritten}
use Rattle.search_report.proofs.Told.{unwritten-told}
use Rattle.search_report.proofs.register.atomicity.Goals as goal

pub returns-in-Some-2 : goal.returns-in-Some-2
returns-in-Some-2 c = λ r timed.
    let ops = c.args.ops.now in
    unwritten-told c.args.lines.now r ops c.in-Some-2.place _ timed
    (subst (IsFirstUnwritten ops) c.in-Some-2.is c.in_ok-place.ensures.first)
    (subst (λ o. IfSome o (λ (_ : ℕ). (s : ℕ) → AreCalls s ops → IsAtomic (initial_write s ∷ ops)
    → ⊥)) c.in-Some-2.is c.in_ok-place.ensures.no)
