use Rattle.std.proofs.Common.{ℤ, ◌≡◌, cond, true, false, IfOk, IsTrue, FitsSigned, w64}
use Rattle.std.proofs.Common.{ap, rules, subst, ◌∙◌}
use Rattle.std.proofs.Math.Facts.{to_z-of_z}
use Rattle.std.proofs.lemmas.Result.{IfOk-weaker}
use Rattle.register_search.specs.ValueNumbers.{has_number}
use Rattle.std.specs.Ordering.{int_eq}
use Rattle.history_model.specs.declared.act.Act.TheVariants.{Write}
use Rattle.register_search.proofs.DistinctValueLemmas.WrittenOnce.{write-or-not}
use Rattle.register_search.proofs.distinct_values.distinct.add_value.Goals as goal

pub returns-in-Int : goal.returns-in-Int
returns-in-Int c =
    let fits : FitsSigned w64 c.in-Int.number = search rules in
    let s = c.args.written.now in
    let t = c.insert.new.self in
    IfOk-weaker c.insert.result _ _
    (λ is adds y ops a writes h. adds y ops a (writes ∙ ap Write c.in-Int.is) h)
    (write-or-not c.insert.result s t c.in-Int.number
    (subst (λ m. IfOk c.insert.result (λ is. IsTrue is → has_number s m ≡ false))
    (to_z-of_z fits) c.insert.ensures.new)
    (subst (λ m. IfOk c.insert.result (λ _. (q : ℤ)
    → has_number t q ≡ cond (int_eq m q) true (has_number s q)))
    (to_z-of_z fits) c.insert.ensures.all))
