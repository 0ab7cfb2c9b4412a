use Rattle.std.proofs.Common.{ℤ, ◌≡◌, cond, true, FitsSigned, w64, rules, subst, sym}
use Rattle.std.proofs.Math.Facts.{to_z-of_z}
use Rattle.std.specs.Ordering.{int_eq}
use Rattle.register_search.specs.ValueNumbers.{has_number}
use Rattle.register_search.proofs.Needed.{one-silent, one-given}
use Rattle.register_search.proofs.unwritten.add_given.Goals as goal

pub returns-in-None : goal.returns-in-None
returns-in-None c = λ ops. one-silent ops c.args.op.now c.args.given.now (sym c.in-None.ensures)

pub returns-in_ok-insert-in-Some : goal.returns-in_ok-insert-in-Some
returns-in_ok-insert-in-Some c =
    let fits : FitsSigned w64 c.in-Some.number = search rules in
    let old = c.args.given.now in
    let new = c.insert.new.self in
    let adds =
    subst (λ m. (q : ℤ) → has_number new q ≡ cond (int_eq m q) true (has_number old q)) (to_z-of_z fits)
    c.in_ok-insert-in-Some.ensures.all in
    λ ops. one-given ops c.args.op.now old new c.in-Some.number (sym c.in-Some.ensures) adds
