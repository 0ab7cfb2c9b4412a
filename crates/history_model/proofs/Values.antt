-- The test on values decides their equality.
use Rattle.std.proofs.Common.{◌≡◌, true, refl, ap}
use Rattle.std.proofs.lemmas.Bool.{false≢true}
use Rattle.std.proofs.lemmas.Bool.Decides.{Decides-int_eq}
use Rattle.history_text.specs.Values.{value_eq}
use Rattle.history_text.specs.declared.event.Val.TheVariants.{Null, Int}
use Rattle.history_text.specs.declared.event.Val.{Val}

pub value-true : (a b : Val) → value_eq a b ≡ true → a ≡ b
value-true Null Null h = refl
value-true Null (Int j) h = absurd (false≢true h)
value-true (Int i) Null h = absurd (false≢true h)
value-true (Int i) (Int j) h = ap (λ k. Int k) ((Decides-int_eq i j).0 h)

pub value-refl : (a : Val) → value_eq a a ≡ true
value-refl Null = refl
value-refl (Int i) = (Decides-int_eq i i).1 refl
