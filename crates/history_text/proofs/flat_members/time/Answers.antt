use Rattle.std.proofs.Common.{◌≡◌, ◌<◌, ◌^◌, ◌++◌, List, ℕ, Option, Some}
use Rattle.std.proofs.Common.{None, Bor, sym, subst, decimal, arith}
use Rattle.std.specs.Prelude.{IfSome}
use Rattle.history_text.specs.Flat.{Scalar, whole_data}
use Rattle.history_text.proofs.Lexed.{whole_number}
use Rattle.history_text.proofs.flat_members.time.Goals as goal

as_scalar : (t : List ℕ) (r : Option (ℕ × Bor (List ℕ))) → IfSome r (λ x. t ≡ decimal x.0 ++ x.1.now)
    → IfSome r (λ x. x.0 < 2 ^ 63) → IfSome r (λ x. Scalar t (whole_data x.0) x.1.now)
as_scalar t None e b = tt
as_scalar t (Some x) e b =
    subst (λ l. Scalar l (whole_data x.0) x.1.now) (sym e) (whole_number x.0 x.1.now (omega (arith, b)))

pub returns : goal.returns
returns c = as_scalar c.args.text.now c.unsigned.result c.unsigned.ensures.text c.unsigned.ensures.bound
