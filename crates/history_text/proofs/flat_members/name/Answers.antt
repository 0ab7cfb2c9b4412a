use Rattle.std.proofs.Common.{◌≡◌, ◌∷◌, ◌++◌, List, ℕ, Option, Some, None, Bor, sym, subst}
use Rattle.std.specs.Prelude.{IfSome}
use Rattle.std.specs.Str.{IsUtf8}
use Rattle.serde_json.specs.Data.{string}
use Rattle.history_text.specs.Flat.{Scalar, IsPlain}
use Rattle.history_text.proofs.Lexed.{plain_word}
use Rattle.history_text.proofs.flat_members.name.Goals as goal

as_scalar : (t : List ℕ) (r : Option (Bor (List ℕ) × Bor (List ℕ))) → IfSome r (λ x. IsPlain x.0.now)
    → IfSome r (λ x. IsUtf8 x.0.now)
    → IfSome r (λ x. t ≡ 34 ∷ (x.0.now ++ 34 ∷ x.1.now)) → IfSome r (λ x. Scalar t (string x.0.now) x.1.now)
as_scalar t None p u h = tt
as_scalar t (Some x) p u h =
    subst (λ l. Scalar l (string x.0.now) x.1.now) (sym h) (plain_word x.0.now x.1.now p u)

pub returns : goal.returns
returns c =
    as_scalar c.args.text.now c.plain_string.result c.plain_string.ensures.plain c.plain_string.ensures.utf8
    c.plain_string.ensures.text
