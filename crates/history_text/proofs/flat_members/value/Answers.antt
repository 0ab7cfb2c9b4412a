use Rattle.std.proofs.Common.{sym, subst}
use Rattle.std.specs.Int.{w64}
use Rattle.std.proofs.lemmas.Int.{to_z-of_z}
use Rattle.history_text.specs.declared.event.Val.TheVariants.{Null, Int}
use Rattle.history_text.specs.Flat.{Scalar, value_data}
use Rattle.history_text.proofs.Lexed.{null_word, signed_number}
use Rattle.history_text.proofs.flat_members.value.Goals as goal

pub returns-in-Some : goal.returns-in-Some
returns-in-Some c =
    subst (λ t. Scalar t (value_data Null) c.in-Some.rest.now) (sym c.in-Some.ensures)
    (null_word c.in-Some.rest.now)

pub returns : goal.returns
returns c =
    let n = c.in_ok-number.number in
    let rest = c.in_ok-number.rest.now in
    let same = to_z-of_z w64 n c.in_ok-number.ensures.fits in
    let read : Scalar c.args.text.now (value_data (Int n)) rest =
    subst (λ t. Scalar t (value_data (Int n)) rest) (sym c.in_ok-number.ensures.text)
    (signed_number n rest c.in_ok-number.ensures.bound) in
    subst (λ z. Scalar c.args.text.now (value_data (Int z)) rest) (sym same) read
