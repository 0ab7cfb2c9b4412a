use Rattle.std.proofs.Common.{arith, sym, subst}
use Rattle.history_text.specs.Flat.{Scalar, whole_data}
use Rattle.history_text.proofs.Lexed.{whole_number}
use Rattle.history_text.proofs.flat_members.process.Goals as goal

pub returns-clause-text : goal.returns-clause-text
returns-clause-text c =
    let n = c.in_ok-number.number in
    let rest = c.in_ok-number.rest.now in
    subst (λ t. Scalar t (whole_data n) rest) (sym c.in_ok-number.ensures.text)
    (whole_number n rest (omega arith))
