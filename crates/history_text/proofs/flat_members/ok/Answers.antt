use Rattle.std.proofs.Common.{true, false, sym, subst}
use Rattle.serde_json.specs.Data.{boolean}
use Rattle.history_text.specs.Flat.{Scalar}
use Rattle.history_text.proofs.Lexed.{true_word, false_word}
use Rattle.history_text.proofs.flat_members.ok.Goals as goal

pub returns-in-Some : goal.returns-in-Some
returns-in-Some c =
    subst (λ t. Scalar t (boolean true) c.in-Some.rest.now) (sym c.in-Some.ensures)
    (true_word c.in-Some.rest.now)

pub returns : goal.returns
returns c =
    subst (λ t. Scalar t (boolean false) c.in_ok-rest.rest.now) (sym c.in_ok-rest.ensures)
    (false_word c.in_ok-rest.rest.now)
