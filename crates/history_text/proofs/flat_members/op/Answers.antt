use Rattle.std.proofs.Common.{sym, subst}
use Rattle.history_text.specs.declared.event.OpWord.TheVariants as op
use Rattle.history_text.specs.Flat.{Scalar, op_data}
use Rattle.history_text.proofs.Lexed.{read_word, write_word, cas_word}
use Rattle.history_text.proofs.flat_members.op.Goals as goal

pub returns-in-Some-clause-text : goal.returns-in-Some-clause-text
returns-in-Some-clause-text c =
    subst (λ t. Scalar t (op_data op.Read) c.in-Some.rest.now) (sym c.in-Some.ensures)
    (read_word c.in-Some.rest.now)

pub returns-in-Some-after-clause-text : goal.returns-in-Some-after-clause-text
returns-in-Some-after-clause-text c =
    subst (λ t. Scalar t (op_data op.Write) c.in-Some-after.rest.now) (sym c.in-Some-after.ensures)
    (write_word c.in-Some-after.rest.now)

pub returns-in_ok-rest-in-WithCas-clause-text : goal.returns-in_ok-rest-in-WithCas-clause-text
returns-in_ok-rest-in-WithCas-clause-text c =
    let rest = c.in_ok-rest-in-WithCas.rest.now in
    subst (λ t. Scalar t (op_data op.Cas) rest) (sym c.in_ok-rest-in-WithCas.ensures) (cas_word rest)
