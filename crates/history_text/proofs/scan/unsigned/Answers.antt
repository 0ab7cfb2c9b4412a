-- A first digit that is not 0, and more.
use Rattle.std.proofs.Common.{◌++◌, ◌∷◌, arith, decimal, sym, ap, ◌∙◌}
use Rattle.std.proofs.lemmas.Fmt.{decimal_digit}
use Rattle.history_text.proofs.Lexed.{leading_digit, next_digit}
use Rattle.history_text.proofs.scan.unsigned.Goals as goal

pub returns-then-leading-eq48-clause-text : goal.returns-then-leading-eq48-clause-text
returns-then-leading-eq48-clause-text c =
    let behind = c.in_ok-leading.behind.now in
    c.in_ok-leading.ensures ∙ ap (λ x. x ∷ behind) c.if-leading-eq48.true
    ∙ sym (ap (λ l. l ++ behind) (decimal_digit 0 (omega arith)))

pub loop-digit-init : goal.loop-digit-init
loop-digit-init c = record {
  some = omega arith;
  bound = omega arith;
  passed =
      c.in_ok-leading.ensures
      ∙ leading_digit c.in_ok-leading.leading c.in_ok-leading.behind.now (omega arith) (omega arith);
}

pub loop-digit-preserved : goal.loop-digit-preserved
loop-digit-preserved c =
    let l = c.loop-digit in
    record {
      some = omega arith;
      bound = omega arith;
      passed = l.invariant.passed ∙ ap (λ t. decimal l.number ++ t) c.in-Some.ensures
          ∙ next_digit l.number c.in-Some.digit c.in-Some.next.now l.invariant.some (omega arith)
          (omega arith) (omega arith);
    }
