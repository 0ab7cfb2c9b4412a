-- The outcome says of the history what the report says, and the text that was
-- made is the one of which a beginning is out.
use Rattle.std.proofs.Common.{subst, sym}
use Rattle.reg_report.specs.Answer.{IsAnswerText}
use Rattle.reg_report.specs.Run.{IsOutcome}
use Rattle.reg_report.proofs.Answering.{answer-of-arena}
use Rattle.reg_report.proofs.FoundLines.{told-outcome}
use Rattle.byte_ends.proofs.Pushing.{bytes-of}
use Rattle.reg_report.proofs.whole.run.Goals as goal

pub returns-in-Ok-clause-report : goal.returns-in-Ok-clause-report
returns-in-Ok-clause-report g c =
    let arena = c.in_ok-arena.ensures.ok in
    let text = c.in_ok-text.text in
    let is = c.in_ok-text.ensures in
    let answer =
    subst (λ parts. IsAnswerText c.args.settings.first arena.0 (bytes-of parts) text.outcome)
    (sym c.deref.ensures.value)
    (is.0, answer-of-arena c.args.settings.first arena.0 c.in_ok-arena.arena is.0 arena.2 is.1, is.2, is.3) in
    (arena.0, arena.1, bytes-of c.deref.result.now, answer, c.in-Ok.ensures.ok)

pub returns-in-Ok-clause-atomic : goal.returns-in-Ok-clause-atomic
returns-in-Ok-clause-atomic g c =
    let arena = c.in_ok-arena.ensures.ok in
    let is = c.in_ok-text.ensures in (
      arena.0,
      arena.1,
      subst (IsOutcome arena.0) (sym is.3)
          (told-outcome c.args.settings.first arena.0 is.0
          (answer-of-arena c.args.settings.first arena.0 c.in_ok-arena.arena is.0 arena.2 is.1)),
    )

pub returns-clause-beginning : goal.returns-clause-beginning
returns-clause-beginning g c = λ _.
    let arena = c.in_ok-arena.ensures.ok in
    let text = c.in_ok-text.text in
    let is = c.in_ok-text.ensures in
    let answer =
    subst (λ parts. IsAnswerText c.args.settings.first arena.0 (bytes-of parts) text.outcome)
    (sym c.deref.ensures.value)
    (is.0, answer-of-arena c.args.settings.first arena.0 c.in_ok-arena.arena is.0 arena.2 is.1, is.2, is.3) in
    (arena.0, arena.1, bytes-of c.deref.result.now, text.outcome, answer, c.in-Err.ensures.err)
