use Rattle.std.proofs.Common.{◌≡◌, ◌≤◌, ◌∙◌, ℕ, List, length, Result, Ok, Err, Some, ap, arith, refl}
use Rattle.std.proofs.Common.{subst, sym}
use Rattle.std.specs.Result.{IfErr, IsErrAnd}
use Rattle.history_text.specs.Reading.{history_lines}
use Rattle.history_text.specs.declared.limits.TheConstants.{MAX_INPUT}
use Rattle.history_model.specs.History.{history_of}
use Rattle.history_model.specs.Refusals.{Line, IsBuildError, IsWellFormed, events_of}
use Rattle.history_model.specs.declared.refusal.BuildError.{BuildError}
use Rattle.history_model.specs.declared.refusal.BuildError.TheVariants.{Refused, Memory}
use Rattle.reg_intake.specs.Arena.{IsRefusedOf}
use Rattle.reg_intake.specs.Refusals.{of_build}
use Rattle.reg_intake.specs.declared.refusal.Refusal.{Refusal}
use Rattle.reg_intake.proofs.alone.arena_alone.Goals as goal

refused-within : (input : List ℕ) (e : BuildError) → length input ≤ MAX_INPUT
    → IsBuildError (history_lines input) e → IsRefusedOf (Some input) 0 0 (of_build e)
refused-within input (Refused r) within refused = (input, refl, within, refused, refl)
refused-within input Memory within refused = ((input, refl, within), refl)

-- the error of the build that is passed on
passed-on : {A : Type 0} (input : List ℕ) (lines : List Line) (e : BuildError) (r : Result A Refusal)
    → length input ≤ MAX_INPUT → lines ≡ history_lines input → IsBuildError lines e
    → IsErrAnd r (λ refusal. refusal ≡ of_build e) → IfErr r (IsRefusedOf (Some input) 0 0)
passed-on input lines e (Ok a) within same refused passed = absurd passed
passed-on input lines e (Err refusal) within same refused passed =
    subst (IsRefusedOf (Some input) 0 0) (sym passed)
    (refused-within input e within (subst (λ ls. IsBuildError ls e) same refused))

pub returns-clause-ok : goal.returns-clause-ok
returns-clause-ok c =
    let same = c.in_ok-lines.ensures.lines in
    let built = c.in_ok-arena.ensures.ok in
    record {
      within = omega (arith, c.if-input-gt-MAX_INPUT.false);
      well_formed = subst IsWellFormed same built.0;
      is = built.1 ∙ ap (λ (lines : List Line). history_of (events_of lines)) same;
    }

pub returns-in_err-arena-clause-err : goal.returns-in_err-arena-clause-err
returns-in_err-arena-clause-err c =
    passed-on c.args.input.now c.in_ok-lines.lines.items c.in_err-arena.field-0.0
    c.from_residual-in_err-arena.result (omega (arith, c.if-input-gt-MAX_INPUT.false))
    c.in_ok-lines.ensures.lines c.in_err-arena.ensures.err c.from_residual-in_err-arena.ensures.1
