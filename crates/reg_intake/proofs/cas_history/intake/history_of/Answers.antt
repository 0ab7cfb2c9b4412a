-- The bytes are all that were left, and their history is that of the input.
use Rattle.std.proofs.Common.{◌≡◌, ◌≤◌, ℕ, List, length, Option, subst}
use Rattle.history_text.specs.declared.limits.TheConstants.{MAX_INPUT}
use Rattle.reg_intake.specs.Ends.{IsAll}
use Rattle.history_model.specs.declared.refusal.BuildError.{BuildError}
use Rattle.history_model.specs.declared.refusal.BuildError.TheVariants.{Refused, Memory}
use Rattle.reg_intake.specs.CasHistory.Input.{IsHistoryOfInput, IsRefusedOf, history_lines}
use Rattle.reg_intake.specs.Refusals.{of_build}
use Rattle.reg_intake.specs.Refused.{IsRefusedBy}
use Rattle.reg_intake.specs.declared.refusal.Refusal.{Refusal}
use Rattle.reg_intake.specs.declared.refusal.Refusal.TheVariants.{At, TooLong, InputFailed}
use Rattle.reg_intake.specs.declared.refusal.Refusal.TheVariants.{NoRoom, OutputFailed}
use Rattle.reg_intake.specs.CasHistory.Taken.{IsNoHistory}
use Rattle.reg_intake.proofs.Passing.{passed-on}
use Rattle.reg_intake.proofs.cas_history.intake.history_of.Goals as goal

-- a refusal that is of no line is one whatever is said of lines
of-no-line : (left : Option (List ℕ)) (failed failed_now : ℕ) (refusal : Refusal)
    → IsRefusedBy (λ _ _. ⊥) left failed failed_now refusal → IsRefusedOf left failed failed_now refusal
of-no-line left failed failed_now (At r) is = absurd is.3
of-no-line left failed failed_now TooLong is = is
of-no-line left failed failed_now InputFailed is = is
of-no-line left failed failed_now NoRoom is = is
of-no-line left failed failed_now OutputFailed is = absurd is

-- why there is no history of all the bytes
refused : (left : Option (List ℕ)) (failed failed_now : ℕ) (bytes : List ℕ) → IsAll left bytes
    → length bytes ≤ MAX_INPUT → failed_now ≡ failed
    → (e : BuildError) → IsNoHistory (history_lines bytes) e → IsRefusedOf left failed failed_now (of_build e)
refused left failed failed_now bytes all within unfailed (Refused r) is = (bytes, all, within, is, unfailed)
refused left failed failed_now bytes all within unfailed Memory is = ((bytes, all, within), unfailed)

pub returns-in_err-bytes-clause-err : goal.returns-in_err-bytes-clause-err
returns-in_err-bytes-clause-err g c =
    let e = c.in_err-bytes.field-0.0 in
    passed-on (IsRefusedOf (g.S.Source.left c.args.source.now) (g.S.Source.failed c.args.source.now)
    (g.S.Source.failed c.all_bytes.new.source))
    e c.from_residual.result c.from_residual.ensures.1 (of-no-line _ _ _ e c.in_err-bytes.ensures.err)

pub returns-in_err-history_in-clause-err : goal.returns-in_err-history_in-clause-err
returns-in_err-history_in-clause-err g c =
    let e = c.in_err-history_in.field-0.0 in
    let got = c.in_ok-bytes.ensures in
    passed-on (IsRefusedOf (g.S.Source.left c.args.source.now) (g.S.Source.failed c.args.source.now)
    (g.S.Source.failed c.all_bytes.new.source))
    (of_build e) c.from_residual-in_err-history_in.result c.from_residual-in_err-history_in.ensures.1
    (refused _ _ _ c.in_ok-bytes.bytes.items got.all got.within got.unfailed e
    (subst (λ (bytes : List ℕ). IsNoHistory (history_lines bytes) e) c.deref.ensures.value
    c.in_err-history_in.ensures.err))

pub returns-clause-ok : goal.returns-clause-ok
returns-clause-ok g c = (
  c.in_ok-bytes.bytes.items,
  c.in_ok-bytes.ensures.all,
  subst (λ (bytes : List ℕ). IsHistoryOfInput bytes c.in_ok-history_in.field-0) c.deref.ensures.value
      c.in_ok-history_in.ensures.ok,
)
