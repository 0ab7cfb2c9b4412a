-- What is found of each register makes the lines of all registers.
use Rattle.std.proofs.Common.{◌≡◌, ℕ, suc, ◌+◌, ◌<◌, drop, List, [], ◌∷◌, ◌++◌, length}
use Rattle.std.proofs.Common.{slice_get, Some, Vec, Global, inl, inr, refl, sym, ap, subst, ◌∙◌, arith}
use Rattle.std.proofs.lemmas.Bool.{cases_eq, cases_lt}
use Rattle.std.proofs.lemmas.List.{length_push}
use Rattle.std.proofs.lemmas.Option.{same_Some, slice_get_within}
use Rattle.history_model.proofs.Lists.{slice_get-push, slice_get-push_other, slice_get_inside}
use Rattle.history_model.specs.declared.operation.Operation.{Operation}
use Rattle.reg_intake.specs.declared.cas_history.history.History.{History}
use Rattle.search_report.specs.Registers.{AreFindingsOf, AreFirstLines, IsFinding, IsLine}
use Rattle.search_report.specs.declared.register.Finding.{Finding}
use Rattle.search_report.proofs.OneMore.{first-left, none-left}
use Rattle.report_text.specs.declared.search.report.RegisterReport.{RegisterReport}

pub no-line : (h : History) → AreFirstLines h 0 []
no-line h = record {
  count_is = refl;
  each = λ r report at. let l = slice_get_within [] r report at in absurd (omega (arith, l));
}

pub one-line-more : (h : History) (n : ℕ) (reports : List RegisterReport) (report : RegisterReport)
    (name : List ℕ) (ops : Vec Operation Global) → AreFirstLines h n reports
    → slice_get h.names.items n ≡ Some name → slice_get h.registers.items n ≡ Some ops
    → IsLine h.lines.items name h.words.items ops.items report
    → AreFirstLines h (n + 1) (reports ++ report ∷ [])
one-line-more h n reports report name ops first named there line = record {
  count_is = length_push reports report ∙ ap (λ k. k + 1) first.count_is;
  each = λ r other at. elim (cases_eq r (length reports)) [
    | inl e ↦
        let r_is : r ≡ n = e ∙ first.count_is in
        let same =
        same_Some _ _ (sym (slice_get-push reports report)
        ∙ (ap (slice_get (reports ++ report ∷ [])) (sym e) ∙ at)) in (
          name,
          ops,
          ap (slice_get h.names.items) r_is ∙ named,
          ap (slice_get h.registers.items) r_is ∙ there,
          subst (IsLine h.lines.items name h.words.items ops.items) same line,
        )
    | inr d ↦ first.each r other (sym (slice_get-push_other reports report r d) ∙ at)
  ];
}

-- ---- one register after another

-- what is found of the registers from this one on
abbrev AreLeft : History → ℕ → List Finding → Type 0
AreLeft h n findings = AreFindingsOf h.lines.items (drop n h.registers.items) findings

pub no-items : (xs : List Finding) → length xs ≡ 0 → xs ≡ []
no-items [] e = refl
no-items (x ∷ xs) e = absurd (omega (arith, e))

one_more : (n : ℕ) → n + 1 ≡ suc n
one_more n = omega arith

module _ (h : History) (as_many : length h.registers.items ≡ length h.names.items) where
  pub has-name : (n : ℕ) (findings rest : List Finding) (finding : Finding)
      → AreLeft h n findings → findings ≡ finding ∷ rest → n < length h.names.items
  has-name n findings rest finding go is =
      let one = first-left h.lines.items n h.registers.items finding rest (subst (AreLeft h n) is go) in
      let l = slice_get_within h.registers.items n one.0 one.1 in
      omega (arith, l, as_many)

  pub has-ops : (n : ℕ) (findings rest : List Finding) (finding : Finding)
      → AreLeft h n findings → findings ≡ finding ∷ rest → n < length h.registers.items
  has-ops n findings rest finding go is =
      let one = first-left h.lines.items n h.registers.items finding rest (subst (AreLeft h n) is go) in
      slice_get_within h.registers.items n one.0 one.1

  pub next-line : (reports after : List RegisterReport) (findings rest : List Finding) (finding : Finding)
      (report : RegisterReport) (name : List ℕ) (ops : Vec Operation Global)
      → AreFirstLines h (length reports) reports → AreLeft h (length reports) findings
      → findings ≡ finding ∷ rest
      → slice_get h.names.items (length reports) ≡ Some name
      → slice_get h.registers.items (length reports) ≡ Some ops
      → ((lines : List ℕ) → IsFinding lines ops.items finding
      → IsLine lines name h.words.items ops.items report)
      → after ≡ reports ++ report ∷ [] → AreFirstLines h (length after) after
      × AreLeft h (length after) rest
  next-line reports after findings rest finding report name ops first go is named there line grown =
      let n = length reports in
      let one = first-left h.lines.items n h.registers.items finding rest (subst (AreLeft h n) is go) in
      let same : one.0 ≡ ops = same_Some _ _ (sym one.1 ∙ there) in
      let found = subst (λ (v : Vec Operation Global). IsFinding h.lines.items v.items finding) same one.2 in
      let more = one-line-more h n reports report name ops first named there (line h.lines.items found) in
      let size : length after ≡ n + 1 = ap length grown ∙ length_push reports report in (
        subst (λ k. AreFirstLines h k after) (sym size) (subst (AreFirstLines h (n + 1)) (sym grown) more),
        subst (λ k. AreLeft h k rest) (sym (size ∙ one_more n)) one.3,
      )

  pub all-lines : (reports : List RegisterReport) (findings : List Finding)
      → AreFirstLines h (length reports) reports → AreLeft h (length reports) findings
      → findings ≡ []
      → AreFirstLines h (length h.names.items) reports
  all-lines reports findings first go is =
      let n = length reports in
      let most = none-left h.lines.items n h.registers.items (subst (AreLeft h n) is go) in
      elim (cases_lt (length h.names.items) n) [
        | inl more ↦
            let one = slice_get_inside reports (length h.names.items) more in
            let l = first.each (length h.names.items) one.0 one.1 in
            absurd (let w = slice_get_within h.names.items (length h.names.items) l.0 l.2 in omega (arith, w))
        | inr few ↦ subst (λ k. AreFirstLines h k reports) (omega (arith, most, few, as_many)) first
      ]
