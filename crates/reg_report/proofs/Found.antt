-- What is found of each register makes the lines of all registers.
use Rattle.std.proofs.Common.{◌≡◌, ℕ, zero, suc, ◌+◌, ◌<◌, List, [], ◌∷◌, ◌++◌, length, slice_get}
use Rattle.std.proofs.Common.{get_or, Some, inl, inr, refl, sym, ap, subst, ◌∙◌, arith}
use Rattle.std.proofs.lemmas.List.{length_push}
use Rattle.std.proofs.lemmas.Option.{same_Some, slice_get-get_or, slice_get_read, slice_get_within}
use Rattle.history_model.specs.History.{History}
use Rattle.reg_report.proofs.PieceLemmas.Pushed.{push-cases}
use Rattle.reg_report.specs.ReportText.{AreLinesOf}
use Rattle.reg_report.specs.Meaning.{IsRegisterReport}
use Rattle.reg_report.specs.Registers.{AreFindings, AreFirstFindings, AreFirstLines, AreLines, IsFinding}
use Rattle.reg_report.specs.declared.findings.Finding.{Finding}
use Rattle.report_text.specs.declared.check.report.RegReport.{RegReport}

module _ (h : History) where
  pub one-finding-more : (n : ℕ) (findings : List Finding) (finding : Finding) → AreFirstFindings h n findings
      → finding.register.0 ≡ n → IsFinding h finding → AreFirstFindings h (n + 1) (findings ++ finding ∷ [])
  one-finding-more n findings finding a at is = record {
    count = length_push findings finding ∙ ap (λ k. k + 1) a.count;
    each = λ r other q. elim (push-cases findings finding other r q) [
      | inl k ↦ a.each r other k
      | inr k ↦ subst (λ (x : Finding). (x.register.0 ≡ r) × IsFinding h x) k.1 (at ∙ sym (k.0 ∙ a.count), is)
    ];
  }

  -- what is found of one register
  pub found-at : (findings : List Finding) (r : ℕ) (finding : Finding) → AreFindings h findings
      → r < length findings → finding ≡ get_or findings r finding
      → (finding.register.0 ≡ r) × IsFinding h finding
  found-at findings r finding a inside at =
      a.each r finding (slice_get_read findings (length findings) r finding refl inside at)

  -- the same of each element of a slice that is the list
  pub each-found : (findings slice : List Finding) (r : ℕ) (d finding : Finding) → AreFindings h findings
      → slice ≡ findings → r < length slice → finding ≡ get_or slice r d → IsFinding h finding
  each-found findings slice r d finding a same inside at =
      let found = subst (AreFindings h) (sym same) a in
      subst (IsFinding h) (sym at) (found.each r (get_or slice r d) (slice_get-get_or slice r d inside)).1

  pub one-line-more : (regs : List RegReport) (n : ℕ) (reg : RegReport) → AreFirstLines h n regs
      → IsRegisterReport h n reg → AreFirstLines h (n + 1) (regs ++ reg ∷ [])
  one-line-more regs n reg a is = record {
    lines = length_push regs reg ∙ ap (λ k. k + 1) a.lines;
    each = λ r line q. elim (push-cases regs reg line r q) [
      | inl k ↦ a.each r line k
      | inr k ↦ subst (λ (x : RegReport). IsRegisterReport h r x) k.1
          (subst (λ m. IsRegisterReport h m reg) (sym (k.0 ∙ a.lines)) is)
    ];
  }

  -- each line has its finding, and there are as many
  abbrev HaveFindings : List Finding → List RegReport → Type 0
  HaveFindings findings regs =
      (r : ℕ) (reg : RegReport) → slice_get regs r ≡ Some reg
      → (finding : Finding) × (slice_get findings r ≡ Some finding)
      × IsRegisterReport h finding.register.0 reg

  have_findings : (findings : List Finding) (regs : List RegReport) → AreLinesOf h findings regs
      → (length regs ≡ length findings) × HaveFindings findings regs
  have_findings [] [] each =
      (refl, λ r reg q. let l = slice_get_within [] r reg q in absurd (omega (arith, l)))
  have_findings [] (reg ∷ regs) each = absurd each
  have_findings (finding ∷ findings) [] each = absurd each
  have_findings (finding ∷ findings) (reg ∷ regs) each =
      let rest = have_findings findings regs each.1 in (ap suc rest.0, one_more rest.1)
    where
      one_more : HaveFindings findings regs → HaveFindings (finding ∷ findings) (reg ∷ regs)
      one_more rest zero line q =
          (finding, refl, subst (IsRegisterReport h finding.register.0) (same_Some _ _ q) each.0)
      one_more rest (suc r) line q = rest r line q

  -- the lines of what is found of all registers are the lines of all
  pub lines-of : (findings : List Finding) (regs : List RegReport) → AreFindings h findings
      → AreLinesOf h findings regs → AreLines h regs
  lines-of findings regs a each =
      let all = have_findings findings regs each in
      record {
        lines = all.0 ∙ a.count;
        each =
            λ r reg q. let f =
            all.1 r reg q in subst (λ m. IsRegisterReport h m reg) (a.each r f.0 f.1).0 f.2;
      }
