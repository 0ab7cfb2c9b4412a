-- The text of the registers' lines, made part by part from what is found of them, is that of all their lines.
use Rattle.std.proofs.Common.{◌≡◌, ◌∙◌, ℕ, suc, ◌+◌, ◌<◌, List, [], ◌∷◌, ◌++◌, length, take, get_or}
use Rattle.std.proofs.Common.{Vec, Global, refl, sym, ap, subst, flat_map, append-nil, arith}
use Rattle.std.specs.List.{AllZip}
use Rattle.std.proofs.Math.Seq.{take-suc}
use Rattle.std.proofs.lemmas.List.Concat.{flat_map-append}
use Rattle.history_model.specs.History.{History}
use Rattle.reg_report.specs.ReportText.{IsLinesText, IsTextOf}
use Rattle.reg_report.specs.Meaning.{IsRegisterReport}
use Rattle.reg_report.specs.Registers.{AreFindings}
use Rattle.report_text.specs.Check.Text.{line_text, register_json, registers_text, report_text, summary_json}
use Rattle.reg_report.specs.declared.findings.Finding.{Finding}
use Rattle.report_text.specs.declared.check.report.RegReport.{RegReport}
use Rattle.report_text.specs.declared.check.report.Report.{Report}
use Rattle.reg_report.proofs.Found.{lines-of}
use Rattle.report_text.proofs.CheckLemmas.Joined.{lines-append}
use Rattle.byte_ends.proofs.Pushing.{bytes-of}

module _ (h : History) where
  abbrev Fits : Finding → RegReport → Type 0
  Fits finding reg = IsRegisterReport h finding.register.0 reg

  both-fit : (fs gs : List Finding) (rs ss : List RegReport) → AllZip Fits fs rs → AllZip Fits gs ss
      → AllZip Fits (fs ++ gs) (rs ++ ss)
  both-fit [] gs [] ss a b = b
  both-fit [] gs (r ∷ rs) ss a b = absurd a
  both-fit (f ∷ fs) gs [] ss a b = absurd a
  both-fit (f ∷ fs) gs (r ∷ rs) ss a b = (a.0, both-fit fs gs rs ss a.1 b)

  -- two texts, one after the other
  texts-joined : (fs gs : List Finding) (bs cs : List ℕ) → IsTextOf h fs bs → IsTextOf h gs cs
      → IsTextOf h (fs ++ gs) (bs ++ cs)
  texts-joined fs gs bs cs a b = (
    a.0 ++ b.0,
    both-fit fs gs a.0 b.0 a.1 b.1,
    ap (λ l. l ++ cs) a.2 ∙ (ap (λ l. registers_text a.0 ++ l) b.2 ∙ sym (lines-append a.0 b.0)),
  )

  -- the text with one line more
  pub one-text-more : (findings : List Finding) (i : ℕ) (d : Finding) (reg : RegReport) (out new : List ℕ)
      → i < length findings → d ≡ get_or findings i d → IsTextOf h (take i findings) out
      → IsRegisterReport h d.register.0 reg → new ≡ out ++ line_text (register_json reg)
      → IsTextOf h (take (i + 1) findings) new
  one-text-more findings i d reg out new inside at before reported made =
      let line = line_text (register_json reg) in
      let text : line ≡ registers_text (reg ∷ []) = sym (append-nil line) in
      let here : IsTextOf h (d ∷ []) line = (reg ∷ [], (reported, tt), text) in
      let next : i + 1 ≡ suc i = omega arith in
      let more : take (i + 1) findings ≡ take i findings ++ d ∷ [] =
      ap (λ n. take n findings) next
      ∙ (take-suc findings i d inside ∙ ap (λ x. take i findings ++ x ∷ []) (sym at)) in
      subst (λ fs. IsTextOf h fs new) (sym more)
      (subst (IsTextOf h (take i findings ++ d ∷ [])) (sym made)
      (texts-joined (take i findings) (d ∷ []) out line before here))

  all_made : (parts : List (List Finding)) (texts : List (Vec ℕ Global))
      → AllZip (λ (part : List Finding) (text : Vec ℕ Global). IsTextOf h part text.items) parts texts
      → IsTextOf h (flat_map (λ (part : List Finding). part) parts) (bytes-of texts)
  all_made [] [] each = ([], tt, refl)
  all_made [] (text ∷ texts) each = absurd each
  all_made (part ∷ parts) [] each = absurd each
  all_made (part ∷ parts) (text ∷ texts) each =
      texts-joined part (flat_map (λ (one : List Finding). one) parts) text.items (bytes-of texts) each.0
      (all_made parts texts each.1)

  -- the texts of the parts of what is found of all registers are the text of all their lines
  pub texts-made : (findings : List Finding) (parts : List (List Finding)) (texts : List (Vec ℕ Global))
      → AreFindings h findings → flat_map (λ (part : List Finding). part) parts ≡ findings
      → AllZip (λ (part : List Finding) (text : Vec ℕ Global). IsTextOf h part text.items) parts texts
      → IsLinesText h (bytes-of texts)
  texts-made findings parts texts a is each =
      let whole = subst (λ fs. IsTextOf h fs (bytes-of texts)) is (all_made parts texts each) in
      (whole.0, lines-of h findings whole.0 a whole.1, whole.2)

-- the summary's parts behind those of the registers' lines
pub summary-behind : (parts more all : List (Vec ℕ Global)) (report : Report)
    → all ≡ parts ++ more → bytes-of parts ≡ registers_text report.regs
    → bytes-of more ≡ line_text (summary_json report)
    → bytes-of all ≡ report_text report
summary-behind parts more all report joined lines summary =
    ap bytes-of joined
    ∙ (flat_map-append (λ (part : Vec ℕ Global). part.items) parts more
    ∙ (ap (λ l. l ++ bytes-of more) lines
    ∙ ap (λ l. registers_text report.regs ++ l) summary))
