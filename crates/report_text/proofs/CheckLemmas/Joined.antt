-- The lines of one register more, and of two parts of a list of registers.
use Rattle.std.proofs.Common.{◌≡◌, ℕ, ◌+◌, ◌<◌, List, [], ◌∷◌, ◌++◌, length, take}
use Rattle.std.proofs.Common.{get_or, refl, sym, ◌∙◌, ap, append_assoc, add-one}
use Rattle.report_text.specs.JsonFields.Fields.{line_text}
use Rattle.report_text.proofs.JsonFieldLemmas.Lines.{concat_more}
use Rattle.report_text.specs.Check.Text.{register_json, registers_text}
use Rattle.report_text.specs.declared.check.report.RegReport.{RegReport}

pub one_line_more : (xs : List RegReport) (i : ℕ) (d : RegReport) (out new : List ℕ)
    → i < length xs → d ≡ get_or xs i d → out ≡ registers_text (take i xs)
    → new ≡ out ++ line_text (register_json d)
    → new ≡ registers_text (take (i + 1) xs)
one_line_more xs i d out new h at before made =
    let done = registers_text (take i xs) in
    let more = concat_more (λ (reg : RegReport). line_text (register_json reg)) xs i d h in
    rw add-one (made
    ∙ ap (λ o. o ++ line_text (register_json d)) before
    ∙ ap (λ x. done ++ line_text (register_json x)) at
    ∙ sym more)

pub lines-append : (xs ys : List RegReport) → registers_text (xs ++ ys) ≡ registers_text xs
    ++ registers_text ys
lines-append [] ys = refl
lines-append (x ∷ xs) ys =
    ap (λ l. line_text (register_json x) ++ l) (lines-append xs ys)
    ∙ sym (append_assoc (line_text (register_json x)) (registers_text xs) (registers_text ys))
