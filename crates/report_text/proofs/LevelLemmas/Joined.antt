-- The lines of one register more.
use Rattle.std.proofs.Common.{◌≡◌, ℕ, ◌+◌, ◌<◌, List, [], ◌∷◌, ◌++◌, length, take}
use Rattle.std.proofs.Common.{get_or, sym, ◌∙◌, ap, add-one}
use Rattle.serde_json.specs.Written.{compact_text}
use Rattle.report_text.specs.JsonFields.Fields.{line_text}
use Rattle.report_text.proofs.JsonFieldLemmas.Lines.{concat_more}
use Rattle.report_text.specs.Level.Text.{register_json, registers_text}
use Rattle.report_text.specs.declared.level.report.RegisterLevels.{RegisterLevels}

pub one_line_more : (xs : List RegisterLevels) (i : ℕ) (d : RegisterLevels) (out new bytes line : List ℕ)
    → i < length xs → d ≡ get_or xs i d → out ≡ registers_text (take i xs) → bytes ≡ line
    → line ≡ compact_text (register_json d) → new ≡ out ++ (bytes ++ 10 ∷ [])
    → new ≡ registers_text (take (i + 1) xs)
one_line_more xs i d out new bytes line h at before same is made =
    let done = registers_text (take i xs) in
    let more = concat_more (λ (reg : RegisterLevels). line_text (register_json reg)) xs i d h in
    rw add-one (made
    ∙ ap (λ o. o ++ (bytes ++ 10 ∷ [])) before
    ∙ ap (λ x. done ++ (x ++ 10 ∷ [])) (same ∙ is)
    ∙ ap (λ x. done ++ line_text (register_json x)) at
    ∙ sym more)
