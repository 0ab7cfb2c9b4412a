-- The summary of a history with an order: its text is that of three parts.
use Rattle.std.proofs.Common.{◌≡◌, ◌∙◌, ℕ, suc, ◌+◌, ◌<◌, List, [], ◌∷◌, ◌++◌, Bool, true}
use Rattle.std.proofs.Common.{false, Some, Vec, Global, length, map, take, get_or, refl, sym}
use Rattle.std.proofs.Common.{ap, arith, append_assoc, append-nil, codes, decimal, flat_map}
use Rattle.std.proofs.lemmas.List.Concat.{flat_map-append}
use Rattle.std.proofs.Math.Seq.{take-suc}
use Rattle.json.specs.Print.{escape_byte}
use Rattle.serde_json.specs.Written.{compact_text, items_text}
use Rattle.report_text.specs.Check.SummaryText.{yes_or_no_text, beginning_text, end_text, numbers_text}
use Rattle.report_text.specs.JsonFields.Fields.{items_of, line_text, number_json}
use Rattle.report_text.specs.JsonFields.Fields.{yes_or_no}
use Rattle.report_text.specs.Check.Text.{summary_json}
use Rattle.report_text.specs.declared.check.report.Report.{Report}

-- ---- the text in three parts

-- the numbers behind the first, with the bracket
later-numbers : (ns : List ℕ) → items_text true (items_of (map number_json ns)) ≡ numbers_text ns ++ 93 ∷ []
later-numbers [] = refl
later-numbers (n ∷ ns) =
    ap (λ t. 44 ∷ (decimal n ++ t)) (later-numbers ns)
    ∙ ap (λ t. 44 ∷ t) (sym (append_assoc (decimal n) (numbers_text ns) (93 ∷ [])))

yes_or_no-quoted : (b : Bool) → compact_text (yes_or_no b) ≡ 34 ∷ (yes_or_no_text b ++ 34 ∷ [])
unfolding escape_byte
yes_or_no-quoted true = refl
yes_or_no-quoted false = refl

regroup : (before answer quote operations count order first others registers many : List ℕ)
    → (before ++ ((answer ++ quote)
    ++ (operations
    ++ (count ++ (order ++ ((first ++ (others ++ 93 ∷ [])) ++ (registers ++ (many ++ 125 ∷ []))))))))
    ++ 10 ∷ []
    ≡ (before ++ (answer ++ (quote ++ (operations ++ (count ++ (order ++ first))))))
    ++ (others ++ (93 ∷ (registers ++ (many ++ 125 ∷ 10 ∷ []))))
regroup before answer quote operations count order first others registers many = simp append_assoc

pub three-parts : (report : Report) (n : ℕ) (ns : List ℕ) → report.order ≡ Some (n ∷ ns)
    → line_text (summary_json report) ≡ beginning_text report.atomic report.operations n
    ++ (numbers_text ns ++ end_text report.registers)
unfolding escape_byte
three-parts report n ns is =
    let count = decimal report.operations in
    let many = decimal report.registers in
    let line : List ℕ → List ℕ → List ℕ = λ answer numbers.
    (codes "{\"atomic\":"
    ++ (answer ++ (codes ",\"operations\":"
    ++ (count ++ (codes ",\"order\":["
    ++ ((decimal n ++ numbers) ++ (codes ",\"registers\":" ++ (many ++ 125 ∷ [])))))))) ++ 10 ∷ [] in
    rw is (
    ap (λ answer. line answer (items_text true (items_of (map number_json ns))))
    (yes_or_no-quoted report.atomic)
    ∙ (ap (line (34 ∷ (yes_or_no_text report.atomic ++ 34 ∷ []))) (later-numbers ns)
    ∙ regroup (codes "{\"atomic\":\"") (yes_or_no_text report.atomic) (34 ∷ [])
    (codes ",\"operations\":") count (codes ",\"order\":[") (decimal n) (numbers_text ns)
    (codes ",\"registers\":") many)
    )

-- ---- the numbers, one by one and in parts

pub one-more : (ns : List ℕ) (i n : ℕ) (old pushed new : List ℕ) → i < length ns → n ≡ get_or ns i n
    → old ≡ numbers_text (take i ns) → pushed ≡ old ++ 44 ∷ [] → new ≡ pushed ++ decimal n
    → new ≡ numbers_text (take (i + 1) ns)
one-more ns i n old pushed new inside at so-far comma digits =
    let next : i + 1 ≡ suc i = omega arith in
    let more : take (i + 1) ns ≡ take i ns ++ n ∷ [] =
    ap (λ k. take k ns) next ∙ (take-suc ns i n inside ∙ ap (λ x. take i ns ++ x ∷ []) (sym at)) in
    digits
    ∙ (ap (λ l. l ++ decimal n) (comma ∙ ap (λ l. l ++ 44 ∷ []) so-far)
    ∙ (append_assoc (numbers_text (take i ns)) (44 ∷ []) (decimal n)
    ∙ (ap (λ l. numbers_text (take i ns) ++ (44 ∷ l)) (sym (append-nil (decimal n)))
    ∙ (sym (flat_map-append (λ m. 44 ∷ decimal m) (take i ns) (n ∷ []))
    ∙ ap numbers_text (sym more)))))

pub numbers-append : (ms ns : List ℕ) → numbers_text (ms ++ ns) ≡ numbers_text ms ++ numbers_text ns
numbers-append ms ns = flat_map-append (λ n. 44 ∷ decimal n) ms ns

-- ---- the parts put together

-- the bytes of parts, in order
abbrev bytes-of : List (Vec ℕ Global) → List ℕ
bytes-of parts = flat_map (λ (part : Vec ℕ Global). part.items) parts

-- those of parts between two others
pub between : (some more all made : List (Vec ℕ Global)) (front back : Vec ℕ Global)
    (head numbers tail : List ℕ)
    → some ≡ front ∷ [] → more ≡ some ++ made → all ≡ more ++ back ∷ []
    → front.items ≡ head → bytes-of made ≡ numbers → back.items ≡ tail
    → bytes-of all ≡ head ++ (numbers ++ tail)
between some more all made front back head numbers tail a b c d e f =
    let whole : all ≡ front ∷ (made ++ back ∷ []) =
    c ∙ ap (λ l. l ++ back ∷ []) (b ∙ ap (λ l. l ++ made) a) in
    ap bytes-of whole
    ∙ (ap (λ l. front.items ++ l) (flat_map-append (λ (part : Vec ℕ Global). part.items) made (back ∷ [])
    ∙ ap (λ l. bytes-of made ++ l) (append-nil back.items))
    ∙ (ap (λ l. l ++ (bytes-of made ++ back.items)) d
    ∙ (ap (λ l. head ++ (l ++ back.items)) e
    ∙ ap (λ l. head ++ (numbers ++ l)) f)))
