-- The lines of operations that are given by their places.
use Rattle.std.proofs.Common.{◌≡◌, ℕ, ◌+◌, ◌<◌, ◌≤◌, List, [], ◌∷◌, ◌++◌, length, drop, get_or, sym, ap}
use Rattle.std.proofs.Common.{◌∙◌, add-one, append_assoc, append-nil, map}
use Rattle.std.proofs.Math.Seq.{drop-cons}
use Rattle.std.proofs.lemmas.List.{drop_all, map-append}
use Rattle.std.proofs.lemmas.List.Elements.{filter-append, filter_map-append}
use Rattle.std.specs.List.{filter}
use Rattle.std.specs.Prelude.{slice_get}
use Rattle.history_model.specs.declared.operation.Operation.{Operation}
use Rattle.reg_levels.specs.Decisions.{operations_of_places}
use Rattle.level_report.specs.Guarantees.{is_called, lines_of}

lines-append : (xs ys : List Operation) → lines_of (xs ++ ys) ≡ lines_of xs ++ lines_of ys
lines-append xs ys =
    ap (map (λ (a : Operation). a.line)) (filter-append is_called xs ys)
    ∙ map-append (λ (a : Operation). a.line) (filter is_called xs) (filter is_called ys)

places-append : (ops : List Operation) (xs ys : List ℕ)
    → lines_of (operations_of_places ops (xs ++ ys)) ≡ lines_of (operations_of_places ops xs) ++ lines_of
    (operations_of_places ops ys)
places-append ops xs ys =
    ap lines_of (filter_map-append (slice_get ops) xs ys) ∙ lines-append (operations_of_places ops xs)
    (operations_of_places ops ys)

-- the lines that stand, and those of the places ahead, are the lines of all
pub line-more : (ops : List Operation) (places lines new : List ℕ) (i : ℕ) → i < length places
    → new ≡ lines ++ lines_of (operations_of_places ops (get_or places i 0 ∷ []))
    → lines_of (operations_of_places ops places) ≡ lines ++ lines_of (operations_of_places ops (drop i
    places))
    → lines_of (operations_of_places ops places) ≡ new ++ lines_of (operations_of_places ops (drop (i + 1)
    places))
line-more ops places lines new i below made so_far =
    let next = get_or places i 0 in
    let rest = lines_of (operations_of_places ops (drop (i + 1) places)) in
    so_far
    ∙ ap (λ ps. lines ++ lines_of (operations_of_places ops ps)) (drop-cons places i 0 below
    ∙ ap (λ n. next ∷ drop n places) (sym (add-one i)))
    ∙ ap (λ ls. lines ++ ls) (places-append ops (next ∷ []) (drop (i + 1) places))
    ∙ sym (append_assoc lines (lines_of (operations_of_places ops (next ∷ []))) rest)
    ∙ ap (λ ls. ls ++ rest) (sym made)

pub lines-end : (ops : List Operation) (places lines : List ℕ) (i : ℕ) → length places ≤ i
    → lines_of (operations_of_places ops places) ≡ lines ++ lines_of (operations_of_places ops (drop i
    places))
    → lines ≡ lines_of (operations_of_places ops places)
lines-end ops places lines i past so_far =
    sym (so_far ∙ ap (λ ps. lines ++ lines_of (operations_of_places ops ps)) (drop_all i places past) ∙
    append-nil lines)
