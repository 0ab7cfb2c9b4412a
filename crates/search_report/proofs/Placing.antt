-- The lines of operations that are given by their places, all or those that are known at a time.
use Rattle.std.proofs.Common.{◌≡◌, ℕ, suc, ◌+◌, ◌<◌, ◌≤◌, List, [], ◌∷◌, ◌++◌, length}
use Rattle.std.proofs.Common.{drop, get_or, slice_get, Some, inl, inr, refl, sym}
use Rattle.std.proofs.Common.{ap, ◌∙◌, add-one, append_assoc, append-nil}
use Rattle.std.proofs.Math.Seq.{drop-cons}
use Rattle.std.proofs.lemmas.List.{map-append}
use Rattle.std.proofs.lemmas.List.Elements.{filter_map-append}
use Rattle.history_model.specs.Lists.{In}
use Rattle.history_model.proofs.Lists.{slice_get_inside}
use Rattle.history_model.specs.Cut.{cut_at}
use Rattle.history_model.specs.declared.operation.Operation.{Operation}
use Rattle.register_search.specs.Timeline.{AreCalls, operations_at}
use Rattle.register_search.proofs.Checking.{at-end}
use Rattle.register_search.proofs.Known.{from-known}
use Rattle.search_report.specs.Meaning.{lines_of}

pub line-more : (ops : List Operation) (places done after : List ℕ) (i : ℕ) → i < length places
    → after ≡ done ++ lines_of (operations_at ops (get_or places i 0 ∷ []))
    → lines_of (operations_at ops places) ≡ done ++ lines_of (operations_at ops (drop i places))
    → lines_of (operations_at ops places) ≡ after ++ lines_of (operations_at ops (drop (i + 1) places))
line-more ops places done after i l f h =
    let one = operations_at ops (get_or places i 0 ∷ []) in
    let rest = operations_at ops (drop (i + 1) places) in
    let parted : operations_at ops (drop i places) ≡ one ++ rest =
    ap (operations_at ops) (drop-cons places i 0 l)
    ∙ (filter_map-append (λ k. slice_get ops k) (get_or places i 0 ∷ []) (drop (suc i) places)
    ∙ ap (λ n. one ++ operations_at ops (drop n places)) (sym (add-one i))) in
    h ∙ (ap (λ xs. done ++ lines_of xs) parted
    ∙ (ap (λ xs. done ++ xs) (map-append (λ (a : Operation). a.line) one rest)
    ∙ (sym (append_assoc done (lines_of one) (lines_of rest)) ∙ ap (λ xs. xs ++ lines_of rest) (sym f))))

pub line-end : (ops : List Operation) (places done : List ℕ) (i : ℕ) → length places ≤ i
    → lines_of (operations_at ops places) ≡ done ++ lines_of (operations_at ops (drop i places))
    → done ≡ lines_of (operations_at ops places)
line-end ops places done i l h =
    sym (h ∙ (ap (λ xs. done ++ lines_of xs) (at-end ops places i l) ∙ append-nil done))

-- what is known at a time has the lines of the same operations among all
pub known-lines : (t r : ℕ) (ops : List Operation) → AreCalls r ops → (places : List ℕ)
    → ((k : ℕ) → In k places → k < length (cut_at t ops))
    → lines_of (operations_at (cut_at t ops) places) ≡ lines_of (operations_at ops places)
known-lines t r ops c [] within = refl
known-lines t r ops c (k ∷ ks) within =
    let one = slice_get_inside (cut_at t ops) k (within k (inl refl)) in
    let same = from-known t ops c.ascending k one.0 one.1 in
    let rest = known-lines t r ops c ks (λ j i. within j (inr i)) in
    let line : one.0.line ≡ same.0.line = ap (λ (x : Operation). x.line) same.2 in
    ap lines_of (some-there (cut_at t ops) k ks one.0 one.1)
    ∙ (ap (λ n. n ∷ lines_of (operations_at (cut_at t ops) ks)) line
    ∙ (ap (λ xs. same.0.line ∷ xs) rest ∙ ap lines_of (sym (some-there ops k ks same.0 same.1))))
  where
    some-there : (xs : List Operation) (j : ℕ) (js : List ℕ) (a : Operation) → slice_get xs j ≡ Some a
        → operations_at xs (j ∷ js) ≡ a ∷ operations_at xs js
    some-there xs j js a e = simp e
