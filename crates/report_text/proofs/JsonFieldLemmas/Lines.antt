-- The texts of the elements of a list, with one element more.
use Rattle.std.proofs.Common.{◌≡◌, ℕ, zero, suc, ◌<◌, List, [], ◌∷◌, ◌++◌, length, map, take}
use Rattle.std.proofs.Common.{get_or, sym, ◌∙◌, ap, arith, append_assoc, append-nil}
use Rattle.std.specs.List.{concat}

pub concat_more : {A : Type 0} (f : A → List ℕ) (xs : List A) (i : ℕ) (d : A) → i < length xs
    → concat (map f (take (suc i) xs)) ≡ concat (map f (take i xs)) ++ f (get_or xs i d)
concat_more f [] i d h = absurd (omega arith)
concat_more f (x ∷ xs) zero d h = append-nil (f x)
concat_more f (x ∷ xs) (suc i) d h =
    ap (λ ys. f x ++ ys) (concat_more f xs i d (omega arith))
    ∙ sym (append_assoc (f x) (concat (map f (take i xs))) (f (get_or xs i d)))
