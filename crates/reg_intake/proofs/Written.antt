-- Bytes that are written into a list after those that it holds.
use Rattle.std.proofs.Common.{◌≡◌, ◌+◌, ◌≤◌, ◌++◌, ℕ, List, length, take, drop}
use Rattle.std.proofs.Common.{sym, ap, ◌∙◌, arith, append_assoc}
use Rattle.std.proofs.Math.Seq.{take-append-add}
use Rattle.std.proofs.lemmas.List.{length-drop, length-take, take-append-le, take-take}

-- what is written after the front stands after it, whatever follows
pub written-behind : (front piece rest tail : List ℕ) (k n long : ℕ) → length front ≡ k → n ≤ length piece
    → k + n ≤ long → take (k + n) (take long ((front ++ (piece ++ rest)) ++ tail)) ≡ front ++ take n piece
written-behind front piece rest tail k n long at within fits =
    take-take (k + n) long ((front ++ (piece ++ rest)) ++ tail) fits
    ∙ ap (take (k + n)) (append_assoc front (piece ++ rest) tail)
    ∙ ap (λ m. take (m + n) (front ++ ((piece ++ rest) ++ tail))) (sym at)
    ∙ take-append-add front ((piece ++ rest) ++ tail) n
    ∙ ap (λ xs. front ++ take n xs) (append_assoc piece rest tail)
    ∙ ap (λ xs. front ++ xs) (take-append-le n piece (rest ++ tail) within)

-- what is no longer than a part after the front ends within the list
pub fits-behind : (xs : List ℕ) (k m n : ℕ) → length (take k xs) ≡ k → n ≤ length (take m (drop k xs))
    → k + n ≤ length xs
fits-behind xs k m n at within =
    let front = length-take k xs in
    let part = length-take m (drop k xs) in
    let rest = length-drop k xs in
    omega (arith, at, within)
