-- A loop of draws ends, since the numbers that a seat lacks grow fewer.
use Rattle.std.proofs.Common.{◌≡◌, ◌≢◌, ℕ, zero, suc, ◌+◌, ◌<◌, ◌≤◌, eqb, eq-eqb}
use Rattle.std.proofs.Common.{ne_eqb, List, [], ◌∷◌, ◌++◌, sym, ap, ◌∙◌, arith}
use mathlib.Core.Logic.{dite}
use native.Mathlib.Decide.{ℕ_discrete}
use Rattle.job_board.specs.Numbers.{one_if, times, times_below}
use Rattle.job_board.proofs.Times.{times-append, once_same, once_low}

-- 1 where the number is 0, else 0
abbrev pub one_if_none : ℕ → ℕ
one_if_none zero = 1
one_if_none (suc n) = 0

-- how many numbers below n are not in the list
abbrev pub lacking : ℕ → List ℕ → ℕ
lacking zero xs = 0
lacking (suc n) xs = one_if_none (times n xs) + lacking n xs

-- a number that was not there is there now
lacks : (n j : ℕ) (xs : List ℕ) → times j xs ≡ 0 → lacking n (xs ++ j ∷ []) + times_below j n ≤ lacking n xs
lacks zero j xs none = omega arith
lacks (suc n) j xs none =
    let rest = lacks n j xs none in
    let t : times n (xs ++ j ∷ []) ≡ times n xs + (one_if (eqb j n) + 0) = times-append n xs (j ∷ []) in
    dite (ℕ_discrete j n)
    (λ (e : j ≡ n).
    let a : one_if (eqb j n) ≡ 1 = ap one_if (eq-eqb j n e) in
    let b : one_if (eqb n j) ≡ 1 = ap one_if (eq-eqb n j (sym e)) in
    let c : times n xs ≡ 0 = ap (λ k. times k xs) (sym e) ∙ none in
    let d : one_if_none (times n xs) ≡ 1 = ap one_if_none c in
    let f : one_if_none (times n (xs ++ j ∷ [])) ≡ 0 =
    ap one_if_none (the_one (times n (xs ++ j ∷ [])) (omega arith)) in omega arith)
    (λ (ne : j ≢ n).
    let a : one_if (eqb j n) ≡ 0 = ap one_if (ne_eqb j n ne) in
    let b : one_if (eqb n j) ≡ 0 = ap one_if (ne_eqb n j (λ e. ne (sym e))) in
    let f : one_if_none (times n (xs ++ j ∷ [])) ≡ one_if_none (times n xs) =
    ap one_if_none (omega arith) in omega arith)
  where
    the_one : (k : ℕ) → k ≡ 1 → k ≡ suc 0
    the_one k e = e

-- so each draw leaves one fewer
pub lacks_less : (n j : ℕ) (xs : List ℕ) → j < n → times j xs ≡ 0 → lacking n (xs ++ j ∷ []) < lacking n xs
lacks_less n j xs low none = let a = lacks n j xs none in let b = once_low j n low in omega arith

-- a number that was drawn is there
pub drawn_there : (j : ℕ) (xs : List ℕ) → 0 < times j (xs ++ j ∷ [])
drawn_there j xs = let a = times-append j xs (j ∷ []) in let b = once_same j in omega arith
