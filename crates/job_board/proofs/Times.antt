-- How often a number stands in lists put together, and below a bound.
use Rattle.std.proofs.Common.{◌≡◌, ◌≢◌, ℕ, zero, suc, ◌+◌, ◌<◌, ◌≤◌, min, eqb, eq-eqb}
use Rattle.std.proofs.Common.{ne_eqb, List, [], ◌∷◌, ◌++◌, refl, ap, lt_of_not-le, arith}
use mathlib.Core.Logic.{dite}
use native.Mathlib.Decide.{dec_le, ℕ_discrete}
use Rattle.job_board.specs.Numbers.{one_if, times, times_below}

-- how often a number stands in two lists put together
pub times-append : (x : ℕ) (xs ys : List ℕ) → times x (xs ++ ys) ≡ times x xs + times x ys
times-append x [] ys = omega arith
times-append x (y ∷ xs) ys = let h = times-append x xs ys in omega arith

-- a number stands once in the list of it alone
pub once_same : (x : ℕ) → one_if (eqb x x) ≡ 1
once_same x = ap one_if (eq-eqb x x refl)

-- another number does not
pub once_other : (x y : ℕ) → x ≢ y → one_if (eqb x y) ≡ 0
once_other x y ne = ap one_if (ne_eqb x y ne)

-- no number from the bound on stands below it
pub once_high : (x n : ℕ) → n ≤ x → times_below x n ≡ 0
once_high x zero le = refl
once_high x (suc n) le =
    let a = once_other n x (λ e. absurd (omega arith)) in let b = once_high x n (omega arith) in omega arith

-- a number below the bound stands there once
pub once_low : (x n : ℕ) → x < n → times_below x n ≡ 1
once_low x zero lt = absurd (omega arith)
once_low x (suc n) lt = dite (ℕ_discrete n x)
    (λ (e : n ≡ x). let a : one_if (eqb n x) ≡ 1 = ap one_if (eq-eqb n x e) in
    let b = once_high x n (omega arith) in omega arith)
    (λ (ne : n ≢ x). let a = once_other n x ne in let b = once_low x n (omega arith) in omega arith)

-- no number stands twice below a bound
pub once_at_most : (x n : ℕ) → times_below x n ≤ 1
once_at_most x n = go (dec_le n x)
  where
    go : Dec (n ≤ x) → times_below x n ≤ 1
    go (yes le) = let a = once_high x n le in omega arith
    go (no gt) = let a = once_low x n (lt_of_not-le gt) in omega arith

-- a number that is there is below the bound
pub once_is_low : (x n : ℕ) → 0 < times_below x n → x < n
once_is_low x n h = go (dec_le n x)
  where
    go : Dec (n ≤ x) → x < n
    go (yes le) = let a = once_high x n le in absurd (omega arith)
    go (no gt) = lt_of_not-le gt

-- a draw moves the bound by one, while numbers are left
pub once_step : (x next jobs : ℕ) → next < jobs
    → times_below x (min (next + 1) jobs) ≡ one_if (eqb next x) + times_below x (min next jobs)
once_step x next jobs lt =
    let a : min (next + 1) jobs ≡ suc next = omega arith in
    let b : min next jobs ≡ next = omega arith in
    rw (a, b) refl
