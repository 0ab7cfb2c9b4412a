-- How often a number stands in a list.
use Rattle.std.specs.Prelude.{◌≡◌, ℕ, zero, suc, ◌+◌, ◌≤◌, Bool, true, false, eqb, List, [], ◌∷◌}

-- 1 where the test holds, else 0
abbrev pub one_if : Bool → ℕ
one_if true = 1
one_if false = 0

-- how often x stands in the list
abbrev pub times : ℕ → List ℕ → ℕ
times x [] = 0
times x (y ∷ ys) = one_if (eqb y x) + times x ys

-- how often x stands among the numbers below n: once where it is one of them
abbrev pub times_below : ℕ → ℕ → ℕ
times_below x zero = 0
times_below x (suc n) = one_if (eqb n x) + times_below x n

-- each number below n stands once in the list, and no other number does
abbrev pub IsEachBelow : ℕ → List ℕ → Type 0
IsEachBelow n xs = (x : ℕ) → times x xs ≡ times_below x n

-- no number stands twice in the list
abbrev pub IsDistinct : List ℕ → Type 0
IsDistinct xs = (x : ℕ) → times x xs ≤ 1
