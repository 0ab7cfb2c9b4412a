-- What stands in a list, and what stands before what.
use Rattle.std.specs.Prelude.{◌≡◌, List, [], ◌∷◌, Bool, cond, Option, Some, None, ◌⊎◌}
use Rattle.std.specs.Option.{option_or}

-- x stands in the list
abbrev pub In : {X : Type 0} → X → List X → Type 0
In x [] = ⊥
In x (y ∷ ys) = (x ≡ y) ⊎ In x ys

-- x stands at some place of the list, and y at a later one
abbrev pub Before : {X : Type 0} → X → X → List X → Type 0
Before x y [] = ⊥
Before x y (z ∷ zs) = ((x ≡ z) × In y zs) ⊎ Before x y zs

-- the last of the list that passes the test
abbrev pub last_with : {X : Type 0} → (X → Bool) → List X → Option X
last_with test [] = None
last_with test (x ∷ xs) = option_or (last_with test xs) (cond (test x) (Some x) None)

-- the first of the list that passes the test
abbrev pub first_with : {X : Type 0} → (X → Bool) → List X → Option X
first_with test [] = None
first_with test (x ∷ xs) = cond (test x) (Some x) (first_with test xs)
