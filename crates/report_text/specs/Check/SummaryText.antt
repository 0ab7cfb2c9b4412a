-- The text of the summary of a history with an order, in three parts: up to the first number of
-- the order, the other numbers, and the rest.
use Rattle.std.specs.Prelude.{ℕ, codes, Bool, List, ◌∷◌, ◌++◌, cond, flat_map, decimal}

abbrev pub yes_or_no_text : Bool → List ℕ
yes_or_no_text b = cond b (codes "yes") (codes "no")

-- up to the first number
abbrev pub beginning_text : Bool → ℕ → ℕ → List ℕ
beginning_text atomic operations first =
    codes "{\"atomic\":\""
    ++ (yes_or_no_text atomic
    ++ (codes "\",\"operations\":" ++ (decimal operations ++ (codes ",\"order\":[" ++ decimal first))))

-- each of the other numbers after a comma
abbrev pub numbers_text : List ℕ → List ℕ
numbers_text ns = flat_map (λ n. 44 ∷ decimal n) ns

-- the rest, with the line feed
abbrev pub end_text : ℕ → List ℕ
end_text registers = codes "],\"registers\":" ++ (decimal registers ++ codes "}\n")
