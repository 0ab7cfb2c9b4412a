-- The numbers of registers by the order of their first calls, which lines
-- are given before their events are taken in.
use Rattle.std.specs.Prelude.{◌≡◌, ℕ, ◌++◌, ◌∷◌, [], List, length, nat_lt, cond}
use Rattle.std.specs.Prelude.{bytes_eq, Option, Some, None, option_map, Ok, Err}
use Rattle.std.specs.List.{position_or_len}
use Rattle.history_model.specs.Events.{asked_by}
use Rattle.history_model.specs.Refusals.{Line}
use Rattle.reg_arena.specs.declared.numbering.NumberedLines.{NumberedLines}

-- the name of the register that a line calls, if the line is a call
abbrev pub name_called : Line → Option (List ℕ)
name_called (Ok e) = option_map (λ call. call.register) (asked_by e.kind)
name_called (Err fault) = None

-- the names with one that is called, which comes last if it is new
abbrev pub with_name : List (List ℕ) → Option (List ℕ) → List (List ℕ)
with_name names None = names
with_name names (Some name) =
    cond (nat_lt (position_or_len (bytes_eq name) names) (length names)) names (names ++ name ∷ [])

-- the names after some lines
abbrev pub names_with : List (List ℕ) → List Line → List (List ℕ)
names_with names [] = names
names_with names (line ∷ lines) = names_with (with_name names (name_called line)) lines

-- the number of a name that is called: its place among the names before, or else the next
abbrev pub IsNumbered : List (List ℕ) → Option (List ℕ) → ℕ → Type 0
IsNumbered names None number = Unit {0}
IsNumbered names (Some name) number = number ≡ position_or_len (bytes_eq name) names

-- each line has the number of its register, by the names before it
abbrev pub AreNumbered : List (List ℕ) → List Line → List ℕ → Type 0
AreNumbered names [] numbers = numbers ≡ []
AreNumbered names (line ∷ lines) [] = ⊥
AreNumbered names (line ∷ lines) (number ∷ numbers) =
    IsNumbered names (name_called line) number
    × AreNumbered (with_name names (name_called line)) lines numbers

-- the lines of a part
abbrev pub lines_of : NumberedLines → List Line
lines_of part = part.lines.items

-- the same of parts, in order
abbrev pub ArePartsNumbered : List (List ℕ) → List NumberedLines → Type 0
ArePartsNumbered names [] = Unit {0}
ArePartsNumbered names (part ∷ parts) =
    AreNumbered names (lines_of part) part.numbers.items
    × ArePartsNumbered (names_with names (lines_of part)) parts
