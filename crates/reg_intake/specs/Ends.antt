-- What a source has left, where it tells it.
use Rattle.std.specs.Prelude.{◌≡◌, ◌<◌, ◌≤◌, ℕ, List, length, ⊤, Option, Some, None}
use Rattle.history_text.specs.declared.limits.TheConstants.{MAX_INPUT}

-- these are all the bytes that are left
abbrev pub IsAll : Option (List ℕ) → List ℕ → Type 0
IsAll None bytes = ⊤
IsAll (Some left) bytes = left ≡ bytes

-- all the bytes that are left are more than an input may have
abbrev pub IsTooLong : Option (List ℕ) → Type 0
IsTooLong left = (bytes : List ℕ) × IsAll left bytes × (MAX_INPUT < length bytes)

-- all the bytes that are left are no more than an input may have
abbrev pub IsWithinLimit : Option (List ℕ) → Type 0
IsWithinLimit left = (bytes : List ℕ) × IsAll left bytes × (length bytes ≤ MAX_INPUT)
