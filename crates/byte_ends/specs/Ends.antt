-- How a source and a sink count their failures, and what a sink has taken, where it tells it.
use Rattle.std.specs.Prelude.{◌≡◌, ◌≤◌, ℕ, ◌+◌, List, length, take, Option, Result, is_ok, if◌then◌else◌}
use Rattle.std.specs.Io.KnownBytes.{Appends}

-- a failure adds one to the count of failures, and nothing else does
abbrev pub Counts : {T E : Type 0} → ℕ → ℕ → Result T E → Type 0
Counts old new result = new ≡ (if is_ok result then old else old + 1)

-- what was taken grew by a beginning of the bytes
abbrev pub AppendsBeginning : Option (List ℕ) → Option (List ℕ) → List ℕ → Type 0
AppendsBeginning old new bytes = (count : ℕ) × (count ≤ length bytes) × Appends old new (take count bytes)
