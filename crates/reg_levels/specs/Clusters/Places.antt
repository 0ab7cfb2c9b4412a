-- Operations by their places in the list of a register's operations, `ops` (this project's own words).
use Rattle.std.specs.Prelude.{◌≡◌, ℕ, ◌<◌, ◌^◌, List, length, slice_get, Some}
use Rattle.history_model.specs.Lists.{Before}
use Rattle.history_model.specs.declared.operation.Operation.{Operation}

-- a stands at a place of the operations
abbrev pub IsAt : List Operation → ℕ → Operation → Type 0
IsAt ops p a = slice_get ops p ≡ Some a

-- the operations stand in the order of their calls
abbrev pub IsByCall : List Operation → Type 0
IsByCall ops = (a b : Operation) → Before a b ops → a.call < b.call

-- so few operations that their places fit 32 bits; a history has 2 ^ 20 events at most
abbrev pub AreFew : List Operation → Type 0
AreFew ops = length ops < 2 ^ 21
