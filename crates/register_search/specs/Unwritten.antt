-- Values that some operation needs and none gives (this project's profile).
use Rattle.std.specs.Prelude.{◌≡◌, ◌↔◌, ℕ, ◌<◌, ℤ, cond, true, List, slice_get, Option, Some, None}
use Rattle.history_text.specs.declared.event.Val.TheVariants.{Null, Int}
use Rattle.history_model.specs.Lists.{In}
use Rattle.history_model.specs.declared.act.Act.{Act}
use Rattle.history_model.specs.declared.act.Act.TheVariants.{Read, Write, Cas, CasUnless, Miss}
use Rattle.history_model.specs.declared.operation.Operation.{Operation}
use Rattle.register_search.specs.declared.value_numbers.ValueNumbers.{ValueNumbers}
use Rattle.register_search.specs.ValueNumbers.{has_number}

-- the number that an act gives the register
abbrev pub number_given : Act → Option ℤ
number_given (Read value) = None
number_given (Write Null) = None
number_given (Write (Int n)) = Some n
number_given (Cas from Null) = None
number_given (Cas from (Int n)) = Some n
number_given (CasUnless unless Null) = None
number_given (CasUnless unless (Int n)) = Some n
number_given (Miss from) = None

-- the number that a read gives, or that a cas finds
abbrev pub number_asked : Act → Option ℤ
number_asked (Read None) = None
number_asked (Read (Some Null)) = None
number_asked (Read (Some (Int n))) = Some n
number_asked (Write value) = None
number_asked (Cas Null to) = None
number_asked (Cas (Int n) to) = Some n
number_asked (CasUnless unless to) = None
number_asked (Miss from) = None

-- an operation needs the number that it asks for, if it is completed
abbrev pub number_needed : Operation → Option ℤ
number_needed a = cond a.completed (number_asked a.act) None

-- one of the operations gives the number
abbrev pub IsGiven : List Operation → ℤ → Type 0
IsGiven ops n = (a : Operation) × In a ops × (number_given a.act ≡ Some n)

-- the operation needs a number that none gives
abbrev pub IsUnwritten : List Operation → Operation → Type 0
IsUnwritten ops a = (n : ℤ) × (number_needed a ≡ Some n) × (IsGiven ops n → ⊥)

-- the place of the first such operation
abbrev pub IsFirstUnwritten : List Operation → Option ℕ → Type 0
IsFirstUnwritten ops None = (k : ℕ) (a : Operation) → slice_get ops k ≡ Some a → IsUnwritten ops a → ⊥
IsFirstUnwritten ops (Some k) =
    ((a : Operation) × (slice_get ops k ≡ Some a) × IsUnwritten ops a)
    × ((j : ℕ) (a : Operation) → j < k → slice_get ops j ≡ Some a → IsUnwritten ops a → ⊥)

-- the set has the numbers that the operations give
abbrev pub HasGiven : List Operation → ValueNumbers → Type 0
HasGiven ops s = (n : ℤ) → ((has_number s n ≡ true) ↔ IsGiven ops n)
