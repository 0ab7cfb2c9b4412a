-- Integers with a number each.
use Rattle.std.specs.Prelude.{ℕ, ℤ, Bool, Option, is_some}
use Rattle.std.specs.BTreeMap.{get, is_at}
use Rattle.std.specs.Map.{lookup}
use Rattle.std.specs.Option.{option_or}
use Rattle.std.specs.Ordering.{int_cmp}
use Rattle.register_search.specs.declared.value_numbers.ValueNumbers.{ValueNumbers}

-- the number of an integer
abbrev pub number_at : ValueNumbers → ℤ → Option ℕ
number_at t q = option_or (lookup (is_at (int_cmp q)) t.ascending.items) (get int_cmp t.others q)

-- whether an integer has one
abbrev pub has_number : ValueNumbers → ℤ → Bool
has_number t q = is_some (number_at t q)
