-- Sets of slots as words of 64 bits.
use Rattle.std.specs.Prelude.{ℕ, ◌==◌, ◌/◌, ◌%◌, Bool, List, get_or}
use Rattle.std.specs.Int.{bit_at}

-- whether the words have the slot: bit q % 64 of word q / 64
unfoldable pub has : List ℕ → ℕ → Bool
has words q = bit_at (get_or words (q / 64) 0) (q % 64) == 1
