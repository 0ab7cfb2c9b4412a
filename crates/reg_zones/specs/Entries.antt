-- Listed operations with what places them in the canonical order.
use Rattle.std.specs.Prelude.{◌≡◌, ℕ, ◌<◌, ◌==◌, ◌&&◌, ◌⊎◌, max, false, cond, Bool}
use Rattle.std.specs.Prelude.{List, [], ◌∷◌, AllPairs, Option, Some, None}
use Rattle.std.specs.List.Sorted.{IsPermutation}
use Rattle.history_model.specs.Lists.{In}
use Rattle.history_model.specs.Operations.{is_write, value_of}
use Rattle.history_model.specs.declared.operation.Operation.{Operation}
use Rattle.history_model.specs.Naming.{name_of}
use Rattle.reg_zones.specs.Clusters.{low_end}
use Rattle.reg_zones.specs.Order.{IsListed}
use Rattle.reg_zones.specs.declared.entry.Entry.{Entry}
use Rattle.reg_zones.specs.declared.placed.Placed.{Placed}

-- the place in its cluster: the write first, a read by its call, which is never 0
abbrev pub turn : Operation → ℕ
turn a = cond (is_write a) 0 a.call

abbrev pub entry_of : List Operation → Operation → Entry
entry_of ops a = record { low = low_end ops (value_of a); turn = turn a; call = a.call; oper = name_of a }

-- two entries have one place
abbrev pub same_place : Entry → Entry → Bool
same_place x y = x.low == y.low && x.turn == y.turn

-- x comes first: by the low end, then by the turn
abbrev pub ComesFirst : Entry → Entry → Type 0
ComesFirst x y = (x.low < y.low) ⊎ ((x.low ≡ y.low) × (x.turn < y.turn))

-- the listed operations, each once
pub record IsListing (ops : List Operation) (entries : List Entry) : Type 0 where
  pub only : (x : Entry) → In x entries → (a : Operation) × IsListed ops a × (x ≡ entry_of ops a)
  pub all : (a : Operation) → IsListed ops a → In (entry_of ops a) entries
  pub apart : AllPairs (λ x y. same_place x y ≡ false) entries

-- the listed operation that is called at time n, if there is one
abbrev pub IsListedAt : List Operation → ℕ → Option Entry → Type 0
IsListedAt ops n None = (a : Operation) → IsListed ops a → a.call ≡ n → ⊥
IsListedAt ops n (Some x) = (a : Operation) × IsListed ops a × (a.call ≡ n) × (x ≡ entry_of ops a)

-- the operations in their order, each with the last call up to it; n is that of those before
abbrev pub entries_placed : ℕ → List Entry → List Placed
entries_placed n [] = []
entries_placed n (x ∷ entries) =
    record { oper = x.oper; point = max n x.call } ∷ entries_placed (max n x.call) entries

-- the operations of the entries in the order of their places, each with its point
abbrev pub IsRanking : List Entry → List Placed → Type 0
IsRanking entries answer =
    (sorted : List Entry) × IsPermutation entries sorted × AllPairs ComesFirst sorted
    × (answer ≡ entries_placed 0 sorted)
