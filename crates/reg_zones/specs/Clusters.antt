-- Clusters of a register's operations, `ops`, their zones, and which zones conflict (Gibbons and Korach,
-- Testing Shared Memories, SIAM Journal on Computing, 1997, section 3).
use Rattle.std.specs.Prelude.{◌≡◌, ℕ, ◌<◌, ◌≤◌, ◌&&◌, ◌||◌, ◌⊎◌, min, max, map, Bool, List, [], ◌∷◌, Option}
use Rattle.std.specs.List.{filter}
use Rattle.history_text.specs.declared.event.Val.{Val}
use Rattle.history_text.specs.Values.{same_value}
use Rattle.history_model.specs.Lists.{In}
use Rattle.history_model.specs.Operations.{IsWrite, IsCompleted, IsReadOf, is_write, value_of}
use Rattle.history_model.specs.declared.operation.Operation.{Operation}

-- a write that is initial or completed, or pending with a completed read of its
-- value (the initial write counts as completed)
pub record IsKept (ops : List Operation) (w : Operation) : Type 0 where
  pub within : In w ops
  pub write : IsWrite w
  pub kept : IsCompleted w ⊎ ((r : Operation) × In r ops × IsReadOf w r)

-- ---- clusters

-- an operation of the cluster of a value: its write, or a completed read of it
pub record IsInCluster (ops : List Operation) (v : Option Val) (a : Operation) : Type 0 where
  pub within : In a ops
  pub value : (value_of a) ≡ v
  pub counts : IsWrite a ⊎ IsCompleted a

-- the same as a test
abbrev pub is_member : Option Val → Operation → Bool
is_member v a = same_value (value_of a) v && (is_write a || a.completed)

-- the cluster of a value: its write with all completed reads of it
abbrev pub cluster : List Operation → Option Val → List Operation
cluster ops v = filter (is_member v) ops

-- ---- zones

-- the least of a number and others
abbrev pub least_from : ℕ → List ℕ → ℕ
least_from n [] = n
least_from n (m ∷ ms) = min n (least_from m ms)

-- the least of some numbers; 0 of none
abbrev pub least : List ℕ → ℕ
least [] = 0
least (n ∷ ns) = least_from n ns

-- the greatest of some numbers; 0 of none
abbrev pub greatest : List ℕ → ℕ
greatest [] = 0
greatest (n ∷ ns) = max n (greatest ns)

-- the first reply of the cluster of a value
abbrev pub first_reply : List Operation → Option Val → ℕ
first_reply ops v = least (map (λ a. a.reply) (cluster ops v))

-- its last call
abbrev pub last_call : List Operation → Option Val → ℕ
last_call ops v = greatest (map (λ a. a.call) (cluster ops v))

-- the low end of its zone: the lesser of the two
abbrev pub low_end : List Operation → Option Val → ℕ
low_end ops v = min (first_reply ops v) (last_call ops v)

-- a zone is forward where all of its cluster can't happen at one moment: some reply comes before some call
abbrev pub IsForward : List Operation → Option Val → Type 0
IsForward ops v = first_reply ops v < last_call ops v

-- the operation of the cluster of a value that replies first
pub record HasFirstReply (ops : List Operation) (v : Option Val) (a : Operation) : Type 0 where
  pub member : IsInCluster ops v a
  pub least : a.reply ≡ first_reply ops v

-- and the one called last
pub record HasLastCall (ops : List Operation) (v : Option Val) (a : Operation) : Type 0 where
  pub member : IsInCluster ops v a
  pub greatest : a.call ≡ last_call ops v

-- ---- conflicts

-- two kept writes of different clusters whose zones conflict: some operation
-- of each cluster precedes one of the other
pub record IsConflict (ops : List Operation) (v w : Operation) : Type 0 where
  pub left : IsKept ops v
  pub right : IsKept ops w
  pub differ : (value_of v) ≡ value_of w → ⊥
  pub one : first_reply ops (value_of v) < last_call ops (value_of w)
  pub other : first_reply ops (value_of w) < last_call ops (value_of v)

-- no two conflicting zones have their low ends below n
abbrev pub IsClearBelow : List Operation → ℕ → Type 0
IsClearBelow ops n =
    (v w : Operation) → IsConflict ops v w → low_end ops (value_of v) < low_end ops (value_of w)
    → low_end ops (value_of w) < n → ⊥

-- the conflicting pair whose second low end is least, the first below the second
pub record IsFirstConflict (ops : List Operation) (v w : Operation) : Type 0 where
  pub conflict : IsConflict ops v w
  pub order : low_end ops (value_of v) < low_end ops (value_of w)
  pub first : IsClearBelow ops (low_end ops (value_of w))

-- of the kept writes whose zones are forward and have their low ends below n, v has the greatest low end
pub record IsLastForward (ops : List Operation) (v : Operation) (n : ℕ) : Type 0 where
  pub kept : IsKept ops v
  pub forward : IsForward ops (value_of v)
  pub below : low_end ops (value_of v) < n
  pub last : (u : Operation) → IsKept ops u → IsForward ops (value_of u) → low_end ops (value_of u) < n
      → low_end ops (value_of u) ≤ low_end ops (value_of v)
