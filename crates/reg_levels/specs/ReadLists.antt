-- The lists of the reads of each cluster of a register's operations, `ops`.
use Rattle.std.specs.Prelude.{◌≡◌, ℕ, suc, ◌<◌, ◌≤◌, ◌^◌, List, length, drop, slice_get, Option, Some, true}
use Rattle.std.specs.Prelude.{false}
use Rattle.std.specs.List.{filter}
use Rattle.history_model.specs.Operations.{is_write}
use Rattle.history_model.specs.declared.operation.Operation.{Operation}
use Rattle.level_laws.specs.WriteOrders.{is_read_of}
use Rattle.reg_levels.specs.Clusters.Places.{IsAt}
use Rattle.reg_levels.specs.declared.clusters.table.ClusterEnds.{ClusterEnds}
use Rattle.reg_levels.specs.LevelGraph.{IsClusterWrite}

-- the operation at place p is no write, and k is the number of its cluster
pub record IsReadNumber (ops : List Operation) (numbers : List (Option ℕ)) (p k : ℕ) : Type 0 where
  pub operation : Operation
  pub at : IsAt ops p operation
  pub read : is_write operation ≡ false
  pub number : slice_get numbers p ≡ Some (Some k)

-- q is the place of the first completed read of w's value from place p on, or the number of all operations
pub record IsFirstRead (ops : List Operation) (w : Operation) (p q : ℕ) : Type 0 where
  pub from : p ≤ q
  pub within : q ≤ length ops
  pub same : filter (is_read_of w) (drop p ops) ≡ filter (is_read_of w) (drop q ops)
  pub is : (a : Operation) → IsAt ops q a → is_read_of w a ≡ true

-- each list goes on to later places, up to its end
pub record GoAhead (first next : List ℕ) : Type 0 where
  pub firsts : (k q : ℕ) → slice_get first k ≡ Some q → q ≤ length next
  pub nexts : (r q : ℕ) → slice_get next r ≡ Some q → (r < q) × (q ≤ length next)
  pub few : length next < 2 ^ 32

-- the lists of the reads from place p on
pub record AreReadLists (ops : List Operation) (clusters : List ClusterEnds) (p : ℕ) (first next : List ℕ)
    : Type 0 where
  pub heads : length first ≡ length clusters
  pub entries : length next ≡ length ops
  pub ahead : GoAhead first next
  pub firsts : (k q : ℕ) (w : Operation) → IsClusterWrite ops clusters k w → slice_get first k ≡ Some q
      → IsFirstRead ops w p q
  pub nexts : (r q k : ℕ) (a w : Operation) → p ≤ r → slice_get next r ≡ Some q → IsAt ops r a
      → IsClusterWrite ops clusters k w → is_read_of w a ≡ true → IsFirstRead ops w (suc r) q
