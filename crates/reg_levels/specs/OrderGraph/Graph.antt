-- Orders and cycles of a graph, whose nodes are the numbers below a count (Kahn, Topological Sorting of Large
-- Networks, Communications of the ACM, 1962).
use Rattle.std.specs.Prelude.{◌≡◌, ℕ, suc, ◌-◌, ◌<◌, List, [], ◌∷◌, length, slice_get, Some, All, Contains}
use Rattle.reg_levels.specs.declared.order_graph.edge.Edge.{Edge}
use Rattle.reg_levels.specs.declared.order_graph.sorting.Sorted.{Sorted}
use Rattle.reg_levels.specs.declared.order_graph.sorting.Sorted.TheVariants.{Order, Cycle}

-- all edges join nodes below a count
abbrev pub AreAmong : ℕ → List Edge → Type 0
AreAmong nodes edges = All (λ e. (e.from < nodes) × (e.to < nodes)) edges

-- an edge leads from a to b
abbrev pub HasEdge : List Edge → ℕ → ℕ → Type 0
HasEdge edges a b = Contains edges (record { from = a; to = b })

-- each node stands once in the order, nothing else does, and each edge leads from a node to a later one
pub record IsForwardOrder (nodes : ℕ) (edges : List Edge) (order : List ℕ) : Type 0 where
  pub all : (v : ℕ) → v < nodes → (i : ℕ) × (slice_get order i ≡ Some v)
  pub only : (i v : ℕ) → slice_get order i ≡ Some v → v < nodes
  pub once : (i j v : ℕ) → slice_get order i ≡ Some v → slice_get order j ≡ Some v → i ≡ j
  pub forward : (i j v w : ℕ) → slice_get order i ≡ Some v → slice_get order j ≡ Some w → HasEdge edges v w
      → i < j

-- there is a node, an edge leads from each to the next, and one from the last to the first
pub record IsNodeCycle (edges : List Edge) (cycle : List ℕ) : Type 0 where
  pub some : 0 < length cycle
  pub steps : (i v w : ℕ) → slice_get cycle i ≡ Some v → slice_get cycle (suc i) ≡ Some w → HasEdge edges v w
  pub closes : (v w : ℕ) → slice_get cycle (length cycle - 1) ≡ Some v → slice_get cycle 0 ≡ Some w
      → HasEdge edges v w

-- the edge of this number leads from a to b
abbrev pub IsEdgeOf : List Edge → ℕ → ℕ → ℕ → Type 0
IsEdgeOf edges a b k = (e : Edge) × (slice_get edges k ≡ Some e) × (e.from ≡ a) × (e.to ≡ b)

-- the edges of these numbers lead from a to b, each from where the one before it ends
abbrev pub IsPath : List Edge → ℕ → List ℕ → ℕ → Type 0
IsPath edges a [] b = a ≡ b
IsPath edges a (k ∷ path) b =
    (e : Edge) × (slice_get edges k ≡ Some e) × (e.from ≡ a) × IsPath edges e.to path b

-- a path of at least one edge from a node back to it
abbrev pub IsEdgeCycle : List Edge → List ℕ → Type 0
IsEdgeCycle edges cycle = (0 < length cycle) × ((a : ℕ) × IsPath edges a cycle a)

-- the order goes forward, or the cycle is one
abbrev pub IsSorted : ℕ → List Edge → Sorted → Type 0
IsSorted nodes edges (Order order) = IsForwardOrder nodes edges order.items
IsSorted nodes edges (Cycle cycle) = IsEdgeCycle edges cycle.items
