-- The lists of the edges by the nodes at which they end.
use Rattle.std.specs.Prelude.{◌≡◌, ℕ, suc, ◌<◌, ◌≤◌, List, length, slice_get, Some}
use Rattle.reg_levels.specs.declared.order_graph.edge.Edge.{Edge}
use Rattle.reg_levels.specs.declared.order_graph.incoming.Incoming.{Incoming}

-- the number plus 1 of the last edge below number m that ends at node v, or 0 if none does
pub record IsNextEdge (edges : List Edge) (v m number : ℕ) : Type 0 where
  pub within : number ≤ m
  pub ends : (k : ℕ) (e : Edge) → number ≡ suc k → slice_get edges k ≡ Some e → e.to ≡ v
  pub last : (k : ℕ) (e : Edge) → number ≤ k → k < m → slice_get edges k ≡ Some e → e.to ≡ v → ⊥

-- the list of each node begins with its last edge, and each edge is followed by the last one before it
pub record AreLists (nodes : ℕ) (edges : List Edge) (m : ℕ) (first next : List ℕ) : Type 0 where
  pub heads : length first ≡ nodes
  pub entries : length next ≡ m
  pub firsts : (v number : ℕ) → slice_get first v ≡ Some number → IsNextEdge edges v m number
  pub nexts : (k number : ℕ) (e : Edge) → slice_get next k ≡ Some number → slice_get edges k ≡ Some e
      → IsNextEdge edges e.to k number

-- the lists of all edges
abbrev pub AreIncoming : ℕ → List Edge → Incoming → Type 0
AreIncoming nodes edges incoming = AreLists nodes edges (length edges) incoming.first.items
    incoming.next.items
