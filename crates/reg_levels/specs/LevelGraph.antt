-- The graph of a guarantee over the clusters of a register's operations, `ops`. Its nodes are the numbers
-- of the
-- clusters, and for real time as many more, one for the call of each cluster's write, which form a chain.
use Rattle.std.specs.Prelude.{◌≡◌, ◌⊎◌, ℕ, suc, ◌+◌, ◌<◌, ◌≤◌, List, [], ◌∷◌, ◌++◌, length, slice_get, Bool}
use Rattle.std.specs.Prelude.{true, false}
use Rattle.std.specs.Prelude.{Option, Some, None}
use Rattle.history_model.specs.Legal.{MustKeep}
use Rattle.history_model.specs.declared.guarantee.Guarantee.{Guarantee}
use Rattle.history_model.specs.declared.operation.Operation.{Operation}
use Rattle.reg_levels.specs.OrderGraph.Graph.{IsPath}
use Rattle.reg_levels.specs.declared.order_graph.edge.Edge.{Edge}
use Rattle.reg_levels.specs.Clusters.Places.{IsAt}
use Rattle.reg_levels.specs.declared.clusters.table.ClusterEnds.{ClusterEnds}
use Rattle.reg_levels.specs.Levels.{is_lasting, keeps_time}
use Rattle.reg_levels.specs.declared.graph.LevelGraph.{LevelGraph}
use Rattle.reg_levels.specs.declared.graph.PlacePair.{PlacePair}
use Rattle.reg_levels.specs.declared.decision.Step.{Step}
use Rattle.level_laws.specs.Leads.{LeadsTo}

-- the calls of the clusters' writes
pub record AreWriteCalls (ops : List Operation) (clusters : List ClusterEnds) (calls : List ℕ) : Type 0 where
  pub count : length calls ≡ length clusters
  pub each : (k : ℕ) (c : ClusterEnds) (w : Operation) → slice_get clusters k ≡ Some c → IsAt ops c.write w
      → slice_get calls k ≡ Some w.call

-- the operation at place `before`, of cluster x, must come before that at place `after`, of another
-- cluster, y
pub record IsJoin (guarantee : Guarantee) (ops : List Operation) (numbers : List (Option ℕ)) (x y : ℕ)
    (pair : PlacePair) : Type 0 where
  pub earlier : Operation
  pub later : Operation
  pub at_earlier : IsAt ops pair.before earlier
  pub at_later : IsAt ops pair.after later
  pub of_x : slice_get numbers pair.before ≡ Some (Some x)
  pub of_y : slice_get numbers pair.after ≡ Some (Some y)
  pub differ : x ≡ y → ⊥
  pub must : MustKeep guarantee earlier later

-- an edge from a cluster into the chain, at a write that is called after the cluster's first reply
pub record IsChainEntry (clusters : List ClusterEnds) (calls : List ℕ) (e : Edge) : Type 0 where
  pub cluster : ClusterEnds
  pub at : slice_get clusters e.from ≡ Some cluster
  pub place : ℕ
  pub to : e.to ≡ length clusters + place
  pub call : ℕ
  pub at_call : slice_get calls place ≡ Some call
  pub after : cluster.first_reply < call

-- an edge along the chain
pub record IsAlong (clusters : List ClusterEnds) (e : Edge) : Type 0 where
  pub place : ℕ
  pub from : e.from ≡ length clusters + place
  pub to : e.to ≡ length clusters + suc place
  pub within : suc place < length clusters

-- an edge from the chain to the cluster of the write
pub record IsExit (clusters : List ClusterEnds) (e : Edge) : Type 0 where
  pub from : e.from ≡ length clusters + e.to
  pub within : e.to < length clusters

-- an edge of the graph, with the pair behind it if it joins two clusters
abbrev pub IsLevelEdge : Guarantee → List Operation → List ClusterEnds → List (Option ℕ) → List ℕ → Edge →
    PlacePair
    → Type 0
IsLevelEdge guarantee ops clusters numbers calls e pair =
    IsJoin guarantee ops numbers e.from e.to pair
    ⊎ ((keeps_time guarantee ≡ true) × (IsChainEntry clusters calls e ⊎ (IsAlong clusters e ⊎ IsExit
    clusters e)))

-- each edge is one of the graph's
pub record IsLevelGraph (guarantee : Guarantee) (ops : List Operation) (clusters : List ClusterEnds)
    (numbers : List (Option ℕ)) (calls : List ℕ) (graph : LevelGraph) : Type 0 where
  pub count : length graph.pairs.items ≡ length graph.edges.items
  pub each : (k : ℕ) (e : Edge) (pair : PlacePair) → slice_get graph.edges.items k ≡ Some e
      → slice_get graph.pairs.items k ≡ Some pair → IsLevelEdge guarantee ops clusters numbers calls e pair

-- each edge of the old graph is there, by the same number
abbrev pub Extends : List Edge → List Edge → Type 0
Extends old new = (k : ℕ) (e : Edge) → slice_get old k ≡ Some e → slice_get new k ≡ Some e

-- a path of edges leads from x to y
abbrev pub Reaches : List Edge → ℕ → ℕ → Type 0
Reaches edges x y = (path : List ℕ) × IsPath edges x path y

-- from the cluster of an operation that nobody called each cluster is reached
abbrev pub InitialReaches : List Operation → List (Option ℕ) → ℕ → List Edge → Type 0
InitialReaches ops numbers many edges = (p x : ℕ) (a : Operation) → IsAt ops p a → a.process ≡ None
    → slice_get numbers p ≡ Some (Some x) → (y : ℕ) → y < many → Reaches edges x y

-- the operation at place p is one of session q that all later ones of the session must come after, in
-- cluster x
pub record IsLasting (guarantee : Guarantee) (ops : List Operation) (numbers : List (Option ℕ)) (q p x : ℕ)
    : Type 0 where
  pub operation : Operation
  pub at : IsAt ops p operation
  pub session : operation.process ≡ Some q
  pub number : slice_get numbers p ≡ Some (Some x)
  pub lasting : is_lasting guarantee operation ≡ true

-- of the places below n, p is the last of session q that later operations of it must come after, if there
-- is one
abbrev pub IsLatestOf : Guarantee → List Operation → List (Option ℕ) → ℕ → ℕ → Option ℕ → Type 0
IsLatestOf guarantee ops numbers q n None =
    (p x : ℕ) → p < n → IsLasting guarantee ops numbers q p x → ⊥
IsLatestOf guarantee ops numbers q n (Some p) = (p < n) × ((x : ℕ) × IsLasting guarantee ops numbers q p x)
    × ((r x : ℕ) → p < r → r < n → IsLasting guarantee ops numbers q r x → ⊥)

-- the operation at place p, in cluster y, is called by session q
pub record IsInSession (ops : List Operation) (numbers : List (Option ℕ)) (q p y : ℕ) : Type 0 where
  pub operation : Operation
  pub at : IsAt ops p operation
  pub session : operation.process ≡ Some q
  pub number : slice_get numbers p ≡ Some (Some y)

-- from the cluster of each operation those of the later ones of its session below place n are reached
abbrev pub SessionsReach : Guarantee → List Operation → List (Option ℕ) → ℕ → List Edge → Type 0
SessionsReach guarantee ops numbers n edges = (q p r x y : ℕ) → p < r → r < n
    → IsLasting guarantee ops numbers q p x → IsInSession ops numbers q r y → Reaches edges x y

-- from each cluster those are reached whose writes are called after its first reply
abbrev pub TimesReach : List ClusterEnds → List ℕ → List Edge → Type 0
TimesReach clusters calls edges = (x y n : ℕ) (c : ClusterEnds) → slice_get clusters x ≡ Some c
    → slice_get calls y ≡ Some n → c.first_reply < n → Reaches edges x y

-- the edge stands behind those of the old graph, with its pair
pub record Joins (edge : Edge) (pair : PlacePair) (old new : LevelGraph) : Type 0 where
  pub edges : new.edges.items ≡ old.edges.items ++ edge ∷ []
  pub pairs : new.pairs.items ≡ old.pairs.items ++ pair ∷ []

-- nothing is added
pub record IsSameGraph (old new : LevelGraph) : Type 0 where
  pub edges : new.edges.items ≡ old.edges.items
  pub pairs : new.pairs.items ≡ old.pairs.items

-- the edge is added if it is wanted
abbrev pub JoinsIf : Bool → Edge → PlacePair → LevelGraph → LevelGraph → Type 0
JoinsIf true edge pair old new = Joins edge pair old new
JoinsIf false edge pair old new = IsSameGraph old new

-- of `many` calls, from each in the chain the next one and the cluster of its write are reached
pub record ChainReaches (many : ℕ) (edges : List Edge) : Type 0 where
  pub along : (i : ℕ) → suc i < many → Reaches edges (many + i) (many + suc i)
  pub exits : (i : ℕ) → i < many → Reaches edges (many + i) i

-- from each cluster a call of the chain is reached that is no later than any after the cluster's first reply
abbrev pub EntriesReach : List ClusterEnds → List ℕ → List Edge → Type 0
EntriesReach clusters calls edges = (x y n : ℕ) (c : ClusterEnds) → slice_get clusters x ≡ Some c
    → slice_get calls y ≡ Some n → c.first_reply < n
    → (i : ℕ) × (i ≤ y) × Reaches edges x (length clusters + i)

-- an edge joins the clusters of the earlier operation and of that at a place, or they are one, or one has
-- none
abbrev pub JoinsNext : List (Option ℕ) → Option ℕ → ℕ → LevelGraph → LevelGraph → Type 0
JoinsNext numbers earlier place old new =
    (IsSameGraph old new × ((p x y : ℕ) → earlier ≡ Some p → slice_get numbers p ≡ Some (Some x)
    → slice_get numbers place ≡ Some (Some y) → x ≡ y))
    ⊎ ((p : ℕ) × (x : ℕ) × (y : ℕ) × (earlier ≡ Some p) × (slice_get numbers p ≡ Some (Some x))
    × (slice_get numbers place ≡ Some (Some y)) × (x ≡ y → ⊥)
    × Joins (record { from = x; to = y }) (record { before = p; after = place }) old new)

-- the edges lead from a cluster back to it
abbrev pub IsTurnedCycle : List Edge → ℕ → List ℕ → Type 0
IsTurnedCycle edges many cycle = (0 < length cycle) × ((a : ℕ) × (a < many) × IsPath edges a cycle a)

-- the step of an edge that ends at a cluster, by its pair if it joins two clusters; else from the first
-- reply of
-- the cluster that was left last to the write of that where it ends
pub record IsStepBy (clusters : List ClusterEnds) (graph : LevelGraph) (number from : ℕ) (step : Step) :
    Type 0 where
  pub edge : Edge
  pub at_edge : slice_get graph.edges.items number ≡ Some edge
  pub pair : PlacePair
  pub at_pair : slice_get graph.pairs.items number ≡ Some pair
  pub left : ClusterEnds
  pub at_left : slice_get clusters from ≡ Some left
  pub joins : edge.from < length clusters → step ≡ record {
    write = left.write;
    before = pair.before;
    after
        = pair.after;
  }
  pub leaves : length clusters ≤ edge.from → (next : ClusterEnds) × (slice_get clusters edge.to ≡ Some next)
      × (step ≡ record { write = left.write; before = left.first; after = next.write })

-- v is the write of the cluster of a number
abbrev pub IsClusterWrite : List Operation → List ClusterEnds → ℕ → Operation → Type 0
IsClusterWrite ops clusters x v = (c : ClusterEnds) × (slice_get clusters x ≡ Some c) × IsAt ops c.write v

-- each edge is one of the graph's, and each cluster is reached from those that lead to it
pub record IsWholeGraph (guarantee : Guarantee) (ops : List Operation) (clusters : List ClusterEnds)
    (numbers : List (Option ℕ)) (graph : LevelGraph) : Type 0 where
  pub calls : List ℕ
  pub are_calls : AreWriteCalls ops clusters calls
  pub sound : IsLevelGraph guarantee ops clusters numbers calls graph
  pub whole : (v w : Operation) (x y : ℕ) → LeadsTo guarantee ops v w → IsClusterWrite ops clusters x v
      → IsClusterWrite ops clusters y w → Reaches graph.edges.items x y
