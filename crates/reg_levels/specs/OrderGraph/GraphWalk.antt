-- A walk back along the edges: what its marks, its path and its placed nodes say.
use Rattle.std.specs.Prelude.{◌≡◌, ℕ, suc, ◌+◌, ◌*◌, ◌<◌, ◌≤◌, ◌⊎◌, List, [], ◌∷◌, ◌++◌, length, sum}
use Rattle.std.specs.Prelude.{slice_get, slice_set, Some}
use Rattle.reg_levels.specs.OrderGraph.Graph.{HasEdge}
use Rattle.reg_levels.specs.declared.order_graph.edge.Edge.{Edge}
use Rattle.reg_levels.specs.declared.order_graph.walk.NodeMark.{NodeMark}
use Rattle.reg_levels.specs.declared.order_graph.walk.NodeMark.TheVariants.{New, Open, Done}
use Rattle.reg_levels.specs.declared.order_graph.walk.GraphWalk.{GraphWalk}

-- the number plus 1 of an edge that ends at node v, or 0
pub record EndsAt (edges : List Edge) (v number : ℕ) : Type 0 where
  pub within : number ≤ length edges
  pub ends : (k : ℕ) (e : Edge) → number ≡ suc k → slice_get edges k ≡ Some e → e.to ≡ v

-- u is placed, or stands behind v on the path
abbrev pub IsEdgeFollowed : List NodeMark → List ℕ → ℕ → ℕ → Type 0
IsEdgeFollowed marks path v u =
    (slice_get marks u ≡ Some Done)
    ⊎ ((i : ℕ) × (j : ℕ) × (i < j) × (slice_get path i ≡ Some v) × (slice_get path j ≡ Some u))

-- Open nodes are those on the path, done nodes those that are placed, each once. An edge that was followed
-- leads from a node that is placed or stands behind its own on the path.
pub record IsWalked (edges : List Edge) (ahead : List ℕ) (marks : List NodeMark) (path placed : List ℕ) :
    Type 0 where
  pub sizes : length ahead ≡ length marks
  pub numbers : (v number : ℕ) → slice_get ahead v ≡ Some number → EndsAt edges v number
  pub followed : (v number k : ℕ) (e : Edge) → slice_get ahead v ≡ Some number → number ≤ k
      → slice_get edges k ≡ Some e → e.to ≡ v → IsEdgeFollowed marks path v e.from
  pub opened : (v : ℕ) → slice_get marks v ≡ Some Open → (i : ℕ) × (slice_get path i ≡ Some v)
  pub on_path : (i v : ℕ) → slice_get path i ≡ Some v → slice_get marks v ≡ Some Open
  pub path_once : (i j v : ℕ) → slice_get path i ≡ Some v → slice_get path j ≡ Some v → i ≡ j
  pub path_leads : (i v u : ℕ) → slice_get path i ≡ Some v → slice_get path (suc i) ≡ Some u → HasEdge edges
      u v
  pub done : (v : ℕ) → slice_get marks v ≡ Some Done → (i : ℕ) × (slice_get placed i ≡ Some v)
  pub in_placed : (i v : ℕ) → slice_get placed i ≡ Some v → slice_get marks v ≡ Some Done
  pub placed_once : (i j v : ℕ) → slice_get placed i ≡ Some v → slice_get placed j ≡ Some v → i ≡ j
  pub forward : (j u v : ℕ) → slice_get placed j ≡ Some v → HasEdge edges u v
      → (i : ℕ) × (i < j) × (slice_get placed i ≡ Some u)

abbrev pub IsGraphWalk : List Edge → GraphWalk → Type 0
IsGraphWalk edges walk = IsWalked edges walk.ahead.items walk.marks.items walk.path.items walk.placed.items

-- what is left: a bound on the steps to the end of the path
abbrev pub work_left : GraphWalk → ℕ
work_left walk = 2 * sum walk.ahead.items + length walk.path.items

-- an edge leads from node v to the end of the path, if there is one
abbrev pub IsBehind : List Edge → ℕ → List ℕ → Type 0
IsBehind edges v path = (i u : ℕ) → suc i ≡ length path → slice_get path i ≡ Some u → HasEdge edges v u

-- node v, which was new, is put at the end of the path
pub record Opens (v : ℕ) (old new : GraphWalk) : Type 0 where
  pub was : slice_get old.marks.items v ≡ Some New
  pub marks : new.marks.items ≡ slice_set old.marks.items v Open
  pub path : new.path.items ≡ old.path.items ++ v ∷ []
  pub ahead : new.ahead.items ≡ old.ahead.items
  pub placed : new.placed.items ≡ old.placed.items

-- nothing changes
pub record Stays (old new : GraphWalk) : Type 0 where
  pub marks : new.marks.items ≡ old.marks.items
  pub path : new.path.items ≡ old.path.items
  pub ahead : new.ahead.items ≡ old.ahead.items
  pub placed : new.placed.items ≡ old.placed.items

-- node v is on the path, unless it was placed before
abbrev pub Enters : ℕ → GraphWalk → GraphWalk → Type 0
Enters v old new = Opens v old new ⊎ (Stays old new × (slice_get old.marks.items v ≡ Some Done))

-- the end of the path is placed
pub record Closes (v : ℕ) (old new : GraphWalk) : Type 0 where
  pub path : old.path.items ≡ new.path.items ++ v ∷ []
  pub marks : new.marks.items ≡ slice_set old.marks.items v Done
  pub ahead : new.ahead.items ≡ old.ahead.items
  pub placed : new.placed.items ≡ old.placed.items ++ v ∷ []

-- there are as many marks, and what was met stays so
pub record KeepsMet (old new : GraphWalk) : Type 0 where
  pub sizes : length new.marks.items ≡ length old.marks.items
  pub met : (v : ℕ) → slice_get new.marks.items v ≡ Some New → slice_get old.marks.items v ≡ Some New

-- node v stands on the path, and an edge leads from it to the path's end
pub record IsRound (edges : List Edge) (v : ℕ) (path : List ℕ) : Type 0 where
  pub there : (i : ℕ) × (slice_get path i ≡ Some v)
  pub behind : IsBehind edges v path
  pub leads : (i w u : ℕ) → slice_get path i ≡ Some w → slice_get path (suc i) ≡ Some u → HasEdge edges u w
