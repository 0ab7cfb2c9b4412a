-- Paths of edges by their numbers.
use Rattle.std.proofs.Common.{ℕ, List, [], ◌∷◌, ◌++◌, sym, ◌∙◌, subst}
use Rattle.reg_levels.specs.OrderGraph.Graph.{IsEdgeOf, IsPath}
use Rattle.reg_levels.specs.declared.order_graph.edge.Edge.{Edge}

-- a path and an edge behind it
pub path-push : (edges : List Edge) (a : ℕ) (path : List ℕ) (b c k : ℕ) → IsPath edges a path b
    → IsEdgeOf edges b c k → IsPath edges a (path ++ k ∷ []) c
path-push edges a [] b c k p e = (e.0, e.1, e.2 ∙ sym p, e.3)
path-push edges a (j ∷ path) b c k p e = (p.0, p.1, p.2, path-push edges p.0.to path b c k p.3 e)

-- two paths, one behind the other
pub path-append : (edges : List Edge) (a : ℕ) (path : List ℕ) (b : ℕ) (more : List ℕ) (c : ℕ)
    → IsPath edges a path b → IsPath edges b more c → IsPath edges a (path ++ more) c
path-append edges a [] b more c p q = subst (λ x. IsPath edges x more c) (sym p) q
path-append edges a (j ∷ path) b more c p q = (p.0, p.1, p.2, path-append edges p.0.to path b more c p.3 q)
