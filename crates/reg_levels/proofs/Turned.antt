-- A cycle begun with another of its edges.
use Rattle.std.proofs.Common.{◌≡◌, ℕ, zero, suc, ◌<◌, List, [], ◌∷◌, ◌++◌, length, slice_get, take, drop}
use Rattle.std.proofs.Common.{Some}
use Rattle.std.proofs.Common.{refl, sym, ap, ◌∙◌, subst, arith}
use Rattle.std.proofs.lemmas.List.{length-append, length-drop}
use Rattle.std.proofs.lemmas.Option.{slice_get_within}
use Rattle.reg_levels.proofs.OrderGraphLemmas.Paths.{path-append}
use Rattle.reg_levels.specs.OrderGraph.Graph.{IsPath}
use Rattle.reg_levels.specs.declared.order_graph.edge.Edge.{Edge}
use Rattle.reg_levels.specs.LevelGraph.{IsTurnedCycle}

-- the edges of a path are there
pub path_within : (edges : List Edge) (a : ℕ) (path : List ℕ) (b i k : ℕ) → IsPath edges a path b
    → slice_get path i ≡ Some k → (e : Edge) × (slice_get edges k ≡ Some e)
path_within edges a [] b i k p at = absurd (cc at)
path_within edges a (j ∷ path) b zero k p at =
    (p.0, subst (λ n. slice_get edges n ≡ Some p.0) (let e : j ≡ k = cc at in e) p.1)
path_within edges a (j ∷ path) b (suc i) k p at = path_within edges p.0.to path b i k p.3 at

-- a path in two parts, of which the second begins with the edge at a place
pub path_split : (edges : List Edge) (a : ℕ) (path : List ℕ) (b i k : ℕ) → IsPath edges a path b
    → slice_get path i ≡ Some k
    → (e : Edge) × (slice_get edges k ≡ Some e) × IsPath edges a (take i path) e.from
    × IsPath edges e.from (drop i path) b
path_split edges a [] b i k p at = absurd (cc at)
path_split edges a (j ∷ path) b zero k p at = (
  p.0,
  subst (λ n. slice_get edges n ≡ Some p.0) (let e : j ≡ k = cc at in e) p.1,
  sym p.2,
  (
    p.0,
    p.1,
    refl,
    p.3,
  ),
)
path_split edges a (j ∷ path) b (suc i) k p at =
    let r = path_split edges p.0.to path b i k p.3 at in (r.0, r.1, (p.0, p.1, p.2, r.2), r.3)

pub turned_is : (edges : List Edge) (many a : ℕ) (cycle turned : List ℕ) (i k : ℕ) (e : Edge) → IsPath edges
    a cycle a
    → slice_get cycle i ≡ Some k → slice_get edges k ≡ Some e → e.from < many
    → turned ≡ drop i cycle ++ take i cycle → IsTurnedCycle edges many turned
turned_is edges many a cycle turned i k e p at there from is =
    let s = path_split edges a cycle a i k p at in
    let same : s.0 ≡ e = let z = sym s.1 ∙ there in cc z in (
      omega (
        arith,
        ap length is,
        length-append (drop i cycle) (take i cycle),
        length-drop i cycle,
        slice_get_within cycle i k at,
      ),
      (
        s.0.from,
        subst (λ (x : Edge). x.from < many) (sym same) from,
        subst (λ xs. IsPath edges s.0.from xs s.0.from) (sym is)
            (path-append edges s.0.from (drop i cycle) a (take i cycle) s.0.from s.3 s.2),
      ),
    )
