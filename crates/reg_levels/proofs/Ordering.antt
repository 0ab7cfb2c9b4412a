-- From the sorted graph to the order of the writes, and from a cycle of it to an edge at a cluster.
use Rattle.std.proofs.Common.{◌≡◌, ℕ, zero, suc, ◌+◌, ◌*◌, ◌<◌, ◌≤◌, List, [], ◌∷◌, length, slice_get}
use Rattle.std.proofs.Common.{get_or, Option, Some, None}
use Rattle.std.proofs.Common.{Bool, true, false, cond, ltb, ◌⊎◌, inl, inr, refl, sym, ap, ◌∙◌, subst, arith}
use Rattle.std.specs.List.{cons_option, filter, filter_map}
use Rattle.std.specs.Option.{option_and_then}
use Rattle.std.proofs.lemmas.Bool.{cases_lt, cases_order, ltb-false}
use Rattle.std.proofs.lemmas.Option.{get_or_from_slice_get, slice_get-get_or, slice_get_past}
use Rattle.std.proofs.lemmas.Option.{slice_get_within}
use Rattle.history_model.specs.Lists.{Before, In}
use Rattle.history_model.specs.Operations.{value_of}
use Rattle.history_model.specs.declared.guarantee.Guarantee.{Guarantee}
use Rattle.history_model.specs.declared.operation.Operation.{Operation}
use Rattle.level_laws.specs.WriteOrders.{IsWriteOrder}
use Rattle.reg_levels.proofs.OrderGraphLemmas.Places.{edge-at, place-inside, place-same}
use Rattle.reg_levels.specs.OrderGraph.Graph.{AreAmong, IsForwardOrder, IsPath}
use Rattle.reg_levels.specs.declared.order_graph.edge.Edge.{Edge}
use Rattle.reg_levels.specs.Clusters.Places.{IsAt, IsByCall}
use Rattle.reg_levels.specs.Clusters.Table.{IsClusterTable}
use Rattle.reg_levels.specs.declared.clusters.table.ClusterEnds.{ClusterEnds}
use Rattle.reg_zones.specs.Clusters.{IsKept}
use Rattle.reg_levels.specs.Decisions.{write_of_cluster, writes_of}
use Rattle.reg_levels.specs.LevelGraph.{IsLevelEdge, IsLevelGraph, IsWholeGraph, IsClusterWrite}
use Rattle.reg_levels.specs.declared.graph.LevelGraph.{LevelGraph}
use Rattle.reg_levels.specs.declared.graph.PlacePair.{PlacePair}
use Rattle.reg_levels.proofs.InTime.{number_below}
use Rattle.reg_levels.proofs.Numbering.{same_cluster}

-- ---- the nodes of the edges

edge-among : (g : Guarantee) (ops : List Operation) (clusters : List ClusterEnds) (numbers : List (Option ℕ))
    (calls : List ℕ) → IsClusterTable ops clusters numbers → length calls ≡ length clusters → (e : Edge)
    (pair : PlacePair)
    → IsLevelEdge g ops clusters numbers calls e pair → (e.from < 2 * length clusters) × (e.to < 2 * length
    clusters)
edge-among g ops clusters numbers calls t count e pair (inl j) =
    let x = number_below ops clusters numbers t pair.before e.from j.earlier j.at_earlier j.of_x in
    let y = number_below ops clusters numbers t pair.after e.to j.later j.at_later j.of_y in
    (omega (arith, x), omega (arith, y))
edge-among g ops clusters numbers calls t count e pair (inr (_, inl n)) = (
  omega (arith, slice_get_within clusters e.from n.cluster n.at),
  omega (arith, n.to, count, slice_get_within calls n.place n.call n.at_call),
)
edge-among g ops clusters numbers calls t count e pair (inr (_, inr (inl a))) =
    (omega (arith, a.from, a.within), omega (arith, a.to, a.within))
edge-among g ops clusters numbers calls t count e pair (inr (_, inr (inr x))) =
    (omega (arith, x.from, x.within), omega (arith, x.within))

pair-of : (g : Guarantee) (ops : List Operation) (clusters : List ClusterEnds) (numbers : List (Option ℕ))
    (calls : List ℕ) (graph : LevelGraph) → IsLevelGraph g ops clusters numbers calls graph → (k : ℕ) (e :
    Edge)
    → slice_get graph.edges.items k ≡ Some e → (pair : PlacePair) × IsLevelEdge g ops clusters numbers calls
    e pair
pair-of g ops clusters numbers calls graph h k e at =
    let p = place-inside graph.pairs.items k (omega (
      arith,
      h.count,
      slice_get_within graph.edges.items k e
          at,
    )) in
    (p.0, h.each k e p.0 at p.1)

pub graph_among : (g : Guarantee) (ops : List Operation) (clusters : List ClusterEnds) (numbers : List
    (Option ℕ))
    (calls : List ℕ) (graph : LevelGraph) → IsClusterTable ops clusters numbers → length calls ≡ length
    clusters
    → IsLevelGraph g ops clusters numbers calls graph → AreAmong (2 * length clusters) graph.edges.items
graph_among g ops clusters numbers calls graph t count h k d l =
    let p = pair-of g ops clusters numbers calls graph h k _ (slice_get-get_or graph.edges.items k d l) in
    edge-among g ops clusters numbers calls t count (get_or graph.edges.items k d) p.0 p.1

-- ---- lists that are mapped where there is something

filter_map-In-at : {A B : Type 0} (f : A → Option B) (x : A) (xs : List A) (b : B) (o : Option B) → f x ≡ o
    → In b (filter_map f (x ∷ xs))
    → (In b (filter_map f xs) → (i : ℕ) × (a : A) × (slice_get xs i ≡ Some a) × (f a ≡ Some b))
    → (i : ℕ) × (a : A) × (slice_get (x ∷ xs) i ≡ Some a) × (f a ≡ Some b)
filter_map-In-at f x xs b None e k rest =
    let r = rest (subst (λ o. In b (cons_option o (filter_map f xs))) e k) in (suc r.0, r.1, r.2, r.3)
filter_map-In-at f x xs b (Some y) e k rest = elim (subst (λ o. In b (cons_option o (filter_map f xs))) e k) [
  | inl q ↦ (0, x, refl, e ∙ ap Some (sym q))
  | inr m ↦ let r = rest m in (suc r.0, r.1, r.2, r.3)
]

pub filter_map-In : {A B : Type 0} (f : A → Option B) (xs : List A) (b : B) → In b (filter_map f xs)
    → (i : ℕ) × (a : A) × (slice_get xs i ≡ Some a) × (f a ≡ Some b)
filter_map-In f [] b h = absurd h
filter_map-In f (x ∷ xs) b h = filter_map-In-at f x xs b (f x) refl h (filter_map-In f xs b)

In-cons : {B : Type 0} (o : Option B) (b : B) (ys : List B) → In b ys → In b (cons_option o ys)
In-cons None b ys k = k
In-cons (Some y) b ys k = inr k

Before-cons : {B : Type 0} (o : Option B) (b c : B) (ys : List B) → Before b c ys → Before b c (cons_option
    o ys)
Before-cons None b c ys k = k
Before-cons (Some y) b c ys k = inr k

pub In-filter_map : {A B : Type 0} (f : A → Option B) (xs : List A) (i : ℕ) (a : A) (b : B) → slice_get xs i
    ≡ Some a
    → f a ≡ Some b → In b (filter_map f xs)
In-filter_map f [] i a b at e = absurd (cc at)
In-filter_map f (x ∷ xs) zero a b at e =
    let same : f x ≡ Some b = ap f (let q : x ≡ a = cc at in q) ∙ e in
    subst (λ o. In b (cons_option o (filter_map f xs))) (sym same) (inl refl)
In-filter_map f (x ∷ xs) (suc i) a b at e = In-cons (f x) b (filter_map f xs) (In-filter_map f xs i a b at e)

-- two places of a list, the first before the second, with what maps to b and to c
abbrev pub PlacesOf : {A B : Type 0} → (A → Option B) → List A → B → B → Type 0
PlacesOf {A} {B} f xs b c = (i : ℕ) × (j : ℕ) × (x : A) × (y : A) × (i < j) × (slice_get xs i ≡ Some x)
    × (slice_get xs j ≡ Some y) × (f x ≡ Some b) × (f y ≡ Some c)

filter_map-Before-at : {A B : Type 0} (f : A → Option B) (x : A) (xs : List A) (b c : B) (o : Option B) → f
    x ≡ o
    → Before b c (filter_map f (x ∷ xs)) → (Before b c (filter_map f xs) → PlacesOf f xs b c)
    → PlacesOf f (x ∷ xs) b c
filter_map-Before-at f x xs b c None e k rest =
    let r = rest (subst (λ o. Before b c (cons_option o (filter_map f xs))) e k) in
    (suc r.0, suc r.1, r.2, r.3, omega (arith, r.4), r.5, r.6, r.7, r.8)
filter_map-Before-at f x xs b c (Some y) e k rest = elim (subst (λ o. Before b c (cons_option o (filter_map
    f xs)))
    e k) [
      | inl m ↦ let r = filter_map-In f xs c m.1 in
          (0, suc r.0, x, r.1, omega arith, refl, r.2, e ∙ ap Some (sym m.0), r.3)
      | inr m ↦ let r = rest m in
          (suc r.0, suc r.1, r.2, r.3, omega (arith, r.4), r.5, r.6, r.7, r.8)
    ]

pub filter_map-Before : {A B : Type 0} (f : A → Option B) (xs : List A) (b c : B) → Before b c (filter_map f
    xs)
    → PlacesOf f xs b c
filter_map-Before f [] b c h = absurd h
filter_map-Before f (x ∷ xs) b c h = filter_map-Before-at f x xs b c (f x) refl h (filter_map-Before f xs b c)

pub Before-filter_map : {A B : Type 0} (f : A → Option B) (xs : List A) (i j : ℕ) (x y : A) (b c : B) → i < j
    → slice_get xs i ≡ Some x → slice_get xs j ≡ Some y → f x ≡ Some b → f y ≡ Some c → Before b c
    (filter_map f xs)
Before-filter_map f [] i j x y b c l at there p q = absurd (cc at)
Before-filter_map f (z ∷ xs) zero zero x y b c l at there p q = absurd (omega (arith, l))
Before-filter_map f (z ∷ xs) (suc i) zero x y b c l at there p q = absurd (omega (arith, l))
Before-filter_map f (z ∷ xs) zero (suc j) x y b c l at there p q =
    let same : f z ≡ Some b = ap f (let e : z ≡ x = cc at in e) ∙ p in
    subst (λ o. Before b c (cons_option o (filter_map f xs))) (sym same)
    (inl (refl, In-filter_map f xs j y c there q))
Before-filter_map f (z ∷ xs) (suc i) (suc j) x y b c l at there p q =
    Before-cons (f z) b c (filter_map f xs) (Before-filter_map f xs i j x y b c (omega (arith, l)) at there
    p q)

-- what maps to nothing may be left out
map-filtered : {A B : Type 0} (f : A → Option B) (p : A → Bool) → ((a : A) → p a ≡ false → f a ≡ None) → (xs
    : List A)
    → filter_map f (filter p xs) ≡ filter_map f xs
map-filtered f p none [] = refl
map-filtered f p none (x ∷ xs) = go (p x) refl (map-filtered f p none xs)
  where
    go : (b : Bool) → p x ≡ b → filter_map f (filter p xs) ≡ filter_map f xs
        → filter_map f (cond (p x) (x ∷ filter p xs) (filter p xs)) ≡ filter_map f (x ∷ xs)
    go true e rest =
        ap (λ r. filter_map f (cond r (x ∷ filter p xs) (filter p xs))) e ∙ ap (λ ys. cons_option (f x) ys)
        rest
    go false e rest =
        ap (λ r. filter_map f (cond r (x ∷ filter p xs) (filter p xs))) e
        ∙ (rest ∙ ap (λ o. cons_option o (filter_map f xs)) (sym (none x e)))

-- ---- the order of the writes

pub write-at : (ops : List Operation) (clusters : List ClusterEnds) (k : ℕ) (w : Operation)
    → write_of_cluster ops clusters k ≡ Some w → IsClusterWrite ops clusters k w
write-at ops clusters k w e = go (slice_get clusters k) refl
  where
    go : (o : Option ClusterEnds) → slice_get clusters k ≡ o → IsClusterWrite ops clusters k w
    go None q = absurd (let z = sym e ∙ ap (option_and_then (λ (c : ClusterEnds). slice_get ops c.write)) q
        in cc z)
    go (Some c) q = (c, q, sym (ap (option_and_then (λ (d : ClusterEnds). slice_get ops d.write)) q) ∙ e)

pub at-write : (ops : List Operation) (clusters : List ClusterEnds) (k : ℕ) (w : Operation) (c : ClusterEnds)
    → slice_get clusters k ≡ Some c → IsAt ops c.write w → write_of_cluster ops clusters k ≡ Some w
at-write ops clusters k w c at there =
    ap (option_and_then (λ (d : ClusterEnds). slice_get ops d.write)) at ∙ there

-- along a path no node stands before an earlier one
path_forward : (nodes : ℕ) (edges : List Edge) (order : List ℕ) → AreAmong nodes edges
    → IsForwardOrder nodes edges order → (x : ℕ) (path : List ℕ) (y : ℕ) → IsPath edges x path y → (i j : ℕ)
    → slice_get order i ≡ Some x → slice_get order j ≡ Some y → i ≤ j
path_forward nodes edges order among h x [] y p i j at there =
    omega (arith, h.once i j x at (subst (λ n. slice_get order j ≡ Some n) (sym p) there))
path_forward nodes edges order among h x (k ∷ path) y p i j at there =
    let e = p.0 in
    let l = slice_get_within edges k e p.1 in
    let below : e.to < nodes =
    subst (λ (z : Edge). z.to < nodes)
    (let q : get_or edges k e ≡ e = get_or_from_slice_get edges k e e p.1 in q)
    (among k e l).1 in
    let next = h.all e.to below in
    let step =
    h.forward i next.0 e.from e.to (subst (λ n. slice_get order i ≡ Some n) (sym p.2) at) next.1 (edge-at
    edges k e p.1) in
    let on = path_forward nodes edges order among h e.to path y p.3 next.0 j next.1 there in
    omega (arith, step, on)

pub order_writes : (g : Guarantee) (ops : List Operation) (clusters : List ClusterEnds) (numbers : List
    (Option ℕ))
    (graph : LevelGraph) (order kept : List ℕ) → IsByCall ops → IsClusterTable ops clusters numbers
    → IsWholeGraph g ops clusters numbers graph
    → IsForwardOrder (2 * length clusters) graph.edges.items order
    → kept ≡ filter (λ k. ltb k (length clusters)) order → IsWriteOrder g ops (writes_of ops clusters kept)
order_writes g ops clusters numbers graph order kept y t w h is =
    subst (IsWriteOrder g ops) (sym (ap (writes_of ops clusters) is ∙ unfiltered)) (record {
      once =
          λ v b. let r = filter_map-Before f order v v b in
          let a = write-at ops clusters r.2 v r.7 in
          let c = write-at ops clusters r.3 v r.8 in
          let same : r.2 ≡ r.3 = same_cluster ops clusters numbers y t r.2 r.3 a.0 c.0 v a.1 c.1 a.2 c.2 in
          absurd (omega (
            arith,
            r.4,
            h.once r.0 r.1 r.2 r.5 (subst (λ n. slice_get order r.1 ≡ Some n) (sym
                same) r.6),
          ));
      only =
          λ v b. let r = filter_map-In f order v b in
          let a = write-at ops clusters r.1 v r.3 in
          let e = t.each r.1 a.0 a.1 in
          subst (IsKept ops) (place-same ops a.0.write e.0 v e.1.at_write a.2) e.1.kept;
      all =
          λ v b. let k = t.whole v b in
          let i = h.all k.0 (omega (arith, slice_get_within clusters k.0 k.1 k.2)) in
          In-filter_map f order i.0 k.0 v i.1 (at-write ops clusters k.0 v k.1 k.2 k.3.at_write);
      forward =
          λ v u l. let k = t.whole v l.left in
          let m = t.whole u l.right in
          let i = h.all k.0 (omega (arith, slice_get_within clusters k.0 k.1 k.2)) in
          let j = h.all m.0 (omega (arith, slice_get_within clusters m.0 m.1 m.2)) in
          let path = w.whole v u k.0 m.0 l (k.1, k.2, k.3.at_write) (m.1, m.2, m.3.at_write) in
          let le = path_forward (2 * length clusters) graph.edges.items order among h k.0 path.0 m.0 path.1
          i.0 j.0 i.1 j.1 in
          let apart : i.0 ≡ j.0 → ⊥ =
          λ e. let node : k.0 ≡ m.0 = place-same order i.0 k.0 m.0 i.1 (subst (λ n. slice_get order n ≡ Some
          m.0) (sym e) j.1) in
          let cluster : k.1 ≡ m.1 = place-same clusters k.0 k.1 m.1 k.2 (subst (λ n. slice_get clusters n ≡
          Some m.1) (sym node) m.2) in
          let write : v ≡ u =
          place-same ops k.1.write v u k.3.at_write (subst (λ (c : ClusterEnds). IsAt ops c.write u) (sym
          cluster) m.3.at_write) in
          l.differ (ap value_of write) in
          Before-filter_map f order i.0 j.0 k.0 m.0 v u
          (elim (cases_order i.0 j.0) [
            | inl e ↦ absurd (apart e)
            | inr o ↦ elim o [ inl q ↦ q | inr q ↦ absurd (omega (arith, q, le)) ]
          ])
          i.1 j.1 (at-write ops clusters k.0 v k.1 k.2 k.3.at_write) (at-write ops clusters m.0 u m.1 m.2
          m.3.at_write);
    })
  where
    f : ℕ → Option Operation
    f = write_of_cluster ops clusters

    among : AreAmong (2 * length clusters) graph.edges.items
    among = graph_among g ops clusters numbers w.calls graph t w.are_calls.count w.sound

    unfiltered : writes_of ops clusters (filter (λ k. ltb k (length clusters)) order) ≡ writes_of ops
        clusters order
    unfiltered =
        map-filtered f (λ k. ltb k (length clusters))
        (λ k b. ap (option_and_then (λ (c : ClusterEnds). slice_get ops c.write))
        (slice_get_past clusters k (ltb-false k (length clusters) b))) order

-- ---- a cycle comes by a cluster

-- an edge of the path begins at a cluster
abbrev FoundIn : List Edge → ℕ → List ℕ → Type 0
FoundIn edges many path = (k : ℕ) × (i : ℕ) × (e : Edge) × (slice_get path i ≡ Some k) × (slice_get edges k
    ≡ Some e)
    × (e.from < many)

later : (edges : List Edge) (many k : ℕ) (path : List ℕ) → FoundIn edges many path → FoundIn edges many (k ∷
    path)
later edges many k path f = (f.0, suc f.1, f.2, f.3, f.4, f.5)

-- a path from the chain to the chain comes by a cluster, or goes up along the chain
up-or-by : (g : Guarantee) (ops : List Operation) (clusters : List ClusterEnds) (numbers : List (Option ℕ))
    (calls : List ℕ) (graph : LevelGraph) → IsClusterTable ops clusters numbers
    → IsLevelGraph g ops clusters numbers calls graph → (x : ℕ) (path : List ℕ) (y : ℕ)
    → IsPath graph.edges.items x path y → length clusters ≤ x → length clusters ≤ y
    → FoundIn graph.edges.items (length clusters) path ⊎ (x + length path ≡ y)
up-or-by g ops clusters numbers calls graph t h x [] y p low high = inr (omega (arith, p))
up-or-by g ops clusters numbers calls graph t h x (k ∷ path) y p low high =
    let pair = pair-of g ops clusters numbers calls graph h k p.0 p.1 in
    by pair.0 pair.1 (λ l. up-or-by g ops clusters numbers calls graph t h p.0.to path y p.3 l high)
  where
    after : (ks : List ℕ) → IsPath graph.edges.items p.0.to ks y → p.0.to < length clusters
        → FoundIn graph.edges.items (length clusters) ks
    after [] q l = absurd (omega (arith, q, l, high))
    after (j ∷ ks) q l = (j, 0, q.0, refl, q.1, omega (arith, q.2, l))

    by : (pair : PlacePair) → IsLevelEdge g ops clusters numbers calls p.0 pair
        → (length clusters ≤ p.0.to
        → FoundIn graph.edges.items (length clusters) path ⊎ (p.0.to + length path ≡ y))
        → FoundIn graph.edges.items (length clusters) (k ∷ path) ⊎ (x + length (k ∷ path) ≡ y)
    by pair (inl j) rest =
        absurd (omega (
          arith,
          number_below ops clusters numbers t pair.before p.0.from j.earlier
              j.at_earlier j.of_x,
          p.2,
          low,
        ))
    by pair (inr (_, inl n)) rest = absurd (omega (
      arith,
      slice_get_within clusters p.0.from n.cluster n.at,
      p.2,
      low,
    ))
    by pair (inr (_, inr (inl a))) rest =
        elim (rest (omega (arith, a.to))) [
          | inl f ↦ inl (later graph.edges.items (length clusters) k path f)
          | inr e ↦ inr (omega (arith, e, a.to, a.from, p.2))
        ]
    by pair (inr (_, inr (inr e))) rest =
        inl (later graph.edges.items (length clusters) k path (after path p.3 e.within))

pub cycle_meets : (g : Guarantee) (ops : List Operation) (clusters : List ClusterEnds) (numbers : List
    (Option ℕ))
    (calls : List ℕ) (graph : LevelGraph) → IsClusterTable ops clusters numbers
    → IsLevelGraph g ops clusters numbers calls graph → (cycle : List ℕ) → 0 < length cycle → (a : ℕ)
    → IsPath graph.edges.items a cycle a → FoundIn graph.edges.items (length clusters) cycle
cycle_meets g ops clusters numbers calls graph t h [] some a p = absurd (omega (arith, some))
cycle_meets g ops clusters numbers calls graph t h (k ∷ cycle) some a p =
    elim (cases_lt p.0.from (length clusters)) [
      | inl l ↦ (k, 0, p.0, refl, p.1, l)
      | inr n ↦
          elim (up-or-by g ops clusters numbers calls graph t h a (k ∷ cycle) a p (omega (arith, n, p.2))
          (omega (arith, n, p.2))) [
            | inl f ↦ f
            | inr e ↦ absurd (omega (arith, e, some))
          ]
    ]
