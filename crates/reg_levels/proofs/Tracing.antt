-- The links of a cycle of the graph, one edge at a time.
use Rattle.std.proofs.Common.{◌≡◌, ℕ, zero, suc, ◌+◌, ◌<◌, ◌≤◌, List, [], ◌∷◌, ◌++◌, length, slice_get}
use Rattle.std.proofs.Common.{drop, Option, Some, Bool, true, false}
use Rattle.std.proofs.Common.{◌⊎◌, inl, inr, refl, sym, ap, ◌∙◌, subst, arith}
use Rattle.std.proofs.lemmas.List.{length_push}
use Rattle.std.proofs.lemmas.Option.{slice_get_within}
use Rattle.history_model.specs.Operations.{IsHistory, IsWrite, is_write, value_of}
use Rattle.history_model.specs.declared.guarantee.Guarantee.{Guarantee}
use Rattle.history_model.specs.declared.operation.Operation.{Operation}
use Rattle.level_laws.specs.Evidence.{AreLinks, IsCycle, IsLink, Link, first_write}
use Rattle.level_laws.specs.Leads.{IsCleanFor}
use Rattle.reg_levels.proofs.OrderGraphLemmas.Places.{place-inside, place-same}
use Rattle.reg_levels.specs.OrderGraph.Graph.{IsPath}
use Rattle.reg_levels.specs.declared.order_graph.edge.Edge.{Edge}
use Rattle.reg_levels.specs.Clusters.Places.{IsAt, IsByCall}
use Rattle.reg_levels.specs.Clusters.Table.{IsClusterTable, IsEnds}
use Rattle.reg_levels.specs.declared.clusters.table.ClusterEnds.{ClusterEnds}
use Rattle.reg_zones.specs.Clusters.{IsInCluster}
use Rattle.reg_levels.specs.Decisions.{AreStepsOf}
use Rattle.reg_levels.specs.LevelGraph.{AreWriteCalls, IsJoin, IsLevelEdge, IsLevelGraph, IsStepBy}
use Rattle.reg_levels.specs.Levels.{keeps_time}
use Rattle.reg_levels.specs.declared.decision.Step.{Step}
use Rattle.reg_levels.specs.declared.graph.LevelGraph.{LevelGraph}
use Rattle.reg_levels.specs.declared.graph.PlacePair.{PlacePair}
use Rattle.reg_levels.proofs.Asking.{keep_time}
use Rattle.reg_levels.proofs.InTime.{number_below}
use Rattle.reg_levels.proofs.Numbering.{same_cluster, write_calls_ascend}

-- ---- links

pub links-push : (g : Guarantee) (ops : List Operation) (links : List Link) (link : Link) (w : Operation)
    → AreLinks g ops links link.write → IsLink g ops link w → AreLinks g ops (links ++ link ∷ []) w
links-push g ops [] link w a i = (i, tt)
links-push g ops (k ∷ links) link w a i =
    (subst (IsLink g ops k) (first-push links link w) a.0, links-push g ops links link w a.1 i)
  where
    first-push : (ls : List Link) (l : Link) (v : Operation) → first_write ls l.write ≡ first_write (ls ++ l
        ∷ []) v
    first-push [] l v = refl
    first-push (m ∷ ls) l v = refl

first-pushed : (links : List Link) (link : Link) (w : Operation)
    → first_write (links ++ link ∷ []) w ≡ first_write links link.write
first-pushed [] link w = refl
first-pushed (k ∷ links) link w = refl

steps-push : (ops : List Operation) (steps : List Step) (links : List Link) (step : Step) (link : Link)
    → AreStepsOf ops steps links → IsAt ops step.write link.write → IsAt ops step.before link.before
    → IsAt ops step.after link.after → AreStepsOf ops (steps ++ step ∷ []) (links ++ link ∷ [])
steps-push ops [] [] step link a w b c = (record { write = w; before = b; after = c }, tt)
steps-push ops [] (l ∷ links) step link a w b c = absurd a
steps-push ops (s ∷ steps) [] step link a w b c = absurd a
steps-push ops (s ∷ steps) (l ∷ links) step link a w b c = (
  a.0,
  steps-push ops steps links step link a.1 w
      b c,
)

-- ---- the trace

-- what all lemmas below take
pub record IsTraced (g : Guarantee) (ops : List Operation) (clusters : List ClusterEnds) (numbers : List
    (Option ℕ))
    (calls : List ℕ) (graph : LevelGraph) : Type 0 where
  pub history : IsHistory ops
  pub by_call : IsByCall ops
  pub table : IsClusterTable ops clusters numbers
  pub are_calls : AreWriteCalls ops clusters calls
  pub clean : IsCleanFor g ops
  pub graph_is : IsLevelGraph g ops clusters numbers calls graph

-- After some edges of a cycle from node a: the node where the next one begins, and the links so far, which
-- end at
-- the cluster that was left last. In the chain, the call there comes after that cluster's first reply.
pub record IsTrace (g : Guarantee) (ops : List Operation) (clusters : List ClusterEnds) (calls : List ℕ)
    (edges : List Edge)
    (cycle : List ℕ) (a : ℕ) (first : Operation) (place : ℕ) (steps : List Step) (at : ℕ) : Type 0 where
  pub here : ℕ
  pub path : IsPath edges here (drop place cycle) a
  pub links : List Link
  pub steps_are : AreStepsOf ops steps links
  pub cluster : ClusterEnds
  pub at_cluster : slice_get clusters at ≡ Some cluster
  pub write : Operation
  pub ends : IsEnds ops write cluster
  pub are_links : AreLinks g ops links write
  pub begins : first_write links write ≡ first
  pub in_cluster : here < length clusters → here ≡ at
  pub in_chain : (j n : ℕ) → here ≡ length clusters + j → slice_get calls j ≡ Some n → cluster.first_reply < n
  pub moved : length links ≡ 0 → (place ≡ 0) ⊎ (length clusters ≤ here)

pub trace_none : (g : Guarantee) (ops : List Operation) (clusters : List ClusterEnds) (calls : List ℕ)
    (edges : List Edge) (cycle : List ℕ) (a : ℕ) (c : ClusterEnds) (w : Operation) → IsPath edges a cycle a
    → slice_get clusters a ≡ Some c → IsEnds ops w c → IsTrace g ops clusters calls edges cycle a w 0 [] a
trace_none g ops clusters calls edges cycle a c w path at ends = record {
  here = a;
  path = path;
  links = [];
  steps_are = tt;
  cluster = c;
  at_cluster = at;
  write = w;
  ends = ends;
  are_links = tt;
  begins = refl;
  in_cluster = λ l. refl;
  in_chain = λ j n e b. absurd (omega (arith, e, slice_get_within clusters a c at));
  moved = λ e. inl refl;
}

-- the first edge of what is left of a path
pub path-next : (edges : List Edge) (here : ℕ) (cycle : List ℕ) (a place k : ℕ) (e : Edge)
    → IsPath edges here (drop place cycle) a → slice_get cycle place ≡ Some k → slice_get edges k ≡ Some e
    → (e.from ≡ here) × IsPath edges e.to (drop (suc place) cycle) a
path-next edges here [] a place k e p at there = absurd (cc at)
path-next edges here (j ∷ cycle) a zero k e p at there =
    let same_k : j ≡ k = cc at in
    let same : p.0 ≡ e =
    let z = sym p.1 ∙ (ap (slice_get edges) same_k ∙ there) in cc z in
    (subst (λ (x : Edge). x.from ≡ here) same p.2, subst (λ (x : Edge). IsPath edges x.to cycle a) same p.3)
path-next edges here (j ∷ cycle) a (suc place) k e p at there = path-next edges here cycle a place k e p at
    there

-- ---- a step to another cluster

-- a link that ends at the write of a cluster
pub record IsLinkTo (g : Guarantee) (ops : List Operation) (w : Operation) (step : Step) (next : Operation)
    : Type 0 where
  pub link : Link
  pub from : link.write ≡ w
  pub is : IsLink g ops link next
  pub at_write : IsAt ops step.write link.write
  pub at_before : IsAt ops step.before link.before
  pub at_after : IsAt ops step.after link.after

pub trace_step : (g : Guarantee) (ops : List Operation) (clusters : List ClusterEnds) (calls : List ℕ)
    (edges : List Edge) (cycle : List ℕ) (a : ℕ) (first : Operation) (place : ℕ) (steps : List Step) (at k :
    ℕ)
    (e : Edge) (step : Step) (d : ClusterEnds) (next : Operation) → (t : IsTrace g ops clusters calls edges
    cycle a first place steps at)
    → slice_get cycle place ≡ Some k → slice_get edges k ≡ Some e → slice_get clusters e.to ≡ Some d
    → IsEnds ops next d → IsLinkTo g ops t.write step next
    → IsTrace g ops clusters calls edges cycle a first (suc place) (steps ++ step ∷ []) e.to
trace_step g ops clusters calls edges cycle a first place steps at k e step d next t at_k at_e at_d ends l =
    let p = path-next edges t.here cycle a place k e t.path at_k at_e in
    record {
      here = e.to;
      path = p.1;
      links = t.links ++ l.link ∷ [];
      steps_are = steps-push ops steps t.links step l.link t.steps_are l.at_write l.at_before l.at_after;
      cluster = d;
      at_cluster = at_d;
      write = next;
      ends = ends;
      are_links =
          links-push g ops t.links l.link next (subst (AreLinks g ops t.links) (sym l.from) t.are_links) l.is;
      begins =
          first-pushed t.links l.link next ∙ (ap (first_write t.links) l.from ∙ t.begins);
      in_cluster = λ b. refl;
      in_chain = λ j n q b. absurd (omega (arith, q, slice_get_within clusters e.to d at_d));
      moved = λ q. absurd (omega (arith, q, length_push t.links l.link));
    }

-- an edge that ends in the chain
pub trace_on : (g : Guarantee) (ops : List Operation) (clusters : List ClusterEnds) (numbers : List (Option
    ℕ))
    (calls : List ℕ) (graph : LevelGraph) (cycle : List ℕ) (a : ℕ) (first : Operation) (place : ℕ) (steps :
    List Step)
    (at k : ℕ) (e : Edge) → IsTraced g ops clusters numbers calls graph
    → IsTrace g ops clusters calls graph.edges.items cycle a first place steps at → slice_get cycle place ≡
    Some k
    → slice_get graph.edges.items k ≡ Some e → length clusters ≤ e.to
    → IsTrace g ops clusters calls graph.edges.items cycle a first (suc place) steps at
trace_on g ops clusters numbers calls graph cycle a first place steps at k e y t at_k at_e past =
    let p = path-next graph.edges.items t.here cycle a place k e t.path at_k at_e in
    record {
      here = e.to;
      path = p.1;
      links = t.links;
      steps_are = t.steps_are;
      cluster = t.cluster;
      at_cluster = t.at_cluster;
      write = t.write;
      ends = t.ends;
      are_links = t.are_links;
      begins = t.begins;
      in_cluster = λ b. absurd (omega (arith, b, past));
      in_chain = later;
      moved = λ q. inr past;
    }
  where
    from : e.from ≡ t.here
    from = (path-next graph.edges.items t.here cycle a place k e t.path at_k at_e).0

    pair : (x : PlacePair) × (slice_get graph.pairs.items k ≡ Some x)
    pair = place-inside graph.pairs.items k (omega (
      arith,
      y.graph_is.count,
      slice_get_within
          graph.edges.items k e at_e,
    ))

    by : IsLevelEdge g ops clusters numbers calls e pair.0 → (j n : ℕ) → e.to ≡ length clusters + j
        → slice_get calls j ≡ Some n → t.cluster.first_reply < n
    by (inl join) j n q b =
        absurd (omega (
          arith,
          past,
          number_below ops clusters numbers y.table pair.0.after e.to join.later
              join.at_later join.of_y,
        ))
    by (inr (_, inl entry)) j n q b =
        let here : t.here ≡ at = t.in_cluster (omega (
          arith,
          from,
          slice_get_within clusters e.from
              entry.cluster entry.at,
        )) in
        let same : entry.cluster ≡ t.cluster =
        place-same clusters at entry.cluster t.cluster
        (subst (λ m. slice_get clusters m ≡ Some entry.cluster) (from ∙ here) entry.at) t.at_cluster in
        let place_is : entry.place ≡ j = omega (arith, entry.to, q) in
        let call_is : entry.call ≡ n =
        place-same calls j entry.call n (subst (λ m. slice_get calls m ≡ Some entry.call) place_is
        entry.at_call) b in
        subst (λ (x : ClusterEnds). x.first_reply < n) same (subst (λ m. entry.cluster.first_reply < m)
        call_is entry.after)
    by (inr (_, inr (inl along))) j n q b =
        let call = place-inside calls along.place (omega (arith, along.within, y.are_calls.count)) in
        let next : suc along.place ≡ j = omega (arith, along.to, q) in
        let before = t.in_chain along.place call.0 (sym from ∙ along.from) call.1 in
        omega (
          arith,
          before,
          write_calls_ascend ops clusters numbers calls y.by_call y.table y.are_calls along.place j
              call.0 n (omega (arith, next)) call.1 b,
        )
    by (inr (_, inr (inr exit))) j n q b = absurd (omega (arith, past, exit.within))

    later : (j n : ℕ) → e.to ≡ length clusters + j → slice_get calls j ≡ Some n → t.cluster.first_reply < n
    later = by (y.graph_is.each k e pair.0 at_e pair.1)

-- ---- the link of an edge that ends at a cluster

same_write : (ops : List Operation) (c : ClusterEnds) (v w : Operation) → IsEnds ops v c → IsEnds ops w c →
    v ≡ w
same_write ops c v w a b = place-same ops c.write v w a.at_write b.at_write

-- an operation of the cluster of a number
member-of : (ops : List Operation) (clusters : List ClusterEnds) (numbers : List (Option ℕ))
    → IsClusterTable ops clusters numbers → (p x : ℕ) (b w : Operation) (c : ClusterEnds) → IsAt ops p b
    → slice_get numbers p ≡ Some (Some x) → slice_get clusters x ≡ Some c → IsEnds ops w c
    → IsInCluster ops (value_of w) b
member-of ops clusters numbers t p x b w c at number here ends =
    let m = t.member p x b at number in
    let same : m.0 ≡ c = place-same clusters x m.0 c m.2 here in
    let write : m.1 ≡ w = same_write ops c m.1 w (subst (IsEnds ops m.1) same m.3) ends in
    subst (λ (z : Operation). IsInCluster ops (value_of z) b) write m.4

pub link_join : (g : Guarantee) (ops : List Operation) (clusters : List ClusterEnds) (numbers : List (Option
    ℕ))
    → IsHistory ops → IsByCall ops → IsClusterTable ops clusters numbers → (x y : ℕ) (pair : PlacePair) (c d
    : ClusterEnds)
    (v w : Operation) (step : Step) → IsJoin g ops numbers x y pair → slice_get clusters x ≡ Some c → IsEnds
    ops v c
    → slice_get clusters y ≡ Some d → IsEnds ops w d
    → step ≡ record { write = c.write; before = pair.before; after = pair.after }
    → IsLinkTo g ops v step w
link_join g ops clusters numbers h b t x y pair c d v w step j at_c ends_c at_d ends_d is = record {
  link = record { write = v; before = j.earlier; after = j.later };
  from = refl;
  is = record {
    kept = ends_c.kept;
    next = ends_d.kept;
    differ =
        λ e. let same : v ≡ w =
        h.values v w ends_c.kept.within ends_d.kept.within ends_c.kept.write ends_d.kept.write e in
        j.differ (same_cluster ops clusters numbers b t x y c d w at_c at_d
        (subst (IsAt ops c.write) same ends_c.at_write) ends_d.at_write);
    one = member-of ops clusters numbers t pair.before x j.earlier v c j.at_earlier j.of_x at_c ends_c;
    other = member-of ops clusters numbers t pair.after y j.later w d j.at_later j.of_y at_d ends_d;
    must = j.must;
  };
  at_write = subst (λ (s : Step). IsAt ops s.write v) (sym is) ends_c.at_write;
  at_before = subst (λ (s : Step). IsAt ops s.before j.earlier) (sym is) j.at_earlier;
  at_after = subst (λ (s : Step). IsAt ops s.after j.later) (sym is) j.at_later;
}

pub link_exit : (g : Guarantee) (ops : List Operation) → IsHistory ops → IsCleanFor g ops → keeps_time g ≡
    true
    → (c d : ClusterEnds) (v w : Operation) (step : Step) → IsEnds ops v c → IsEnds ops w d → c.first_reply
    < w.call
    → step ≡ record { write = c.write; before = c.first; after = d.write } → IsLinkTo g ops v step w
link_exit g ops h clean t c d v w step ends_c ends_d late is =
    let f = ends_c.at_first.0 in
    let first = ends_c.at_first.2 in
    let precedes : f.reply < w.call = omega (arith, late, ends_c.reply_is, first.least) in
    record {
      link = record { write = v; before = f; after = w };
      from = refl;
      is = record {
        kept = ends_c.kept;
        next = ends_d.kept;
        differ = λ e. apart (first.member.counts) e precedes;
        one = first.member;
        other = record { within = ends_d.kept.within; value = refl; counts = inl ends_d.kept.write };
        must = keep_time g t f w precedes ends_d.kept.write;
      };
      at_write = subst (λ (s : Step). IsAt ops s.write v) (sym is) ends_c.at_write;
      at_before = subst (λ (s : Step). IsAt ops s.before f) (sym is) ends_c.at_first.1;
      at_after = subst (λ (s : Step). IsAt ops s.after w) (sym is) ends_d.at_write;
    }
  where
    a : Operation
    a = ends_c.at_first.0

    early : is_write a ≡ false → a.completed ≡ true → value_of v ≡ value_of w
        → a.reply < w.call → ⊥
    early read done e p =
        clean.in_time a w (record {
          within = ends_c.at_first.2.member.within;
          write_within = ends_d.kept.within;
          write = ends_d.kept.write;
          read = record { read = read; completed = done; value = ends_c.at_first.2.member.value ∙ e };
          must = keep_time g t a w p ends_d.kept.write;
        })

    writes : is_write a ≡ true → value_of v ≡ value_of w → a.reply < w.call → ⊥
    writes is_w e p =
        let same : a ≡ w =
        h.values a w ends_c.at_first.2.member.within ends_d.kept.within is_w ends_d.kept.write
        (ends_c.at_first.2.member.value ∙ e) in
        omega (arith, p, ap (λ (x : Operation). x.call) same, h.life a ends_c.at_first.2.member.within)

    by_kind : (b : Bool) → is_write a ≡ b → a.completed ≡ true → value_of v ≡ value_of w
        → a.reply < w.call → ⊥
    by_kind true k done e p = writes k e p
    by_kind false k done e p = early k done e p

    apart : IsWrite a ⊎ (a.completed ≡ true) → value_of v ≡ value_of w → a.reply < w.call → ⊥
    apart (inl k) e p = writes k e p
    apart (inr done) e p = by_kind (is_write a) refl done e p

-- the link of an edge of the graph that ends at a cluster
pub link_by : (g : Guarantee) (ops : List Operation) (clusters : List ClusterEnds) (numbers : List (Option ℕ))
    (calls : List ℕ) (graph : LevelGraph) (cycle : List ℕ) (a : ℕ) (first : Operation) (place : ℕ) (steps :
    List Step)
    (at k : ℕ) (e : Edge) (step : Step) (d : ClusterEnds) (next : Operation)
    → IsTraced g ops clusters numbers calls graph
    → (t : IsTrace g ops clusters calls graph.edges.items cycle a first place steps at)
    → slice_get cycle place ≡ Some k → slice_get graph.edges.items k ≡ Some e → slice_get clusters e.to ≡
    Some d
    → IsEnds ops next d → IsStepBy clusters graph k at step → IsLinkTo g ops t.write step next
link_by g ops clusters numbers calls graph cycle a first place steps at k e step d next y t at_k at_e at_d
    ends s =
    by (y.graph_is.each k e s.pair at_e s.at_pair)
  where
    from : e.from ≡ t.here
    from = (path-next graph.edges.items t.here cycle a place k e t.path at_k at_e).0

    edge : s.edge ≡ e
    edge = place-same graph.edges.items k s.edge e s.at_edge at_e

    left : s.left ≡ t.cluster
    left = place-same clusters at s.left t.cluster s.at_left t.at_cluster

    within : e.to < length clusters
    within = slice_get_within clusters e.to d at_d

    by : IsLevelEdge g ops clusters numbers calls e s.pair → IsLinkTo g ops t.write step next
    by (inl join) =
        let low : e.from < length clusters =
        number_below ops clusters numbers y.table s.pair.before e.from join.earlier join.at_earlier
        join.of_x in
        let here : e.from ≡ at = from ∙ t.in_cluster (omega (arith, low, from)) in
        let is = s.joins (subst (λ (x : Edge). x.from < length clusters) (sym edge) low) in
        link_join g ops clusters numbers y.history y.by_call y.table e.from e.to s.pair t.cluster d t.write
        next step join
        (subst (λ m. slice_get clusters m ≡ Some t.cluster) (sym here) t.at_cluster) t.ends at_d ends
        (subst (λ (c : ClusterEnds). step ≡ record {
          write = c.write;
          before = s.pair.before;
          after =
              s.pair.after;
        }) left is)
    by (inr (_, inl entry)) = absurd (omega (arith, within, entry.to))
    by (inr (_, inr (inl along))) = absurd (omega (arith, within, along.to))
    by (inr (time, inr (inr exit))) =
        let past : length clusters ≤ s.edge.from =
        subst (λ (x : Edge). length clusters ≤ x.from) (sym edge) (omega (arith, exit.from)) in
        let o = s.leaves past in
        let next_is : o.0 ≡ d =
        place-same clusters e.to o.0 d (subst (λ (x : Edge). slice_get clusters x.to ≡ Some o.0) edge o.1)
        at_d in
        let call = y.are_calls.each e.to d next at_d ends.at_write in
        link_exit g ops y.history y.clean time t.cluster d t.write next step t.ends ends
        (t.in_chain e.to next.call (sym from ∙ exit.from) call)
        (subst (λ (c : ClusterEnds). step ≡ record {
          write = t.cluster.write;
          before = t.cluster.first;
          after = c.write;
        })
        next_is
        (subst (λ (c : ClusterEnds). step ≡ record { write = c.write; before = c.first; after = o.0.write })
        left o.2))

-- ---- the end

pub trace_all : (g : Guarantee) (ops : List Operation) (clusters : List ClusterEnds) (calls : List ℕ)
    (edges : List Edge) (cycle : List ℕ) (a : ℕ) (c : ClusterEnds) (first : Operation) (place : ℕ) (steps :
    List Step)
    (at : ℕ) → IsTrace g ops clusters calls edges cycle a first place steps at → drop place cycle ≡ []
    → (place ≡ 0 → ⊥) → slice_get clusters a ≡ Some c → IsEnds ops first c
    → (links : List Link) × AreStepsOf ops steps links × IsCycle g ops links
trace_all g ops clusters calls edges cycle a c first place steps at t none some at_a ends =
    (t.links, t.steps_are, go t.links refl)
  where
    here : t.here ≡ a
    here = subst (λ xs. IsPath edges t.here xs a) none t.path

    low : t.here < length clusters
    low = omega (arith, here, slice_get_within clusters a c at_a)

    same : t.write ≡ first
    same =
        let cluster : t.cluster ≡ c =
        place-same clusters a t.cluster c
        (subst (λ m. slice_get clusters m ≡ Some t.cluster) (sym (t.in_cluster low) ∙ here) t.at_cluster)
        at_a in
        same_write ops c t.write first (subst (IsEnds ops t.write) cluster t.ends) ends

    go : (ls : List Link) → t.links ≡ ls → IsCycle g ops ls
    go [] e = elim (t.moved (ap length e)) [
      | inl z ↦ some z
      | inr past ↦ absurd (omega (arith, past, low))
    ]
    go (l ∷ ls) e =
        let links = subst (λ xs. AreLinks g ops xs t.write) e t.are_links in
        let begins : l.write ≡ first = subst (λ xs. first_write xs t.write ≡ first) e t.begins in
        subst (AreLinks g ops (l ∷ ls)) (same ∙ sym begins) links
