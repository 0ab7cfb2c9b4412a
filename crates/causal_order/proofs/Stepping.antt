-- The steps of a cycle of edges are those of a cycle of operations.
use Rattle.std.proofs.Common.{◌≡◌, ℕ, zero, suc, ◌<◌, List, [], ◌∷◌, ◌++◌, length, slice_get}
use Rattle.std.proofs.Common.{slice_index_or, Option, Some, None}
use Rattle.std.proofs.Common.{inl, inr, refl, sym, ap, ◌∙◌, subst, arith, Vec}
use Rattle.std.specs.Global.{Global}
use Rattle.std.proofs.lemmas.Option.{slice_get-get_or, slice_get_read, slice_get_within}
use Rattle.history_model.specs.declared.operation.Operation.{Operation}
use Rattle.reg_levels.specs.OrderGraph.Graph.{IsEdgeCycle, IsPath}
use Rattle.reg_levels.specs.declared.order_graph.edge.Edge.{Edge}
use Rattle.reg_levels.proofs.OrderGraphLemmas.Places.{place-inside, place-same}
use Rattle.level_laws.specs.Causal.{IsWay, Learns}
use Rattle.level_laws.specs.CausalFault.{AreSteps, IsCausalCycle, IsReason, Reason, Step, first_of}
use Rattle.level_laws.specs.CausalFault.Reason.{process, read, hidden}
use Rattle.causal_order.specs.SessionClocks.Clocks.{Asks}
use Rattle.causal_order.specs.SessionClocks.Sessions.{IsAt}
use Rattle.causal_order.specs.declared.session_clocks.table.SessionTable.{SessionTable}
use Rattle.causal_order.specs.CausalGraph.{IsCausalGraph, IsFor, IsTableOf}
use Rattle.causal_order.specs.Decisions.{AreAt, AreStepsOf, IsCycleOf, IsKnew, IsStepOf, IsWhyOf}
use Rattle.causal_order.specs.Ways.{AreEdgeSteps, IsEdgeStep, IsFoundIf, IsShownWhy, LeadTo}
use Rattle.causal_order.specs.declared.decision.CausalStep.{CausalStep}
use Rattle.causal_order.specs.declared.decision.Why.{Why}
use Rattle.causal_order.specs.declared.decision.Why.TheVariants.{Process, Read, Initial, Hidden}
use Rattle.causal_order.specs.declared.graph.CausalGraph.{CausalGraph}
use Rattle.causal_order.specs.declared.graph.EdgeReason.{EdgeReason}
use Rattle.causal_order.specs.declared.graph.EdgeReason.TheVariants.{Session, Source, Known}
use Rattle.causal_order.proofs.Behind.{AreBoth, previous-both, source-both}
use Rattle.causal_order.proofs.SessionClockLemmas.Ordered.{at-one}
use Rattle.causal_order.proofs.Places.{at-In}

-- ---- ways

module _ (ops : List Operation) (table : SessionTable) (t : IsTableOf ops table) where
  asks-both : (q p : ℕ) → Asks table q p → AreBoth ops p q Learns
  asks-both q p (inl h) =
      let b = previous-both ops table t.called t.is_table q p h in
      record {
        earlier = b.earlier;
        later = b.later;
        at_earlier = b.at_earlier;
        at_later = b.at_later;
        holds = inl (inl (b.holds.process, b.holds.first, b.holds.second, b.holds.earlier));
      }
  asks-both q p (inr h) =
      let b = source-both ops table t.called t.is_table q p h in
      record {
        earlier = b.earlier;
        later = b.later;
        at_earlier = b.at_earlier;
        at_later = b.at_later;
        holds = inr b.holds;
      }

  -- the operations of a way by its places
  pub leads-way : (between : List ℕ) (p q : ℕ) (a r : Operation) → LeadTo table p between q → IsAt ops p a
      → IsAt ops q r → (way : List Operation) × AreAt ops between way × IsWay ops a way r
  leads-way [] p q a r h at there =
      let b = asks-both q p h in
      let one = at-one ops p b.earlier a b.at_earlier at in
      let other = at-one ops q b.later r b.at_later there in (
        [],
        tt,
        (
          at-In ops p a at,
          at-In ops q r there,
          subst (λ x. Learns x r) one (subst (Learns b.earlier) other b.holds),
        ),
      )
  leads-way (d ∷ between) p q a r h at there =
      let b = asks-both d p h.0 in
      let one = at-one ops p b.earlier a b.at_earlier at in
      let more = leads-way between d q b.later r h.1 b.at_later there in (
        b.later ∷ more.0,
        (b.at_later, more.1),
        (at-In ops p a at, subst (λ x. Learns x b.later) one b.holds, more.2),
      )

  pub found-knew : (p q : ℕ) (a r : Operation) (knew : Option (Vec ℕ Global)) → IsFoundIf table p q knew
      → IsAt ops p a
      → IsAt ops q r → IsKnew ops a p r q knew
  found-knew p q a r None h at there = tt
  found-knew p q a r (Some knew) h at there =
      let w = leads-way h.between p q a r h.leads at there in
      record { between = h.between; places = h.places; way = w.0; at_way = w.1; is_way = w.2 }

  -- ---- one step

  step-reason : (p : ℕ) (a b : Operation) (reason : EdgeReason) (why : Why) → IsFor ops a b reason
      → IsShownWhy table p reason why → IsAt ops p a
      → (said : Reason) × IsWhyOf ops a p why said × IsReason ops a b said
  step-reason p a b Session Process f s at = (process, tt, f)
  step-reason p a b Session Read f s at = absurd s
  step-reason p a b Session Initial f s at = absurd s
  step-reason p a b Session (Hidden q knew) f s at = absurd s
  step-reason p a b Source Process f s at = absurd s
  step-reason p a b Source Read f s at = (read, tt, f)
  step-reason p a b Source Initial f s at = absurd s
  step-reason p a b Source (Hidden q knew) f s at = absurd s
  step-reason p a b (Known r) Process f s at = absurd s
  step-reason p a b (Known r) Read f s at = absurd s
  step-reason p a b (Known r) Initial f s at = absurd s
  step-reason p a b (Known r) (Hidden q knew) f s at =
      let there : IsAt ops q f.0 = subst (λ n. IsAt ops n f.0) (sym s.0) f.1 in
      (hidden f.0, (there, found-knew p q a f.0 knew s.1 at there), f.2)

  -- ---- all steps

  module _ (graph : CausalGraph) (g : IsCausalGraph ops graph) where
    -- the steps along a path of edges
    pub path-steps : (path : List ℕ) (shown : List CausalStep) (a b : ℕ) (last : Operation)
        → AreEdgeSteps table graph path shown → IsPath graph.edges.items a path b → IsAt ops b last
        → (steps : List Step) × AreStepsOf ops shown steps last × AreSteps ops steps last
        × IsAt ops a (first_of steps last)
    path-steps [] [] a b last s p at = ([], tt, tt, subst (λ n. IsAt ops n last) (sym p) at)
    path-steps [] (x ∷ shown) a b last s p at = absurd s
    path-steps (k ∷ path) [] a b last s p at = absurd s
    path-steps (k ∷ path) (x ∷ shown) a b last (edge, reason, at_edge, at_reason, step, rest)
        (e, at_e, from, on) at =
        let same : e ≡ edge = place-same graph.edges.items k e edge at_e at_edge in
        let more = path-steps path shown e.to b last rest on at in
        let behind = g.each k edge reason at_edge at_reason in
        let next = first_of more.0 last in
        let there : IsAt ops edge.to next = subst (λ (y : Edge). IsAt ops y.to next) same more.3 in
        let later : behind.later ≡ next = at-one ops edge.to behind.later next behind.at_later there in
        let holds : IsFor ops behind.earlier next reason = subst
        (λ y. IsFor ops behind.earlier y reason) later behind.holds in
        let here : IsAt ops x.from behind.earlier = subst (λ n. IsAt ops n behind.earlier)
        (sym step.from) behind.at_earlier in
        let shown_why : IsShownWhy table x.from reason x.why = subst
        (λ n. IsShownWhy table n reason x.why) (sym step.from) step.why in
        let said = step-reason x.from behind.earlier next reason x.why holds shown_why here in
        let one : Step = record { from = behind.earlier; why = said.0 } in
        let begins : a ≡ x.from = sym from ∙ (ap (λ (y : Edge). y.from) same ∙ sym step.from) in
        let is : IsStepOf ops x one next = record {
          at_from = here;
          at_to = subst (λ n. IsAt ops n next) (sym step.to) there;
          reason = said.1;
        } in (
          one ∷ more.0,
          (is, more.1),
          (at-In ops x.from behind.earlier here, said.2, more.2),
          subst (λ n. IsAt ops n behind.earlier) (sym begins) here,
        )

    pub cycle-steps : (cycle : List ℕ) (shown : List CausalStep) → AreEdgeSteps table graph cycle shown
        → IsEdgeCycle graph.edges.items cycle
        → (steps : List Step) × IsCycleOf ops shown steps × IsCausalCycle ops steps
    cycle-steps [] shown s c = absurd (omega (arith, c.0))
    cycle-steps (k ∷ cycle) [] s c = absurd s
    cycle-steps (k ∷ cycle) (x ∷ shown) s (some, (a, path)) =
        let edge : Edge = path.0 in
        let first = begins k cycle a path in
        let found = path-steps (k ∷ cycle) (x ∷ shown) a a first.0 s path first.1 in
        go found.0 first.0 found.1 found.2 (at-one ops a (first_of found.0 first.0) first.0 found.3 first.1)
      where
        begins : (k : ℕ) (cycle : List ℕ) (a : ℕ) → IsPath graph.edges.items a (k ∷ cycle) a
            → (b : Operation) × IsAt ops a b
        begins k cycle a p =
            let l = slice_get_within graph.edges.items k p.0 p.1 in
            let reason = place-inside graph.reasons.items k (omega (arith, l, g.count)) in
            let behind = g.each k p.0 reason.0 p.1 reason.1 in
            (behind.earlier, subst (λ n. IsAt ops n behind.earlier) p.2 behind.at_earlier)

        go : (steps : List Step) (b : Operation) → AreStepsOf ops (x ∷ shown) steps b → AreSteps ops steps b
            → first_of steps b ≡ b
            → (steps : List Step) × IsCycleOf ops (x ∷ shown) steps × IsCausalCycle ops steps
        go [] b of_all are e = absurd of_all
        go (step ∷ steps) b of_all are e = (
          step ∷ steps,
          subst (AreStepsOf ops (x ∷ shown) (step ∷ steps)) (sym e) of_all,
          subst (AreSteps ops (step ∷ steps)) (sym e) are,
        )

-- one more step
pub edge-steps-push : (table : SessionTable) (graph : CausalGraph) (cycle : List ℕ) (shown : List CausalStep)
    (k : ℕ) (edge : Edge) (reason : EdgeReason) (step : CausalStep) → AreEdgeSteps table graph cycle shown
    → slice_get graph.edges.items k ≡ Some edge → slice_get graph.reasons.items k ≡ Some reason
    → IsEdgeStep table edge reason step → AreEdgeSteps table graph (cycle ++ k ∷ []) (shown ++ step ∷ [])
edge-steps-push table graph [] [] k edge reason step h at there is = (edge, reason, at, there, is, tt)
edge-steps-push table graph [] (x ∷ shown) k edge reason step h at there is = absurd h
edge-steps-push table graph (j ∷ cycle) [] k edge reason step h at there is = absurd h
edge-steps-push table graph (j ∷ cycle) (x ∷ shown) k edge reason step (e, r, a, b, s, rest) at there is =
    (e, r, a, b, s, edge-steps-push table graph cycle shown k edge reason step rest at there is)

-- the number of each edge of a path is that of an edge
pub path-edge : (edges : List Edge) (path : List ℕ) (a b i k : ℕ) → IsPath edges a path b
    → slice_get path i ≡ Some k → (e : Edge) × (slice_get edges k ≡ Some e)
path-edge edges [] a b i k p h = absurd (cc h)
path-edge edges (j ∷ path) a b zero k (e, at, from, on) h =
    let same : j ≡ k = cc h in (e, subst (λ n. slice_get edges n ≡ Some e) same at)
path-edge edges (j ∷ path) a b (suc i) k (e, at, from, on) h = path-edge edges path e.to b i k on h

-- what stands at a place of a cycle of edges
pub record IsCycleAt (graph : CausalGraph) (cycle : List ℕ) (i : ℕ) : Type 0 where
  pub within : slice_index_or cycle i 0 < length graph.edges.items
  pub edge : (e : Edge) → e ≡ slice_index_or graph.edges.items (slice_index_or cycle i 0) e
      → slice_get graph.edges.items (slice_index_or cycle i 0) ≡ Some e
  pub reason : (why : EdgeReason) → why ≡ slice_index_or graph.reasons.items (slice_index_or cycle i 0) why
      → slice_get graph.reasons.items (slice_index_or cycle i 0) ≡ Some why

pub cycle-at : (graph : CausalGraph) (cycle : List ℕ) (i : ℕ)
    → length graph.reasons.items ≡ length graph.edges.items → IsEdgeCycle graph.edges.items cycle
    → i < length cycle → IsCycleAt graph cycle i
cycle-at graph cycle i count h l =
    let e = path-edge graph.edges.items cycle h.1.0 h.1.0 i _ h.1.1 (slice_get-get_or cycle i 0 l) in
    let within = slice_get_within graph.edges.items _ e.0 e.1 in
    record {
      within = within;
      edge = λ edge is. slice_get_read graph.edges.items _ _ edge refl within is;
      reason = λ why is. slice_get_read graph.reasons.items _ _ why refl (omega (arith, within, count)) is;
    }
