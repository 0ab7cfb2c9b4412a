-- In a causal order each step of a cycle leads forward; so a fault excludes every such order (the law
-- `causal_fault_means_no_order`).
use Rattle.std.proofs.Common.{◌≡◌, ◌⊎◌, List, [], ◌∷◌, inl, inr, refl, sym, subst, ◌∙◌}
use Rattle.history_model.specs.Legal.{IsBeforeInSession}
use Rattle.history_model.specs.Lists.{In, Before}
use Rattle.history_model.specs.declared.operation.Operation.{Operation}
use Rattle.history_model.proofs.Lists.{Before-first, Before-second, Before-trans}
use Rattle.level_laws.specs.Causal.{IsCausal, IsCausalOrder, IsWhole, Knows, Learns}
use Rattle.level_laws.specs.CausalFault.{AreSteps, CausalFault, IsCausalFault, IsCausalCycle, IsHiddenBy}
use Rattle.level_laws.specs.CausalFault.{IsReason}
use Rattle.level_laws.specs.CausalFault.{IsUnwrittenRead, Reason, Step, first_of}
use Rattle.level_laws.specs.CausalFault.CausalFault.{unwritten, cycle}
use Rattle.level_laws.specs.CausalFault.Reason.{process, read, initial, hidden}
use Rattle.level_laws.proofs.CausalLemmas.Knowing.{knows-further, learned, session-irrefl, session-trans}
use Rattle.level_laws.proofs.CausalLemmas.Whole.{one-source, source-kept}

module _ (ops order : List Operation) (y : IsWhole ops) (o : IsCausalOrder ops order) where
  no-unwritten : (r : Operation) → IsUnwrittenRead ops r → ⊥
  no-unwritten r u =
      let m = o.met r u.within u.read in
      u.unwritten m.0 (o.only m.0 m.1.within).within m.1.source

  -- a write that a read knows of stands before the one whose value it gives
  hidden-before : (a b r : Operation) → In b ops → IsHiddenBy ops a b r → Before a b order
  hidden-before a b r i h =
      let m =
      o.met r h.within (record { read = h.source.read.read; completed = h.source.read.completed }) in
      let e = one-source ops y m.0 b r (o.only m.0 m.1.within).within i m.1.source h.source in
      elim (m.1.last a h.write h.register h.known) [
        | inl s ↦ absurd (h.differ (s ∙ e))
        | inr s ↦ subst (λ x. Before a x order) e s
      ]

  -- b learns of a, or both are writes of the order, a before b
  abbrev Comes : Operation → Operation → Type 0
  Comes a b = Learns a b ⊎ Before a b order

  -- a step is one of a session, or begins at a write of the order
  comes : (a b : Operation) (why : Reason) → In a ops → In b ops → IsReason ops a b why
      → IsBeforeInSession a b ⊎ (In a order × Comes a b)
  comes a b process i j s = inl (inl (s.process, s.first, s.second, s.earlier))
  comes a b read i j s = inr (o.all a (source-kept ops y a b i j s), inl (inr s))
  comes a b initial i j s = inl (inr (s.first, (s.process, s.second)))
  comes a b (hidden r) i j s =
      let h = hidden-before a b r j s in inr (Before-first a b order h, inr h)

  either : (a b : Operation) → IsBeforeInSession a b ⊎ (In a order × Comes a b) → Comes a b
  either a b (inl s) = inl (inl s)
  either a b (inr c) = c.1

  -- c is a write behind w, or knows of w or of a write behind it
  abbrev IsBehind : Operation → Operation → Type 0
  IsBehind w c = (u : Operation) × In u order × (((u ≡ c) × Before w u order)
      ⊎ (Knows ops u c × ((w ≡ u) ⊎ Before w u order)))

  begins : (w c : Operation) → In w order → In c ops → Comes w c → IsBehind w c
  begins w c i j (inl l) = (w, i, inr (learned ops w c (o.only w i).within j l, inl refl))
  begins w c i j (inr b) = (c, Before-second w c order b, inl (refl, b))

  onward : (w c d : Operation) → In c ops → In d ops → Comes c d → IsBehind w c → IsBehind w d
  onward w c d i j (inl l) (u, k, inl (e, b)) =
      (u, k, inr (learned ops u d (o.only u k).within j (subst (λ x. Learns x d) (sym e) l), inr b))
  onward w c d i j (inl l) (u, k, inr (n, p)) = (u, k, inr (knows-further ops u c d n j l, p))
  onward w c d i j (inr s) (u, k, inl (e, b)) = (
    d,
    Before-second c d order s,
    inl (refl, Before-trans w c d order o.once (subst (λ x. Before w x order) e b) s),
  )
  onward w c d i j (inr s) (u, k, inr (n, p)) =
      let t = Before-trans u c d order o.once (o.known u c k (Before-first c d order s) n) s in (
        d,
        Before-second c d order s,
        inl (
          refl,
          elim p [
            | inl e ↦ subst (λ x. Before x d order) (sym e) t
            | inr b ↦ Before-trans w u d order o.once b t
          ],
        ),
      )

  not-behind-itself : (w : Operation) → In w order → IsBehind w w → ⊥
  not-behind-itself w i (u, k, inl (e, b)) = o.once w (subst (λ x. Before w x order) e b)
  not-behind-itself w i (u, k, inr (n, p)) =
      let b = o.known u w k i n in
      elim p [
        | inl e ↦ o.once w (subst (λ x. Before x w order) (sym e) b)
        | inr s ↦ o.once w (Before-trans w u w order o.once s b)
      ]

  first-in : (steps : List Step) (b : Operation) → In b ops → AreSteps ops steps b
      → In (first_of steps b) ops
  first-in [] b j a = j
  first-in (s ∷ steps) b j a = a.0

  -- what is behind a write stays so along the steps
  walk : (w : Operation) (steps : List Step) (b : Operation) → In b ops → AreSteps ops steps b
      → IsBehind w (first_of steps b) → IsBehind w b
  walk w [] b j a q = q
  walk w (s ∷ steps) b j a q =
      let next = first_of steps b in
      let i = first-in steps b j a.2 in
      walk w steps b j a.2
      (onward w s.from next a.0 i (either s.from next (comes s.from next s.why a.0 i a.1)) q)

  -- steps go along one session, or pass a write of the order, and all that follows it is behind it
  passes : (s : Step) (steps : List Step) (b : Operation) → In b ops → AreSteps ops (s ∷ steps) b
      → IsBeforeInSession s.from b
      ⊎ ((w : Operation) × In w order × ((v : Operation) → IsBehind v s.from → IsBehind v w) × IsBehind w b)
  passes s [] b j a = elim (comes s.from b s.why a.0 j a.1) [
    | inl t ↦ inl t
    | inr c ↦ inr (s.from, c.0, λ v q. q, begins s.from b c.0 j c.1)
  ]
  passes s (t ∷ steps) b j a = elim (comes s.from t.from s.why a.0 a.2.0 a.1) [
    | inl k ↦ elim (passes t steps b j a.2) [
      | inl l ↦ inl (session-trans s.from t.from b k l)
      | inr r ↦ inr (r.0, r.1, λ v q. r.2 v (onward v s.from t.from a.0 a.2.0 (inl (inl k)) q), r.3)
    ]
    | inr c ↦ inr (
      s.from,
      c.0,
      λ v q. q,
      walk s.from (t ∷ steps) b j a.2 (begins s.from t.from c.0 a.2.0 c.1),
    )
  ]

  -- so a cycle would go along one session, or bring a write behind itself
  no-cycle : (steps : List Step) → IsCausalCycle ops steps → ⊥
  no-cycle [] c = c
  no-cycle (s ∷ steps) c = elim (passes s steps s.from c.0 c) [
    | inl t ↦ session-irrefl s.from t
    | inr r ↦ not-behind-itself r.0 r.1 (r.2 r.0 r.3)
  ]

  no-fault : (fault : CausalFault) → IsCausalFault ops fault → ⊥
  no-fault (unwritten r) f = no-unwritten r f
  no-fault (cycle steps) f = no-cycle steps f

pub refuted : (ops : List Operation) (fault : CausalFault) → IsWhole ops → IsCausalFault ops fault
    → IsCausal ops → ⊥
refuted ops fault y f o = no-fault ops o.0 y o.1 fault f
