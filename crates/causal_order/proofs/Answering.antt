-- What the parts of a decision ask of each other.
use Rattle.std.proofs.Common.{◌≡◌, ℕ, ◌+◌, ◌*◌, ◌^◌, ◌<◌, List, [], ◌∷◌, ◌++◌, length, get_or, slice_get}
use Rattle.std.proofs.Common.{Option}
use Rattle.std.proofs.Common.{Some, None, IfSome, sym, ap, ◌∙◌, subst, arith, Vec}
use Rattle.std.specs.Global.{Global}
use Rattle.std.proofs.Math.Nat.{add-mul}
use Rattle.std.proofs.lemmas.Option.{slice_get-get_or, slice_get_within}
use Rattle.history_model.specs.declared.operation.Operation.{Operation}
use Rattle.reg_levels.specs.OrderGraph.Graph.{AreAmong}
use Rattle.reg_levels.specs.declared.order_graph.edge.Edge.{Edge}
use Rattle.reg_levels.proofs.OrderGraphLemmas.Places.{place-inside}
use Rattle.level_laws.specs.CausalFault.{IsCausalCycle, Step}
use Rattle.level_laws.specs.CausalFault.CausalFault.{cycle}
use Rattle.level_laws.specs.CausalFault.Reason.{hidden, initial}
use Rattle.causal_order.specs.SessionClocks.Sessions.{HasSource, IsAt, IsSessionTable}
use Rattle.causal_order.specs.declared.session_clocks.table.SessionTable.{SessionTable}
use Rattle.causal_order.specs.CausalGraph.{IsCausalGraph, IsFor, IsTableOf}
use Rattle.causal_order.specs.Covering.{AreSettled, IsStale}
use Rattle.causal_order.specs.Decisions.{IsBeyond, IsCycleOf, IsDecision}
use Rattle.causal_order.specs.Walks.{AreAllSettled}
use Rattle.causal_order.specs.Ways.{IsFound, IsFoundIf, IsReadWithin}
use Rattle.causal_order.specs.declared.decision.CausalFault.TheVariants.{Cycle}
use Rattle.causal_order.specs.declared.decision.CausalStep.{CausalStep}
use Rattle.causal_order.specs.declared.decision.Decision.{Decision}
use Rattle.causal_order.specs.declared.decision.Decision.TheVariants.{Broken}
use Rattle.causal_order.specs.declared.decision.Why.TheVariants.{Initial, Hidden}
use Rattle.causal_order.specs.declared.graph.CausalGraph.{CausalGraph}
use Rattle.causal_order.specs.declared.graph.EdgeReason.{EdgeReason}
use Rattle.causal_order.specs.declared.graph.EdgeReason.TheVariants.{Session, Source, Known}
use Rattle.causal_order.proofs.Places.{at-In}
use Rattle.causal_order.proofs.Stepping.{found-knew}

-- ---- edges

reason_at : (graph : CausalGraph) (k : ℕ) → length graph.reasons.items ≡ length graph.edges.items
    → k < length graph.edges.items → (reason : EdgeReason) × (slice_get graph.reasons.items k ≡ Some reason)
reason_at graph k count l = place-inside graph.reasons.items k (omega (arith, count, l))

pub graph-among : (ops : List Operation) (graph : CausalGraph) → IsCausalGraph ops graph
    → AreAmong (length ops) graph.edges.items
graph-among ops graph g k d l =
    let reason = reason_at graph k g.count l in
    let b = g.each k (get_or graph.edges.items k d) reason.0
    (slice_get-get_or graph.edges.items k d l) reason.1 in
    (slice_get_within ops _ b.earlier b.at_earlier, slice_get_within ops _ b.later b.at_later)

read_within : (ops : List Operation) (n : ℕ) (a b : Operation) (reason : EdgeReason) → IsFor ops a b reason
    → n ≡ length ops → IsReadWithin n reason
read_within ops n a b Session f e = tt
read_within ops n a b Source f e = tt
read_within ops n a b (Known q) f e = let l = slice_get_within ops q f.0 f.1 in omega (arith, l, e)

pub reads-within : (ops : List Operation) (n : ℕ) (graph : CausalGraph) → IsCausalGraph ops graph
    → n ≡ length ops
    → (k : ℕ) (reason : EdgeReason) → slice_get graph.reasons.items k ≡ Some reason → IsReadWithin n reason
reads-within ops n graph g e k reason at =
    let l = slice_get_within graph.reasons.items k reason at in
    let edge = place-inside graph.edges.items k (omega (arith, l, g.count)) in
    let b = g.each k edge.0 reason edge.1 at in
    read_within ops n b.earlier b.later reason b.holds e

-- ---- stale reads

pub found-if : (table : SessionTable) (p q : ℕ) (knew : Option (Vec ℕ Global))
    → IfSome knew (λ places. IsFound table p q places.items) → IsFoundIf table p q knew
found-if table p q None h = tt
found-if table p q (Some knew) h = h

-- the two steps of a read that gives an initial write's value although it knows of another write
pub stale-cycle : (ops : List Operation) (table : SessionTable) (p q source : ℕ) (knew : Option
    (Vec ℕ Global))
    (none one shown : List CausalStep) → IsTableOf ops table → IsStale ops table p q
    → HasSource table q source
    → IsFoundIf table p q knew → none ≡ [] → one ≡ none ++ record {
      from = p;
      to = source;
      why = Hidden q
          knew;
    } ∷ []
    → shown ≡ one ++ record { from = source; to = p; why = Initial } ∷ []
    → (steps : List Step) × IsCycleOf ops shown steps × IsCausalCycle ops steps
stale-cycle ops table p q source knew none one shown t h has found e f g =
    let to : Some (Some h.place) ≡ Some (Some source) = sym h.is_source ∙ has in
    let same : h.place ≡ source = cc to in
    let back : CausalStep = record { from = source; to = p; why = Initial } in
    let there : CausalStep = record { from = p; to = source; why = Hidden q knew } in
    let all : shown ≡ there ∷ back ∷ [] =
    g ∙ (ap (λ (xs : List CausalStep). xs ++ back ∷ []) f ∙ ap (λ (xs : List CausalStep).
    (xs ++ there ∷ []) ++ back ∷ []) e) in
    let at : IsAt ops source h.initial = subst (λ n. IsAt ops n h.initial) same h.at_initial in
    let first : Step = record { from = h.write; why = hidden h.read } in
    let second : Step = record { from = h.initial; why = initial } in
    let steps : List Step = first ∷ second ∷ [] in (
      steps,
      subst (λ xs. IsCycleOf ops xs steps) (sym all) (
        record {
          at_from = h.at_write;
          at_to = at;
          reason = (h.at_read, found-knew ops table t p q h.write h.read knew found h.at_write h.at_read);
        },
        (record { at_from = at; at_to = h.at_write; reason = tt }, tt),
      ),
      (
        at-In ops p h.write h.at_write,
        h.hidden,
        (
          at-In ops source h.initial at,
          record {
            process = h.process;
            first = h.nobody;
            second = h.called;
          },
          tt,
        ),
      ),
    )

-- ---- bounds

pub work-beyond : (ops : List Operation) (table : SessionTable) (n : ℕ) → IsSessionTable ops table
    → n ≡ length ops
    → 2 ^ 31 < table.count * n → IsBeyond ops
work-beyond ops table n t e l =
    let sum : (table.count + 2) * length ops ≡ table.count * length ops + 2 * length ops =
    add-mul table.count 2 (length ops) in
    let same : table.count * n ≡ table.count * length ops = ap (λ k. table.count * k) e in
    (table, t, omega (arith, l, sum, same))

-- what is settled along an order of all operations is settled
pub all-settled : (ops : List Operation) (table : SessionTable) (edges : List Edge) (order : List ℕ)
    → ((p : ℕ) → p < length ops → (i : ℕ) × (slice_get order i ≡ Some p))
    → AreSettled ops table edges order (length order) → AreAllSettled ops table edges
all-settled ops table edges order all h p l =
    let i = all p l in h i.0 p (slice_get_within order i.0 p i.1) i.1

pub broken-decision : (ops : List Operation) (shown : Vec CausalStep Global) (decision : Decision)
    → decision ≡ Broken (Cycle shown) → (steps : List Step) × IsCycleOf ops shown.items steps
    × IsCausalCycle ops steps
    → IsDecision ops decision
broken-decision ops shown decision e (steps, of_steps, is) =
    subst (IsDecision ops) (sym e) (cycle steps, of_steps, is)
