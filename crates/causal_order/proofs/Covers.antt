-- What the rows of clocks say of the writes that a read knows of.
use Rattle.std.proofs.Common.{◌≡◌, ℕ, ◌+◌, ◌<◌, ◌≤◌, List, get_or, Option, Some, None, inl, inr}
use Rattle.std.proofs.Common.{refl, sym, ap, ◌∙◌, subst, arith, true, false}
use Rattle.std.proofs.lemmas.Bool.{cases_order}
use Rattle.history_model.specs.Operations.{IsWrite, is_write}
use Rattle.history_model.specs.declared.operation.Operation.{Operation}
use Rattle.reg_levels.specs.OrderGraph.Graph.{HasEdge}
use Rattle.reg_levels.specs.declared.order_graph.edge.Edge.{Edge}
use Rattle.causal_order.specs.SessionClocks.WriteIndex.{IsWriteBy}
use Rattle.causal_order.specs.declared.session_clocks.table.SessionTable.{SessionTable}
use Rattle.causal_order.specs.CausalGraph.{IsBehind, Keeps}
use Rattle.causal_order.specs.Covering.{AreReached, IsAnyKnown, IsNewest, IsSourcedRead}
use Rattle.causal_order.specs.declared.graph.EdgeReason.TheVariants.{Known}
use Rattle.causal_order.specs.declared.newer.SourcedRead.{SourcedRead}
use Rattle.causal_order.proofs.Places.{at-In}

-- a write isn't a read
pub write-read : (v r : Operation) → IsWrite v → is_write r ≡ false → v ≡ r → ⊥
write-read v r w f e = let q : true ≡ false = sym w ∙ (ap is_write e ∙ f) in absurd (cc q)

-- the newest write that a read knows of, and the write of its value doesn't, comes before that
pub newest-behind : (ops : List Operation) (table : SessionTable) (of : SourcedRead) (earlier later : List ℕ)
    (s l : ℕ) → IsSourcedRead ops table of earlier later
    → IsNewest ops table of.register s (get_or earlier s 0) (get_or later s 0) (Some l)
    → IsBehind ops l of.source (Known of.read)
newest-behind ops table of earlier later s l k (from, (below, (v, at, write, register, session), last)) =
    let known = (k.later_row.known l s v at session).0 below in
    record {
      earlier = v;
      later = k.write;
      at_earlier = at;
      at_later = k.at_write;
      holds = (
        k.read,
        k.at_read,
        record {
          within = at-In ops of.read k.read k.at_read;
          differ = λ e. let low = (k.earlier_row.known l s v at session).1 (inl e) in absurd (omega
              (arith, low, from));
          write = write;
          register = register ∙ k.register;
          source = k.source;
          known = elim known [
            | inl e ↦ absurd (write-read v k.read write k.source.read.read e)
            | inr h ↦ h
          ];
        },
      );
    }

-- one more session
pub reached-more : (ops : List Operation) (table : SessionTable) (of : SourcedRead) (earlier later : List ℕ)
    (n : ℕ) (old new : List Edge) (newest : Option ℕ)
    → IsNewest ops table of.register n (get_or earlier n 0) (get_or later n 0) newest
    → ((l : ℕ) → newest ≡ Some l → HasEdge new l of.source) → Keeps old new
    → AreReached ops table of earlier later n old → AreReached ops table of earlier later (n + 1) new
reached-more ops table of earlier later n old new newest is joins keeps h s p l m b w = elim
    (cases_order s n) [
      | inl e ↦ go newest is joins
          (subst (λ k. get_or earlier k 0 ≤ p) e m) (subst (λ k. p < get_or later k 0) e b)
          (subst (λ k. IsWriteBy ops table of.register k p) e w) e
      | inr o ↦ elim o [
        | inl less ↦ let r = h s p less m b w in (r.0, r.1, r.2, keeps r.0 of.source r.3)
        | inr more ↦ absurd (omega arith)
      ]
    ]
  where
    go : (newest : Option ℕ) → IsNewest ops table of.register n (get_or earlier n 0) (get_or later n 0) newest
        → ((l : ℕ) → newest ≡ Some l → HasEdge new l of.source) → get_or earlier n 0 ≤ p
        → p < get_or later n 0
        → IsWriteBy ops table of.register n p → s ≡ n
        → (last : ℕ) × (p ≤ last) × IsWriteBy ops table of.register s last × HasEdge new last of.source
    go None none joins m b w e = absurd (none p m b w)
    go (Some l) (from, (below, by, last)) joins m b w e =
        (l, last p b w, subst (λ k. IsWriteBy ops table of.register k l) (sym e) by, joins l refl)

pub known-more : (ops : List Operation) (table : SessionTable) (register : ℕ) (row : List ℕ) (n : ℕ)
    → ((p : ℕ) → p < get_or row n 0 → IsWriteBy ops table register n p → ⊥)
    → IsAnyKnown ops table register row n None → IsAnyKnown ops table register row (n + 1) None
known-more ops table register row n none h s p l b w = elim (cases_order s n) [
  | inl e ↦ none p (subst (λ k. p < get_or row k 0) e b) (subst (λ k. IsWriteBy ops table register k p) e w)
  | inr o ↦ elim o [
    | inl less ↦ h s p less b w
    | inr more ↦ absurd (omega arith)
  ]
]
