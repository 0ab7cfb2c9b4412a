-- What the graph covers of the writes that completed reads know of (this project's own words).
use Rattle.std.specs.Prelude.{◌≡◌, ◌⊎◌, ℕ, ◌<◌, ◌≤◌, List, get_or, slice_get, Option, Some, None}
use Rattle.history_model.specs.Operations.{IsWrite}
use Rattle.history_model.specs.declared.operation.Operation.{Operation}
use Rattle.level_laws.specs.Causal.{IsSource, Knows}
use Rattle.level_laws.specs.CausalFault.{IsHiddenBy}
use Rattle.reg_levels.specs.OrderGraph.Graph.{HasEdge}
use Rattle.reg_levels.specs.declared.order_graph.edge.Edge.{Edge}
use Rattle.causal_order.specs.SessionClocks.Clocks.{IsRow}
use Rattle.causal_order.specs.SessionClocks.Sessions.{HasSource, IsAt}
use Rattle.causal_order.specs.SessionClocks.WriteIndex.{IsLastBelow, IsWriteBy}
use Rattle.causal_order.specs.declared.session_clocks.table.SessionTable.{SessionTable}
use Rattle.causal_order.specs.CausalGraph.{IsTableOf}
use Rattle.causal_order.specs.declared.newer.SourcedRead.{SourcedRead}

-- of the writes of session s to register r from place m on and below place n, the last one
abbrev pub IsNewest : List Operation → SessionTable → ℕ → ℕ → ℕ → ℕ → Option ℕ → Type 0
IsNewest ops table r s m n None = (p : ℕ) → m ≤ p → p < n → IsWriteBy ops table r s p → ⊥
IsNewest ops table r s m n (Some last) = (m ≤ last) × IsLastBelow ops table r s n (Some last)

-- a write to register r by one of the sessions below a number that the row says is known, if there is one
abbrev pub IsAnyKnown : List Operation → SessionTable → ℕ → List ℕ → ℕ → Option ℕ → Type 0
IsAnyKnown ops table r row sessions None =
    (s p : ℕ) → s < sessions → p < get_or row s 0 → IsWriteBy ops table r s p → ⊥
IsAnyKnown ops table r row sessions (Some p) =
    (s : ℕ) × (s < sessions) × (p < get_or row s 0) × IsWriteBy ops table r s p

-- the read gives the value of a write that somebody called, and the rows say what both know
pub record IsSourcedRead (ops : List Operation) (table : SessionTable) (of : SourcedRead)
    (earlier later : List ℕ) : Type 0 where
  pub is_table : IsTableOf ops table
  pub write : Operation
  pub read : Operation
  pub at_write : IsAt ops of.source write
  pub at_read : IsAt ops of.read read
  pub source : IsSource write read
  pub register : of.register ≡ read.register
  pub earlier_row : IsRow ops table write earlier
  pub later_row : IsRow ops table read later

-- to the write of the read's value an edge leads from a write of each session below a number that stands no
-- sooner than those that the read knows of and that write doesn't
abbrev pub AreReached : List Operation → SessionTable → SourcedRead → List ℕ → List ℕ → ℕ → List Edge → Type 0
AreReached ops table of earlier later sessions edges =
    (s p : ℕ) → s < sessions → get_or earlier s 0 ≤ p → p < get_or later s 0
    → IsWriteBy ops table of.register s p
    → (last : ℕ) × (p ≤ last) × IsWriteBy ops table of.register s last × HasEdge edges last of.source

-- v is w, or w knows of it, or an edge leads to the place s of w from v or from what knows of v
abbrev pub IsJoined : List Operation → List Edge → Operation → Operation → ℕ → Type 0
IsJoined ops edges v w s =
    (v ≡ w) ⊎ (Knows ops v w
    ⊎ ((l : ℕ) × (u : Operation) × IsAt ops l u × HasEdge edges l s × ((v ≡ u) ⊎ Knows ops v u)))

-- the write of the value of the read at place p is no initial one if the read knows of a called write of its
-- register, and each of these is joined to it
abbrev pub IsSettled : List Operation → SessionTable → List Edge → ℕ → Type 0
IsSettled ops table edges p =
    (s q x : ℕ) (r w v : Operation) → HasSource table p s → IsAt ops p r → IsAt ops s w → IsAt ops q v
    → v.process ≡ Some x → IsWrite v → v.register ≡ r.register → Knows ops v r
    → (w.process ≡ None → ⊥) × IsJoined ops edges v w s

-- this holds of the reads at the first places of an order
abbrev pub AreSettled : List Operation → SessionTable → List Edge → List ℕ → ℕ → Type 0
AreSettled ops table edges order turns =
    (i p : ℕ) → i < turns → slice_get order i ≡ Some p → IsSettled ops table edges p

-- the read at place p gives the value of an initial write although it knows of a called write, at place q, of
-- its register
pub record IsStale (ops : List Operation) (table : SessionTable) (q p : ℕ) : Type 0 where
  pub write : Operation
  pub read : Operation
  pub initial : Operation
  pub place : ℕ
  pub process : ℕ
  pub at_write : IsAt ops q write
  pub at_read : IsAt ops p read
  pub at_initial : IsAt ops place initial
  pub is_source : HasSource table p place
  pub called : write.process ≡ Some process
  pub nobody : initial.process ≡ None
  pub hidden : IsHiddenBy ops write initial read
