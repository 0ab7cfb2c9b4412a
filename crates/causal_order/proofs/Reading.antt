-- What is known where a walk has taken a completed read, in one record.
use Rattle.std.proofs.Common.{◌≡◌, ℕ, ◌<◌, List, length, get_or, slice_get, Option, Some, true, false, ◌∙◌}
use Rattle.std.specs.Option.{MatchOption, is_some}
use Rattle.history_model.specs.declared.operation.Operation.{Operation}
use Rattle.reg_levels.specs.declared.order_graph.edge.Edge.{Edge}
use Rattle.causal_order.specs.SessionClocks.Clocks.{IsHeld, row_at}
use Rattle.causal_order.specs.SessionClocks.WriteIndex.{IsWriteIndex}
use Rattle.causal_order.specs.declared.session_clocks.table.SessionTable.{SessionTable}
use Rattle.causal_order.specs.Covering.{AreReached, IsAnyKnown, IsSettled, IsSourcedRead, IsStale}
use Rattle.causal_order.specs.Walks.{IsWalk}
use Rattle.causal_order.specs.declared.newer.SourcedRead.{SourcedRead}
use Rattle.causal_order.specs.declared.walk.LearningWalk.{LearningWalk}
use Rattle.causal_order.proofs.Walking.{earlier-row, later-row, nobody-is, read-held, register-is}
use Rattle.causal_order.proofs.Walking.{settled-some}
use Rattle.causal_order.proofs.Walking.{somebody-is, source-below, source-has, source-held, sourced-by}
use Rattle.causal_order.proofs.Walking.{stale-or-settled}

-- the walk takes the operation at place p, the next one of some order
abbrev pub IsTaking : List Operation → SessionTable → ℕ → LearningWalk → Type 0
IsTaking ops table p walk =
    (order : List ℕ) × (turn : ℕ) × IsWalk ops table order turn (Some p) walk
    × (slice_get order turn ≡ Some p)

-- it is a read of the value of the write at place s; `d` is what code reads past the end
pub record IsReading (ops : List Operation) (table : SessionTable) (p s : ℕ)
    (walk : LearningWalk) : Type 0 where
  pub index : IsWriteIndex ops table walk.index
  pub below : s < length ops
  pub held : IsHeld walk.clocks p
  pub entries : length (row_at walk.clocks p) ≡ table.count
  -- the write is an initial one
  pub stale : (d : Operation) (row : List ℕ) (edges : List Edge) (found : Option ℕ)
      → is_some (get_or ops s d).process ≡ false → row ≡ row_at walk.clocks p
      → IsAnyKnown ops table (get_or ops p d).register row (length row) found
      → MatchOption found (IsSettled ops table edges p) (λ l. IsStale ops table l p)
  -- somebody called the write
  pub source_held : (d : Operation) → is_some (get_or ops s d).process ≡ true → IsHeld walk.clocks s
  pub source_entries : (d : Operation) → is_some (get_or ops s d).process ≡ true
      → length (row_at walk.clocks s) ≡ table.count
  pub sourced : (d : Operation) (of : SourcedRead) (earlier later : List ℕ)
      → is_some (get_or ops s d).process ≡ true → of.source ≡ s → of.read ≡ p
      → of.register ≡ (get_or ops p d).register → earlier ≡ row_at walk.clocks s
      → later ≡ row_at walk.clocks p → IsSourcedRead ops table of earlier later
  pub settled : (d : Operation) (of : SourcedRead) (earlier later : List ℕ) (edges : List Edge)
      → is_some (get_or ops s d).process ≡ true → of.source ≡ s → of.register ≡ (get_or ops p d).register
      → earlier ≡ row_at walk.clocks s → later ≡ row_at walk.clocks p
      → AreReached ops table of earlier later (length later) edges → IsSettled ops table edges p

pub reading : (ops : List Operation) (table : SessionTable) (p s : ℕ) (walk : LearningWalk) (found : Option ℕ)
    → IsTaking ops table p walk → found ≡ get_or table.sources.items p found → found ≡ Some s
    → IsReading ops table p s walk
reading ops table p s walk found (order, turn, is, at) e some =
    let has = source-has ops table order turn p walk is at found s e some in
    let register = register-is ops table order turn p walk is at s has in
    let nobody = nobody-is ops table order turn p walk is at s has in
    let called = somebody-is ops table order turn p walk is at s has in
    record {
      index = is.index;
      below = source-below ops table order turn p walk is at s has;
      held = read-held ops table order turn p walk is at s has;
      entries = (later-row ops table order turn p walk is at s has).entries;
      stale = λ d row edges found none f known.
          stale-or-settled ops table order turn p walk is at s has _ row edges found (register d) f
          (nobody d none) known;
      source_held = λ d h. let x = called d h in source-held ops table order turn p walk is at s has x.0 x.1;
      source_entries = λ d h.
          let x = called d h in (earlier-row ops table order turn p walk is at s has x.0 x.1).entries;
      sourced = λ d of earlier later h f g r a b.
          let x = called d h in
          sourced-by ops table order turn p walk is at s has of earlier later x.0 f g (r
          ∙ register d) x.1 a b;
      settled = λ d of earlier later edges h f r a b reached.
          let x = called d h in
          settled-some ops table order turn p walk is at s has of earlier later x.0 edges f (r
          ∙ register d) x.1
          a b reached;
    }
