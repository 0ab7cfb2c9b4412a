-- What a table of sessions says of two operations.
use Rattle.std.proofs.Common.{ℕ, List, Some, arith}
use Rattle.std.proofs.lemmas.Option.{slice_get_within}
use Rattle.history_model.specs.declared.operation.Operation.{Operation}
use Rattle.reg_levels.proofs.OrderGraphLemmas.Places.{place-inside}
use Rattle.level_laws.specs.Causal.{IsSource}
use Rattle.level_laws.specs.CausalFault.{IsEarlierCall}
use Rattle.causal_order.specs.SessionClocks.Sessions.{HasPrevious, HasSource, IsAt, IsCalledInOrder}
use Rattle.causal_order.specs.SessionClocks.Sessions.{IsSessionTable}
use Rattle.causal_order.specs.declared.session_clocks.table.SessionTable.{SessionTable}
use Rattle.causal_order.specs.CausalGraph.{IsBehind}
use Rattle.causal_order.specs.declared.graph.EdgeReason.TheVariants.{Session, Source}
use Rattle.causal_order.proofs.SessionClockLemmas.Ordered.{calls_ascend}

-- two operations by their places
pub record AreBoth (ops : List Operation) (p q : ℕ) (R : Operation → Operation → Type 0) : Type 0 where
  pub earlier : Operation
  pub later : Operation
  pub at_earlier : IsAt ops p earlier
  pub at_later : IsAt ops q later
  pub holds : R earlier later

module _ (ops : List Operation) (table : SessionTable) (called : IsCalledInOrder ops)
    (t : IsSessionTable ops table) where
  pub previous-both : (q p : ℕ) → HasPrevious table q p → AreBoth ops p q IsEarlierCall
  previous-both q p h =
      let l = slice_get_within table.previous.items q (Some p) h in
      let b = place-inside ops q (omega (arith, l, t.previous)) in
      let (x, c, m, at, yb, yc, last) = t.each_previous q b.0 (Some p) b.1 h in
      record {
        earlier = c;
        later = b.0;
        at_earlier = at;
        at_later = b.1;
        holds = record {
          process = x;
          first = yc;
          second = yb;
          earlier = calls_ascend ops called p q x c b.0 m at b.1 yb;
        };
      }

  pub source-both : (q p : ℕ) → HasSource table q p → AreBoth ops p q IsSource
  source-both q p h =
      let l = slice_get_within table.sources.items q (Some p) h in
      let b = place-inside ops q (omega (arith, l, t.sources)) in
      let (w, at, source) = t.each_source q b.0 (Some p) b.1 h in
      record { earlier = w; later = b.0; at_earlier = at; at_later = b.1; holds = source }

  pub previous-behind : (q p : ℕ) → HasPrevious table q p → IsBehind ops p q Session
  previous-behind q p h =
      let b = previous-both q p h in
      record {
        earlier = b.earlier;
        later = b.later;
        at_earlier = b.at_earlier;
        at_later = b.at_later;
        holds = b.holds;
      }

  pub source-behind : (q p : ℕ) → HasSource table q p → IsBehind ops p q Source
  source-behind q p h =
      let b = source-both q p h in
      record {
        earlier = b.earlier;
        later = b.later;
        at_earlier = b.at_earlier;
        at_later = b.at_later;
        holds = b.holds;
      }
