use Rattle.std.proofs.Common.{◌++◌, ◌∷◌, [], length, slice_get, inl, inr, ap, ◌∙◌, arith}
use Rattle.reg_levels.proofs.ClusterLemmas.Pushes.{length-push}
use Rattle.history_model.proofs.Lists.{slice_get-push, slice_get-push_other}
use Rattle.causal_order.specs.SessionClocks.WriteIndex.{list_in}
use Rattle.causal_order.proofs.SessionClockLemmas.Indexed.{same-number}
use Rattle.causal_order.proofs.session_clocks.writes.no_lists.Goals as goal

pub loop-init : goal.loop-init
loop-init c = record {
  size = ap length c.in_ok-lists.ensures.items;
  none = λ p. ap (λ xs. list_in (slice_get xs p)) c.in_ok-lists.ensures.items;
}

pub loop-preserved : goal.loop-preserved
loop-preserved c =
    let lists = c.loop.lists.items in
    let pushed = c.in_ok-push.ensures.items in
    record {
      size = omega (arith, ap length pushed, length-push lists c.new.result, c.loop.invariant.size);
      none = λ p.
          ap (λ xs. list_in (slice_get xs p)) pushed
          ∙ elim (same-number p (length lists)) [
            | inl e ↦ ap (λ n. list_in (slice_get (lists ++ c.new.result ∷ []) n)) e
                ∙ (ap list_in (slice_get-push lists c.new.result) ∙ c.new.ensures.items)
            | inr n ↦ ap list_in (slice_get-push_other lists c.new.result p n) ∙ c.loop.invariant.none p
          ];
    }

pub returns-clause-size : goal.returns-clause-size
returns-clause-size c = omega (arith, c.loop.invariant.size, c.loop-test.false)

pub returns-clause-none : goal.returns-clause-none
returns-clause-none c = c.loop.invariant.none
