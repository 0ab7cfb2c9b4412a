use Rattle.std.proofs.Common.{length, inl, inr, sym, ap, subst, ◌∙◌, arith}
use Rattle.reg_levels.proofs.ClusterLemmas.Pushes.{get-push_cases, length-push}
use Rattle.causal_order.specs.SessionClocks.Rows.{AreEmpty}
use Rattle.causal_order.proofs.session_clocks.clocks.no_rows.Goals as goal

pub loop-init : goal.loop-init
loop-init c = record {
  size = ap length c.in_ok-rows.ensures.items;
  none = subst AreEmpty (sym c.in_ok-rows.ensures.items) (λ p row e. absurd (cc e));
}

pub loop-preserved : goal.loop-preserved
loop-preserved c =
    let rows = c.loop.rows.items in
    let pushed = c.in_ok-push.ensures.items in
    record {
      size = omega (arith, ap length pushed, length-push rows c.new.result, c.loop.invariant.size);
      none = subst AreEmpty (sym pushed) (λ p row e. elim (get-push_cases rows c.new.result row p e) [
        | inl h ↦ c.loop.invariant.none p row h
        | inr h ↦ sym (ap (λ v. v.items) h.1) ∙ c.new.ensures.items
      ]);
    }

pub returns-clause-size : goal.returns-clause-size
returns-clause-size c = omega (arith, c.loop.invariant.size, c.loop-test.false)

pub returns-clause-none : goal.returns-clause-none
returns-clause-none c = c.loop.invariant.none
