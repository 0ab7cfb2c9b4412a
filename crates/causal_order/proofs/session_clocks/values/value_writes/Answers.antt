use Rattle.std.proofs.Common.{◌≡◌, ℕ, ◌+◌, ℤ, cond, length, get_or, Option, Some, sym, subst, ◌∙◌, arith}
use Rattle.std.proofs.Common.{rules}
use Rattle.std.proofs.lemmas.Option.{slice_get-get_or}
use Rattle.reg_levels.proofs.ClusterLemmas.Places.{nothing}
use Rattle.causal_order.specs.SessionClocks.Steps.{AreValueWrites, found_in}
use Rattle.causal_order.proofs.SessionClockLemmas.Valued.{same_key, values-more, values-none, values-same}
use Rattle.causal_order.proofs.session_clocks.values.value_writes.Goals.{in-Some+in_ok-insert, in_default}
use Rattle.causal_order.proofs.session_clocks.values.value_writes.Goals as goal

pub loop-place-init : goal.loop-place-init
loop-place-init c = values-none c.args.ops.now (found_in c.new-writes.result) (λ k. search rules)

pub loop-place-preserved : goal.loop-place-preserved
loop-place-preserved c =
    let ops = c.args.ops.now in
    let i = c.loop-place.place in
    let at = slice_get-get_or ops i nothing c.loop-place-test.true in
    let register = (get_or ops i nothing).register in
    elim c.match-written.branch [
      | in-Some+in_ok-insert w ↦
          subst (λ m. AreValueWrites ops (i + 1) (found_in m)) (sym w.writes-is)
          (values-more ops i _ at (found_in c.loop-place.writes) (found_in w.insert.new.self) w.in-Some.value
          (sym c.written.ensures ∙ w.in-Some.is)
          (subst (λ n. (k : ℕ × Option ℤ) → found_in w.insert.new.self k
          ≡ cond (same_key (register, n) k) (Some i) (found_in c.loop-place.writes k)) w.number.ensures
          w.in_ok-insert.ensures.updates.0)
          c.loop-place.invariant)
      | in_default w ↦
          subst (λ m. AreValueWrites ops (i + 1) (found_in m)) (sym w.writes-is)
          (values-same ops i _ at (found_in c.loop-place.writes) (sym c.written.ensures ∙ w.in_default.is)
          c.loop-place.invariant)
    ]

pub returns : goal.returns
returns c =
    let all : c.loop-place.place ≡ length c.args.ops.now =
    omega (arith, c.loop-place-test.false, c.loop-place.auto.place-end) in
    subst (λ i. AreValueWrites c.args.ops.now i (found_in c.loop-place.writes)) all c.loop-place.invariant
