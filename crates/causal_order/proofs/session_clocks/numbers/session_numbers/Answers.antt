use Rattle.std.proofs.Common.{◌≡◌, ◌+◌, length, sym, subst, ◌∙◌, arith, rules}
use Rattle.std.proofs.lemmas.Option.{slice_get-get_or}
use Rattle.std.specs.Ordering.{nat_cmp}
use Rattle.std.proofs.lemmas.Bool.{false≢true}
use Rattle.std.specs.BTreeMap.{get}
use Rattle.reg_levels.proofs.ClusterLemmas.Places.{nothing}
use Rattle.causal_order.specs.SessionClocks.Steps.{AreNumbers}
use Rattle.causal_order.proofs.SessionClockLemmas.Numbered.{equal-some, numbers-new, numbers-none}
use Rattle.causal_order.proofs.SessionClockLemmas.Numbered.{numbers-same, some-equal}
use Rattle.causal_order.proofs.session_clocks.numbers.session_numbers.Goals.{then-eq, else-eq}
use Rattle.causal_order.proofs.session_clocks.numbers.session_numbers.Goals as goal

pub loop-place-init : goal.loop-place-init
loop-place-init c =
    numbers-none c.args.ops.now (get nat_cmp c.new-sessions.result) c.in_ok-numbers.numbers.items
    c.in_ok-numbers.ensures.items (λ x. search rules)

pub overflow_add-count : goal.overflow_add-count
overflow_add-count c = omega (arith, c.loop-place.invariant.few, c.loop-place-test.true, c.requires.few)

pub loop-place-preserved : goal.loop-place-preserved
loop-place-preserved c =
    let ops = c.args.ops.now in
    let i = c.loop-place.place in
    let at = slice_get-get_or ops i nothing c.loop-place-test.true in
    let number = c.in_ok-number.number in
    let old = get nat_cmp c.loop-place.sessions in
    let new = get nat_cmp c.number_of.new.sessions in
    let pushed = c.in_ok-push.ensures.items in
    elim c.if-eq.branch [
      | then-eq w ↦
          subst (λ n. AreNumbers ops (i + 1) n new c.push.new.self.items) (sym w.count-is)
          (subst (AreNumbers ops (i + 1) (c.loop-place.count + 1) new) (sym pushed)
          (numbers-new ops i c.loop-place.count old new c.loop-place.numbers.items _ at number
          c.loop-place.invariant c.in_ok-number.ensures
          (equal-some number c.loop-place.count (sym c.eq.ensures ∙ w.if-eq.true))))
      | else-eq w ↦
          subst (λ n. AreNumbers ops (i + 1) n new c.push.new.self.items) (sym w.count-is)
          (subst (AreNumbers ops (i + 1) c.loop-place.count new) (sym pushed)
          (numbers-same ops i c.loop-place.count old new c.loop-place.numbers.items _ at number
          c.loop-place.invariant c.in_ok-number.ensures
          (λ e. false≢true (sym w.if-eq.false ∙ (c.eq.ensures ∙ some-equal number c.loop-place.count e)))))
    ]

pub returns : goal.returns
returns c =
    let all : c.loop-place.place ≡ length c.args.ops.now =
    omega (arith, c.loop-place-test.false, c.loop-place.auto.place-end) in (
      get nat_cmp c.loop-place.sessions,
      subst (λ i. AreNumbers c.args.ops.now i c.loop-place.count (get nat_cmp c.loop-place.sessions)
          c.loop-place.numbers.items) all c.loop-place.invariant,
    )
