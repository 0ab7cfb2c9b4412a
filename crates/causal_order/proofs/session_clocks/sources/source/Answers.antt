use Rattle.std.proofs.Common.{length, Some, None, refl, sym, ap, subst, ◌∙◌}
use Rattle.history_model.specs.declared.operation.Operation.{Operation}
use Rattle.reg_levels.proofs.ClusterLemmas.Places.{at-is}
use Rattle.causal_order.specs.SessionClocks.Steps.{IsWriteFound, read_by}
use Rattle.causal_order.proofs.SessionClockLemmas.Valued.{no-source, source-is, source-none}
use Rattle.causal_order.proofs.session_clocks.sources.source.Goals as goal

pub returns-in_default : goal.returns-in_default
returns-in_default c = λ a at.
    let e = at-is c.args.ops.now c.args.place a at in
    no-source c.args.ops.now c.requires.whole c.args.place a at
    (sym (ap (λ (o : Operation). read_by o.act) e) ∙ (sym c.value_read.ensures ∙ c.in_default.is))

pub returns-in-Some-write_of : goal.returns-in-Some-write_of
returns-in-Some-write_of c = λ a at.
    let ops = c.args.ops.now in
    let v = c.in-Some.value in
    let e = at-is ops c.args.place a at in
    let gives = sym (ap (λ (o : Operation). read_by o.act) e) ∙ (sym c.value_read.ensures ∙ c.in-Some.is) in
    let register = ap (λ (o : Operation). o.register) e in
    source-is ops c.requires.whole c.args.place a at v gives c.in-Some-write_of.write
    (subst (λ r. IsWriteFound ops (length ops) r v (Some c.in-Some-write_of.write)) register
    (subst (IsWriteFound ops (length ops) _ v) (sym c.write_of.ensures ∙ c.in-Some-write_of.is)
    (c.requires.writes _ v)))

pub returns-in-None : goal.returns-in-None
returns-in-None c = λ a at.
    let ops = c.args.ops.now in
    let v = c.in-Some.value in
    let e = at-is ops c.args.place a at in
    let gives = sym (ap (λ (o : Operation). read_by o.act) e) ∙ (sym c.value_read.ensures ∙ c.in-Some.is) in
    let register = ap (λ (o : Operation). o.register) e in (
      refl,
      source-none ops c.requires.whole c.args.place a at v gives
          (subst (λ r. IsWriteFound ops (length ops) r v None) register
          (subst (IsWriteFound ops (length ops) _ v) (sym c.write_of.ensures ∙ c.in-None.is)
          (c.requires.writes _ v))),
    )
