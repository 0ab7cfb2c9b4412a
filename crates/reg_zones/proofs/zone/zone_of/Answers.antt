use Rattle.std.proofs.Common.{Option, unwrap_or, sym, ap, subst, ◌∙◌}
use Rattle.history_text.specs.declared.event.Val.{Val}
use Rattle.history_model.specs.History.{History}
use Rattle.history_model.specs.Operations.{of_register, operations, value_of}
use Rattle.history_model.specs.declared.operation.Operation.{Operation}
use Rattle.history_model.proofs.Named.{named-oper}
use Rattle.reg_zones.specs.declared.zone.Zone.{Zone}
use Rattle.reg_zones.specs.Clusters.{IsKept}
use Rattle.reg_zones.specs.Sweep.{IsZone, IsZoneFound}
use Rattle.reg_zones.proofs.Kept.{with-register, the_one, kept-value, kept-zone}
use Rattle.reg_zones.proofs.zone.zone_of.Goals as goal
use Rattle.reg_zones.proofs.zone.zone_of.Goals.{in-Some, in-None}

pub with_operation-requires : goal.with_operation-requires
with_operation-requires c = named-oper c.args.arena.now c.args.write c.requires.0 c.requires.1

pub returns : goal.returns
returns c w n =
    let h = c.args.arena.now in
    let register = c.with_operation.result.0 in
    let e = c.with_operation.ensures.operation in
    let o = e.0 in
    let op = c.with_operation.result.1 in
    let p = with-register register h c.args.write o op c.with_operation.ensures.arena e.1 e.2 e.3 in
    let here : (v : Val) (found : Option Zone) → IsZoneFound register.arena.now register.id.0 v found
    → IsZoneFound h o.register v found =
    λ v found f. subst (λ r. IsZoneFound h r v found) e.3
    (subst (λ (g : History). IsZoneFound g register.id.0 v found) c.with_operation.ensures.arena f) in
    let k : IsKept (of_register o.register (operations h)) o =
    subst (λ (x : Operation). IsKept (of_register x.register (operations h)) x)
    (sym (the_one h c.args.write o op p c.requires.0 c.requires.1)) c.requires.2 in
    let z : IsZone (of_register o.register (operations h)) (value_of o) c.unwrap_or.result =
    elim c.match-op.branch [
      | in-Some q ↦ kept-zone h c.args.write o op p k q.in-Some.value _ _ q.in-Some.is
          (here _ _ q.zone_with-found.ensures) (c.unwrap_or.ensures
          ∙ ap (λ f. unwrap_or f (record { f = 0; s = 0 })) q.found-is)
      | in-None q ↦ let v = kept-value h c.args.write o op p k in absurd (cc (v.1, q.in-None.is))
    ] in
    subst (λ (x : Operation). IsZone (of_register x.register (operations h)) (value_of x) c.unwrap_or.result)
    (the_one h c.args.write o op p w n) z
