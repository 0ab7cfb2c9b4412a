use Rattle.std.proofs.Common.{◌≡◌, ◌+◌, ◌⊎◌, ◌∙◌, cond, ap, sym, subst}
use Rattle.history_model.specs.Operations.{IsWrite, IsCompleted, writes, value_of}
use Rattle.history_model.specs.declared.operation.Operation.{Operation}
use Rattle.history_model.specs.declared.op.Op.{Op}
use Rattle.history_model.proofs.Plain.{changes-kind}
use Rattle.reg_zones.specs.Entries.{IsListedAt, turn}
use Rattle.reg_zones.specs.Register.{operations_of}
use Rattle.reg_zones.specs.Sweep.{IsMetAt}
use Rattle.reg_zones.proofs.Known.{facts}
use Rattle.reg_zones.proofs.MetEvents.{no-call}
use Rattle.reg_zones.proofs.ValuedEvents.{same}
use Rattle.reg_zones.proofs.Walks.{value-within}
use Rattle.reg_zones.proofs.ListedAt.{not_counted, not_found, listed_here}
use Rattle.reg_zones.proofs.Complete.{listed-in}
use Rattle.reg_zones.proofs.entry.listed_at.Goals as goal
use Rattle.reg_zones.proofs.entry.listed_at.Goals.{in-WriteOp, in-ReadOp}

pub returns-in_default : goal.returns-in_default
returns-in_default c a l e =
    let ops = operations_of c.args.register in
    no-call c.args.register.arena.now c.args.register.id.0 (facts c.args.register) c.args.id.0 c.args.met
    c.in_default.not-Call c.requires a (listed-in ops a l) e

pub returns-in_err-valued : goal.returns-in_err-valued
returns-in_err-valued c =
    let b =
    subst (IsMetAt c.args.register.arena.now c.args.register.id.0 c.args.id.0) c.in-Call.is c.requires in
    let none = c.in_err-valued.ensures in
    subst (IsListedAt (operations_of c.args.register) (c.args.id.0 + 2)) (sym c.from_residual.ensures)
    (not_counted c.args.register.arena.now c.args.register.id.0 (facts c.args.register) c.args.id.0 b.0 _ b.1
    (none b.0 b.1.one b.1.event))

pub zone_at-requires : goal.zone_at-requires
zone_at-requires c =
    let v =
    c.in_ok-valued.ensures in
    value-within c.args.register.arena.now.events c.in_ok-valued.valued.0 _ v.3.2

pub returns-in_err-zone : goal.returns-in_err-zone
returns-in_err-zone c =
    let b =
    subst (IsMetAt c.args.register.arena.now c.args.register.id.0 c.args.id.0) c.in-Call.is c.requires in
    let v = c.in_ok-valued.ensures in
    let none = c.in_err-zone.ensures in
    let one =
    same c.args.register.arena.now c.args.register.id.0 (facts c.args.register) c.args.id.0 b.0 _ b.1 v.0
    v.1 v.2 in
    subst (IsListedAt (operations_of c.args.register) (c.args.id.0 + 2))
    (sym c.from_residual-in_err-zone.ensures)
    (not_found c.args.register.arena.now c.args.register.id.0 (facts c.args.register) c.args.id.0 b.0 _ b.1
    v.3.0 (ap value_of one ∙ v.3.1) (none _ v.3.2))

pub returns : goal.returns
returns c =
    let b =
    subst (IsMetAt c.args.register.arena.now c.args.register.id.0 c.args.id.0) c.in-Call.is c.requires in
    let v = c.in_ok-valued.ensures in
    let one =
    same c.args.register.arena.now c.args.register.id.0 (facts c.args.register) c.args.id.0 b.0 _ b.1 v.0
    v.1 v.2 in
    let value = ap value_of one ∙ v.3.1 in
    let counts = subst (λ (o : Operation). IsWrite o ⊎ IsCompleted o) (sym one) v.3.3 in
    let kind = ap (λ (x : Op). x.kind) (sym b.1.shown) in
    let written = ap (λ w. cond w 0 b.0.call) (sym (changes-kind (b.0).act)) in
    let turn_is : c.match-op.turn ≡ turn b.0 = elim c.match-op.branch [
      | in-WriteOp w ↦ w.turn-is ∙ (ap (λ k. cond (writes k) 0 b.0.call) (sym (kind ∙ w.in-WriteOp.is))
          ∙ written)
      | in-ReadOp w ↦ w.turn-is
          ∙ (ap (λ (x : Op). x.call) b.1.shown
          ∙ (ap (λ k. cond (writes k) 0 b.0.call) (sym (kind ∙ w.in-ReadOp.is)) ∙ written))
    ] in
    listed_here c.args.register.arena.now c.args.register.id.0 (facts c.args.register) c.args.id.0 b.0 _ b.1
    v.3.0 c.in_ok-zone.zone _ _ _ value counts (c.in_ok-zone.ensures _ v.3.2) b.3 c.low.ensures
    turn_is b.2
