use Rattle.std.proofs.Common.{◌≡◌, ◌+◌, ◌-◌, ◌∙◌, ℕ, Some, ap, arith, inl, sym, subst}
use Rattle.std.proofs.lemmas.Bool.{false≢true}
use Rattle.history_model.specs.declared.ids.EvId.{EvId}
use Rattle.history_model.specs.declared.ids.Oper.TheVariants.{Called}
use Rattle.history_model.specs.Naming.{IsNamed, IsOper, IsOperOf}
use Rattle.history_model.proofs.Named.{has-oper}
use Rattle.history_model.proofs.Recorded.{of_register-In}
use Rattle.history_model.specs.Lists.{In}
use Rattle.history_model.specs.Operations.{of_register, operations}
use Rattle.history_model.specs.declared.operation.Operation.{Operation}
use Rattle.reg_zones.proofs.Known.{facts}
use Rattle.reg_zones.proofs.MetEvents.{met-reply, met-nothing}
use Rattle.reg_zones.proofs.Registers.{begun, call-name, found-name}
use Rattle.reg_zones.proofs.register.Register.meet.Goals as goal

pub op-requires : goal.op-requires
op-requires c =
    let h = c.args.self.arena.now in
    let f = subst (IsOperOf h c.args.id.0) c.in-Some.is c.requires.oper in
    subst (IsOper h) f.1.named (has-oper h f.0 f.1.one)

pub returns-in-Some : goal.returns-in-Some
returns-in-Some c =
    let h = c.args.self.arena.now in
    let o = c.op.ensures in
    let called = c.is_called_at.ensures.0 c.if-is_called_at.true in
    let b =
    begun h c.args.self.id.0 (facts c.args.self) c.args.id o.0 c.requires.event
    (subst (λ name. IsNamed h name o.0) called o.1) in
    (o.0, record { one = b.0; event = inl b.1; shown = o.2 }, sym o.1.named, b.1)

pub returns-in-Some-2 : goal.returns-in-Some-2
returns-in-Some-2 c =
    let h = c.args.self.arena.now in
    let r = c.args.self.id.0 in
    let y = facts c.args.self in
    let i = c.args.id.0 in
    let f = subst (IsOperOf h i) c.in-Some.is c.requires.oper in
    let none : (o : Operation) → In o (of_register r (operations h)) → o.call ≡ i + 2 → ⊥ = λ o k t.
    let named = (call-name h r y o k).1 (omega (arith, t)) in
    let here : record { 0 = o.call - 2 } ≡ c.args.id =
    ap (λ (n : ℕ). let e : EvId = record { 0 = n } in e) (omega (arith, t)) in
    let same =
    found-name h r y i (Some c.in-Some.oper) c.in-Some.oper f o (of_register-In r (operations h) o k).0
    (inl t) in
    false≢true (sym c.if-is_called_at.false
    ∙ c.is_called_at.ensures.1 (sym same ∙ (named ∙ ap Called here))) in
    met-reply h r y i c.in-Some.oper c.requires.event f none

pub returns-in-None : goal.returns-in-None
returns-in-None c =
    met-nothing c.args.self.arena.now c.args.self.id.0 (facts c.args.self) c.args.id.0
    (subst (IsOperOf c.args.self.arena.now c.args.id.0) c.in-None.is c.requires.oper)
