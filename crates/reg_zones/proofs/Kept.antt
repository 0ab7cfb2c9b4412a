-- Whether a write is kept, and its zone, by what the arena answers.
use Rattle.std.proofs.Common.{◌≡◌, ℕ, Option, Some, None, ◌↔◌, IsTrue, is_some}
use Rattle.std.proofs.Common.{unwrap_or, ◌⊎◌, inl, inr, refl, sym, ap, subst, ◌∙◌}
use Rattle.std.proofs.lemmas.Bool.{false≢true}
use Rattle.history_text.specs.declared.event.Val.{Val}
use Rattle.history_text.specs.declared.event.OpKind.TheVariants.{ReadOp}
use Rattle.history_model.specs.declared.ids.Oper.{Oper}
use Rattle.history_model.specs.declared.op.Op.{Op}
use Rattle.history_model.specs.History.{History}
use Rattle.history_model.specs.Operations.{IsWrite, writes, of_register, operations, value_of}
use Rattle.history_model.specs.declared.operation.Operation.{Operation}
use Rattle.history_model.specs.Naming.{IsNamed, op_shown}
use Rattle.history_model.specs.OfValue.{IsFirstReply}
use Rattle.reg_zones.specs.declared.zone.Zone.{Zone}
use Rattle.reg_zones.specs.Clusters.{IsKept}
use Rattle.reg_zones.specs.declared.register.Register.{Register}
use Rattle.reg_zones.proofs.Known.{IsKnown, facts-at}
use Rattle.reg_zones.specs.Sweep.{IsZone, IsZoneFound}
use Rattle.reg_zones.proofs.Registers.{first_reply-found, last_call-found, kept-completed, completed-kept}
use Rattle.history_model.proofs.Named.{one-named}
use Rattle.history_model.proofs.Recorded.{In-of_register}
use Rattle.history_model.proofs.Plain.{changes-kind}

-- the zone that was found of a kept write's value
pub zone-found : (h : History) (r : ℕ) (y : IsKnown h r) (v : Val) (zone : Zone)
    → IsZoneFound h r v (Some zone) → IsZone (of_register r (operations h)) (Some v) zone
zone-found h r y v zone f = record {
  reply = first_reply-found h r y v zone.f f.0;
  call = last_call-found h r y v zone.s f.1;
}

-- the operation o of this name, with what is known of its register
pub record IsOperation (h : History) (name : Oper) (o : Operation) (op : Op) : Type 0 where
  pub named : IsNamed h name o
  pub shown : op ≡ op_shown o
  pub register : IsKnown h o.register

pub with-register : (register : Register) (h : History) (name : Oper) (o : Operation) (op : Op)
    → register.arena.now ≡ h → IsNamed h name o → op ≡ op_shown o → register.id.0 ≡ o.register
    → IsOperation h name o op
with-register register h name o op e n s r = record {
  named = n;
  shown = s;
  register = facts-at register h o.register e r;
}

module _ (h : History) (name : Oper) (o : Operation) (op : Op) (p : IsOperation h name o op) where
  pub the_one : (w : Operation) → IsNamed h name w → o ≡ w
  the_one w n = one-named h name o w p.named n

  pub kept-found : (v : Val) (t : Option ℕ) → IsWrite o → value_of o ≡ Some v → IsFirstReply h o.register v t
      → (IsTrue (is_some t) ↔ IsKept (of_register o.register (operations h)) o)
  kept-found v None w e f = (
    λ q. absurd (false≢true q),
    λ k. let m = kept-completed h o.register p.register v o k e in
        absurd (f m.0 m.1 m.2),
  )
  kept-found v (Some t) w e f =
      let m = f.0 in (
        λ _. completed-kept h o.register p.register v o m.0
            (In-of_register o.register (operations h) o p.named.one refl) w e m.1 m.2,
        λ _. refl,
      )

  -- a kept write has a value
  pub kept-value : IsKept (of_register o.register (operations h)) o → (v : Val) × (op.value ≡ Some v)
  kept-value k =
      let v = p.register.value o p.named.one (inl k.write) in (v.0, ap (λ (x : Op). x.value) p.shown ∙ v.1)

  -- a read is no kept write, and nothing without a value is
  pub unkept : (w : Operation) → IsNamed h name w → (op.value ≡ None) ⊎ (op.kind ≡ ReadOp)
      → IsKept (of_register w.register (operations h)) w → ⊥
  unkept w n e k =
      let m =
      subst (λ (x : Operation). IsKept (of_register x.register (operations h)) x) (sym (the_one w n)) k in
      elim e [
        | inl q ↦ let v = kept-value m in cc (v.1, q)
        | inr q ↦ false≢true
            (sym (changes-kind o.act ∙ ap writes (ap (λ (x : Op). x.kind) (sym p.shown) ∙ q)) ∙ m.write)
      ]

  -- its zone is found by its value
  pub kept-zone : IsKept (of_register o.register (operations h)) o
      → (v : Val) (found : Option Zone) (zone : Zone) → op.value ≡ Some v → IsZoneFound h o.register v found
      → zone ≡ unwrap_or found (record { f = 0; s = 0 })
      → IsZone (of_register o.register (operations h)) (value_of o) zone
  kept-zone k v found zone e f z =
      let q : (value_of o) ≡ Some v = ap (λ (x : Op). x.value) (sym p.shown) ∙ e in
      subst (λ u. IsZone (of_register o.register (operations h)) u zone) (sym q) (go found f z q)
    where
      go : (found : Option Zone) → IsZoneFound h o.register v found
          → zone ≡ unwrap_or found (record { f = 0; s = 0 }) → value_of o ≡ Some v
          → IsZone (of_register o.register (operations h)) (Some v) zone
      go None g z q = let m = kept-completed h o.register p.register v o k q in absurd (g m.0 m.1 m.2)
      go (Some y) g z q =
          subst (IsZone (of_register o.register (operations h)) (Some v)) (sym z)
          (zone-found h o.register p.register v y g)
