-- A register has one fault at most, and none where it has a legal order.
use Rattle.std.proofs.Common.{◌≡◌, List, sym, ap, subst, ◌∙◌, arith}
use Rattle.history_model.specs.declared.ids.Oper.{Oper}
use Rattle.history_model.specs.Operations.{IsHistory, value_of}
use Rattle.history_model.specs.declared.operation.Operation.{Operation}
use Rattle.history_model.specs.Naming.{name_of}
use Rattle.reg_zones.specs.Clusters.{IsKept, HasFirstReply, HasLastCall}
use Rattle.reg_zones.specs.Faults.{IsFirstUnwritten, IsFirstEarly, IsWitness, IsFault, HasNoFault}
use Rattle.reg_zones.specs.declared.fault.Fault.{Fault}
use Rattle.reg_zones.specs.declared.fault.Fault.TheVariants.{Unwritten, Early, Zones}
use Rattle.reg_zones.proofs.Forward.{one_conflict}
use Rattle.reg_zones.proofs.ClearBelow.{one_first_reply, one_last_call}

pub fault_is_none : (ops : List Operation) (f : Fault) → IsFault ops f → HasNoFault ops → ⊥
fault_is_none ops (Unwritten read) f ok =
    let w = ok.written f.0 f.1.fault.within f.1.fault.read in f.1.fault.unwritten w.0 w.1 w.2 w.3
fault_is_none ops (Early read write) f ok = ok.in_time f.0 f.1 f.2.fault
fault_is_none ops (Zones writes first second) f ok = ok.compatible f.0 f.1 f.6.conflict.conflict

module _ (ops : List Operation) (y : IsHistory ops) where
  one_unwritten : (r q : Operation) → IsFirstUnwritten ops r → IsFirstUnwritten ops q → r ≡ q
  one_unwritten r q a b =
      y.calls r q a.fault.within b.fault.within (omega (arith, a.first q b.fault, b.first r a.fault))

  one_early : (r w q u : Operation) → IsFirstEarly ops r w → IsFirstEarly ops q u → (r ≡ q) × (w ≡ u)
  one_early r w q u a b =
      let e =
      y.calls r q a.fault.within b.fault.within (omega (
        arith,
        a.first q u b.fault,
        b.first r w a.fault,
      )) in (
        e,
        y.values w u a.fault.write_within b.fault.write_within a.fault.write b.fault.write
            (sym a.fault.read.value ∙ (ap value_of e ∙ b.fault.read.value)),
      )

  one_witness : (v w v' w' a b a' b' : Operation) → IsKept ops v → v ≡ v' → w ≡ w' → IsWitness ops v w a b
      → IsWitness ops v' w' a' b' → (a ≡ a') × (b ≡ b')
  one_witness v w v' w' a b a' b' k ev ew f g = (
    one_first_reply ops v a a' y k f.reply
        (subst (λ (x : Operation). HasFirstReply ops (value_of x) a') (sym ev) g.reply),
    one_last_call ops w b b' y f.call
        (subst (λ (x : Operation). HasLastCall ops (value_of x) b') (sym ew) g.call),
  )

  named : (a b a' b' : Operation) → a ≡ a' → b ≡ b'
      → ◌≡◌ {A = Oper × Oper} (name_of a, name_of b) (name_of a', name_of b')
  named a b a' b' e f =
      ap (λ (x : Operation). (name_of x, name_of b)) e ∙ ap (λ (x : Operation). (name_of a', name_of x)) f

  pub one_fault : (f g : Fault) → IsFault ops f → IsFault ops g → f ≡ g
  one_fault (Unwritten r) (Unwritten q) f g =
      ap (λ n. Unwritten n) (sym f.2 ∙ (ap name_of (one_unwritten f.0 g.0 f.1 g.1) ∙ g.2))
  one_fault (Unwritten r) (Early q u) f g = absurd (g.2.written f.0 f.1.fault)
  one_fault (Unwritten r) (Zones v a b) f g = absurd (g.6.written f.0 f.1.fault)
  one_fault (Early r w) (Unwritten q) f g = absurd (f.2.written g.0 g.1.fault)
  one_fault (Early r w) (Early q u) f g =
      let e = one_early f.0 f.1 g.0 g.1 f.2 g.2 in
      ap (λ n. Early n w) (sym f.3 ∙ (ap name_of e.0 ∙ g.3))
      ∙ ap (λ n. Early q n) (sym f.4 ∙ (ap name_of e.1 ∙ g.4))
  one_fault (Early r w) (Zones v a b) f g = absurd (g.6.in_time f.0 f.1 f.2.fault)
  one_fault (Zones v a b) (Unwritten q) f g = absurd (f.6.written g.0 g.1.fault)
  one_fault (Zones v a b) (Early q u) f g = absurd (f.6.in_time g.0 g.1 g.2.fault)
  one_fault (Zones v a b) (Zones v' a' b') f g =
      let e = one_conflict ops f.0 f.1 g.0 g.1 y f.6.conflict g.6.conflict in
      let p = one_witness f.0 f.1 g.0 g.1 f.2 f.3 g.2 g.3 f.6.conflict.conflict.left e.0 e.1 f.7 g.7 in
      let q = one_witness f.1 f.0 g.1 g.0 f.4 f.5 g.4 g.5 f.6.conflict.conflict.right e.1 e.0 f.8 g.8 in
      let s = f.9 ∙ (named f.0 f.1 g.0 g.1 e.0 e.1 ∙ sym g.9) in
      let t = f.10 ∙ (named f.2 f.3 g.2 g.3 p.0 p.1 ∙ sym g.10) in
      let u = f.11 ∙ (named f.4 f.5 g.4 g.5 q.0 q.1 ∙ sym g.11) in
      ap (λ x. Zones x a b) s ∙ (ap (λ x. Zones v' x b) t ∙ ap (λ x. Zones v' a' x) u)
