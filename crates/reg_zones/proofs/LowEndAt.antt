-- Whether an event is the low end of its cluster, by what the arena answers of the event.
use Rattle.std.proofs.Common.{◌≡◌, ℕ, ◌+◌, Some, None, min, sym, ap, subst, ◌∙◌, arith, List}
use Rattle.history_text.specs.declared.event.Val.{Val}
use Rattle.history_model.specs.declared.ids.Oper.{Oper}
use Rattle.history_model.specs.Lists.{In}
use Rattle.history_model.specs.History.{History}
use Rattle.history_model.specs.Operations.{of_register, operations, value_of}
use Rattle.history_model.specs.declared.operation.Operation.{Operation}
use Rattle.history_model.specs.Naming.{IsEventOf}
use Rattle.history_model.specs.OfValue.{IsWriteOf}
use Rattle.reg_zones.specs.declared.zone.Zone.{Zone}
use Rattle.reg_zones.specs.Clusters.{IsKept, low_end}
use Rattle.reg_zones.proofs.Known.{IsKnown}
use Rattle.reg_zones.specs.Sweep.{IsZone, IsZoneFound, IsLowEndAt}
use Rattle.reg_zones.proofs.Registers.{low_end-event, kept-completed, completed-kept}
use Rattle.reg_zones.proofs.Kept.{zone-found}
use Rattle.reg_zones.proofs.CalledReads.{the_write, no_write}
use Rattle.history_model.proofs.Recorded.{of_register-In}

-- the low end of a cluster by its zone
pub zone-low : (ops : List Operation) (w : Operation) (v : Val) (zone : Zone) → value_of w ≡ Some v
    → IsZone ops (Some v) zone → low_end ops (value_of w) ≡ min zone.f zone.s
zone-low ops w v zone e z = ap (low_end ops) e ∙ omega (arith, z.reply, z.call)

module _ (h : History) (r : ℕ) (y : IsKnown h r) (i : ℕ) (o : Operation)
    (j : In o (of_register r (operations h))) (t : IsEventOf i o) (v : Val) (e : (value_of o) ≡ Some v) where
  -- a cluster that has its low end here is that of the event's operation
  value : (w : Operation) → IsKept (of_register r (operations h)) w
      → low_end (of_register r (operations h)) (value_of w) ≡ i + 2 → value_of w ≡ Some v
  value w k l =
      let here = low_end-event h r y i o w (of_register-In r (operations h) o j).0 t k l in sym here.value ∙ e

  pub no_zone : IsZoneFound h r v None → IsLowEndAt (of_register r (operations h)) (i + 2) None
  no_zone f w k l = let m = kept-completed h r y v w k (value w k l) in f m.0 m.1 m.2

  pub not_low : (zone : Zone) (low : ℕ) → IsZoneFound h r v (Some zone) → low ≡ min zone.f zone.s
      → (low ≡ i + 2 → ⊥) → IsLowEndAt (of_register r (operations h)) (i + 2) None
  not_low zone low f q n w k l =
      n (q ∙ (sym (zone-low (of_register r (operations h)) w v zone (value w k l) (zone-found h r y v zone f))
      ∙ l))

  pub not_written : IsWriteOf h r v None → IsLowEndAt (of_register r (operations h)) (i + 2) None
  not_written f w k l = no_write h r y v f w k.within k.write (value w k l)

  pub low_here : (zone : Zone) (low : ℕ) (name : Oper) → IsZoneFound h r v (Some zone)
      → low ≡ min zone.f zone.s → low ≡ i + 2 → IsWriteOf h r v (Some name)
      → IsLowEndAt (of_register r (operations h)) (i + 2) (Some (record { write = name; zone = zone }))
  low_here zone low name f q l g =
      let w = the_write h r y v name g in
      let m = f.0.0 in
      let z = zone-found h r y v zone f in (
        w.0,
        record {
          kept = completed-kept h r y v w.0 m.0 w.2 w.3 w.4 m.1 m.2;
          write = sym w.1.named;
          zone = subst (λ a. IsZone (of_register r (operations h)) a zone) (sym w.4) z;
        },
        zone-low (of_register r (operations h)) w.0 v zone w.4 z ∙ (sym q ∙ l),
      )
