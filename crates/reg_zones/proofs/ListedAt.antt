-- Which listed operation an event calls, by what the arena answers.
use Rattle.std.proofs.Common.{◌≡◌, ℕ, ◌+◌, Some, None, min, ◌⊎◌, inl, inr, sym, ap, subst, ◌∙◌}
use Rattle.std.proofs.lemmas.Bool.{cases_Bool}
use Rattle.history_text.specs.declared.event.Val.{Val}
use Rattle.history_model.specs.declared.ids.Oper.{Oper}
use Rattle.history_model.specs.declared.op.Op.{Op}
use Rattle.history_model.specs.History.{History}
use Rattle.history_model.specs.Operations.{IsWrite, IsCompleted, of_register, operations, is_write, value_of}
use Rattle.history_model.specs.declared.operation.Operation.{Operation}
use Rattle.history_model.specs.Naming.{name_of}
use Rattle.reg_zones.specs.declared.entry.Entry.{Entry}
use Rattle.reg_zones.specs.declared.zone.Zone.{Zone}
use Rattle.reg_zones.specs.Clusters.{low_end}
use Rattle.reg_zones.specs.Order.{IsListed}
use Rattle.reg_zones.proofs.Known.{IsKnown}
use Rattle.reg_zones.specs.Sweep.{IsBelonging, IsZoneFound}
use Rattle.reg_zones.specs.Entries.{turn, IsListedAt}
use Rattle.reg_zones.proofs.Registers.{cluster-member, kept-completed, completed-kept}
use Rattle.reg_zones.proofs.Complete.{listed-in, listed-member}
use Rattle.reg_zones.proofs.ValuedEvents.{same}
use Rattle.reg_zones.proofs.Kept.{zone-found}
use Rattle.reg_zones.proofs.LowEndAt.{zone-low}
use Rattle.std.proofs.lemmas.Bool.{false≢true}

module _ (h : History) (r : ℕ) (y : IsKnown h r) (i : ℕ) (o : Operation) (op : Op)
    (b : IsBelonging h r i o op) where
  -- a listed operation that is called here is the event's
  is : (a : Operation) → IsListed (of_register r (operations h)) a → a.call ≡ i + 2 → o ≡ a
  is a l e = same h r y i o op b a (listed-in (of_register r (operations h)) a l) (inl e)

  pub not_counted : (IsWrite o ⊎ IsCompleted o → ⊥) → IsListedAt (of_register r (operations h)) (i + 2) None
  not_counted n a l e =
      n (subst (λ (x : Operation). IsWrite x ⊎ IsCompleted x) (sym (is a l e))
      (listed-member (of_register r (operations h)) a l).counts)

  pub not_found : (v : Val) → value_of o ≡ Some v → IsZoneFound h r v None
      → IsListedAt (of_register r (operations h)) (i + 2) None
  not_found v q f a l e =
      let w : (value_of a) ≡ Some v = ap value_of (sym (is a l e)) ∙ q in
      elim l [
        | inl k ↦ let m = kept-completed h r y v a k w in f m.0 m.1 m.2
        | inr k ↦ f a (cluster-member h r y v a (record {
          within = k.0;
          value = w;
          counts = inr k.1.completed;
        })) k.1.completed
      ]

  -- the entry that is made here is that of the event's operation
  pub listed_here : (v : Val) (zone : Zone) (low t : ℕ) (oper : Oper) → value_of o ≡ Some v
      → IsWrite o ⊎ IsCompleted o → IsZoneFound h r v (Some zone) → o.call ≡ i + 2 → low ≡ min zone.f zone.s
      → t ≡ turn o → oper ≡ name_of o
      → IsListedAt (of_register r (operations h)) (i + 2)
      (Some (record { low = low; turn = t; call = op.call; oper = oper }))
  listed_here v zone low t oper q counts f called l s n =
      let ops = of_register r (operations h) in
      let call : op.call ≡ o.call = ap (λ (x : Op). x.call) b.shown in
      let low_is : low ≡ low_end ops (value_of o) =
      l ∙ sym (zone-low ops o v zone q (zone-found h r y v zone f)) in
      let listed : IsListed ops o = elim (cases_Bool (is_write o)) [
        | inl w ↦ let m = f.0.0 in inl (completed-kept h r y v o m.0 b.one w q m.1 m.2)
        | inr w ↦ inr (
          b.one,
          record {
            read = w;
            completed = elim counts [ inl u ↦ absurd (false≢true (sym w ∙ u)) | inr u ↦ u ];
          },
        )
      ] in
      let a : ℕ → Entry = λ n. record { low = n; turn = t; call = op.call; oper = oper } in
      let c : ℕ → Entry =
      λ n. record { low = low_end ops (value_of o); turn = n; call = op.call; oper = oper } in
      let d : ℕ → Entry =
      λ n. record { low = low_end ops (value_of o); turn = turn o; call = n; oper = oper } in
      let e : Oper → Entry = λ n. record {
        low = low_end ops (value_of o);
        turn = turn o;
        call = o.call;
        oper = n;
      } in
      (o, listed, called, ap a low_is ∙ (ap c s ∙ (ap d call ∙ ap e n)))
