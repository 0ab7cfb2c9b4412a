-- If a register has a legal order, it has no fault; so a fault excludes
-- every order (the law `fault_means_no_order`).
use Rattle.std.proofs.Common.{◌<◌, List, inl, inr, sym, ap, arith}
use Rattle.history_model.specs.Lists.{Before}
use Rattle.history_model.specs.Operations.{IsHistory, value_of}
use Rattle.history_model.specs.declared.operation.Operation.{Operation}
use Rattle.history_model.specs.Legal.{IsLegal}
use Rattle.reg_zones.specs.Clusters.{first_reply, last_call, IsKept, IsConflict}
use Rattle.reg_zones.specs.Faults.{IsEarly, HasNoFault}
use Rattle.history_model.specs.declared.guarantee.Guarantee.TheVariants.{Atomic}
use Rattle.history_model.proofs.Latest.{latest}
use Rattle.history_model.proofs.Lists.{Before-first, Before-total}
use Rattle.reg_zones.proofs.Ends.{kept-member, first_reply-at, last_call-at}
use Rattle.reg_zones.proofs.Standing.{apart, kept-in, nearest}

module _ (ops order : List Operation) (y : IsHistory ops) (l : IsLegal ops order) where
  -- where v stands before w, no reply of w's zone comes before a call of v's
  one_way : (v w : Operation) → IsKept ops v → IsKept ops w → Before v w order
      → first_reply ops (value_of w) < last_call ops (value_of v) → ⊥
  one_way v w kv kw s c =
      let b = first_reply-at ops (value_of w) w (kept-member ops w kw) in
      let a = last_call-at ops (value_of v) v (kept-member ops v kv) in
      apart Atomic ops order y l v w a.0 b.0 kv kw s a.1 b.1 (omega (arith, a.2, b.2))

  no_conflict : (v w : Operation) → IsConflict ops v w → ⊥
  no_conflict v w c =
      let left = kept-in Atomic ops order y l v c.left in
      let right = kept-in Atomic ops order y l w c.right in
      elim (Before-total v w order left right) [
        | inl e ↦ c.differ (ap value_of e)
        | inr s ↦ elim s [
          | inl b ↦ one_way v w c.left c.right b c.other
          | inr b ↦ one_way w v c.right c.left b c.one
        ]
      ]

  no_early : (r w : Operation) → IsEarly ops r w → ⊥
  no_early r w e =
      l.keeps w r (nearest Atomic ops order y l r w e.within e.read e.write_within e.write).before e.early

  pub sound : HasNoFault ops
  sound = record {
    written = λ r i d.
        let n = latest ops order y l r (l.completion.all r i d.completed) d in (
          n.0,
          l.completion.only n.0 (Before-first n.0 r order n.1.before),
          n.1.write,
          record {
            read = d.read;
            completed = d.completed;
            value = sym n.2;
          },
        );
    in_time = no_early;
    compatible = no_conflict;
  }
