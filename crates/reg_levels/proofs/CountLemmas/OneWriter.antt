-- Where the writes come one after another, a register without the old reads that a guarantee forbids has an
-- order that gives it: that of the calls of its writes.
use Rattle.std.proofs.Common.{◌≡◌, ◌<◌, List, ◌⊎◌, inl, inr, refl, sym, ap, subst, ◌∙◌, arith, false}
use Rattle.std.proofs.Common.{◌↔◌}
use Rattle.std.proofs.lemmas.Bool.{cases_Bool, cases_lt, cases_order, false≢true}
use Rattle.history_model.specs.Legal.{HasOrderFor, IsBeforeInSession}
use Rattle.history_model.specs.Lists.{In, Before}
use Rattle.history_model.specs.Operations.{IsCompletedRead, IsHistory, IsReadOf, IsWrite, Precedes, is_write}
use Rattle.history_model.specs.Operations.{value_of}
use Rattle.history_model.specs.declared.guarantee.Guarantee.{Guarantee}
use Rattle.history_model.specs.declared.guarantee.Guarantee.TheVariants.{Atomic, Session, OwnWrites}
use Rattle.history_model.specs.declared.guarantee.Guarantee.TheVariants.{Monotonic}
use Rattle.history_model.specs.declared.operation.Operation.{Operation}
use Rattle.history_model.proofs.Lists.{Before-total}
use Rattle.reg_zones.specs.Clusters.{IsInCluster, IsKept, first_reply}
use Rattle.reg_zones.specs.Inversions.{HasInversion, IsInversion, IsRegular}
use Rattle.reg_zones.proofs.Ends.{first_reply-at, first_reply-le, kept-member, member-is}
use Rattle.level_laws.proofs.Expanded.{write-of}
use Rattle.reg_zones.proofs.Inversions.{decide}
use Rattle.reg_zones.proofs.Sorting.{sorted}
use Rattle.level_laws.specs.Leads.{LeadsTo}
use Rattle.level_laws.specs.WriteOrders.{IsWriteOrder}
use Rattle.level_laws.proofs.Decided.{decided, kept-writes}
use Rattle.level_laws.proofs.Weaker.{clean-for, session-monotonic, session-own_writes}
use Rattle.reg_levels.specs.Clusters.Clean.{IsClean}
use Rattle.reg_levels.specs.Counts.Staleness.{Gave, IsBack, IsInverted, IsOldAfter, IsOwnMissed}
use Rattle.reg_levels.specs.Counts.Staleness.{IsRegularForAll, Wrote}
use Rattle.reg_levels.proofs.CountLemmas.Turns.{first-precedes, none-first}
use Rattle.reg_levels.proofs.CountLemmas.Forbidden.{never-back, ordered-clean, own-kept}

-- the kept writes by their calls, if what leads to what is called first
pub by-calls : (g : Guarantee) (ops : List Operation) → IsHistory ops
    → ((v w : Operation) → LeadsTo g ops v w → v.call < w.call)
    → (writes : List Operation) × IsWriteOrder g ops writes
by-calls g ops y leads =
    let p = kept-writes ops in
    let s = sorted (IsKept ops) (λ v w. v.call < w.call) total (λ u v w _ _ _ b c. omega arith) p.0 p.1 in (
      s.0,
      record {
        once = λ v b. let less = s.1.ascending v v b in omega arith;
        only = λ v i. p.1 v (s.1.only v i);
        all = λ v k. s.1.all v (p.2 v k);
        forward = λ v w k. front s.0 s.1.ascending v w (s.1.all v (p.2 v k.left)) (s.1.all w (p.2 w
            k.right)) k;
      },
    )
  where
    total : (v w : Operation) → IsKept ops v → IsKept ops w
        → (v ≡ w) ⊎ ((v.call < w.call) ⊎ (w.call < v.call))
    total v w kv kw = elim (cases_order v.call w.call) [
      | inl e ↦ inl (y.calls v w kv.within kw.within e)
      | inr r ↦ inr r
    ]

    front : (writes : List Operation) → ((a b : Operation) → Before a b writes → a.call < b.call)
        → (v w : Operation) → In v writes → In w writes → LeadsTo g ops v w → Before v w writes
    front writes up v w i j k = elim (Before-total v w writes i j) [
      | inl e ↦ absurd (k.differ (ap value_of e))
      | inr o ↦ elim o [
        | inl b ↦ b
        | inr b ↦ let less = up w v b in let more = leads v w k in absurd (omega arith)
      ]
    ]

module _ (ops : List Operation) (y : IsHistory ops)
    (turns : (v w : Operation) → In v ops → In w ops → IsWrite v → IsWrite w
    → (v ≡ w) ⊎ (Precedes v w ⊎ Precedes w v)) where
  module _ (c : IsClean ops) where
    -- a write that an operation of another cluster precedes is called after that cluster's write
    led : (v w a : Operation) → IsKept ops v → IsKept ops w → IsInCluster ops (value_of v) a → Precedes a w
        → (value_of v ≡ value_of w → ⊥) → v.call < w.call
    led v w a kv kw m p differ = elim (cases_order v.call w.call) [
      | inl e ↦ absurd (differ (ap value_of (y.calls v w kv.within kw.within e)))
      | inr o ↦ elim o [
        | inl l ↦ l
        | inr l ↦
            let wv = first-precedes ops y turns w v kw.within kv.within kw.write kv.write l in
            let life = y.life w kw.within in
            absurd (none-first ops y c v a kv m (omega arith))
      ]
    ]

    -- a read that isn't old gives a value that is called after
    led-by : (Had : Operation → Operation → Type 0) (v w a b : Operation) → IsKept ops v → IsKept ops w
        → In a ops → In b ops → IsReadOf w b → Had a v → IsBeforeInSession a b
        → (IsOldAfter IsBeforeInSession Had ops b a v → ⊥) → (value_of v ≡ value_of w → ⊥) → v.call < w.call
    led-by Had v w a b kv kw i j r had s fresh differ = elim (cases_order v.call w.call) [
      | inl e ↦ absurd (differ (ap value_of (y.calls v w kv.within kw.within e)))
      | inr o ↦ elim o [
        | inl l ↦ l
        | inr l ↦
            let wv = first-precedes ops y turns w v kw.within kv.within kw.write kv.write l in
            let le = first_reply-le ops (value_of w) w (kept-member ops w kw) in
            let same = ap (first_reply ops) r.value in
            absurd (fresh (record {
              within = j;
              read = record { read = r.read; completed = r.completed };
              earlier_within = i;
              write_within = kv.within;
              write = kv.write;
              had = had;
              earlier = s;
              older = omega arith;
            }))
      ]
    ]

    -- what leads to a write leads to it by its call
    to-write : (v w a b : Operation) → IsKept ops v → IsKept ops w → IsInCluster ops (value_of v) a
        → IsInCluster ops (value_of w) b → Precedes a b → IsWrite b → (value_of v ≡ value_of w → ⊥)
        → v.call < w.call
    to-write v w a b kv kw m n p k differ =
        let e = y.values b w n.within kw.within k kw.write n.value in
        led v w a kv kw m (subst (Precedes a) e p) differ

    by-own : ((r : Operation) → IsOwnMissed ops r → ⊥) → (v w a b : Operation) → IsKept ops v → IsKept ops w
        → IsInCluster ops (value_of v) a → IsInCluster ops (value_of w) b → Precedes a b
        → IsBeforeInSession a b → IsWrite a → (value_of v ≡ value_of w → ⊥) → v.call < w.call
    by-own none v w a b kv kw m n p s k differ = elim (member-is ops y w b kw n) [
      | inl e ↦ to-write v w a b kv kw m n p (subst IsWrite (sym e) kw.write) differ
      | inr r ↦
          let is = y.values a v m.within kv.within k kv.write m.value in
          led-by Wrote v w a b kv kw m.within n.within r is s (λ o. none b (a, v, o)) differ
    ]

    by-back : ((r : Operation) → IsBack ops r → ⊥) → (v w a b : Operation) → IsKept ops v → IsKept ops w
        → IsInCluster ops (value_of v) a → IsInCluster ops (value_of w) b → Precedes a b
        → IsBeforeInSession a b → is_write a ≡ false → (value_of v ≡ value_of w → ⊥) → v.call < w.call
    by-back none v w a b kv kw m n p s k differ = elim (member-is ops y w b kw n) [
      | inl e ↦ to-write v w a b kv kw m n p (subst IsWrite (sym e) kw.write) differ
      | inr r ↦
          let is : IsReadOf v a = record {
            read = k;
            completed = elim m.counts [ inl t ↦ absurd (false≢true (sym k ∙ t)) | inr d ↦ d ];
            value = m.value;
          } in
          led-by Gave v w a b kv kw m.within n.within r is s (λ o. none b (a, v, o)) differ
    ]

    own-leads : ((r : Operation) → IsOwnMissed ops r → ⊥) → (v w : Operation) → LeadsTo OwnWrites ops v w
        → v.call < w.call
    own-leads none v w k = elim k.must.1 [
      | inl t ↦ to-write v w k.before k.after k.left k.right k.one k.other k.must.0 t k.differ
      | inr s ↦ by-own none v w k.before k.after k.left k.right k.one k.other k.must.0 s.0 s.1 k.differ
    ]

    back-leads : ((r : Operation) → IsBack ops r → ⊥) → (v w : Operation) → LeadsTo Monotonic ops v w
        → v.call < w.call
    back-leads none v w k = elim k.must.1 [
      | inl t ↦ to-write v w k.before k.after k.left k.right k.one k.other k.must.0 t k.differ
      | inr s ↦ by-back none v w k.before k.after k.left k.right k.one k.other k.must.0 s.0 s.1 k.differ
    ]

    session-leads : ((r : Operation) → IsOwnMissed ops r → ⊥) → ((r : Operation) → IsBack ops r → ⊥)
        → (v w : Operation) → LeadsTo Session ops v w → v.call < w.call
    session-leads own back v w k = elim k.must.1 [
      | inl t ↦ to-write v w k.before k.after k.left k.right k.one k.other k.must.0 t k.differ
      | inr s ↦ elim (cases_Bool (is_write k.before)) [
        | inl t ↦ by-own own v w k.before k.after k.left k.right k.one k.other k.must.0 s t k.differ
        | inr f ↦ by-back back v w k.before k.after k.left k.right k.one k.other k.must.0 s f k.differ
      ]
    ]

    order-from : (g : Guarantee) → ((v w : Operation) → LeadsTo g ops v w → v.call < w.call)
        → HasOrderFor g ops
    order-from g leads =
        (decided g ops y).1 (clean-for ops g c.written c.in_time, by-calls g ops y leads)

  -- ---- what decides

  pub own-decided : HasOrderFor OwnWrites ops ↔ (IsClean ops × ((r : Operation) → IsOwnMissed ops r → ⊥))
  own-decided = (
    λ o. (ordered-clean ops y OwnWrites (λ e. cc (e)) o, own-kept ops y o),
    λ d. order-from d.0 OwnWrites (own-leads d.0 d.1),
  )

  pub monotonic-decided : HasOrderFor Monotonic ops ↔ (IsClean ops × ((r : Operation) → IsBack ops r → ⊥))
  monotonic-decided = (
    λ o. (ordered-clean ops y Monotonic (λ e. cc (e)) o, never-back ops y o),
    λ d. order-from d.0 Monotonic (back-leads d.0 d.1),
  )

  pub session-decided : HasOrderFor Session ops
      ↔ (IsClean ops × ((r : Operation) → IsOwnMissed ops r → ⊥) × ((r : Operation) → IsBack ops r → ⊥))
  session-decided = (
    λ o. (
      ordered-clean ops y Session (λ e. cc (e)) o,
      own-kept ops y (session-own_writes ops o),
      never-back ops y (session-monotonic ops o),
    ),
    λ d. order-from d.0 Session (session-leads d.0 d.1 d.2),
  )
