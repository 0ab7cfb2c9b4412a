-- No order that keeps the real time of writes explains an old read that its guarantee forbids.
use Rattle.std.proofs.Common.{◌≡◌, ◌<◌, List, inl, inr, sym, ap, subst, arith}
use Rattle.std.proofs.lemmas.Bool.{cases_Bool}
use Rattle.history_model.specs.Legal.{HasOrderFor, IsBeforeInSession, MustKeep}
use Rattle.history_model.specs.Lists.{In}
use Rattle.history_model.specs.Operations.{IsCompleted, IsCompletedRead, IsHistory, IsWrite}
use Rattle.history_model.specs.Operations.{Precedes, value_of}
use Rattle.history_model.specs.declared.guarantee.Guarantee.{Guarantee}
use Rattle.history_model.specs.declared.guarantee.Guarantee.TheVariants.{Atomic, OwnWrites}
use Rattle.history_model.specs.declared.guarantee.Guarantee.TheVariants.{Monotonic, Sequential}
use Rattle.history_model.specs.declared.operation.Operation.{Operation}
use Rattle.history_model.proofs.Lists.{Before-trans}
use Rattle.reg_zones.specs.Clusters.{IsInCluster, IsKept, first_reply}
use Rattle.reg_zones.proofs.Ends.{first_reply-at, kept-member, member-is}
use Rattle.reg_zones.proofs.Values.{cases_value}
use Rattle.level_laws.specs.Leads.{IsCleanFor}
use Rattle.level_laws.proofs.Expanded.{write-of}
use Rattle.level_laws.proofs.Refuted.{clean, forward}
use Rattle.level_laws.proofs.Weaker.{none-precedes}
use Rattle.reg_levels.specs.Clusters.Clean.{IsClean}
use Rattle.reg_levels.specs.Counts.Staleness.{Gave, IsBack, IsInverted, IsOlder, IsOwnMissed}
use Rattle.reg_levels.specs.Counts.Staleness.{IsRegularForAll, IsStale, Wrote}

-- what comes before a called operation in its session precedes it
pub session-precedes : (ops : List Operation) → IsHistory ops → (e r : Operation) → In e ops → In r ops
    → IsBeforeInSession e r → Precedes e r
session-precedes ops y e r i j (inl s) = elim (y.turns e r s.0 i j s.1 s.2) [
  | inl q ↦ let c = ap (λ (x : Operation). x.call) q in let l = s.3 in absurd (omega arith)
  | inr o ↦ elim o [
    | inl p ↦ p
    | inr p ↦ let life = y.life r j in let life' = y.life e i in let l = s.3 in absurd (omega arith)
  ]
]
session-precedes ops y e r i j (inr s) =
    let first = ap (λ (x : Operation). x.reply) (y.initial e i s.0) in
    let called = y.called r s.1.0 j s.1.1 in omega arith

-- what had a value and precedes an operation is of the cluster of the value's write, which is kept
pub wrote-member : (ops : List Operation) → IsHistory ops → (e w r : Operation) → In w ops → IsWrite w
    → In e ops
    → In r ops → Precedes e r → Wrote e w → IsKept ops w × IsInCluster ops (value_of w) e
wrote-member ops y e w r i k j l p h = (
  record {
    within = i;
    write = k;
    kept = inl (subst IsCompleted h (elim (cases_Bool e.completed) [
      | inl d ↦ d
      | inr n ↦ let late = y.pending e r j l n in absurd (omega arith)
    ]));
  },
  record { within = j; value = ap value_of h; counts = inl (subst IsWrite (sym h) k) },
)

pub gave-member : (ops : List Operation) (e w : Operation) → In w ops → IsWrite w → In e ops → Gave e w
    → IsKept ops w × IsInCluster ops (value_of w) e
gave-member ops e w i k j h = (
  record { within = i; write = k; kept = inr (e, j, h) },
  record { within = j; value = h.value; counts = inr h.completed },
)

module _ (g : Guarantee) (timed : g ≡ Sequential → ⊥)
    (write-must : (a b : Operation) → Precedes a b → IsWrite b → MustKeep g a b) (ops : List Operation)
    (y : IsHistory ops) (o : HasOrderFor g ops) where
  ok : IsCleanFor g ops
  ok = clean g ops o.0 y o.1

  -- no operation of a cluster precedes its write
  none-first : (w a : Operation) → IsKept ops w → IsInCluster ops (value_of w) a → Precedes a w → ⊥
  none-first w a k m p = elim (member-is ops y w a k m) [
    | inl e ↦ let life = y.life w k.within in let r = ap (λ (x : Operation). x.reply) e in absurd (omega
        arith)
    | inr r ↦ none-precedes ops g timed ok a w (record {
      within = m.within;
      write_within = k.within;
      write = k.write;
      read = r;
      early = p;
    })
  ]

  -- the older value's write would stand before the newer one, and after it
  old-none : (r e w : Operation) → In r ops → IsCompletedRead r → IsKept ops w
      → IsInCluster ops (value_of w) e
      → MustKeep g e r → IsOlder ops (value_of r) w → ⊥
  old-none r e w i d k m must older =
      let v = write-of g ops y ok r (inr (i, d)) in
      let a = first_reply-at ops (value_of v.0) v.0 (kept-member ops v.0 v.1) in
      let less = subst (λ x. first_reply ops x < w.call) (sym v.2) older in
      let p : Precedes a.0 w = omega (arith, a.2) in
      elim (cases_value (value_of v.0) (value_of w)) [
        | inl same ↦ none-first w a.0 k (subst (λ x. IsInCluster ops x a.0) same a.1) p
        | inr differ ↦
            let there = forward g ops o.0 y o.1 v.0 w (record {
              left = v.1;
              right = k;
              differ = differ;
              before = a.0;
              after = w;
              one = a.1;
              other = kept-member ops w k;
              must = write-must a.0 w p k.write;
            }) in
            let back = forward g ops o.0 y o.1 w v.0 (record {
              left = k;
              right = v.1;
              differ = λ q. differ (sym q);
              before = e;
              after = r;
              one = m;
              other = record { within = i; value = sym v.2; counts = inr d.completed };
              must = must;
            }) in
            o.1.completion.once v.0 (Before-trans v.0 w v.0 o.0 o.1.completion.once there back)
      ]

module _ (ops : List Operation) (y : IsHistory ops) where
  pub atomic-fresh : HasOrderFor Atomic ops → (r : Operation) → IsStale ops r → ⊥
  atomic-fresh o r s =
      let f = s.2 in
      let m = wrote-member ops y s.0 s.1 r f.write_within f.write f.earlier_within f.within f.earlier
      f.had in
      old-none Atomic (λ e. cc (e)) (λ a b p w. p) ops y o r s.0 s.1 f.within f.read m.0 m.1 f.earlier
      f.older

  pub atomic-upright : HasOrderFor Atomic ops → (r : Operation) → IsInverted ops r → ⊥
  atomic-upright o r s =
      let f = s.2 in
      let m = gave-member ops s.0 s.1 f.write_within f.write f.earlier_within f.had in
      old-none Atomic (λ e. cc (e)) (λ a b p w. p) ops y o r s.0 s.1 f.within f.read m.0 m.1 f.earlier
      f.older

  pub own-kept : HasOrderFor OwnWrites ops → (r : Operation) → IsOwnMissed ops r → ⊥
  own-kept o r s =
      let f = s.2 in
      let p = session-precedes ops y s.0 r f.earlier_within f.within f.earlier in
      let m = wrote-member ops y s.0 s.1 r f.write_within f.write f.earlier_within f.within p f.had in
      old-none OwnWrites (λ e. cc (e)) (λ a b p w. (p, inl w)) ops y o r s.0 s.1 f.within f.read m.0 m.1
      (p, inr (f.earlier, subst IsWrite (sym f.had) f.write)) f.older

  pub never-back : HasOrderFor Monotonic ops → (r : Operation) → IsBack ops r → ⊥
  never-back o r s =
      let f = s.2 in
      let p = session-precedes ops y s.0 r f.earlier_within f.within f.earlier in
      let m = gave-member ops s.0 s.1 f.write_within f.write f.earlier_within f.had in
      old-none Monotonic (λ e. cc (e)) (λ a b p w. (p, inl w)) ops y o r s.0 s.1 f.within f.read m.0 m.1
      (p, inr (f.earlier, f.had.read)) f.older

  -- an order that keeps the real time of writes leaves the register clean
  pub ordered-clean : (g : Guarantee) → (g ≡ Sequential → ⊥) → HasOrderFor g ops → IsClean ops
  ordered-clean g timed o =
      let ok = clean g ops o.0 y o.1 in
      record { written = ok.written; in_time = λ r w e. none-precedes ops g timed ok r w e }

  pub atomic-regular : HasOrderFor Atomic ops → IsRegularForAll ops
  atomic-regular o = record { clean = ordered-clean Atomic (λ e. cc (e)) o; fresh = atomic-fresh o }
