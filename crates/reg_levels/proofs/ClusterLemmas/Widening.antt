-- The ends of clusters, with one operation more.
use Rattle.std.proofs.Common.{◌≡◌, ℕ, zero, suc, ◌+◌, ◌<◌, ◌≤◌, List, length, slice_get, set, replicate}
use Rattle.std.proofs.Common.{Option, Some, None, false}
use Rattle.std.proofs.Common.{inl, inr, refl, sym, ap, subst, ◌∙◌, arith}
use Rattle.std.proofs.lemmas.Bool.{cases_Bool, cases_order, false≢true}
use Rattle.history_model.specs.Operations.{IsHistory, IsWrite, IsCompleted, is_write, value_of}
use Rattle.history_model.specs.declared.operation.Operation.{Operation}
use Rattle.history_model.proofs.Lists.{slice_get-set, slice_get-set_other}
use Rattle.reg_zones.specs.Clusters.{IsKept, IsInCluster, first_reply, last_call}
use Rattle.reg_zones.proofs.Ends.{first_reply-is, last_call-is}
use Rattle.reg_levels.specs.Clusters.Places.{IsAt, IsByCall}
use Rattle.reg_levels.specs.Clusters.Steps.{AreEnds, IsAlone, IsEndsBelow, IsEndsFound, IsWidened}
use Rattle.reg_levels.specs.Clusters.Table.{IsEnds}
use Rattle.reg_levels.specs.declared.clusters.table.ClusterEnds.{ClusterEnds}
use Rattle.reg_levels.proofs.ClusterLemmas.Places.{at-In, at-below, In-at, at-same}

-- an operation at i, with what is below
module _ (ops : List Operation) (i : ℕ) (b : Operation) (at : IsAt ops i b) where
  -- what stands at i is b
  is-b : (a : Operation) → IsAt ops i a → b ≡ a
  is-b a h = let same : Some b ≡ Some a = sym at ∙ h in cc same

  -- what holds below i, and of b, holds below i + 1
  more : (P : ℕ → Operation → Type 0) → ((p : ℕ) (a : Operation) → p < i → IsAt ops p a → P p a) → P i b
      → (p : ℕ) (a : Operation) → p < i + 1 → IsAt ops p a → P p a
  more P below here p a l h = elim (cases_order p i) [
    | inl e ↦ subst (λ k. P k a) (sym e) (subst (P i) (is-b a (subst (λ k. IsAt ops k a) e h)) here)
    | inr o ↦ elim o [ inl m ↦ below p a m h | inr m ↦ absurd (omega arith) ]
  ]

  -- b is no completed member of w's cluster
  pub found-same : (q : ℕ) (w : Operation) (found : Option ClusterEnds)
      → (IsWrite w → IsCompleted b → value_of b ≡ value_of w → ⊥) → IsEndsFound ops i q w found
      → IsEndsFound ops (i + 1) q w found
  found-same q w None never h = λ k p a l t d e.
      more (λ p a. IsCompleted a → value_of a ≡ value_of w
      → ⊥) (λ p a l t d e. h k p a l t d e) (never k) p a l t d e
  found-same q w (Some c) never h = record {
    write = h.write;
    kept = h.kept;
    at_first = h.at_first;
    at_last = h.at_last;
    own = h.own;
    below = more (λ p a. IsCompleted a → value_of a ≡ value_of w
        → (c.first_reply ≤ a.reply) × (a.call ≤ c.last_call)) h.below
        (λ d e. absurd (never h.kept.write d e));
  }

  -- b is one
  pub found-widened : (q : ℕ) (w : Operation) (old new : ClusterEnds) → IsCompleted b
      → value_of b ≡ value_of w → IsWidened i b old new → IsEndsBelow ops i q w old
      → IsEndsBelow ops (i + 1) q w new
  found-widened q w old new d e n h = record {
    write = n.write ∙ h.write;
    kept = h.kept;
    at_first = elim n.reply [
      | inl r ↦ (b, subst (λ p. IsAt ops p b) (sym r.0) at, member, sym r.1)
      | inr r ↦ (
        h.at_first.0,
        subst (λ p. IsAt ops p h.at_first.0) (sym r.0) h.at_first.1,
        h.at_first.2,
        h.at_first.3 ∙ sym r.1,
      )
    ];
    at_last = elim n.call [
      | inl r ↦ (b, subst (λ p. IsAt ops p b) (sym r.0) at, member, sym r.1)
      | inr r ↦ (
        h.at_last.0,
        subst (λ p. IsAt ops p h.at_last.0) (sym r.0) h.at_last.1,
        h.at_last.2,
        h.at_last.3 ∙ sym r.1,
      )
    ];
    own = (first w.reply h.own.0, last w.call h.own.1);
    below = more (λ p a. IsCompleted a → value_of a ≡ value_of w
        → (new.first_reply ≤ a.reply) × (a.call ≤ new.last_call))
        (λ p a l t d e. let r = h.below p a l t d e in (first a.reply r.0, last a.call r.1))
        (λ _ _. (own-reply, own-call));
  }
    where
      member : IsInCluster ops (value_of w) b
      member = record { within = at-In ops i b at; value = e; counts = inr d }

      first : (t : ℕ) → old.first_reply ≤ t → new.first_reply ≤ t
      first t l = elim n.reply [ inl r ↦ omega (arith, r.1, r.2) | inr r ↦ omega (arith, r.1) ]

      last : (t : ℕ) → t ≤ old.last_call → t ≤ new.last_call
      last t l = elim n.call [ inl r ↦ omega (arith, r.1, r.2) | inr r ↦ omega (arith, r.1) ]

      own-reply : new.first_reply ≤ b.reply
      own-reply = elim n.reply [ inl r ↦ omega (arith, r.1) | inr r ↦ omega (arith, r.1, r.2) ]

      own-call : b.call ≤ new.last_call
      own-call = elim n.call [ inl r ↦ omega (arith, r.1) | inr r ↦ omega (arith, r.1, r.2) ]

  -- the write whose value b has is kept
  kept-by : IsHistory ops → (q : ℕ) (w : Operation) → IsAt ops q w → IsWrite w → IsCompleted b
      → value_of b ≡ value_of w → IsKept ops w
  kept-by y q w tw k d e = record {
    within = at-In ops q w tw;
    write = k;
    kept = elim (cases_Bool (is_write b)) [
      | inl t ↦
          let same = y.values b w (at-In ops i b at) (at-In ops q w tw) t k e in
          inl (subst IsCompleted same d)
      | inr r ↦ inr (b, at-In ops i b at, record { read = r; completed = d; value = e })
    ];
  }

  -- the first member of a cluster that is met
  pub found-alone : IsHistory ops → (q : ℕ) (w : Operation) (c : ClusterEnds) → IsAt ops q w → IsWrite w
      → IsCompleted b → value_of b ≡ value_of w → IsAlone q w c → IsEndsFound ops i q w None
      → IsEndsBelow ops i q w c
  found-alone y q w c tw k d e is none =
      subst (IsEndsBelow ops i q w) (sym is) (record {
        write = refl;
        kept = kept-by y q w tw k d e;
        at_first = (w, tw, member, refl);
        at_last = (w, tw, member, refl);
        own = (omega arith, omega arith);
        below = λ p a l t d e. absurd (none k p a l t d e);
      })
    where
      member : IsInCluster ops (value_of w) w
      member = record { within = at-In ops q w tw; value = refl; counts = inl k }

-- the ends of all, with b
module _ (ops : List Operation) (y : IsHistory ops) (o : IsByCall ops) (i : ℕ) (b : Operation)
    (at : IsAt ops i b) where
  pub ends-pending : (ends : List (Option ClusterEnds)) → b.completed ≡ false → AreEnds ops i ends
      → AreEnds ops (i + 1) ends
  ends-pending ends f h = record {
    places = h.places;
    each = λ q w found t g. found-same ops i b at q w found (λ _ d _. false≢true (sym f
        ∙ d)) (h.each q w found t g);
  }

  pub ends-widened : (ends : List (Option ClusterEnds)) (q : ℕ) (w : Operation) (new : ClusterEnds)
      → IsAt ops q w
      → IsWrite w → value_of b ≡ value_of w → IsEndsBelow ops (i + 1) q w new → AreEnds ops i ends
      → length (set ends q (Some new)) ≡ length ends → AreEnds ops (i + 1) (set ends q (Some new))
  ends-widened ends q w new tw k e below h long = record {
    places = long ∙ h.places;
    each = λ p v found t g. elim (cases_order p q) [
      | inl s ↦
          let inside : q < length ends = omega (arith, h.places, at-below ops q w tw) in
          let same : Some (Some new) ≡ Some found =
          sym (slice_get-set ends q (Some new) inside) ∙ (sym (ap (slice_get (set ends q (Some new))) s)
          ∙ g) in
          let is : Some new ≡ found = cc same in
          let who : Some w ≡ Some v = sym tw ∙ (sym (ap (slice_get ops) s) ∙ t) in
          let who' : w ≡ v = cc who in
          subst (IsEndsFound ops (i + 1) p v) is
          (subst (λ x. IsEndsBelow ops (i + 1) p x new) who'
          (subst (λ n. IsEndsBelow ops (i + 1) n w new) (sym s) below))
      | inr s ↦
          let ne : p ≡ q → ⊥ = λ z. elim s [ inl l ↦ absurd (omega arith) | inr l ↦ absurd (omega arith) ] in
          found-same ops i b at p v found (λ kv d ev.
          let same = y.values w v (at-In ops q w tw) (at-In ops p v t) k kv (sym e ∙ ev) in
          ne (at-same ops o p q v t (subst (IsAt ops q) same tw)))
          (h.each p v found t (sym (slice_get-set_other ends q p (Some new) ne) ∙ g))
    ];
  }

pub replicate-none : (n q : ℕ) (found : Option ClusterEnds) → slice_get (replicate n None) q ≡ Some found
    → found ≡ None
replicate-none zero q found e = absurd (cc e)
replicate-none (suc n) zero found e = sym (let z : None ≡ found = cc e in z)
replicate-none (suc n) (suc q) found e = replicate-none n q found e

pub length-replicate-none : (n : ℕ) → length (replicate {A = Option ClusterEnds} n None) ≡ n
length-replicate-none zero = refl
length-replicate-none (suc n) = grind (arith, length-replicate-none n)

-- before the first operation nothing is known
pub ends-none : (ops : List Operation) (ends : List (Option ClusterEnds)) → length ends ≡ length ops
    → ((q : ℕ) (found : Option ClusterEnds) → slice_get ends q ≡ Some found → found ≡ None)
    → AreEnds ops 0 ends
ends-none ops ends long none = record {
  places = long;
  each = λ q w found t g.
      subst (IsEndsFound ops 0 q w) (sym (none q found g)) (λ k p a l t d e. absurd (omega arith));
}

-- after the last one the ends are those of the cluster
pub ends-whole : (ops : List Operation) → IsHistory ops → (q : ℕ) (w : Operation) (c : ClusterEnds)
    → IsAt ops q w → IsEndsBelow ops (length ops) q w c → IsEnds ops w c
ends-whole ops y q w c at h = record {
  at_write = subst (λ p. IsAt ops p w) (sym h.write) at;
  kept = h.kept;
  at_first = (
    h.at_first.0,
    h.at_first.1,
    record {
      member = h.at_first.2;
      least = h.at_first.3 ∙ reply;
    },
  );
  at_last = (
    h.at_last.0,
    h.at_last.1,
    record {
      member = h.at_last.2;
      greatest = h.at_last.3 ∙ call;
    },
  );
  reply_is = reply;
  call_is = call;
}
  where
    both : (a : Operation) → IsInCluster ops (value_of w) a
        → (c.first_reply ≤ a.reply) × (a.call ≤ c.last_call)
    both a m = elim (cases_Bool a.completed) [
      | inl d ↦ let p = In-at ops a m.within in h.below p.0 a (at-below ops p.0 a p.1) p.1 d m.value
      | inr f ↦ elim m.counts [
        | inl k ↦
            let same = y.values a w m.within h.kept.within k h.kept.write m.value in
            subst (λ (x : Operation). (c.first_reply ≤ x.reply) × (x.call ≤ c.last_call)) (sym same) h.own
        | inr d ↦ absurd (false≢true (sym f ∙ d))
      ]
    ]

    reply : c.first_reply ≡ first_reply ops (value_of w)
    reply =
        sym h.at_first.3 ∙ sym (first_reply-is ops (value_of w) h.at_first.0 h.at_first.2
        (λ b m. let r = both b m in omega (arith, r.0, h.at_first.3)))

    call : c.last_call ≡ last_call ops (value_of w)
    call =
        sym h.at_last.3 ∙ sym (last_call-is ops (value_of w) h.at_last.0 h.at_last.2
        (λ b m. let r = both b m in omega (arith, r.1, h.at_last.3)))
