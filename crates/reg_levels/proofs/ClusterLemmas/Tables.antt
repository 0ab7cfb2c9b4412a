-- The table from its parts, and what it says of early reads.
use Rattle.std.proofs.Common.{◌≡◌, ℕ, ◌<◌, ◌≤◌, List, length, slice_get}
use Rattle.std.proofs.Common.{Option, Some, None, option_and_then}
use Rattle.std.proofs.Common.{inl, inr, refl, sym, ap, subst, ◌∙◌, arith}
use Rattle.std.proofs.lemmas.Bool.{cases_order, false≢true}
use Rattle.history_model.specs.Lists.{In}
use Rattle.history_model.specs.Operations.{IsHistory, value_of}
use Rattle.history_model.specs.declared.operation.Operation.{Operation}
use Rattle.history_model.proofs.Lists.{slice_get_inside}
use Rattle.reg_zones.specs.Clusters.{IsKept, IsInCluster}
use Rattle.reg_zones.specs.Faults.{IsEarly, IsFirstEarly, IsUnwritten}
use Rattle.reg_zones.proofs.Ends.{member-is}
use Rattle.reg_levels.specs.Clusters.Clean.{IsClean}
use Rattle.reg_levels.specs.Clusters.Places.{IsAt, IsByCall}
use Rattle.reg_levels.specs.Clusters.Steps.{AreEnds, AreFromWrites, AreSources, IsEndsFound, IsNumberFrom}
use Rattle.reg_levels.specs.Clusters.Steps.{IsNumberedBelow, IsSource, StandAtWrites}
use Rattle.reg_levels.specs.Clusters.Table.{IsClusterTable, IsEnds, ends_of}
use Rattle.reg_levels.specs.declared.clusters.table.ClusterEnds.{ClusterEnds}
use Rattle.reg_levels.proofs.ClusterLemmas.Places.{at-In, at-below, In-at, calls_ascend}
use Rattle.reg_levels.proofs.ClusterLemmas.Origins.{source-written}
use Rattle.reg_levels.proofs.ClusterLemmas.Widening.{ends-whole}
use Rattle.reg_levels.proofs.ClusterLemmas.Pushes.{get-below}

-- the ends of each write stand at its place
pub ends-stand : (ops : List Operation) (i : ℕ) (ends : List (Option ClusterEnds)) → AreEnds ops i ends
    → StandAtWrites ends
ends-stand ops i ends h q c g =
    let w = slice_get_inside ops q (omega (arith, h.places, get-below ends (Some c) q g)) in
    (h.each q w.0 (Some c) w.1 g).write

-- the place that a source names is one of the operations
pub source-below : (ops : List Operation) (i : ℕ) (sources : List (Option ℕ)) → i ≤ length ops
    → AreSources ops i sources → (p q : ℕ) → slice_get sources p ≡ Some (Some q) → q < length ops
source-below ops i sources l h p q g =
    let a = slice_get_inside ops p (omega (arith, h.places, get-below sources (Some q) p g)) in
    let s = h.each p a.0 (Some q) a.1 g in
    at-below ops q s.0 s.1

module _ (ops : List Operation) (y : IsHistory ops) (sources : List (Option ℕ))
    (hs : AreSources ops (length ops) sources) (ends : List (Option ClusterEnds))
    (he : AreEnds ops (length ops) ends) (clusters : List ClusterEnds) (by_write : List (Option ℕ))
    (hn : IsNumberedBelow ends (length ends) clusters by_write) (numbers : List (Option ℕ))
    (hm : AreFromWrites by_write sources (length sources) numbers) where
  source-at : (p : ℕ) (a : Operation) → IsAt ops p a
      → (s : Option ℕ) × (slice_get sources p ≡ Some s) × IsSource ops a s
  source-at p a t =
      let s = slice_get_inside sources p (omega (arith, hs.places, at-below ops p a t)) in
      (s.0, s.1, hs.each p a s.0 t s.1)

  found-at : (q : ℕ) (w : Operation) → IsAt ops q w
      → (found : Option ClusterEnds) × (slice_get ends q ≡ Some found)
      × IsEndsFound ops (length ops) q w found
  found-at q w t =
      let f = slice_get_inside ends q (omega (arith, he.places, at-below ops q w t)) in
      (f.0, f.1, he.each q w f.0 t f.1)

  -- a kept write has its ends at its place, and its number
  kept-at : (q : ℕ) (w : Operation) → IsAt ops q w → IsKept ops w
      → (k : ℕ) × (c : ClusterEnds) × (slice_get by_write q ≡ Some (Some k))
      × (slice_get clusters k ≡ Some c)
      × IsEnds ops w c
  kept-at q w t k = let f = found-at q w t in go f.0 f.1 f.2
    where
      go : (found : Option ClusterEnds) → slice_get ends q ≡ Some found
          → IsEndsFound ops (length ops) q w found
          → (k : ℕ) × (c : ClusterEnds) × (slice_get by_write q ≡ Some (Some k))
          × (slice_get clusters k ≡ Some c) × IsEnds ops w c
      go None g none = absurd (elim k.kept [
        | inl d ↦ none k.write q w (at-below ops q w t) t d refl
        | inr r ↦ let p = In-at ops r.0 r.1 in
            none k.write p.0 r.0 (at-below ops p.0 r.0 p.1) p.1 r.2.completed r.2.value
      ])
      go (Some c) g h =
          let r = hn.some q c (get-below ends (Some c) q g) g in
          (r.0, c, r.1, r.2, ends-whole ops y q w c t h)

  -- what has a number from its write is in that cluster
  member-at : (k q : ℕ) (a : Operation) → IsSource ops a (Some q) → In a ops
      → slice_get by_write q ≡ Some (Some k)
      → (c : ClusterEnds) × (w : Operation) × (slice_get clusters k ≡ Some c) × IsEnds ops w c
      × IsInCluster ops (value_of w) a
  member-at k q a s i g = let f = found-at q s.0 s.1 in go f.0 f.1 f.2
    where
      go : (found : Option ClusterEnds) → slice_get ends q ≡ Some found
          → IsEndsFound ops (length ops) q s.0 found
          → (c : ClusterEnds) × (w : Operation) × (slice_get clusters k ≡ Some c) × IsEnds ops w c
          × IsInCluster ops (value_of w) a
      go None e none =
          let bad : Some (Some k) ≡ Some None = sym g
          ∙ hn.none q (get-below ends None q e) e in absurd (cc bad)
      go (Some c) e h =
          let r = hn.some q c (get-below ends (Some c) q e) e in
          let same : Some (Some r.0) ≡ Some (Some k) = sym r.1 ∙ g in
          let is : r.0 ≡ k = cc same in (
            c,
            s.0,
            subst (λ n. slice_get clusters n ≡ Some c) is r.2,
            ends-whole ops y q s.0 c s.1 h,
            record { within = i; value = s.3; counts = s.4 },
          )

  member : (p k : ℕ) (a : Operation) → IsAt ops p a → slice_get numbers p ≡ Some (Some k)
      → (c : ClusterEnds) × (w : Operation) × (slice_get clusters k ≡ Some c) × IsEnds ops w c
      × IsInCluster ops (value_of w) a
  member p k a t g = let s = source-at p a t in go s.0 s.2 (hm.each p s.0 (Some k) s.1 g)
    where
      go : (s : Option ℕ) → IsSource ops a s → IsNumberFrom by_write s (Some k)
          → (c : ClusterEnds) × (w : Operation) × (slice_get clusters k ≡ Some c) × IsEnds ops w c
          × IsInCluster ops (value_of w) a
      go None s n = absurd (cc n)
      go (Some q) s n = member-at k q a s (at-In ops p a t) n

  other : (p : ℕ) (a : Operation) → IsAt ops p a → slice_get numbers p ≡ Some None → (w : Operation)
      → IsKept ops w → IsInCluster ops (value_of w) a → ⊥
  other p a t g w k m = let s = source-at p a t in go s.0 s.2 (hm.each p s.0 None s.1 g)
    where
      go : (s : Option ℕ) → IsSource ops a s → IsNumberFrom by_write s None → ⊥
      go None s n = elim m.counts [
        | inl u ↦ false≢true (sym s.0 ∙ u)
        | inr d ↦ false≢true (sym s.1 ∙ d)
      ]
      go (Some q) s n =
          let same = y.values s.0 w (at-In ops q s.0 s.1) k.within s.2 k.write (sym s.3 ∙ m.value) in
          let r = kept-at q w (subst (IsAt ops q) same s.1) k in
          let bad : Some (Some r.0) ≡ Some None = sym r.2 ∙ n in absurd (cc bad)

  pub table-from : IsClusterTable ops clusters numbers
  table-from = record {
    written = λ r u.
        let p = In-at ops r u.within in
        let s = source-at p.0 r p.1 in
        source-written ops y p.0 r p.1 s.0 s.2 u;
    each = λ k c g.
        let r = hn.each k c g in
        let w = slice_get_inside ops r.0 (omega (arith, he.places, r.1)) in
        (w.0, ends-whole ops y r.0 w.0 c w.1 (he.each r.0 w.0 (Some c) w.1 r.2));
    whole = λ w k.
        let q = In-at ops w k.within in
        let r = kept-at q.0 w q.1 k in
        (r.0, r.1, r.3, r.4);
    ascending = hn.ascending;
    places = hm.places ∙ hs.places;
    member = member;
    other = other;
  }

-- ---- early reads

-- whether the operation at a place is early, by the ends of its cluster
module _ (ops : List Operation) (y : IsHistory ops) (clusters : List ClusterEnds) (numbers : List (Option ℕ))
    (h : IsClusterTable ops clusters numbers) (p : ℕ) (a : Operation) (at : IsAt ops p a) where
  -- the ends that the table has for an operation
  pub ends-known : (c : ClusterEnds) → ends_of clusters numbers p ≡ Some c
      → (w : Operation) × IsEnds ops w c × IsInCluster ops (value_of w) a
  ends-known c e =
      let n = slice_get_inside numbers p (omega (arith, h.places, at-below ops p a at)) in
      go n.0 n.1
    where
      go : (n : Option ℕ) → slice_get numbers p ≡ Some n → (w : Operation) × IsEnds ops w c
          × IsInCluster ops (value_of w) a
      go None g =
          let bad : None ≡ Some c = sym (ap (option_and_then (λ number. option_and_then (slice_get
          clusters) number)) g) ∙ e in
          absurd (cc bad)
      go (Some k) g =
          let here : slice_get clusters k ≡ Some c =
          sym (ap (option_and_then (λ number. option_and_then (slice_get clusters) number)) g) ∙ e in
          let r = h.member p k a at g in
          let same : Some r.0 ≡ Some c = sym r.2 ∙ here in
          let is : r.0 ≡ c = cc same in
          (r.1, subst (IsEnds ops r.1) is r.3, r.4)

  -- and if it has none, the operation is in no cluster
  pub ends-unknown : ends_of clusters numbers p ≡ None → (w : Operation) → IsKept ops w
      → IsInCluster ops (value_of w) a → ⊥
  ends-unknown e w k m =
      let n = slice_get_inside numbers p (omega (arith, h.places, at-below ops p a at)) in
      go n.0 n.1
    where
      go : (n : Option ℕ) → slice_get numbers p ≡ Some n → ⊥
      go None g = h.other p a at g w k m
      go (Some q) g =
          let r = h.member p q a at g in
          let bad : None ≡ Some r.0 =
          sym e ∙ (ap (option_and_then (λ number. option_and_then (slice_get clusters) number)) g ∙ r.2) in
          absurd (cc bad)

  pub early-by : (c : ClusterEnds) (w : Operation) → ends_of clusters numbers p ≡ Some c → IsAt ops c.write w
      → a.reply < w.call → IsEarly ops a w
  early-by c w e t l =
      let r = ends-known c e in
      let same : Some r.0 ≡ Some w = sym r.1.at_write ∙ t in
      let is : r.0 ≡ w = cc same in
      let k = subst (IsKept ops) is r.1.kept in
      let m = subst (λ (x : Operation). IsInCluster ops (value_of x) a) is r.2 in record {
        within = m.within;
        write_within = k.within;
        write = k.write;
        read = elim (member-is ops y w a k m) [
          | inl s ↦
              let life = y.life w k.within in
              let c = ap (λ (x : Operation). x.reply) s in absurd (omega arith)
          | inr o ↦ o
        ];
        early = l;
      }

  -- the write of an early read is that of its cluster
  pub early-ends : (w : Operation) → IsEarly ops a w
      → (c : ClusterEnds) × (ends_of clusters numbers p ≡ Some c) × IsAt ops c.write w
  early-ends w e = go (ends_of clusters numbers p) refl
    where
      kept : IsKept ops w
      kept = record {
        within = e.write_within;
        write = e.write;
        kept = inr (a, e.within, e.read);
      }

      go : (found : Option ClusterEnds) → ends_of clusters numbers p ≡ found
          → (c : ClusterEnds) × (ends_of clusters numbers p ≡ Some c) × IsAt ops c.write w
      go None g = absurd (ends-unknown g w kept
          (record { within = e.within; value = e.read.value; counts = inr e.read.completed }))
      go (Some c) g =
          let r = ends-known c g in
          let same = y.values r.0 w r.1.kept.within e.write_within r.1.kept.write e.write
          (sym r.2.value ∙ e.read.value) in
          (c, g, subst (IsAt ops c.write) same r.1.at_write)

  pub not-early : (c : ClusterEnds) (w v : Operation) → ends_of clusters numbers p ≡ Some c
      → IsAt ops c.write w → w.call ≤ a.reply → IsEarly ops a v → ⊥
  not-early c w v e t l k =
      let r = early-ends v k in
      let same : Some c ≡ Some r.0 = sym e ∙ r.1 in
      let is : c ≡ r.0 = cc same in
      let who : Some w ≡ Some v = sym t ∙ (ap (λ (x : ClusterEnds). slice_get ops x.write) is ∙ r.2) in
      let whom : w ≡ v = cc who in
      let c = ap (λ (x : Operation). x.call) whom in
      let early = k.early in
      omega arith

-- no read that stands below i is early
abbrev pub NoneEarlyBelow : List Operation → ℕ → Type 0
NoneEarlyBelow ops i = (p : ℕ) (r w : Operation) → p < i → IsAt ops p r → IsEarly ops r w → ⊥

pub first-early : (ops : List Operation) → IsByCall ops → (written : (r : Operation) → IsUnwritten ops r → ⊥)
    → (i : ℕ) (r w : Operation) → NoneEarlyBelow ops i → IsAt ops i r → IsEarly ops r w
    → IsFirstEarly ops r w
first-early ops o written i r w none at e = record {
  written = written;
  fault = e;
  first = λ q u k.
      let p = In-at ops q k.within in
      elim (cases_order p.0 i) [
        | inl s ↦
            let same : Some q ≡ Some r = sym p.1 ∙ (ap (slice_get ops) s ∙ at) in
            let is : q ≡ r = cc same in
            let c = ap (λ (x : Operation). x.call) is in omega arith
        | inr s ↦ elim s [
          | inl l ↦ absurd (none p.0 q u l p.1 k)
          | inr l ↦ let c = calls_ascend ops o i p.0 r q l at p.1 in omega arith
        ]
      ];
}

pub clean-from : (ops : List Operation) → (written : (r : Operation) → IsUnwritten ops r → ⊥) → (i : ℕ)
    → length ops ≤ i → NoneEarlyBelow ops i → IsClean ops
clean-from ops written i l none = record {
  written = written;
  in_time = λ r w e.
      let p = In-at ops r e.within in
      let below = at-below ops p.0 r p.1 in
      none p.0 r w (omega arith) p.1 e;
}
