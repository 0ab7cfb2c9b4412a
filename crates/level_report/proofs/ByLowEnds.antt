-- Without a conflict the clusters by low ends are in an order that keeps atomic.
use Rattle.std.proofs.Common.{◌≡◌, ◌∙◌, inl, inr, ℕ, zero, suc, ◌+◌, ◌<◌, ◌==◌, Bool, false, List}
use Rattle.std.proofs.Common.{[]}
use Rattle.std.proofs.Common.{◌∷◌, ◌++◌, AllPairs, map, min, slice_get, get_or, option_map}
use Rattle.std.proofs.Common.{Option, Some, refl, sym}
use Rattle.std.proofs.Common.{ap, subst, arith}
use Rattle.std.proofs.lemmas.Bool.{cases_Bool, cases_order, eq-eqb, false≢true}
use Rattle.std.proofs.lemmas.Option.{slice_get-get_or}
use Rattle.std.proofs.lemmas.Bool.Decides.{Decides-eqb, same_from_decides}
use Rattle.std.proofs.lemmas.Map.Keys.{IsDistinct-from_apart, IsDistinct-IsPermutation, apart_from_distinct}
use Rattle.std.proofs.lemmas.List.Sorted.{Contains-permutation, IsPermutation-sym}
use Rattle.std.specs.List.Sorted.{IsNonDecreasingBy, IsPermutation}
use Rattle.history_model.specs.Legal.{IsAtomic}
use Rattle.history_model.specs.Lists.{In}
use Rattle.history_model.specs.Operations.{IsHistory, value_of}
use Rattle.history_model.specs.declared.guarantee.Guarantee.TheVariants as guarantee
use Rattle.history_model.specs.declared.operation.Operation.{Operation}
use Rattle.history_model.proofs.Indexes.{Contains-from_In, In-from_Contains}
use Rattle.history_model.proofs.Lists.{slice_get-In, slice_get_inside}
use Rattle.reg_zones.specs.Clusters.{IsKept}
use Rattle.reg_zones.proofs.Ends.{first_reply-le, last_call-le}
use Rattle.level_laws.specs.Evidence.Evidence.{cycle}
use Rattle.level_laws.specs.Leads.{LeadsTo}
use Rattle.level_laws.proofs.Refuted.{clean, refuted}
use Rattle.reg_levels.proofs.OrderGraphLemmas.Places.{place-same}
use Rattle.reg_levels.specs.Clusters.Places.{IsByCall}
use Rattle.reg_levels.specs.Clusters.Table.{IsClusterTable, IsEnds}
use Rattle.reg_levels.specs.declared.clusters.table.ClusterEnds.{ClusterEnds}
use Rattle.reg_levels.proofs.ClusterLemmas.Places.{at-In}
use Rattle.reg_levels.proofs.GapLemmas.Passing.{get-is, get-of}
use Rattle.reg_levels.proofs.ClusterLemmas.Pushes.{get-below, get-push_cases, get-read, length-push}
use Rattle.reg_levels.specs.Decisions.{write_of_cluster}
use Rattle.reg_levels.proofs.Numbering.{same_cluster}
use Rattle.reg_levels.proofs.Ordering.{at-write, Before-filter_map, In-filter_map, filter_map-Before}
use Rattle.reg_levels.proofs.Ordering.{filter_map-In, write-at}
use Rattle.level_report.specs.Ordered.{AreFirstLowEnds, AreLowEnds, KeepsOrder}
use Rattle.level_report.specs.declared.sooner.LowEnd.{LowEnd}

pub low-push : (clusters : List ClusterEnds) (n : ℕ) (xs : List LowEnd) (x : LowEnd) (c : ClusterEnds)
    → AreFirstLowEnds clusters n xs → slice_get clusters n ≡ Some c → x.cluster ≡ n
    → x.low ≡ min c.first_reply c.last_call → AreFirstLowEnds clusters (n + 1) (xs ++ x ∷ [])
low-push clusters n xs x c o h number low = record {
  count = length-push xs x ∙ ap (λ m. m + 1) o.count;
  each = λ k z d i j. elim (get-push_cases xs x z k i) [
    | inl old ↦ o.each k z d old j
    | inr new ↦
        let here : k ≡ n = new.0 ∙ o.count in
        let same : c ≡ d = place-same clusters n c d h (subst (λ m. slice_get clusters m ≡ Some d) here j) in
        subst (λ (u : LowEnd). (u.cluster ≡ k) × (u.low ≡ min d.first_reply d.last_call)) new.1
        (number ∙ sym here, low ∙ ap (λ (e : ClusterEnds). min e.first_reply e.last_call) same)
  ];
}

abbrev same_number : LowEnd → LowEnd → Bool
same_number x y = x.cluster == y.cluster

same_number-flips : (x y : LowEnd) → same_number x y ≡ same_number y x
same_number-flips x y =
    same_from_decides _ _ (Decides-eqb x.cluster y.cluster)
    (let d = Decides-eqb y.cluster x.cluster in (λ h. sym (d.0 h), λ e. d.1 (sym e)))

-- ---- what must come first has the lower end

module _ (ops : List Operation) (y : IsHistory ops) (o : IsAtomic ops) where
  -- each would have to come before the other
  no-conflict : (v u : Operation) (c d : ClusterEnds) → IsEnds ops v c → IsEnds ops u d
      → LeadsTo guarantee.Atomic ops v u → d.first_reply < c.last_call → ⊥
  no-conflict v u c d ev eu l less =
      let a = eu.at_first in
      let b = ev.at_last in
      refuted guarantee.Atomic ops (cycle (record { write = v; before = l.before; after = l.after }
      ∷ record { write = u; before = a.0; after = b.0 } ∷ [])) y (
        record {
          kept = l.left;
          next = l.right;
          differ = l.differ;
          one = l.one;
          other = l.other;
          must = l.must;
        },
        (
          record {
            kept = l.right;
            next = l.left;
            differ = λ e. l.differ (sym e);
            one = a.2.member;
            other = b.2.member;
            must = omega (arith, a.2.least, eu.reply_is, b.2.greatest, ev.call_is, less);
          },
          tt,
        ),
      ) o

  lower : (v u : Operation) (c d : ClusterEnds) → IsEnds ops v c → IsEnds ops u d
      → LeadsTo guarantee.Atomic ops v u
      → min c.first_reply c.last_call < min d.first_reply d.last_call
  lower v u c d ev eu l =
      let f = first_reply-le ops (value_of v) l.before l.one in
      let g = last_call-le ops (value_of u) l.after l.other in
      let a = eu.at_first in
      let b = ev.at_last in
      let apart = y.apart a.0 b.0 (at-In ops d.first a.0 a.1) (at-In ops c.last b.0 b.1) in
      let first : c.first_reply < d.last_call = omega (arith, f, g, l.must, ev.reply_is, eu.call_is) in
      let last : c.last_call < d.first_reply =
      elim (cases_order c.last_call d.first_reply) [
        | inl e ↦ absurd (apart (omega (arith, a.2.least, eu.reply_is, b.2.greatest, ev.call_is, e)))
        | inr k ↦ elim k [ inl q ↦ q | inr q ↦ absurd (no-conflict v u c d ev eu l q) ]
      ] in
      omega (arith, first, last)

-- ---- the clusters by low ends

module _ (ops : List Operation) (y : IsHistory ops) (up : IsByCall ops) (atomic : IsAtomic ops)
    (clusters : List ClusterEnds) (numbers : List (Option ℕ)) (t : IsClusterTable ops clusters numbers)
    (xs sorted : List LowEnd) (o : AreLowEnds clusters xs) (p : IsPermutation xs sorted)
    (rising : IsNonDecreasingBy (λ (x : LowEnd). x.low) sorted) where
  abbrev f : ℕ → Option Operation
  f = write_of_cluster ops clusters

  abbrev order : List ℕ
  order = map (λ (x : LowEnd). x.cluster) sorted

  number : (x : LowEnd) → In x sorted → (c : ClusterEnds) × (slice_get clusters x.cluster ≡ Some c)
      × (x.low ≡ min c.first_reply c.last_call)
  number x i =
      let at = get-of xs x (In-from_Contains xs x (Contains-permutation sorted xs x
      (IsPermutation-sym xs sorted p) (Contains-from_In sorted x i))) in
      let c = slice_get_inside clusters at.0 (omega (arith, get-below xs x at.0 at.1, o.count)) in
      let is = o.each at.0 x c.0 at.1 c.1 in
      (c.0, ap (slice_get clusters) is.0 ∙ c.1, is.1)

  -- where a cluster stands
  stands : (k : ℕ) (c : ClusterEnds) → slice_get clusters k ≡ Some c
      → (i : ℕ) × (x : LowEnd) × (slice_get sorted i ≡ Some x) × (x.cluster ≡ k)
  stands k c at =
      let x = slice_get_inside xs k (omega (arith, get-below clusters c k at, o.count)) in
      let i = get-of sorted x.0 (In-from_Contains sorted x.0 (Contains-permutation xs sorted x.0 p
      (Contains-from_In xs x.0 (slice_get-In xs k x.0 x.1)))) in
      (i.0, x.0, i.1, (o.each k x.0 c x.1 at).0)

  -- the number at a place of the order is that of the entry there
  entry : (i k : ℕ) → slice_get order i ≡ Some k → (x : LowEnd) × (slice_get sorted i ≡ Some x) × (x.cluster
      ≡ k)
  entry i k at = map-at sorted i k at
    where
      map-at : (zs : List LowEnd) (j n : ℕ) → slice_get (map (λ (x : LowEnd). x.cluster) zs) j ≡ Some n
          → (x : LowEnd) × (slice_get zs j ≡ Some x) × (x.cluster ≡ n)
      map-at [] j n h = absurd (cc h)
      map-at (z ∷ zs) zero n h = (z, refl, cc h)
      map-at (z ∷ zs) (suc j) n h = map-at zs j n h

  number-at : (i : ℕ) (x : LowEnd) → slice_get sorted i ≡ Some x → slice_get order i ≡ Some x.cluster
  number-at i x at = at-map sorted i x at
    where
      at-map : (zs : List LowEnd) (j : ℕ) (x : LowEnd) → slice_get zs j ≡ Some x
          → slice_get (map (λ (x : LowEnd). x.cluster) zs) j ≡ Some x.cluster
      at-map [] j x h = absurd (cc h)
      at-map (z ∷ zs) zero x h = ap (λ (o : Option LowEnd). option_map (λ (w : LowEnd). w.cluster) o) h
      at-map (z ∷ zs) (suc j) x h = at-map zs j x h

  differ : AllPairs (λ (x z : LowEnd). same_number x z ≡ false) xs
  differ i j d l k =
      let x = get_or xs i d in
      let z = get_or xs j d in
      let c = slice_get_inside clusters i (omega (arith, o.count, l, k)) in
      let e = slice_get_inside clusters j (omega (arith, o.count, k)) in
      let a = (o.each i x c.0 (get-read xs i d (omega arith)) c.1).0 in
      let b = (o.each j z e.0 (get-read xs j d k) e.1).0 in
      elim (cases_Bool (same_number x z)) [
        | inl q ↦ absurd (omega (arith, a, b, l, (Decides-eqb x.cluster z.cluster).0 q))
        | inr n ↦ n
      ]

  differ-sorted : AllPairs (λ (x z : LowEnd). same_number x z ≡ false) sorted
  differ-sorted i j d l k =
      apart_from_distinct same_number sorted i j d
      (IsDistinct-IsPermutation same_number same_number-flips xs sorted p
      (IsDistinct-from_apart same_number xs differ)) l k

  -- no number stands twice
  numbers-differ : (i j k : ℕ) → i < j → slice_get order i ≡ Some k → slice_get order j ≡ Some k → ⊥
  numbers-differ i j k l h g =
      let a = entry i k h in
      let b = entry j k g in
      let apart = differ-sorted i j a.0 l (get-below sorted b.0 j b.1) in
      let x = get-is sorted i a.0 a.0 a.1 in
      let z = get-is sorted j b.0 a.0 b.1 in
      false≢true (sym apart ∙ eq-eqb _ _ (ap (λ (w : LowEnd). w.cluster) x ∙ (a.2 ∙ sym b.2)
      ∙ sym (ap (λ (w : LowEnd). w.cluster) z)))

  pub by-low-ends : KeepsOrder guarantee.Atomic ops clusters order
  by-low-ends = record {
    within = λ i d l.
        let at = slice_get-get_or order i d l in
        let e = entry i (get_or order i d) at in
        let c = number e.0 (slice_get-In sorted i e.0 e.1) in
        omega (arith, get-below clusters c.0 (e.0).cluster c.1, e.2);
    clean = clean guarantee.Atomic ops atomic.0 y atomic.1;
    writes = record {
      once =
          λ v b. let r = filter_map-Before f order v v b in
          let a = write-at ops clusters r.2 v r.7 in
          let c = write-at ops clusters r.3 v r.8 in
          let same : r.2 ≡ r.3 =
          same_cluster ops clusters numbers up t r.2 r.3 a.0 c.0 v a.1 c.1 a.2 c.2 in
          numbers-differ r.0 r.1 r.2 r.4 r.5 (subst (λ n. slice_get order r.1 ≡ Some n) (sym same) r.6);
      only =
          λ v b. let r = filter_map-In f order v b in
          let a = write-at ops clusters r.1 v r.3 in
          let e = t.each r.1 a.0 a.1 in
          subst (IsKept ops) (place-same ops (a.0).write e.0 v e.1.at_write a.2) e.1.kept;
      all =
          λ v b. let k = t.whole v b in
          let i = stands k.0 k.1 k.2 in
          In-filter_map f order i.0 k.0 v
          (subst (λ n. slice_get order i.0 ≡ Some n) i.3 (number-at i.0 i.1 i.2))
          (at-write ops clusters k.0 v k.1 k.2 k.3.at_write);
      forward =
          λ v u l. let k = t.whole v l.left in
          let m = t.whole u l.right in
          let i = stands k.0 k.1 k.2 in
          let j = stands m.0 m.1 m.2 in
          let less = lower ops y atomic v u k.1 m.1 k.3 m.3 l in
          let low-i = number i.1 (slice_get-In sorted i.0 i.1 i.2) in
          let low-j = number j.1 (slice_get-In sorted j.0 j.1 j.2) in
          let c = place-same clusters k.0 low-i.0 k.1
          (subst (λ n. slice_get clusters n ≡ Some low-i.0) i.3 low-i.1) k.2 in
          let d = place-same clusters m.0 low-j.0 m.1
          (subst (λ n. slice_get clusters n ≡ Some low-j.0) j.3 low-j.1) m.2 in
          let ends : (i.1).low < (j.1).low =
          omega (
            arith,
            less,
            low-i.2,
            low-j.2,
            ap (λ (e : ClusterEnds). min e.first_reply e.last_call) c,
            ap (λ (e : ClusterEnds). min e.first_reply e.last_call) d,
          ) in
          Before-filter_map f order i.0 j.0 k.0 m.0 v u (sooner i.0 j.0 i.1 j.1 i.2 j.2 ends)
          (subst (λ n. slice_get order i.0 ≡ Some n) i.3 (number-at i.0 i.1 i.2))
          (subst (λ n. slice_get order j.0 ≡ Some n) j.3 (number-at j.0 j.1 j.2))
          (at-write ops clusters k.0 v k.1 k.2 k.3.at_write)
          (at-write ops clusters m.0 u m.1 m.2 m.3.at_write);
    };
  }
    where
      -- a lower end stands sooner
      sooner : (i j : ℕ) (x z : LowEnd) → slice_get sorted i ≡ Some x → slice_get sorted j ≡ Some z
          → x.low < z.low → i < j
      sooner i j x z h g l = elim (cases_order i j) [
        | inl e ↦ absurd (let same = place-same sorted i x z h (subst (λ n. slice_get sorted n ≡ Some z)
            (sym e) g) in
            omega (arith, l, ap (λ (w : LowEnd). w.low) same))
        | inr k ↦ elim k [
          | inl q ↦ q
          | inr q ↦ absurd
              (let r = rising j i z (omega (arith, q)) (get-below sorted x i h) in
              omega (
                arith,
                l,
                r,
                ap (λ (w : LowEnd). w.low) (get-is sorted j z z g),
                ap (λ (w : LowEnd). w.low) (get-is sorted i x z h),
              ))
        ]
      ]
