-- What a collision of two extents shows of their clusters.
use Rattle.std.proofs.Common.{◌≡◌, ℕ, ◌+◌, ◌-◌, ◌<◌, ◌≤◌, max, List, get_or, length, slice_get}
use Rattle.std.proofs.Common.{Option, Some, inl, inr, sym, ap, subst, ◌∙◌, arith}
use Rattle.std.proofs.lemmas.Bool.{cases_order}
use Rattle.history_model.specs.Lists.{In, Before}
use Rattle.history_model.specs.Legal.{HasOrderFor, IsAtomic}
use Rattle.history_model.specs.Operations.{IsHistory, value_of}
use Rattle.history_model.specs.declared.guarantee.Guarantee.TheVariants.{Within}
use Rattle.history_model.specs.declared.operation.Operation.{Operation}
use Rattle.history_model.proofs.Lists.{slice_get-In}
use Rattle.reg_zones.specs.Clusters.{HasFirstReply, IsKept, first_reply, last_call}
use Rattle.reg_levels.specs.Clusters.Clean.{IsClean}
use Rattle.reg_levels.specs.Clusters.Places.{IsAt, IsByCall}
use Rattle.reg_levels.specs.Clusters.Table.{IsClusterTable, IsEnds}
use Rattle.reg_levels.specs.declared.clusters.table.ClusterEnds.{ClusterEnds}
use Rattle.reg_levels.proofs.ClusterLemmas.Places.{In-at, at-below, at-same, calls_ascend}
use Rattle.reg_levels.proofs.ClusterLemmas.Pushes.{get-below}
use Rattle.level_laws.specs.Evidence.{IsLink}
use Rattle.level_laws.proofs.Weaker.{within-atomic}
use Rattle.reg_levels.specs.Gap.Conflicts.{AreExtents, IsConflictWithin, IsExtent}
use Rattle.reg_levels.specs.Gap.Extents.{NoneCollide, Collide, IsCollision, IsWidest}
use Rattle.reg_levels.specs.Gap.Gaps.{IsAfter, IsConflictShown, IsGap}
use Rattle.reg_levels.specs.declared.gap.extent.Extent.{Extent}
use Rattle.reg_levels.specs.declared.gap.answer.Gap.{Gap}
use Rattle.reg_levels.specs.declared.gap.widest.Widest.{Widest}
use Rattle.reg_levels.proofs.GapLemmas.Deciding.{apart-order, below-leads, conflict-refutes, end-apart}
use Rattle.reg_levels.proofs.GapLemmas.Deciding.{leads-below}
use Rattle.reg_levels.proofs.GapLemmas.Passing.{get-of, read-at, slice_get-Before}

-- ---- two clusters of which each has something after the other's first reply

link : (age : ℕ) (ops : List Operation) (c d : ClusterEnds) (v w : Operation) → IsEnds ops v c
    → IsEnds ops w d → (value_of v ≡ value_of w → ⊥) → (place : ℕ)
    (k : IsAfter age ops c.first_reply w place) (a : Operation)
    → HasFirstReply ops (value_of v) a
    → IsLink (Within age) ops (record { write = v; before = a; after = k.b }) w
link age ops c d v w kv kw ne place k a f =
    let e : a.reply ≡ c.first_reply = f.least ∙ sym kv.reply_is in
    record {
      kept = kv.kept;
      next = kw.kept;
      differ = ne;
      one = f.member;
      other = k.member;
      must = (
        omega (arith, e, k.later),
        elim k.old [ inl t ↦ inl t | inr t ↦ inr (omega (arith, e, t)) ],
      );
    }

pub conflict-shown : (age : ℕ) (ops : List Operation) (c d : ClusterEnds) (v w : Operation) → IsEnds ops v c
    → IsEnds ops w d → (value_of v ≡ value_of w → ⊥) → (m n : ℕ) → IsAfter age ops c.first_reply w m
    → IsAfter age ops d.first_reply v n
    → IsConflictShown age ops (record {
      events = age;
      writes = (c.write, d.write);
      first = (c.first, m);
      second = (d.first, n);
    })
conflict-shown age ops c d v w kv kw ne m n k l = record {
  v = v;
  w = w;
  a = kv.at_first.0;
  b = k.b;
  c = kw.at_first.0;
  d = l.b;
  at_v = kv.at_write;
  at_w = kw.at_write;
  at_a = kv.at_first.1;
  at_b = k.at_b;
  at_c = kw.at_first.1;
  at_d = l.at_b;
  one = link age ops c d v w kv kw ne m k kv.at_first.0 kv.at_first.2;
  other = link age ops d c w v kw kv (λ e. ne (sym e)) n l kw.at_first.0 kw.at_first.2;
  first = kv.at_first.2;
  second = kw.at_first.2;
}

-- ---- extents and clusters

module _ (ops : List Operation) (y : IsHistory ops) (up : IsByCall ops) (clusters : List ClusterEnds)
    (numbers : List (Option ℕ)) (t : IsClusterTable ops clusters numbers) (xs : List Extent)
    (o : AreExtents ops clusters xs) where
  -- the times are those of the cluster of a write
  pub record IsExtentOf (x : Extent) (v : Operation) : Type 0 where
    pub is_kept : IsKept ops v
    pub reply : x.first_reply ≡ first_reply ops (value_of v)
    pub call : x.write_call ≡ v.call
    pub last : x.last_call ≡ last_call ops (value_of v)

  extent-of : (x : Extent) (e : IsExtent ops clusters x) → IsExtentOf x e.write
  extent-of x e = record {
    is_kept = (e.is).kept;
    reply = e.reply ∙ (e.is).reply_is;
    call = e.call;
    last = e.last ∙ (e.is).call_is;
  }

  -- two writes at one place have one number, so two extents have two writes
  one-number : (j k : ℕ) (c d : ClusterEnds) → slice_get clusters j ≡ Some c → slice_get clusters k ≡ Some d
      → c.write ≡ d.write → j ≡ k
  one-number j k c d h i e = elim (cases_order j k) [
    | inl q ↦ q
    | inr s ↦ elim s [
      | inl l ↦ absurd (omega (arith, t.ascending j k c d l h i, e))
      | inr l ↦ absurd (omega (arith, t.ascending k j d c l i h, e))
    ]
  ]

  pub values-differ : (x z : Extent) → Before x z xs → (e : IsExtent ops clusters x)
      (f : IsExtent ops clusters z) → value_of e.write ≡ value_of f.write → ⊥
  values-differ x z b e f q =
      let kv = (e.is).kept in
      let kw = (f.is).kept in
      let s = y.values e.write f.write kv.within kw.within kv.write kw.write q in
      let place =
      at-same ops up (e.ends).write (f.ends).write e.write (e.is).at_write
      (subst (IsAt ops (f.ends).write) (sym s) (f.is).at_write) in
      o.apart x z b (one-number x.cluster z.cluster e.ends f.ends e.there f.there place)

  -- the extent of a kept write's cluster
  pub its-extent : (v : Operation) → IsKept ops v → (x : Extent) × In x xs × IsExtentOf x v
  its-extent v k =
      let c = t.whole v k in
      let x = o.whole c.0 c.1 c.2 in
      let e = o.each x.0 x.1 in
      let same : e.ends ≡ c.1 =
      let s : Some e.ends ≡ Some c.1 = sym e.there ∙ (ap (slice_get clusters) x.2 ∙ c.2) in cc s in
      let at : IsAt ops (e.ends).write v =
      subst (λ (d : ClusterEnds). IsAt ops d.write v) (sym same) c.3.at_write in
      let w : e.write ≡ v = let s : Some e.write ≡ Some v = sym (e.is).at_write ∙ at in cc s in
      (x.0, x.1, subst (IsExtentOf x.0) w (extent-of x.0 e))

  module _ (age : ℕ) where
    collide-leads : (x z : Extent) (v w : Operation) → IsExtentOf x v → IsExtentOf z w
        → (value_of v ≡ value_of w → ⊥) → Collide age x z → IsConflictWithin age ops v w
    collide-leads x z v w e f ne k = record {
      one = below-leads ops y age v w e.is_kept f.is_kept ne (omega (arith, k.0, e.reply, f.call, f.last));
      other =
          below-leads ops y age w v f.is_kept e.is_kept (λ q. ne (sym q))
          (omega (arith, k.1, f.reply, e.call, e.last));
    }

    leads-collide : (x z : Extent) (v w : Operation) → IsExtentOf x v → IsExtentOf z w
        → IsConflictWithin age ops v w → Collide age x z
    leads-collide x z v w e f k = (
      omega (arith, leads-below ops y age v w k.one, e.reply, f.call, f.last),
      omega (arith, leads-below ops y age w v k.other, f.reply, e.call, e.last),
    )

    -- extents that collide show a conflict, and a conflict shows two that collide
    pub collision-conflict : (i j : ℕ) (k : IsCollision age xs i j) → (v : Operation) × (w : Operation)
        × IsConflictWithin age ops v w
    collision-conflict i j k =
        let x = k.left in
        let z = k.right in
        let e = o.each x (slice_get-In xs i x k.at_left) in
        let f = o.each z (slice_get-In xs j z k.at_right) in
        let ne = values-differ x z (slice_get-Before xs i j x z k.order k.at_left k.at_right) e f in
        (e.write, f.write, collide-leads x z e.write f.write (extent-of x e) (extent-of z f) ne k.collide)

    pub apart-clusters : NoneCollide age xs → (v w : Operation) → IsConflictWithin age ops v w → ⊥
    apart-clusters a v w k =
        let x = its-extent v (k.one).left in
        let z = its-extent w (k.one).right in
        let i = get-of xs x.0 x.1 in
        let j = get-of xs z.0 z.1 in
        let c = leads-collide x.0 z.0 v w x.2 z.2 k in
        elim (cases_order i.0 j.0) [
          | inl e ↦
              let s : Some x.0 ≡ Some z.0 = sym i.1 ∙ (ap (slice_get xs) e ∙ j.1) in
              let q : x.0 ≡ z.0 = cc s in
              let call = sym (x.2).call ∙ (ap (λ (u : Extent). u.write_call) q ∙ (z.2).call) in
              let kv = (k.one).left in
              let kw = (k.one).right in
              absurd ((k.one).differ (ap value_of (y.calls v w kv.within kw.within call)))
          | inr s ↦ elim s [
            | inl l ↦ a i.0 j.0 x.0 z.0 l i.1 j.1 c
            | inr l ↦ a j.0 i.0 z.0 x.0 l j.1 i.1 (c.1, c.0)
          ]
        ]

  -- ---- what the gap's code needs

  -- at an age as late as each call none collide
  pub end-collides : (age : ℕ) → IsClean ops → ((a : Operation) → In a ops → a.call ≤ age)
      → NoneCollide age xs
  end-collides age k end i j x z l h m c =
      let n = collision-conflict age i j (record {
        order = l;
        left = x;
        right = z;
        at_left = h;
        at_right = m;
        collide = c;
      }) in
      end-apart ops y age k end n.0 n.1 n.2

  pub apart-within : (age : ℕ) → IsClean ops → NoneCollide age xs → HasOrderFor (Within age) ops
  apart-within age k a = apart-order ops y age (apart-clusters age a) k

  pub apart-atomic : IsClean ops → NoneCollide 0 xs → IsAtomic ops
  apart-atomic k a = (within-atomic ops 0 (omega arith)).0 (apart-within 0 k a)

  -- the number of an extent is that of a cluster, whose write is among the operations
  pub number-below : (i : ℕ) (x : Extent) → slice_get xs i ≡ Some x → x.cluster < length clusters
  number-below i x h =
      let e = o.each x (slice_get-In xs i x h) in get-below clusters e.ends x.cluster e.there

  pub cluster-at : (i : ℕ) (x : Extent) (c : ClusterEnds) → slice_get xs i ≡ Some x
      → c ≡ get_or clusters x.cluster c → slice_get clusters x.cluster ≡ Some c
  cluster-at i x c h e =
      let k = o.each x (slice_get-In xs i x h) in read-at clusters x.cluster c k.ends k.there e

  pub write-below : (k : ℕ) (c : ClusterEnds) → slice_get clusters k ≡ Some c → c.write < length ops
  write-below k c h = let e = t.each k c h in at-below ops c.write e.0 e.1.at_write

  -- the ends of an extent's cluster
  its-ends : (x : Extent) (e : IsExtent ops clusters x) (c : ClusterEnds)
      → slice_get clusters x.cluster ≡ Some c → e.ends ≡ c
  its-ends x e c h = let s : Some e.ends ≡ Some c = sym e.there ∙ h in cc s

  module _ (k : IsClean ops) (widest : Widest) (w : IsWidest xs widest) (x z : Extent) (c d : ClusterEnds)
      (at_x : slice_get xs widest.first ≡ Some x) (at_z : slice_get xs widest.second ≡ Some z)
      (at_c : slice_get clusters x.cluster ≡ Some c) (at_d : slice_get clusters z.cluster ≡ Some d) where
    pub gap-from : (gap : Gap) → gap.events ≡ widest.age
        → ((u v : Operation) → IsEnds ops u c → IsEnds ops v d → (value_of u ≡ value_of v → ⊥)
        → c.first_reply < max v.call (d.last_call - (widest.age - 1))
        → d.first_reply < max u.call (c.last_call - (widest.age - 1))
        → IsConflictShown widest.age ops gap) → IsGap ops gap
    gap-from gap is shown =
        let n = w.collision in
        let e = o.each x (slice_get-In xs widest.first x at_x) in
        let f = o.each z (slice_get-In xs widest.second z at_z) in
        let ec = its-ends x e c at_c in
        let fd = its-ends z f d at_d in
        let left : n.left ≡ x = let s : Some n.left ≡ Some x = sym n.at_left ∙ at_x in cc s in
        let right : n.right ≡ z = let s : Some n.right ≡ Some z = sym n.at_right ∙ at_z in cc s in
        let c1 : Collide widest.age x z =
        subst (λ u. Collide widest.age u z) left (subst (Collide widest.age n.left) right n.collide) in
        let sooner = slice_get-Before xs widest.first widest.second x z n.order at_x at_z in
        let ne = values-differ x z sooner e f in
        let cr = ap (λ (q : ClusterEnds). q.first_reply) ec in
        let cl = ap (λ (q : ClusterEnds). q.last_call) ec in
        let dr = ap (λ (q : ClusterEnds). q.first_reply) fd in
        let dl = ap (λ (q : ClusterEnds). q.last_call) fd in
        let show = shown e.write f.write (subst (IsEnds ops e.write) ec e.is)
        (subst (IsEnds ops f.write) fd f.is) ne (omega (arith, c1.0, e.reply, cr, f.call, f.last, dl))
        (omega (arith, c1.1, f.reply, dr, e.call, e.last, cl)) in
        let clash = collision-conflict widest.age widest.first widest.second n in
        record {
          enough =
              subst (λ m. HasOrderFor (Within (m + 1)) ops) (sym is) (apart-within (widest.age + 1) k w.last);
          needed = λ order. conflict-refutes ops widest.age y clash.0 clash.1 clash.2
              (subst (λ m. HasOrderFor (Within m) ops) is order);
          shown = subst (λ m. IsConflictShown m ops gap) (sym is) show;
        }

-- the operation that stands last is called last
pub last-latest : (ops : List Operation) → IsByCall ops → (b : Operation) → IsAt ops (length ops - 1) b
    → (a : Operation) → In a ops → a.call ≤ b.call
last-latest ops up b k a i =
    let p = In-at ops a i in
    let l = at-below ops p.0 a p.1 in
    elim (cases_order p.0 (length ops - 1)) [
      | inl e ↦
          let s : Some a ≡ Some b = sym p.1 ∙ (ap (slice_get ops) e ∙ k) in
          let q : a ≡ b = cc s in
          let c = ap (λ (x : Operation). x.call) q in omega (arith, c)
      | inr s ↦ elim s [
        | inl lt ↦ let c = calls_ascend ops up p.0 (length ops - 1) a b lt p.1 k in omega (arith, c)
        | inr gt ↦ absurd (omega (arith, l, gt))
      ]
    ]
