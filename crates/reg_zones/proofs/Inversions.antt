-- Where the writes come one after another, a register is atomic exactly where it is regular and has no
-- inversion, and the fault of one that is regular names an inversion.
use Rattle.std.proofs.Common.{◌≡◌, ◌<◌, List, Some, ◌⊎◌, ◌↔◌, inl, inr, sym, ap, subst, ◌∙◌, arith}
use Rattle.std.proofs.lemmas.Bool.{cases_Bool, cases_lt}
use Rattle.history_model.specs.Lamport.{IsOldWrite, IsOverlappedWrite}
use Rattle.history_model.specs.Legal.{IsAtomic, IsLegal}
use Rattle.history_model.specs.Lists.{In, Before}
use Rattle.history_model.specs.Operations.{Precedes, IsCompletedRead, IsHistory, IsReadOf, IsWrite, value_of}
use Rattle.history_model.specs.declared.operation.Operation.{Operation}
use Rattle.history_model.specs.Naming.{name_of}
use Rattle.reg_zones.specs.Clusters.{IsConflict, IsInCluster, IsKept, HasFirstReply, HasLastCall, low_end}
use Rattle.reg_zones.specs.Faults.{HasNoFault, IsFault}
use Rattle.reg_zones.specs.Inversions.{IsRegular, IsInversion, HasInversion, inversion_named}
use Rattle.reg_zones.specs.declared.fault.Fault.{Fault}
use Rattle.reg_zones.specs.declared.fault.Fault.TheVariants.{Unwritten, Early, Zones}
use Rattle.reg_zones.proofs.Ends.{first_reply-at, first_reply-le, kept-member, last_call-at, member-is}
use Rattle.reg_zones.proofs.Exists.{decides}
use Rattle.reg_zones.proofs.LowEnds.{same_low}
use Rattle.history_model.proofs.Latest.{latest}
use Rattle.history_model.proofs.Lists.{Before-first, Before-total, Before-trans}

-- the writes come one after another
abbrev TakeTurns : List Operation → Type 0
TakeTurns ops =
    (v w : Operation) → In v ops → In w ops → IsWrite v → IsWrite w → (v ≡ w) ⊎ (Precedes v w ⊎ Precedes w v)

-- ---- what a legal order shows

module _ (ops order : List Operation) (y : IsHistory ops) (turns : TakeTurns ops)
    (l : IsLegal ops order) where
  -- of two operations in the order, the one that precedes the other stands before it
  ordered : (a b : Operation) → In a order → In b order → Precedes a b → Before a b order
  ordered a b i j p = elim (Before-total a b order i j) [
    | inl e ↦ let lives = y.life b (l.completion.only b j) in
        absurd (omega (arith, p, ap (λ (o : Operation). o.reply) e))
    | inr c ↦ elim c [ inl c ↦ c | inr c ↦ absurd (l.keeps b a c p) ]
  ]

  -- what precedes something is completed, and so in the order
  placed : (a b : Operation) → In a ops → In b ops → Precedes a b → In a order
  placed a b i j p =
      elim (cases_Bool a.completed) [
        | inl d ↦ l.completion.all a i d
        | inr n ↦ absurd (omega (arith, y.pending a b i j n))
      ]

  -- the nearest write before a read is its old write, or overlaps it
  pub regular : IsRegular ops
  regular r i d =
      let here = l.completion.all r i d.completed in
      let n = latest ops order y l r here d in
      let w = n.0 in
      let near = n.1 in
      let within = Before-first w r order near.before in
      let j = l.completion.only w within in
      elim (cases_lt w.reply r.call) [
        | inr late ↦ inr (
          w,
          record {
            within = j;
            write = near.write;
            overlaps = (λ p. omega arith, λ p. l.keeps w r near.before p);
          },
          n.2,
        )
        | inl before ↦ inl (
          w,
          record {
            within = j;
            write = near.write;
            before = before;
            last = λ v k u q. elim (turns v w k j u near.write) [
              | inl e ↦ omega (arith, ap (λ (o : Operation). o.call) e)
              | inr c ↦ elim c [
                | inl vw ↦ let lives = y.life v k in omega arith
                | inr wv ↦ let there = placed v r k i q in
                    absurd (near.nearest v u (y.one v r k i) (ordered w v within there wv)
                    (ordered v r there here q))
              ]
            ];
          },
          n.2,
        )
      ]

  pub no_inversion : HasInversion ops → ⊥
  no_inversion (r, s, x) =
      let a = x.gives_newer in
      let b = x.gives_older in
      let dr : IsCompletedRead r = record { read = a.read.read; completed = a.read.completed } in
      let ds : IsCompletedRead s = record { read = b.read.read; completed = b.read.completed } in
      let rin = l.completion.all r a.within a.read.completed in
      let sin = l.completion.all s b.within b.read.completed in
      let n = latest ops order y l r rin dr in
      let m = latest ops order y l s sin ds in
      let near_r = n.1 in
      let near_s = m.1 in
      let ev =
      y.values n.0 x.newer (l.completion.only n.0 (Before-first n.0 r order near_r.before)) a.write_within
      near_r.write a.write (n.2 ∙ a.read.value) in
      let ew =
      y.values m.0 x.older (l.completion.only m.0 (Before-first m.0 s order near_s.before)) b.write_within
      near_s.write b.write (m.2 ∙ b.read.value) in
      let newer_r = subst (λ z. Before z r order) ev near_r.before in
      let newer_in = Before-first x.newer r order newer_r in
      let newer_s = Before-trans x.newer r s order l.completion.once newer_r (ordered r s rin sin x.order) in
      let older_newer =
      ordered x.older x.newer (placed x.older x.newer b.write_within a.write_within x.turned) newer_in
      x.turned in
      near_s.nearest x.newer a.write (y.one x.newer s a.write_within b.within)
      (subst (λ z. Before z x.newer order) (sym ew) older_newer) newer_s

-- ---- what regular reads show

module _ (ops : List Operation) (y : IsHistory ops) (turns : TakeTurns ops) (reg : IsRegular ops) where
  -- the write of a read's value is its old write, or overlaps it
  near : (r w : Operation) → In r ops → IsReadOf w r → In w ops → IsWrite w
      → IsOldWrite ops r w ⊎ IsOverlappedWrite ops r w
  near r w i k j u = elim (reg r i (record { read = k.read; completed = k.completed })) [
    | inl o ↦ let e = y.values o.0 w o.1.within j o.1.write u (o.2 ∙ k.value) in
        inl (subst (IsOldWrite ops r) e o.1)
    | inr o ↦ let e = y.values o.0 w o.1.within j o.1.write u (o.2 ∙ k.value) in
        inr (subst (IsOverlappedWrite ops r) e o.1)
  ]

  -- no operation of a cluster precedes its write
  not_early : (w a : Operation) → IsKept ops w → IsInCluster ops (value_of w) a → Precedes a w → ⊥
  not_early w a k m p = elim (member-is ops y w a k m) [
    | inl e ↦ let lives = y.life w k.within in omega (arith, ap (λ (o : Operation). o.reply) e)
    | inr r ↦ elim (near a w m.within r k.within k.write) [
      | inl o ↦ let lives = y.life a m.within in let lives' = y.life w k.within in omega (arith, o.before)
      | inr o ↦ o.overlaps.1 p
    ]
  ]

  -- of two clusters in conflict, the one of the lesser low end has its write first
  write_first : (v w : Operation) → IsConflict ops v w → low_end ops (value_of v) < low_end ops (value_of w)
      → Precedes v w
  write_first v w f lt = elim (turns v w f.left.within f.right.within f.left.write f.right.write) [
    | inl e ↦ absurd (f.differ (ap value_of e))
    | inr p ↦ elim p [
      | inl vw ↦ vw
      | inr wv ↦
          let first = first_reply-at ops (value_of v) v (kept-member ops v f.left) in
          let least = first_reply-le ops (value_of w) w (kept-member ops w f.right) in
          let one = f.one in
          let other = f.other in
          elim (cases_lt first.0.reply v.call) [
            | inl q ↦ absurd (not_early v first.0 f.left first.1 q)
            | inr q ↦ absurd (omega (arith, first.2))
          ]
    ]
  ]

  -- the operation that replies first in the second cluster and the one
  -- called last in the first are an inversion
  pub inverted : (v w c d : Operation) → IsConflict ops v w
      → low_end ops (value_of v) < low_end ops (value_of w)
      → HasFirstReply ops (value_of w) d → HasLastCall ops (value_of v) c → IsInversion ops d c
  inverted v w c d f lt fd lc =
      let other = f.other in
      let vw = write_first v w f lt in
      let dc : Precedes d c = omega (arith, fd.least, lc.greatest) in
      let rc : IsReadOf v c = elim (member-is ops y v c f.left lc.member) [
        | inr r ↦ r
        | inl e ↦ let lives = y.life v f.left.within in
            absurd (not_early w d f.right fd.member (omega (arith, ap (λ (o : Operation). o.call) e)))
      ] in
      let rd : IsReadOf w d = elim (member-is ops y w d f.right fd.member) [
        | inr r ↦ r
        | inl e ↦
            let wc : Precedes w c = omega (arith, ap (λ (o : Operation). o.reply) e) in
            let lives = y.life w f.right.within in
            let lives' = y.life v f.left.within in
            absurd (elim (near c v lc.member.within rc f.left.within f.left.write) [
              | inl o ↦ omega (arith, o.last w f.right.within f.right.write wc)
              | inr o ↦ o.overlaps.0 (omega arith)
            ])
      ] in
      record {
        order = dc;
        newer = w;
        older = v;
        gives_newer = record {
          write_within = f.right.within;
          write = f.right.write;
          within = fd.member.within;
          read = rd;
        };
        gives_older = record {
          write_within = f.left.within;
          write = f.left.write;
          within = lc.member.within;
          read = rc;
        };
        turned = vw;
      }

  -- the write of a regular read's value, and that the read isn't early
  has_write : (r : Operation) → In r ops → IsCompletedRead r → (w : Operation) × In w ops × IsWrite w
      × IsReadOf w r
  has_write r i d = elim (reg r i d) [
    | inl o ↦ (o.0, o.1.within, o.1.write, record { read = d.read; completed = d.completed; value = sym o.2 })
    | inr o ↦ (o.0, o.1.within, o.1.write, record { read = d.read; completed = d.completed; value = sym o.2 })
  ]

  -- a conflict of two clusters has an inversion, whichever has the lesser low end
  conflict_inverted : (v w : Operation) → IsConflict ops v w
      → low_end ops (value_of v) < low_end ops (value_of w)
      → HasInversion ops
  conflict_inverted v w f lt =
      let d = first_reply-at ops (value_of w) w (kept-member ops w f.right) in
      let c = last_call-at ops (value_of v) v (kept-member ops v f.left) in (
        d.0,
        c.0,
        inverted v w c.0 d.0 f lt (record { member = d.1; least = d.2 }) (record {
          member = c.1;
          greatest = c.2;
        }),
      )

  pub no_fault : (HasInversion ops → ⊥) → HasNoFault ops
  no_fault clear = record {
    written = has_write;
    in_time = λ r w e.
        let kept : IsKept ops w = record {
          within = e.write_within;
          write = e.write;
          kept = inr (r, e.within, e.read);
        } in
        not_early w r kept (record { within = e.within; value = e.read.value; counts = inr e.read.completed })
        e.early;
    compatible = λ v w f. elim (cases_lt (low_end ops (value_of v)) (low_end ops (value_of w))) [
      | inl lt ↦ clear (conflict_inverted v w f lt)
      | inr ge ↦ elim (cases_lt (low_end ops (value_of w)) (low_end ops (value_of v))) [
        | inl lt ↦ clear
            (conflict_inverted w v (record {
              left = f.right;
              right = f.left;
              differ = λ e. f.differ (sym e);
              one = f.other;
              other = f.one;
            }) lt)
        | inr le ↦ f.differ
            (ap value_of (same_low ops y v w f.left f.right (omega arith)))
      ]
    ];
  }

  -- the fault of a regular register is a conflict, and names an inversion
  pub fault_inverted : (fault : Fault) → IsFault ops fault → (r : Operation) × (s : Operation)
      × IsInversion ops r s × (inversion_named fault ≡ Some (name_of r, name_of s))
  fault_inverted (Unwritten read) (r, f, n) =
      let w = has_write r f.fault.within f.fault.read in
      absurd (f.fault.unwritten w.0 w.1 w.2 w.3)
  fault_inverted (Early read write) (r, w, f, n, m) =
      let e = f.fault in
      let kept : IsKept ops w = record {
        within = e.write_within;
        write = e.write;
        kept = inr (r, e.within, e.read);
      } in
      absurd (not_early w r kept (record {
        within = e.within;
        value = e.read.value;
        counts = inr e.read.completed;
      }) e.early)
  fault_inverted (Zones writes first second) f =
      let k = f.6.conflict in
      (f.4, f.5, inverted f.0 f.1 f.5 f.4 k.conflict k.order f.8.reply f.8.call, ap Some f.11)

pub decide : (ops : List Operation) → IsHistory ops → TakeTurns ops
    → (IsAtomic ops ↔ (IsRegular ops × (HasInversion ops → ⊥)))
decide ops y turns = (
  λ a. (regular ops a.0 y turns a.1, no_inversion ops a.0 y turns a.1),
  λ r. (decides ops y).1 (no_fault ops y turns r.0 r.1),
)
