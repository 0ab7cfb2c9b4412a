-- Where the writes come one after another, regular is what Lamport calls so, and a register is atomic
-- exactly
-- if it is regular and no read is inverted.
use Rattle.std.proofs.Common.{◌≡◌, ◌<◌, ◌≤◌, List, ◌⊎◌, inl, inr, refl, sym, ap, subst, ◌∙◌, arith, ◌↔◌}
use Rattle.std.proofs.lemmas.Bool.{cases_lt}
use Rattle.history_model.specs.Legal.{HasOrderFor}
use Rattle.history_model.specs.Lists.{In}
use Rattle.history_model.specs.Operations.{IsCompletedRead, IsHistory, IsReadOf, IsWrite, Precedes, value_of}
use Rattle.history_model.specs.declared.guarantee.Guarantee.TheVariants.{Atomic, OwnWrites}
use Rattle.history_model.specs.declared.operation.Operation.{Operation}
use Rattle.reg_zones.specs.Clusters.{IsKept, first_reply}
use Rattle.reg_zones.specs.Inversions.{HasInversion, IsInversion, IsRegular}
use Rattle.reg_zones.proofs.Ends.{first_reply-at, first_reply-le, kept-member}
use Rattle.reg_zones.proofs.Inversions.{decide}
use Rattle.level_laws.proofs.Expanded.{write-of}
use Rattle.level_laws.proofs.Weaker.{clean-for}
use Rattle.reg_levels.specs.Clusters.Clean.{IsClean}
use Rattle.reg_levels.specs.Counts.Staleness.{IsInverted, IsRegularForAll}
use Rattle.reg_levels.proofs.CountLemmas.Turns.{first-precedes, none-first}

module _ (ops : List Operation) (y : IsHistory ops)
    (turns : (v w : Operation) → In v ops → In w ops → IsWrite v → IsWrite w
    → (v ≡ w) ⊎ (Precedes v w ⊎ Precedes w v)) where
  module _ (c : IsClean ops) where
    -- the write of a completed read
    write-found : (r : Operation) → In r ops → IsCompletedRead r
        → (w : Operation) × In w ops × IsWrite w × IsReadOf w r
    write-found r i d =
        let w = write-of OwnWrites ops y (clean-for ops OwnWrites c.written c.in_time) r (inr (i, d)) in
        (w.0, w.1.within, w.1.write, record { read = d.read; completed = d.completed; value = sym w.2 })

    -- an older value's write precedes the newer write
    older-precedes : (r v w : Operation) → In r ops → In v ops → IsWrite v → IsReadOf v r → In w ops
        → IsWrite w
        → first_reply ops (value_of r) < w.call → Precedes v w
    older-precedes r v w i j k o l t less =
        let kept : IsKept ops v = record { within = j; write = k; kept = inr (r, i, o) } in
        let a = first_reply-at ops (value_of v) v (kept-member ops v kept) in
        let same = ap (first_reply ops) o.value in
        let reply = a.2 in
        elim (turns v w j l k t) [
          | inl e ↦
              let call = ap (λ (x : Operation). x.call) e in
              absurd (none-first ops y c v a.0 kept a.1 (omega arith))
          | inr q ↦ elim q [
            | inl p ↦ p
            | inr p ↦ let life = y.life w l in absurd (none-first ops y c v a.0 kept a.1 (omega arith))
          ]
        ]

    inverted-inversion : (s : Operation) → IsInverted ops s → HasInversion ops
    inverted-inversion s h =
        let o = h.2 in
        let v = write-found s o.within o.read in (
          h.0,
          s,
          record {
            order = o.earlier;
            newer = h.1;
            older = v.0;
            gives_newer = record {
              write_within = o.write_within;
              write = o.write;
              within = o.earlier_within;
              read = o.had;
            };
            gives_older = record {
              write_within = v.1;
              write = v.2;
              within = o.within;
              read = v.3;
            };
            turned = older-precedes s v.0 h.1 o.within v.1 v.2 v.3 o.write_within o.write o.older;
          },
        )

  inversion-inverted : (r s : Operation) → IsInversion ops r s → IsInverted ops s
  inversion-inverted r s h =
      let a = h.gives_newer in
      let b = h.gives_older in
      let kept : IsKept ops h.older = record {
        within = b.write_within;
        write = b.write;
        kept = inr (
          s,
          b.within,
          b.read,
        );
      } in
      let le = first_reply-le ops (value_of h.older) h.older (kept-member ops h.older kept) in
      let same = ap (first_reply ops) b.read.value in
      let turned = h.turned in (
        r,
        h.newer,
        record {
          within = b.within;
          read = record { read = b.read.read; completed = b.read.completed };
          earlier_within = a.within;
          write_within = a.write_within;
          write = a.write;
          had = a.read;
          earlier = h.order;
          older = omega arith;
        },
      )

  -- ---- Lamport's regular

  pub to-lamport : IsRegularForAll ops → IsRegular ops
  to-lamport h r i d =
      let v = write-found h.clean r i d in
      let kept : IsKept ops v.0 = record { within = v.1; write = v.2; kept = inr (r, i, v.3) } in
      let le = first_reply-le ops (value_of v.0) v.0 (kept-member ops v.0 kept) in
      let same = ap (first_reply ops) v.3.value in
      elim (cases_lt v.0.reply r.call) [
        | inl p ↦ inl (
          v.0,
          record {
            within = v.1;
            write = v.2;
            before = p;
            last = λ u j k q. elim (cases_lt v.0.call u.call) [
              | inl l ↦
                  let vu = first-precedes ops y turns v.0 u v.1 j v.2 k l in
                  absurd (h.fresh r (
                    u,
                    u,
                    record {
                      within = i;
                      read = d;
                      earlier_within = j;
                      write_within = j;
                      write = k;
                      had = refl;
                      earlier = q;
                      older = omega arith;
                    },
                  ))
              | inr l ↦ l
            ];
          },
          sym v.3.value,
        )
        | inr late ↦ inr (
          v.0,
          record {
            within = v.1;
            write = v.2;
            overlaps = (
              λ p. omega arith,
              λ p. h.clean.in_time r v.0 (record {
                within = i;
                write_within = v.1;
                write = v.2;
                read = v.3;
                early = p;
              }),
            );
          },
          sym v.3.value,
        )
      ]

  lamport-clean : IsRegular ops → IsClean ops
  lamport-clean reg = record {
    written = λ r u. elim (reg r u.within u.read) [
      | inl o ↦ u.unwritten o.0 o.1.within o.1.write
          (record { read = u.read.read; completed = u.read.completed; value = sym o.2 })
      | inr o ↦ u.unwritten o.0 o.1.within o.1.write
          (record { read = u.read.read; completed = u.read.completed; value = sym o.2 })
    ];
    in_time = λ r w e. elim (reg r e.within (record { read = e.read.read; completed = e.read.completed })) [
      | inl o ↦
          let is = y.values o.0 w o.1.within e.write_within o.1.write e.write (o.2 ∙ e.read.value) in
          let before = subst (λ (x : Operation). Precedes x r) is o.1.before in
          let life = y.life r e.within in
          let life' = y.life w e.write_within in
          let early = e.early in absurd (omega arith)
      | inr o ↦
          let is = y.values o.0 w o.1.within e.write_within o.1.write e.write (o.2 ∙ e.read.value) in
          o.1.overlaps.1 (subst (Precedes r) (sym is) e.early)
    ];
  }

  pub from-lamport : IsRegular ops → IsRegularForAll ops
  from-lamport reg =
      let c = lamport-clean reg in
      record {
        clean = c;
        fresh = λ r s.
            let o = s.2 in
            let is = o.had in
            let before = subst (λ (x : Operation). Precedes x r) is o.earlier in
            let life = y.life s.1 o.write_within in
            elim (reg r o.within o.read) [
              | inl v ↦
                  let read : IsReadOf v.0 r = record {
                    read = o.read.read;
                    completed = o.read.completed;
                    value = sym v.2;
                  } in
                  let vw = older-precedes c r v.0 s.1 o.within v.1.within v.1.write read o.write_within
                  o.write o.older in
                  let last = v.1.last s.1 o.write_within o.write before in
                  let lives = y.life v.0 v.1.within in absurd (omega arith)
              | inr v ↦
                  let read : IsReadOf v.0 r = record {
                    read = o.read.read;
                    completed = o.read.completed;
                    value = sym v.2;
                  } in
                  let vw = older-precedes c r v.0 s.1 o.within v.1.within v.1.write read o.write_within
                  o.write o.older in
                  v.1.overlaps.0 (omega arith)
            ];
      }

  -- ---- atomic

  pub atomic-decided : HasOrderFor Atomic ops ↔ (IsRegularForAll ops × ((r : Operation)
      → IsInverted ops r → ⊥))
  atomic-decided = (
    λ a.
        let d = (decide ops y turns).0 a in
        let h = from-lamport d.0 in
        (h, λ s k. d.1 (inverted-inversion h.clean s k)),
    λ d. (decide ops y turns).1 (to-lamport d.0, λ k. d.1 k.1 (inversion-inverted k.0 k.1 k.2)),
  )
