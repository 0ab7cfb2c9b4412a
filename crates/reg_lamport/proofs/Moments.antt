-- What is known of the reads and writes called so far, at the call of an operation.
use Rattle.std.proofs.Common.{◌≡◌, ℕ, ◌<◌, ◌≤◌, ◌||◌, cond, nat_le, nat_lt, Bool, true, false, List, []}
use Rattle.std.proofs.Common.{◌∷◌, ◌++◌, None, ◌⊎◌, inl, inr, refl, sym, ap, ◌∙◌, arith, ◌↔◌, IsTrue}
use Rattle.std.proofs.lemmas.Bool.{false≢true, leb-true, leb-false, ltb-true, lt-ltb}
use Rattle.std.proofs.lemmas.Bool.{or_cases, or_left, or_right, cases_order}
use Rattle.history_model.specs.Lists.{In}
use Rattle.history_model.specs.History.{History}
use Rattle.history_model.specs.Lamport.{HasSingleWriter, IsOldWrite}
use Rattle.history_model.specs.Operations.{IsHistory, IsWrite, is_write, Precedes, Overlaps}
use Rattle.history_model.specs.declared.operation.Operation.{Operation}
use Rattle.history_model.specs.Naming.{IsNamed}
use Rattle.history_model.specs.declared.ids.EvId.{EvId}
use Rattle.history_model.specs.declared.ids.Oper.{Oper}
use Rattle.history_model.specs.declared.ids.Oper.TheVariants.{Called}
use Rattle.history_model.proofs.Named.{writes-take-turns}
use Rattle.reg_lamport.specs.declared.gathering.ReadEntry.{ReadEntry}
use Rattle.reg_lamport.specs.Gathering.{Gathered, settled, entry_of}
use Rattle.history_model.proofs.Lists.{append-In, In-left, In-right}

-- the operations met so far are those called before o
pub record IsMoment (ops met : List Operation) (o : Operation) : Type 0 where
  pub facts : IsHistory ops
  pub there : In o ops
  pub called : 2 ≤ o.call
  pub within : (q : Operation) → In q met → In q ops
  pub earlier : (q : Operation) → In q met → q.call < o.call
  pub known : (q : Operation) → In q ops → q.call < o.call → In q met

-- of the writes met, the one called last, with its reply, and the one called before it
pub record IsLastTwo (h : History) (met : List Operation) (last : Oper) (reply : ℕ)
    (before_last : Oper) : Type 0 where
  pub one : Operation
  pub one_met : In one met
  pub one_write : IsWrite one
  pub one_named : IsNamed h last one
  pub one_reply : reply ≡ one.reply
  pub latest : (v : Operation) → In v met → IsWrite v → v.call ≤ one.call
  pub other : Operation
  pub other_met : In other met
  pub other_write : IsWrite other
  pub other_named : IsNamed h before_last other
  pub second : (v : Operation) → In v met → IsWrite v → (v ≡ one) ⊎ (v.call ≤ other.call)
  pub order : (one.process ≡ None) ⊎ (other.call < one.call)

-- some write met overlaps q
abbrev pub IsOverlappedSoFar : List Operation → Operation → Type 0
IsOverlappedSoFar met q = (w : Operation) × In w met × IsWrite w × Overlaps w q

-- an entry, as far as is known
pub record IsEntrySoFar (h : History) (ops met : List Operation) (e : ReadEntry)
    (q : Operation) : Type 0 where
  pub read : IsNamed h (Called e.read) q
  pub reply : e.reply ≡ q.reply
  pub there : In q met
  pub old_write : HasSingleWriter ops → (w : Operation) × IsNamed h e.old_write w × IsOldWrite ops q w
  pub overlapped : HasSingleWriter ops → IsTrue e.is_overlapped ↔ IsOverlappedSoFar met q

-- an entry of a read that was called before some write
pub record IsSettled (h : History) (ops met : List Operation) (e : ReadEntry) (q : Operation) : Type 0 where
  pub entry : IsEntrySoFar h ops met e q
  pub later : (u : Operation) × In u met × IsWrite u × (q.call < u.call)

module _ (h : History) (ops met : List Operation) (o : Operation) (m : IsMoment ops met o) where
  more : (q : Operation) → In q met → In q (met ++ o ∷ [])
  more q i = In-left q met (o ∷ []) i

  either : (q : Operation) → In q (met ++ o ∷ []) → In q met ⊎ (q ≡ o)
  either q i =
      elim (append-In q met (o ∷ []) i) [
        | inl k ↦ inl k
        | inr k ↦ elim k [ inl e ↦ inr e | inr n ↦ elim n [ ] ]
      ]

  -- a write that isn't o
  other-write : is_write o ≡ false → (w : Operation) → In w (met ++ o ∷ []) → IsWrite w → In w met
  other-write read w i u =
      elim (either w i) [ inl k ↦ k | inr e ↦ absurd (false≢true (sym read ∙ (ap is_write (sym e) ∙ u))) ]

  -- ---- a read is called

  pub entry-stays : is_write o ≡ false → (e : ReadEntry) (q : Operation) → IsEntrySoFar h ops met e q
      → IsEntrySoFar h ops (met ++ o ∷ []) e q
  entry-stays read e q s = record {
    read = s.read;
    reply = s.reply;
    there = more q s.there;
    old_write = s.old_write;
    overlapped =
        λ single. (
          λ t. let x = (s.overlapped single).0 t in (x.0, more x.0 x.1, x.2, x.3),
          λ x. (s.overlapped single).1 (x.0, other-write read x.0 x.1 x.2, x.2, x.3),
        );
  }

  pub settled-stays : is_write o ≡ false → (e : ReadEntry) (q : Operation) → IsSettled h ops met e q
      → IsSettled h ops (met ++ o ∷ []) e q
  settled-stays read e q s = let u = s.later in record {
    entry = entry-stays read e q s.entry;
    later = (u.0, more u.0 u.1, u.2, u.3);
  }

  pub last-stays : is_write o ≡ false → (last : Oper) (reply : ℕ) (before_last : Oper)
      → IsLastTwo h met last reply before_last → IsLastTwo h (met ++ o ∷ []) last reply before_last
  last-stays read last reply before_last l = record {
    one = l.one;
    one_met = more l.one l.one_met;
    one_write = l.one_write;
    one_named = l.one_named;
    one_reply = l.one_reply;
    latest = λ v i u. l.latest v (other-write read v i u) u;
    other = l.other;
    other_met = more l.other l.other_met;
    other_write = l.other_write;
    other_named = l.other_named;
    second = λ v i u. l.second v (other-write read v i u) u;
    order = l.order;
  }

  module _ (g : Gathered) (id : EvId) (reply : ℕ) (read : is_write o ≡ false)
      (named : IsNamed h (Called id) o) (same : reply ≡ o.reply)
      (l : IsLastTwo h met g.last g.last_reply g.before_last) where
    -- where the last write has replied, it is the old write
    replied : g.last_reply < o.call → IsOldWrite ops o l.one
    replied before = record {
      within = m.within l.one l.one_met;
      write = l.one_write;
      before = omega (arith, before, l.one_reply);
      last = λ v i u p. l.latest v (m.known v i (let x = m.facts.life v i in omega (arith, x, p))) u;
    }

    -- else it is the one before, since the last write comes after it
    comes-before : o.call ≤ g.last_reply → HasSingleWriter ops → Precedes l.other l.one
    comes-before late single = elim l.order [
      | inl none ↦
          let e = ap (λ (x : Operation). x.reply) (m.facts.initial l.one (m.within l.one l.one_met) none) in
          absurd (omega (arith, e, late, l.one_reply, m.called))
      | inr less ↦ elim (writes-take-turns ops m.facts single l.other l.one (m.within l.other l.other_met)
          (m.within l.one l.one_met) l.other_write l.one_write) [
            | inl e ↦ absurd (let c = ap (λ (x : Operation). x.call) e in omega (arith, c, less))
            | inr t ↦ elim t [
              | inl p ↦ p
              | inr p ↦ absurd (let x = m.facts.life l.one (m.within l.one l.one_met) in
                  omega (arith, p, x, less))
            ]
          ]
    ]

    open-still : o.call ≤ g.last_reply → HasSingleWriter ops → IsOldWrite ops o l.other
    open-still late single = record {
      within = m.within l.other l.other_met;
      write = l.other_write;
      before = omega (arith, comes-before late single, m.earlier l.one l.one_met);
      last = λ v i u p. elim (l.second v (m.known v i (let x = m.facts.life v i in omega (arith, x, p))) u) [
        | inl e ↦ absurd (let c = ap (λ (x : Operation). x.reply) e in omega (arith, c, p, late, l.one_reply))
        | inr b ↦ b
      ];
    }

    old : HasSingleWriter ops → (w : Operation) × IsNamed h (entry_of g id o.call reply).old_write w
        × IsOldWrite ops o w
    old single = go (nat_le o.call g.last_reply) refl
      where
        go : (b : Bool) → nat_le o.call g.last_reply ≡ b
            → (w : Operation) × IsNamed h (cond b g.before_last g.last) w × IsOldWrite ops o w
        go true q = (l.other, l.other_named, open-still (leb-true _ _ q) single)
        go false q = (l.one, l.one_named, replied (leb-false _ _ q))

    -- it overlaps the read exactly where it has not replied, and the writes before it don't
    overlaps : IsTrue (nat_le o.call g.last_reply) → IsOverlappedSoFar (met ++ o ∷ []) o
    overlaps t =
        let late = leb-true _ _ t in
        let life = m.facts.life o m.there in
        let less = m.earlier l.one l.one_met in (
          l.one,
          more l.one l.one_met,
          l.one_write,
          (λ p. omega (arith, p, late, l.one_reply), λ p. omega (arith, p, life, less)),
        )

    overlapped-by : HasSingleWriter ops → IsOverlappedSoFar (met ++ o ∷ []) o
        → IsTrue (nat_le o.call g.last_reply)
    overlapped-by single x = go (nat_le o.call g.last_reply) refl
      where
        w : Operation
        w = x.0

        there : In w met
        there = other-write read w x.1 x.2

        go : (b : Bool) → nat_le o.call g.last_reply ≡ b → nat_le o.call g.last_reply ≡ true
        go true q = q
        go false q =
            let before = leb-false _ _ q in
            absurd (elim (writes-take-turns ops m.facts single w l.one (m.within w there)
            (m.within l.one l.one_met) x.2 l.one_write) [
              | inl e ↦ (let c = ap (λ (y : Operation). y.reply) e in
                  x.3.0 (omega (arith, c, before, l.one_reply)))
              | inr t ↦ elim t [
                | inl p ↦ x.3.0 (omega (arith, p, m.earlier l.one l.one_met))
                | inr p ↦ (let c = l.latest w there x.2 in
                    let d = m.facts.life l.one (m.within l.one l.one_met) in omega (arith, p, c, d))
              ]
            ])

    pub read-entry : IsEntrySoFar h ops (met ++ o ∷ []) (entry_of g id o.call reply) o
    read-entry = record {
      read = named;
      reply = same;
      there = In-right o met (o ∷ []) (inl refl);
      old_write = old;
      overlapped = λ single. (overlaps, overlapped-by single);
    }

  -- ---- a write is called

  module _ (write : IsWrite o) where
    -- a read met overlaps o unless it has replied
    told-overlaps : (q : Operation) → In q met → (o.call < q.reply) → Overlaps o q
    told-overlaps q i late = (
      λ p. let a = m.earlier q i in let b = m.facts.life o m.there in omega (arith, p, a, b),
      λ p. omega (arith, p, late),
    )

    pub entry-told : (e : ReadEntry) (q : Operation) → IsEntrySoFar h ops met e q
        → IsSettled h ops (met ++ o ∷ []) (settled o.call e) q
    entry-told e q s = record {
      entry = record {
        read = s.read;
        reply = s.reply;
        there = more q s.there;
        old_write = s.old_write;
        overlapped = λ single. (there-is single, told single);
      };
      later = (o, In-right o met (o ∷ []) (inl refl), write, m.earlier q s.there);
    }
      where
        there-is : HasSingleWriter ops → (e.is_overlapped || nat_lt o.call e.reply) ≡ true
            → IsOverlappedSoFar (met ++ o ∷ []) q
        there-is single t = elim (or_cases e.is_overlapped (nat_lt o.call e.reply) t) [
          | inl k ↦ (let x = (s.overlapped single).0 k in (x.0, more x.0 x.1, x.2, x.3))
          | inr k ↦ (
            o,
            In-right o met (o ∷ []) (inl refl),
            write,
            told-overlaps q s.there (omega (arith, ltb-true _ _ k, s.reply)),
          )
        ]

        told : HasSingleWriter ops → IsOverlappedSoFar (met ++ o ∷ []) q
            → (e.is_overlapped || nat_lt o.call e.reply) ≡ true
        told single x = elim (either x.0 x.1) [
          | inl i ↦ or_left e.is_overlapped (nat_lt o.call e.reply) ((s.overlapped single).1 (
            x.0,
            i,
            x.2,
            x.3,
          ))
          | inr k ↦
              let c = ap (λ (y : Operation). y.call) k in
              elim (cases_order q.reply o.call) [
                | inl t ↦ absurd (m.facts.apart q o (m.within q s.there) m.there t)
                | inr t ↦ elim t [
                  | inl less ↦ absurd (x.3.1 (omega (arith, less, c)))
                  | inr late ↦ or_right e.is_overlapped (nat_lt o.call e.reply)
                      (lt-ltb _ _ (omega (arith, late, s.reply)))
                ]
              ]
        ]

    -- what overlaps a read called before an earlier write overlaps that write's call too
    pub settled-told : (e : ReadEntry) (q : Operation) → IsSettled h ops met e q
        → IsSettled h ops (met ++ o ∷ []) e q
    settled-told e q s = record {
      entry = record {
        read = s.entry.read;
        reply = s.entry.reply;
        there = more q s.entry.there;
        old_write = s.entry.old_write;
        overlapped =
            λ single. (
              λ t. let x = (s.entry.overlapped single).0 t in (x.0, more x.0 x.1, x.2, x.3),
              known-already single,
            );
      };
      later = (let u = s.later in (u.0, more u.0 u.1, u.2, u.3));
    }
      where
        known-already : HasSingleWriter ops → IsOverlappedSoFar (met ++ o ∷ []) q → IsTrue e.is_overlapped
        known-already single x = elim (either x.0 x.1) [
          | inl i ↦ (s.entry.overlapped single).1 (x.0, i, x.2, x.3)
          | inr k ↦
              let u = s.later in
              let c = ap (λ (y : Operation). y.call) k in
              let less = m.earlier u.0 u.1 in
              let life = m.facts.life u.0 (m.within u.0 u.1) in
              let late = u.3 in
              (s.entry.overlapped single).1 (
                u.0,
                u.1,
                u.2,
                (λ p. omega (arith, p, life, late), λ p. x.3.1 (omega (arith, p, less, c))),
              )
        ]

    pub last-moves : (id : EvId) (last : Oper) (reply before_reply : ℕ) (before_last : Oper)
        → IsNamed h (Called id) o → reply ≡ o.reply → IsLastTwo h met last before_reply before_last
        → IsLastTwo h (met ++ o ∷ []) (Called id) reply last
    last-moves id last reply before_reply before_last named same l = record {
      one = o;
      one_met = In-right o met (o ∷ []) (inl refl);
      one_write = write;
      one_named = named;
      one_reply = same;
      latest =
          λ v i u. elim (either v i) [
            | inl k ↦ (let c = m.earlier v k in omega (arith, c))
            | inr e ↦ (let c = ap (λ (x : Operation). x.call) e in omega (arith, c))
          ];
      other = l.one;
      other_met = more l.one l.one_met;
      other_write = l.one_write;
      other_named = l.one_named;
      second = λ v i u. elim (either v i) [ inl k ↦ inr (l.latest v k u) | inr e ↦ inl e ];
      order = inr (m.earlier l.one l.one_met);
    }
