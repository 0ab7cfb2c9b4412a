-- What marks show of reads is what the definitions say.
use Rattle.std.proofs.Common.{◌≡◌, ℕ, List, length, slice_get, Option, Some, None}
use Rattle.std.proofs.Common.{inl, inr, refl, sym, ap, subst, ◌∙◌, arith}
use Rattle.std.proofs.lemmas.Bool.{false≢true}
use Rattle.history_model.specs.Legal.{IsBeforeInSession}
use Rattle.history_model.specs.Lists.{In}
use Rattle.history_model.specs.Operations.{IsHistory, IsWrite, Precedes, is_write}
use Rattle.history_model.specs.declared.operation.Operation.{Operation}
use Rattle.history_model.proofs.Lists.{slice_get_inside}
use Rattle.reg_levels.specs.Clusters.Places.{IsAt, IsByCall}
use Rattle.reg_levels.proofs.ClusterLemmas.Places.{at-In, at-below, In-at, calls_ascend, places_ascend}
use Rattle.reg_levels.proofs.ClusterLemmas.Pushes.{get-below}
use Rattle.reg_levels.specs.Counts.Listing.{AreOldReads, IsNewest, IsShown, RepliesFirst}
use Rattle.reg_levels.specs.Counts.Marks.{AreFound, AreMarks, HasMark, IsBelow, IsOldEntry, IsFollowed}
use Rattle.reg_levels.specs.Counts.Marks.{IsFollowedFound}
use Rattle.reg_levels.specs.Counts.Marks.{IsFollowedBy, IsLastOfSession, IsMarkFound, IsPreceded}
use Rattle.reg_levels.specs.Counts.Marks.{IsPrecededFound}
use Rattle.reg_levels.specs.Counts.Staleness.{Gave, IsOldAfter, Wrote}
use Rattle.reg_levels.specs.declared.counts.mark.Mark.{Mark}
use Rattle.reg_levels.specs.declared.counts.old_read.OldRead.{OldRead}

-- an operation has the value of one write at most, and nobody's has that of the first write or of none
pub record IsHaving (Had : Operation → Operation → Type 0) (ops : List Operation) : Type 0 where
  pub one : (e w v : Operation) → Had e w → Had e v → In w ops → In v ops → IsWrite w → IsWrite v → w ≡ v
  pub born : (e w : Operation) → In e ops → e.process ≡ None → Had e w → w.call ≡ 0

pub wrote-having : (ops : List Operation) → IsHistory ops → IsHaving Wrote ops
wrote-having ops y = record {
  one = λ e w v h k _ _ _ _. sym h ∙ k;
  born = λ e w i n h. ap (λ (x : Operation). x.call) (sym h ∙ y.initial e i n);
}

pub gave-having : (ops : List Operation) → IsHistory ops → IsHaving Gave ops
gave-having ops y = record {
  one = λ e w v h k i j a b. y.values w v i j a b (sym h.value ∙ k.value);
  born = λ e w i n h. absurd (false≢true (sym h.read ∙ ap is_write (y.initial e i n)));
}

module _ (Had : Operation → Operation → Type 0) (ops : List Operation) (have : IsHaving Had ops)
    (marks : List (Option Mark)) (hm : AreMarks (IsMarkFound Had ops) ops (length ops) marks) where
  -- the operation that a mark stands for, and the write of its value
  marked-at : (p : ℕ) (m : Mark) → slice_get marks p ≡ Some (Some m)
      → (e : Operation) × IsAt ops p e × IsMarkFound Had ops p e (Some m)
  marked-at p m g =
      let e = slice_get_inside ops p (omega (arith, hm.places, get-below marks (Some m) p g)) in
      (e.0, e.1, hm.each p e.0 (Some m) e.1 g)

  -- the mark of an operation that had the value of w
  mark-of : (e w : Operation) (p : ℕ) → IsAt ops p e → In w ops → IsWrite w → Had e w
      → (m : Mark) × (slice_get marks p ≡ Some (Some m)) × (m.key ≡ w.call) × (m.rank ≡ e.reply)
  mark-of e w p t i k h =
      let f = slice_get_inside marks p (omega (arith, hm.places, at-below ops p e t)) in
      go f.0 f.1 (hm.each p e f.0 t f.1)
    where
      go : (found : Option Mark) → slice_get marks p ≡ Some found → IsMarkFound Had ops p e found
          → (m : Mark) × (slice_get marks p ≡ Some (Some m)) × (m.key ≡ w.call) × (m.rank ≡ e.reply)
      go None g none = absurd (none w i k h)
      go (Some m) g s =
          let is = have.one e s.0 w s.3 h (at-In ops m.newer s.0 s.1) i s.2 k in
          (m, g, s.4 ∙ ap (λ (x : Operation). x.call) is, s.5)

  -- ---- by what precedes

  preceded-to : (r e w : Operation) → IsOldAfter Precedes Had ops r e w
      → (m : Mark) × IsPreceded (HasMark marks) ops r m × (m.rank ≡ e.reply)
  preceded-to r e w o =
      let p = In-at ops e o.earlier_within in
      let m = mark-of e w p.0 p.1 o.write_within o.write o.had in (
        m.0,
        record {
          read = o.read;
          marked = (p.0, m.1);
          older = let l = o.older in omega (arith, l, m.2);
          before = let l = o.earlier in omega (arith, l, m.3);
        },
        m.3,
      )

  preceded-shown : (r : Operation) (x : OldRead) (p : ℕ) → IsAt ops p r
      → IsPrecededFound (HasMark marks) ops p r (Some x) → IsShown Precedes Had RepliesFirst ops x r
  preceded-shown r x p t f =
      let m = f.0 in
      let h = f.1 in
      let entry = f.2 in
      let e = marked-at h.marked.0 m h.marked.1 in
      let s = e.2 in
      let w = s.0 in record {
        earlier = e.0;
        newer = w;
        seen = entry.seen.0;
        at_earlier = subst (λ q. IsAt ops q e.0) (sym s.6 ∙ sym entry.earlier) e.1;
        at_newer = subst (λ q. IsAt ops q w) (sym entry.newer) s.1;
        at_seen = entry.seen.1;
        old = record {
          within = at-In ops p r t;
          read = h.read;
          earlier_within = at-In ops h.marked.0 e.0 e.1;
          write_within = at-In ops m.newer w s.1;
          write = s.2;
          had = s.3;
          earlier = let l = h.before in omega (arith, l, s.5);
          older = let l = h.older in omega (arith, l, s.4);
        };
        saw = entry.seen.2;
        first = λ e' w' o.
            let n = preceded-to r e' w' o in
            let l = f.3 n.0 n.1 in omega (arith, l, s.5, n.2);
      }

  pub preceded-listed : (list : List OldRead)
      → AreFound (IsPrecededFound (HasMark marks) ops) ops (length ops) list
      → AreOldReads Precedes Had RepliesFirst ops list
  preceded-listed list h = record {
    ascending = h.ascending;
    each = λ j x g.
        let r = h.each j x g in
        (r.0, (r.1.0, r.1.1, preceded-shown r.1.0 x x.read r.1.1 r.1.2));
    all = λ p a l t o. elim (h.all p a l t) [
      | inl none ↦ let n = preceded-to a o.0 o.1 o.2 in absurd (none n.0 n.1)
      | inr found ↦ found
    ];
  }

  -- ---- by what comes before in a session

  module _ (y : IsHistory ops) (by : IsByCall ops) where
    followed-to : (r e w : Operation) (p : ℕ) → IsAt ops p r → IsOldAfter IsBeforeInSession Had ops r e w
        → (m : Mark) × IsFollowed ops marks p r m × (m.key ≡ w.call)
    followed-to r e w p t o = go o.earlier
      where
        go : IsBeforeInSession e r → (m : Mark) × IsFollowed ops marks p r m × (m.key ≡ w.call)
        go (inl s) =
            let q = In-at ops e o.earlier_within in
            let m = mark-of e w q.0 q.1 o.write_within o.write o.had in (
              m.0,
              record {
                read = o.read;
                process = s.0;
                called = s.2;
                marked = record {
                  place = q.0;
                  operation = e;
                  below = places_ascend ops by q.0 p e r q.1 t s.3;
                  there = q.1;
                  process = s.1;
                  mark = m.1;
                };
                older = let l = o.older in omega (arith, l, m.2);
              },
              m.2,
            )
        go (inr s) =
            let zero = have.born e w o.earlier_within s.0 o.had in
            let l = o.older in absurd (omega arith)

    followed-shown : (r : Operation) (x : OldRead) (p : ℕ) → IsAt ops p r
        → IsFollowedFound ops marks p r (Some x) → IsShown IsBeforeInSession Had IsNewest ops x r
    followed-shown r x p t f =
        let m = f.0 in
        let h = f.1 in
        let entry = f.2 in
        let below = h.marked in
        let e = below.operation in
        let s = hm.each below.place e (Some m) below.there below.mark in
        let w = s.0 in record {
          earlier = e;
          newer = w;
          seen = entry.seen.0;
          at_earlier = subst (λ q. IsAt ops q e) (sym s.6 ∙ sym entry.earlier) below.there;
          at_newer = subst (λ q. IsAt ops q w) (sym entry.newer) s.1;
          at_seen = entry.seen.1;
          old = record {
            within = at-In ops p r t;
            read = h.read;
            earlier_within = at-In ops below.place e below.there;
            write_within = at-In ops m.newer w s.1;
            write = s.2;
            had = s.3;
            earlier = inl (
              h.process,
              below.process,
              h.called,
              calls_ascend ops by below.place p e r below.below below.there t,
            );
            older = let l = h.older in omega (arith, l, s.4);
          };
          saw = entry.seen.2;
          first = λ e' w' o.
              let n = followed-to r e' w' p t o in
              let l = f.3 n.0 n.1 in omega (arith, l, s.4, n.2);
        }

    pub followed-listed : (list : List OldRead) → AreFound (IsFollowedFound ops marks) ops (length ops) list
        → AreOldReads IsBeforeInSession Had IsNewest ops list
    followed-listed list h = record {
      ascending = h.ascending;
      each = λ j x g.
          let r = h.each j x g in
          (r.0, (r.1.0, r.1.1, followed-shown r.1.0 x x.read r.1.1 r.1.2));
      all = λ p a l t o. elim (h.all p a l t) [
        | inl none ↦ let n = followed-to a o.0 o.1 p t o.2 in absurd (none n.0 n.1)
        | inr found ↦ found
      ];
    }

-- ---- what a search answers

-- the answer by a list of marks is the answer by the marks that it has
pub preceded-by : (Has Have : Mark → Type 0) → ((m : Mark) → Has m → Have m) → ((m : Mark) → Have m → Has m)
    → (ops : List Operation) (p : ℕ) (r : Operation) (found : Option OldRead)
    → IsPrecededFound Has ops p r found → IsPrecededFound Have ops p r found
preceded-by Has Have to from ops p r found h = go found h
  where
    turn : (A B : Mark → Type 0) → ((m : Mark) → A m → B m) → (m : Mark) → IsPreceded A ops r m
        → IsPreceded B ops r m
    turn A B f m k = record { read = k.read; marked = f m k.marked; older = k.older; before = k.before }

    go : (found : Option OldRead) → IsPrecededFound Has ops p r found → IsPrecededFound Have ops p r found
    go None none = λ m k. none m (turn Have Has from m k)
    go (Some x) s = (s.0, turn Has Have to s.0 s.1, s.2, λ n k. s.3 n (turn Have Has from n k))

-- the answer by the last mark of a session is the answer by all of them
pub followed-by : (ops : List Operation) (marks : List (Option Mark)) (p : ℕ) (r : Operation)
    (last : Option Mark) → IsLastOfSession ops marks p r last → (found : Option OldRead)
    → IsFollowedBy ops last p r found → IsFollowedFound ops marks p r found
followed-by ops marks p r last h found is = go last h found is
  where
    go : (last : Option Mark) → IsLastOfSession ops marks p r last → (found : Option OldRead)
        → IsFollowedBy ops last p r found → IsFollowedFound ops marks p r found
    go None h None is = λ m k. h.some k.process k.called m k.marked
    go None h (Some x) is = absurd (cc is.1)
    go (Some n) h None is = λ m k.
        let l = (h.some k.process k.called).1 m k.marked in
        let o = k.older in
        is n refl k.read (omega arith)
    go (Some n) h (Some x) is = with r.process refl
      where
        with : (process : Option ℕ) → r.process ≡ process → IsFollowedFound ops marks p r (Some x)
        with None e = let none = h.none e in absurd (cc none)
        with (Some t) e =
            let same : Some n ≡ Some is.0 = is.1 in
            let one : n ≡ is.0 = cc same in
            let l = h.some t e in (
              n,
              record {
                read = is.2;
                process = t;
                called = e;
                marked = l.0;
                older = let k = ap (λ (m : Mark). m.key) one in omega (arith, is.3);
              },
              subst (λ m. IsOldEntry ops p r m x) (sym one) is.4,
              λ m k.
                  let two : Some t ≡ Some k.process = sym e ∙ k.called in
                  let which : t ≡ k.process = cc two in
                  l.1 m (subst (λ u. IsBelow ops marks p u m) (sym which) k.marked),
            )
