-- Lost writes by the marks of reads.
use Rattle.std.proofs.Common.{◌≡◌, ℕ, ◌-◌, ◌<◌, List, length, slice_get, Option, Some, None}
use Rattle.std.proofs.Common.{arith}
use Rattle.history_model.specs.Lists.{In}
use Rattle.history_model.specs.Operations.{IsCompleted, IsCompletedRead, IsWrite}
use Rattle.history_model.specs.declared.operation.Operation.{Operation}
use Rattle.history_model.proofs.Lists.{slice_get_inside}
use Rattle.reg_levels.proofs.ClusterLemmas.Places.{at-In, at-below, In-at}
use Rattle.reg_levels.proofs.ClusterLemmas.Pushes.{get-below}
use Rattle.reg_levels.specs.Counts.Marks.{AreAges, AreFlat, AreMarks, HoldsMark, IsAge, IsAgeMarked}
use Rattle.reg_levels.specs.Counts.Marks.{IsFirstAbove}
use Rattle.reg_levels.specs.Counts.Staleness.{IsLost}
use Rattle.reg_levels.specs.declared.counts.mark.Mark.{Mark}

pub ages-from : (ops : List Operation) (marks : List (Option Mark)) (list : List Mark)
    → AreMarks (IsAgeMarked ops) ops (length ops) marks → AreFlat marks (length marks) list
    → AreAges ops list
ages-from ops marks list h f = record {
  each = λ m k.
      let p = f.only m k in
      let r = slice_get_inside ops p.0 (omega (arith, h.places, get-below marks (Some m) p.0 p.1)) in
      (r.0, at-In ops p.0 r.0 r.1, h.each p.0 r.0 (Some m) r.1 p.1);
  all = λ r i d.
      let p = In-at ops r i in
      let l = at-below ops p.0 r p.1 in
      let found = slice_get_inside marks p.0 (omega (arith, h.places)) in
      go r d p.0 (omega (arith, h.places)) found.0 found.1 (h.each p.0 r found.0 p.1 found.1);
}
  where
    go : (r : Operation) → IsCompletedRead r → (p : ℕ) → p < length marks → (found : Option Mark)
        → slice_get marks p ≡ Some found → IsAgeMarked ops p r found
        → (m : Mark) × HoldsMark list m × IsAge ops r m
    go r d p l None g none = absurd (none d)
    go r d p l (Some m) g a = (m, f.all p m l g, a)

module _ (ops : List Operation) (list : List Mark) (h : AreAges ops list) (w : Operation) (i : In w ops)
    (k : IsWrite w) (d : IsCompleted w) where
  -- no completed read is called after the write ended
  pub not-followed : IsFirstAbove list w.reply None → IsLost ops w → ⊥
  not-followed none lost =
      let r = lost.followed in
      let m = h.all r.0 r.1 r.2 in
      let age = m.2 in
      let le = none m.0 m.1 in
      let before = r.3 in
      let key = age.key in absurd (omega arith)

  -- of those that are, m's read has the newest value
  module _ (m : Mark) (f : IsFirstAbove list w.reply (Some m)) where
    pub lost-from : 4294967295 - m.rank < w.call → IsLost ops w
    lost-from l =
        let r = h.each m f.0 in
        let age = r.2 in
        let key = age.key in
        let above = f.1 in record {
          within = i;
          write = k;
          completed = d;
          followed = (r.0, r.1, age.read, omega arith);
          older = λ q j e b.
              let n = h.all q j e in
              let other = n.2 in
              let at = other.key in
              let le = f.2 n.0 n.1 (omega arith) in
              let rank = other.rank in omega arith;
        }

    pub lost-to : IsLost ops w → 4294967295 - m.rank < w.call
    lost-to lost =
        let r = h.each m f.0 in
        let age = r.2 in
        let key = age.key in
        let above = f.1 in
        let l = lost.older r.0 r.1 age.read (omega arith) in
        let rank = age.rank in omega arith
