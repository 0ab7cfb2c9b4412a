-- The first bad reads of a register are put together cut by cut.
use Rattle.std.proofs.Common.{◌≡◌, ℕ, zero, suc, ◌+◌, ◌-◌, ◌<◌, ◌≤◌, min, List, [], ◌∷◌, ◌++◌, drop}
use Rattle.std.proofs.Common.{length, slice_get, Some, true, false, refl, sym, ap, subst, ◌∙◌, arith}
use Rattle.std.proofs.lemmas.Bool.{false≢true}
use Rattle.std.proofs.lemmas.Option.{same_Some, slice_get_within}
use Rattle.history_model.specs.History.{History}
use Rattle.reg_lamport.specs.declared.level.Level.TheVariants.{Safe, Regular}
use Rattle.reg_lamport.proofs.Cuts.{named-cuts-join}
use Rattle.reg_report.specs.Cuts.{HasCuts, cuts_ahead}
use Rattle.reg_report.specs.Pieces.BadReads.{AreFirstBad, joint_reads, no_reads}
use Rattle.reg_report.specs.Pieces.Judged.{no_judgement}
use Rattle.reg_report.specs.Pieces.Plan.{AreCuts, is_cut}
use Rattle.reg_report.specs.Pieces.Slots.{AreDoneFrom, IsKept, PiecesShown, without_judgement}
use Rattle.reg_report.specs.declared.pieces.bad_reads.BadReads.{BadReads}
use Rattle.reg_report.specs.declared.pieces.tasks.Task.{Task}
use Rattle.reg_report.specs.declared.pieces.tasks.Task.TheVariants.{Judge, Reads, First}
use Rattle.history_model.proofs.Lists.{slice_get-set_other}

head-dropped : {X : Type 0} (xs : List X) (i : ℕ) (y : X) (ys : List X) → drop i xs ≡ y ∷ ys
    → (slice_get xs i ≡ Some y) × (drop (suc i) xs ≡ ys)
head-dropped [] zero y ys e = absurd (cc e)
head-dropped [] (suc i) y ys e = absurd (cc e)
head-dropped (x ∷ xs) zero y ys e = let p : x ≡ y = cc e in let q : xs ≡ ys = cc e in (ap (λ z. Some z) p, q)
head-dropped (x ∷ xs) (suc i) y ys e = head-dropped xs i y ys e

-- what stands at the head of the rest of a list
pub drop-head : {X : Type 0} (xs : List X) (i : ℕ) (y : X) (ys : List X) → drop i xs ≡ y ∷ ys
    → (slice_get xs i ≡ Some y) × (drop (i + 1) xs ≡ ys)
drop-head xs i y ys e =
    let k =
    head-dropped xs i y ys e in let z : suc i ≡ i + 1 =
    omega arith in (k.0, ap (λ n. drop n xs) (sym z) ∙ k.1)

-- ---- a judgement is taken

-- what stands behind it stays
pub done-behind : (h : History) (tasks : List Task) (n : ℕ) (old new : PiecesShown)
    → new ≡ without_judgement old n → AreDoneFrom n h tasks old → AreDoneFrom (n + 1) h tasks new
done-behind h tasks n old new e a i t l at =
    subst (λ x. IsKept h i x t) (sym e) (go t (a i t (omega (arith, l)) at))
  where
    go : (u : Task) → IsKept h i old u → IsKept h i (without_judgement old n) u
    go (Judge r) kept = (
      kept.0,
      slice_get-set_other old.judgements n i no_judgement (λ q. absurd (omega (arith, q, l)))
          ∙ kept.1,
      kept.2,
    )
    go (Reads r from to) kept = kept
    go (First r) kept = kept

-- ---- the cuts that tasks begin with

cut-ahead : (tasks : List Task) (n : ℕ) → is_cut (slice_get tasks n) ≡ true
    → cuts_ahead (drop n tasks) ≡ suc (cuts_ahead (drop (suc n) tasks))
cut-ahead [] n e = absurd (false≢true e)
cut-ahead (Judge k ∷ tasks) zero e = absurd (false≢true e)
cut-ahead (Reads k from to ∷ tasks) zero e = refl
cut-ahead (First k ∷ tasks) zero e = absurd (false≢true e)
cut-ahead (t ∷ tasks) (suc n) e = cut-ahead tasks n e

no-cut-ahead : (tasks : List Task) (n : ℕ) → is_cut (slice_get tasks n) ≡ false
    → cuts_ahead (drop n tasks) ≡ 0
no-cut-ahead [] zero e = refl
no-cut-ahead [] (suc n) e = refl
no-cut-ahead (Judge k ∷ tasks) zero e = refl
no-cut-ahead (Reads k from to ∷ tasks) zero e = absurd (false≢true (sym e))
no-cut-ahead (First k ∷ tasks) zero e = refl
no-cut-ahead (t ∷ tasks) (suc n) e = no-cut-ahead tasks n e

-- ---- the cuts of one register

cut-more : (h : History) (r from to : ℕ) (first reads : BadReads) → from ≤ to → AreFirstBad h r from to reads
    → AreFirstBad h r 0 from first → AreFirstBad h r 0 to (joint_reads first reads)
cut-more h r from to first reads l f b = (
  named-cuts-join h r Safe 0 from to first.safe reads.safe (omega arith) l b.0 f.0,
  named-cuts-join h r Regular 0 from to first.regular reads.regular (omega arith) l b.1 f.1,
)

-- what is put together of a list of so many reads, whose cuts stand from `start` on,
-- once those before number `next` are taken
pub record IsPutTogether (h : History) (tasks : List Task) (r len start next : ℕ) (first : BadReads)
    (pieces : PiecesShown) : Type 0 where
  pub cut : ℕ
  pub from : ℕ
  pub more : List Task
  pub rest : List Task
  pub bad : AreFirstBad h r 0 from first
  pub filled : AreDoneFrom next h tasks pieces
  pub cuts : AreCuts cut r from len more
  pub ahead : drop next tasks ≡ more ++ rest
  pub ends : cuts_ahead rest ≡ 0
  pub counted : next + cuts_ahead (drop next tasks) ≡ start + cuts_ahead (drop start tasks)

pub together-starts : (h : History) (tasks : List Task) (r len start : ℕ) (pieces : PiecesShown)
    → HasCuts r len (drop start tasks) → AreDoneFrom start h tasks pieces
    → IsPutTogether h tasks r len start start no_reads pieces
together-starts h tasks r len start pieces has a = record {
  cut = has.0;
  from = 0;
  more = has.1;
  rest = has.2;
  bad = (λ i o l k. absurd (omega arith), λ i o l k. absurd (omega arith));
  filled = a;
  cuts = has.3;
  ahead = has.4;
  ends = has.5;
  counted = refl;
}

module _ (h : History) (tasks : List Task) (r len start next : ℕ) (first : BadReads) (pieces : PiecesShown)
    (t : IsPutTogether h tasks r len start next first pieces)
    (is : is_cut (slice_get tasks next) ≡ true) where
  -- the next task is the next cut
  next-cut : (to : ℕ) × (ms : List Task) × (t.from ≤ to)
      × (slice_get tasks next ≡ Some (Reads (record { 0 = r }) t.from to)) × AreCuts t.cut r to len ms
      × (drop (next + 1) tasks ≡ ms ++ t.rest)
  next-cut = go t.more t.cuts t.ahead
    where
      go : (more : List Task) → AreCuts t.cut r t.from len more → drop next tasks ≡ more ++ t.rest
          → (to : ℕ) × (ms : List Task) × (t.from ≤ to)
          × (slice_get tasks next ≡ Some (Reads (record { 0 = r }) t.from to)) × AreCuts t.cut r to len ms
          × (drop (next + 1) tasks ≡ ms ++ t.rest)
      go [] c e =
          let one =
          cut-ahead tasks next is in let none =
          t.ends in absurd (omega (arith, one, ap cuts_ahead e, none))
      go (u ∷ ms) c e =
          let k =
          drop-head tasks next u (ms ++ t.rest) e in
          (t.from + min (len - t.from) t.cut, ms, omega arith, k.0 ∙ ap (λ z. Some z) c.1, c.2, k.1)

  next-reads : (reads : BadReads) × (slice_get pieces.reads next ≡ Some reads)
      × AreFirstBad h r t.from next-cut.0 reads
  next-reads = t.filled next (Reads (record { 0 = r }) t.from next-cut.0) (omega arith) next-cut.3

  pub cut-stands : next < length pieces.reads
  cut-stands = slice_get_within pieces.reads next next-reads.0 next-reads.1

  pub inside : next < length tasks
  inside = slice_get_within tasks next (Reads (record { 0 = r }) t.from next-cut.0) next-cut.3

  reads-fit : (reads : BadReads) → slice_get pieces.reads next ≡ Some reads
      → AreFirstBad h r 0 next-cut.0 (joint_reads first reads)
  reads-fit reads e =
      cut-more h r t.from next-cut.0 first reads next-cut.2
      (subst (AreFirstBad h r t.from next-cut.0) (same_Some _ _ (sym next-reads.1 ∙ e))
      next-reads.2) t.bad

  pub together-goes-on : (reads : BadReads) → slice_get pieces.reads next ≡ Some reads
      → IsPutTogether h tasks r len start (next + 1) (joint_reads first reads) pieces
  together-goes-on reads e = record {
    cut = t.cut;
    from = next-cut.0;
    more = next-cut.1;
    rest = t.rest;
    bad = reads-fit reads e;
    filled = λ i u l at. t.filled i u (omega (arith, l)) at;
    cuts = next-cut.4;
    ahead = next-cut.5;
    ends = t.ends;
    counted =
        let z : suc next ≡ next + 1 = omega arith in
        let one = cut-ahead tasks next is in
        let same = ap (λ n. cuts_ahead (drop n tasks)) z in
        omega (arith, one, same, t.counted);
  }

pub together-ends : (h : History) (tasks : List Task) (r len start next : ℕ) (first : BadReads)
    (pieces : PiecesShown) → IsPutTogether h tasks r len start next first pieces
    → is_cut (slice_get tasks next) ≡ false
    → AreFirstBad h r 0 len first × (next ≡ start + cuts_ahead (drop start tasks))
together-ends h tasks r len start next first pieces t is = (
  subst (λ n. AreFirstBad h r 0 n first) (go t.more t.cuts t.ahead) t.bad,
  (let none = no-cut-ahead tasks next is in omega (arith, none, t.counted)),
)
  where
    go : (more : List Task) → AreCuts t.cut r t.from len more → drop next tasks ≡ more ++ t.rest
        → t.from ≡ len
    go [] c e = c
    go (u ∷ ms) c e =
        let k =
        drop-head tasks next u (ms ++ t.rest) e in
        absurd (false≢true (sym is ∙ ap is_cut (k.0 ∙ ap (λ z. Some z) c.1)))
