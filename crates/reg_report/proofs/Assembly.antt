-- The pieces of one register are put together, and those of the next stand behind them.
use Rattle.std.proofs.Common.{◌≡◌, ℕ, zero, suc, ◌+◌, ◌-◌, ◌<◌, min, List, [], ◌∷◌, ◌++◌, length, drop}
use Rattle.std.proofs.Common.{drop-drop, slice_get, Option, Some, None, refl, sym, ap, subst, ◌∙◌, arith}
use Rattle.std.proofs.Math.Seq.{drop-append_seam}
use Rattle.std.proofs.lemmas.Option.{same_Some, slice_get_within}
use Rattle.history_model.specs.History.{History}
use Rattle.reg_report.specs.Pieces.Judged.{IsJudged}
use Rattle.reg_report.specs.Cuts.{HasCutsOf, HasTasks, cuts_ahead}
use Rattle.history_model.specs.Operations.{register_of}
use Rattle.reg_report.specs.Pieces.Plan.{AreCuts, AreCutsOf, AreTasks, PlanShown}
use Rattle.reg_report.specs.Pieces.Slots.{AreDoneFrom, IsKept, PiecesShown}
use Rattle.reg_report.specs.declared.pieces.judgement.Judgement.{Judgement}
use Rattle.reg_report.specs.declared.pieces.tasks.Task.{Task}
use Rattle.reg_report.specs.declared.pieces.tasks.Task.TheVariants.{Judge}
use Rattle.reg_report.proofs.Cutting.{drop-head}

-- what stands at a place of a list, and behind it
there : {X : Type 0} (xs : List X) (i : ℕ) → i < length xs → (x : X) × (slice_get xs i ≡ Some x)
    × (drop i xs ≡ x ∷ drop (suc i) xs)
there [] i l = absurd (omega arith)
there (x ∷ xs) zero l = (x, refl, refl)
there (x ∷ xs) (suc i) l = there xs i (omega arith)

-- a register's tasks begin with no cut
no-cut-first : (cut r : ℕ) (counts : List (Option ℕ)) (tasks : List Task)
    → AreTasks cut r counts tasks → cuts_ahead tasks ≡ 0
no-cut-first cut r [] tasks a = ap cuts_ahead a
no-cut-first cut r (c ∷ counts) tasks a = ap cuts_ahead a.4

all-ahead : (cut r from len : ℕ) (cuts rest : List Task) → AreCuts cut r from len cuts → cuts_ahead rest ≡ 0
    → cuts_ahead (cuts ++ rest) ≡ length cuts
all-ahead cut r from len [] rest c z = z
all-ahead cut r from len (u ∷ cuts) rest c z =
    ap (λ x. cuts_ahead (x ∷ cuts ++ rest)) c.1
    ∙ ap suc (all-ahead cut r (from + min (len - from) cut) len cuts rest c.2 z)

cuts-counted : (cut r : ℕ) (count : Option ℕ) (cuts rest : List Task) → AreCutsOf cut r count cuts
    → cuts_ahead rest ≡ 0 → cuts_ahead (cuts ++ rest) ≡ length cuts
cuts-counted cut r None cuts rest c z = ap (λ cs. cuts_ahead (cs ++ rest)) c ∙ (z ∙ sym (ap length c))
cuts-counted cut r (Some count) cuts rest c z = all-ahead cut r 0 count cuts rest c z

module _ (h : History) (cut r start : ℕ) (plan : PlanShown) (inside : r < length plan.counts)
    (a : AreTasks cut r (drop r plan.counts) (drop start plan.tasks)) where
  counted : (o : Option ℕ) × (slice_get plan.counts r ≡ Some o)
      × (drop r plan.counts ≡ o ∷ drop (r + 1) plan.counts)
  counted =
      let k =
      there plan.counts r inside in let z : suc r ≡ r + 1 =
      omega arith in (k.0, k.1, k.2 ∙ ap (λ n. k.0 ∷ drop n plan.counts) z)

  at : AreTasks cut r (counted.0 ∷ drop (r + 1) plan.counts) (drop start plan.tasks)
  at = subst (λ cs. AreTasks cut r cs (drop start plan.tasks)) counted.2 a

  head : (slice_get plan.tasks start ≡ Some (Judge (record { 0 = r })))
      × (drop (start + 1) plan.tasks ≡ at.0 ++ at.1)
  head = drop-head plan.tasks start (Judge (record { 0 = r })) (at.0 ++ at.1) at.4

  pub inside-tasks : start < length plan.tasks
  inside-tasks = slice_get_within plan.tasks start (Judge (record { 0 = r })) head.0

  -- the first piece judges the register
  judged : (pieces : PiecesShown) → AreDoneFrom start h plan.tasks pieces
      → IsKept h start pieces (Judge (record { 0 = r }))
  judged pieces a = a start (Judge (record { 0 = r })) (omega arith) head.0

  pub judged-stands : (pieces : PiecesShown) → AreDoneFrom start h plan.tasks pieces
      → start < length pieces.judgements
  judged-stands pieces a = let d = judged pieces a in slice_get_within pieces.judgements start d.0 d.1

  pub judged-there : (pieces : PiecesShown) (judgement : Judgement) → AreDoneFrom start h plan.tasks pieces
      → slice_get pieces.judgements start ≡ Some judgement → IsJudged (register_of h r) judgement
  judged-there pieces judgement a e =
      let d = judged pieces a in subst (IsJudged (register_of h r)) (same_Some _ _ (sym d.1 ∙ e)) d.2

  -- then come the cuts of its reads
  none-behind : cuts_ahead at.1 ≡ 0
  none-behind = no-cut-first cut (suc r) (drop (r + 1) plan.counts) at.1 at.3

  pub cuts-there : HasCutsOf r plan (drop (start + 1) plan.tasks)
  cuts-there = (cut, counted.0, at.0, at.1, counted.1, at.2, head.1, none-behind)

  -- and then the next register's pieces
  pub next-there : (next : ℕ) → next ≡ start + 1 + cuts_ahead (drop (start + 1) plan.tasks)
      → HasTasks (r + 1) next plan
  next-there next l =
      let e : suc r ≡ r + 1 = omega arith in
      let count = ap cuts_ahead head.1 ∙ cuts-counted cut r counted.0 at.0 at.1 at.2 none-behind in
      let far : start + 1 + length at.0 ≡ next = omega (arith, l, count) in
      let behind : drop next plan.tasks ≡ at.1 =
      ap (λ n. drop n plan.tasks) (sym far)
      ∙ (sym (drop-drop (length at.0) (start + 1) plan.tasks)
      ∙ (ap (drop (length at.0)) head.1 ∙ drop-append_seam at.0 at.1)) in (
        cut,
        subst (λ n. AreTasks cut n (drop (r + 1) plan.counts) (drop next plan.tasks)) e
            (subst (AreTasks cut (suc r) (drop (r + 1) plan.counts)) (sym behind) at.3),
      )
