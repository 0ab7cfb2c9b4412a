-- What a worker has drawn, done, flagged and seen so far.
use Rattle.std.proofs.Common.{◌≡◌, ℕ, zero, suc, ◌<◌, ◌≤◌, true, false, List, [], ◌∷◌}
use Rattle.std.proofs.Common.{◌++◌, length, slice_get, Some, inl, inr, refl, sym, ap}
use Rattle.std.proofs.Common.{subst, ◌∙◌, arith, append_assoc, append-nil}
use Rattle.std.proofs.lemmas.Bool.{false≢true}
use Rattle.job_board.specs.Numbers.{times}
use Rattle.job_board.specs.declared.view.View.{View}
use Rattle.job_board.proofs.Lacking.{lacking, lacks_less}
use Rattle.job_board.specs.Seats.{SeatValue, with_drawn}
use Rattle.history_model.specs.History.{History}
use Rattle.reg_report.specs.Pieces.Judged.{is_faulty}
use Rattle.reg_report.specs.Pieces.Plan.{IsFirstPlan, IsPieceOf, IsPlan, IsSomePlan, PlanShown}
use Rattle.reg_report.specs.Pieces.Work.{AddsPiece, AddsRegister, ArePieces, AreSkippedAbove, Flags}
use Rattle.reg_report.specs.Pieces.Work.{KeepsSeat, faulty_numbers, number_where, numbers_of}
use Rattle.reg_report.specs.declared.pieces.piece.Piece.{Piece}
use Rattle.reg_report.specs.declared.pieces.piece.Piece.TheVariants.{Skipped}
use Rattle.reg_report.specs.declared.pieces.tasks.Task.{Task}
use Rattle.reg_report.proofs.PieceLemmas.Fitness.{not-skipped}
use Rattle.reg_report.proofs.PieceLemmas.Pushed.{push-cases}
use Rattle.reg_report.proofs.PieceLemmas.Putting.{numbers-more, one-piece-more}

pub whole-plan : (h : History) (plan : PlanShown) → IsSomePlan h plan → plan.first ≡ false
    → (cut : ℕ) × IsPlan h cut plan
whole-plan h plan (inl p) e = absurd (false≢true (sym e ∙ p.early))
whole-plan h plan (inr p) e = p

pub first-plan : (h : History) (plan : PlanShown) → IsSomePlan h plan → plan.first ≡ true → IsFirstPlan h plan
first-plan h plan (inl p) e = p
first-plan h plan (inr p) e = absurd (false≢true (sym p.1.whole ∙ e))

task-there : (tasks : List Task) (n : ℕ) → n < length tasks → (t : Task) × (slice_get tasks n ≡ Some t)
task-there [] n l = absurd (omega (arith, l))
task-there (t ∷ tasks) zero l = (t, refl)
task-there (t ∷ tasks) (suc n) l = task-there tasks n (omega (arith, l))

-- a register that was looked at is a piece more
pub looked-piece : (h : History) (plan : PlanShown) (n : ℕ) (seat with_it : SeatValue)
    (old new : List (ℕ × Piece)) → IsFirstPlan h plan → n < length plan.tasks
    → AddsRegister h n seat with_it old new → AddsPiece h plan.tasks n old new
looked-piece h plan n seat with_it old new p l a =
    let t = task-there plan.tasks n l in
    (a.piece, (t.0, t.1, subst (λ u. IsPieceOf h u a.piece) (sym (p.each n t.0 t.1)) a.looked), a.added)

-- ---- a draw

pub lacks-drawn : (old new : View) (n : ℕ) → n < old.jobs → times n old.drawn ≡ 0 → new.jobs ≡ old.jobs
    → new.drawn ≡ old.drawn ++ n ∷ [] → lacking new.jobs new.drawn < lacking old.jobs old.drawn
lacks-drawn old new n l z jobs drawn =
    subst (λ k. lacking k new.drawn < lacking old.jobs old.drawn) (sym jobs)
    (subst (λ xs. lacking old.jobs xs < lacking old.jobs old.drawn) (sym drawn)
    (lacks_less old.jobs n old.drawn l z))

-- ---- flags

faulty-push : (done : List (ℕ × Piece)) (n : ℕ) (p : Piece)
    → faulty_numbers (done ++ (n, p) ∷ []) ≡ faulty_numbers done ++ number_where (is_faulty p) n
faulty-push [] n p = append-nil (number_where (is_faulty p) n)
faulty-push (d ∷ done) n p =
    ap (λ ns. number_where (is_faulty d.1) d.0 ++ ns) (faulty-push done n p)
    ∙ sym (append_assoc (number_where (is_faulty d.1) d.0) (faulty_numbers done)
    (number_where (is_faulty p) n))

-- ---- what was skipped

skipped-more : (seen now n : ℕ) (p : Piece) (old new : List (ℕ × Piece)) → now ≤ seen
    → new ≡ old ++ (n, p) ∷ [] → (p ≡ Skipped → now < n) → AreSkippedAbove seen old → AreSkippedAbove now new
skipped-more seen now n p old new l e here before i d at s =
    elim (push-cases old (n, p) d i (sym (ap (λ xs. slice_get xs i) e) ∙ at)) [
      | inl k ↦ let b = before i d k s in omega (arith, b, l)
      | inr k ↦ subst (λ m. now < m) (ap (λ (x : ℕ × Piece). x.0) k.1)
          (here (ap (λ (x : ℕ × Piece). x.1) k.1 ∙ s))
    ]

-- ---- a worker

-- what it has of the seat that it was given
pub record IsWorking (h : History) (plan : PlanShown) (given seat : SeatValue)
    (done : List (ℕ × Piece)) : Type 0 where
  pub here : seat.board ≡ given.board
  pub weight : seat.view.weight ≡ given.view.weight
  pub jobs : seat.view.jobs ≡ given.view.jobs
  pub flagged : Flags plan.first done given.view.flagged seat.view.flagged
  pub drawn : seat.view.drawn ≡ given.view.drawn ++ numbers_of done
  pub pieces : ArePieces h plan.tasks done
  pub skipped : AreSkippedAbove seat.view.seen done

module _ (h : History) (plan : PlanShown) (given seat drawn : SeatValue) (n : ℕ) (old new : List (ℕ × Piece))
    (w : IsWorking h plan given seat old) (here : drawn.board ≡ seat.board)
    (view : drawn.view ≡ with_drawn seat.view n) where
  weight-drawn : drawn.view.weight ≡ given.view.weight
  weight-drawn = ap (λ v. v.weight) view ∙ w.weight

  jobs-drawn : drawn.view.jobs ≡ given.view.jobs
  jobs-drawn = ap (λ v. v.jobs) view ∙ w.jobs

  seen-drawn : drawn.view.seen ≡ seat.view.seen
  seen-drawn = ap (λ v. v.seen) view

  flagged-drawn : Flags plan.first old given.view.flagged drawn.view.flagged
  flagged-drawn = subst (Flags plan.first old given.view.flagged) (sym (ap (λ v. v.flagged) view)) w.flagged

  drawn-before : drawn.view.drawn ≡ (given.view.drawn ++ numbers_of old) ++ n ∷ []
  drawn-before = ap (λ v. v.drawn) view ∙ ap (λ (xs : List ℕ). xs ++ n ∷ []) w.drawn

  drawn-more : AddsPiece h plan.tasks n old new → drawn.view.drawn ≡ given.view.drawn ++ numbers_of new
  drawn-more a =
      drawn-before ∙ append_assoc given.view.drawn (numbers_of old) (n ∷ [])
      ∙ ap (λ (xs : List ℕ). given.view.drawn ++ xs) (sym (numbers-more h plan.tasks n old new a))

  -- one piece of a whole plan is done
  pub working-done : (cut : ℕ) × IsPlan h cut plan → plan.first ≡ false → AddsPiece h plan.tasks n old new
      → IsWorking h plan given drawn new
  working-done p e a = record {
    here = here ∙ w.here;
    weight = weight-drawn;
    jobs = jobs-drawn;
    flagged =
        subst (λ b. Flags b new given.view.flagged drawn.view.flagged) (sym e)
        (subst (λ b. Flags b old given.view.flagged drawn.view.flagged) e flagged-drawn);
    drawn = drawn-more a;
    pieces = one-piece-more h plan.tasks n old new a w.pieces;
    skipped =
        skipped-more seat.view.seen drawn.view.seen n a.0 old new (omega (arith, seen-drawn)) a.2
        (λ s. absurd (not-skipped h plan p n a.1.0 a.1.1 a.0 a.1.2 s)) w.skipped;
  }

  -- one register is looked at
  pub working-looked : (after : SeatValue) → IsFirstPlan h plan → n < length plan.tasks
      → KeepsSeat drawn after → AddsRegister h n drawn after old new → IsWorking h plan given after new
  working-looked after p l k a =
      let piece = looked-piece h plan n drawn after old new p l a in
      let before : drawn.view.flagged ≡ given.view.flagged ++ faulty_numbers old =
      subst (λ b. Flags b old given.view.flagged drawn.view.flagged) p.early flagged-drawn in
      let flags : after.view.flagged ≡ given.view.flagged ++ faulty_numbers new =
      a.flagged ∙ (ap (λ (xs : List ℕ). xs ++ number_where (is_faulty a.piece) n) before
      ∙ (append_assoc given.view.flagged (faulty_numbers old) (number_where (is_faulty a.piece) n)
      ∙ ap (λ (xs : List ℕ). given.view.flagged
      ++ xs) (sym (ap faulty_numbers a.added ∙ faulty-push old n a.piece)))) in
      record {
        here = k.board ∙ (here ∙ w.here);
        weight = k.weight ∙ weight-drawn;
        jobs = k.jobs ∙ jobs-drawn;
        flagged = subst (λ b. Flags b new given.view.flagged after.view.flagged) (sym p.early) flags;
        drawn = k.drawn ∙ drawn-more piece;
        pieces = one-piece-more h plan.tasks n old new piece w.pieces;
        skipped =
            skipped-more seat.view.seen after.view.seen n a.piece old new (omega (
              arith,
              k.seen,
              seen-drawn,
            )) a.added a.skipped w.skipped;
      }
