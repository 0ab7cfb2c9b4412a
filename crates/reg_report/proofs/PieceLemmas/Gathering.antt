-- Seats are split, handed back and made one again, and what they drew is done.
use Rattle.std.proofs.Common.{◌≡◌, ℕ, zero, suc, ◌+◌, ◌<◌, ◌⊎◌, inl, inr, Bool, true, false, ◌||◌}
use Rattle.std.proofs.Common.{Result, Ok, Err, IfOk, Option, Some, None, All, List, [], ◌∷◌, ◌++◌}
use Rattle.std.proofs.Common.{length, slice_get, slice_index_or, refl, sym, ap, subst, ◌∙◌, arith}
use Rattle.std.specs.Prelude.{IfSome}
use Rattle.std.proofs.lemmas.Bool.{false≢true}
use Rattle.std.proofs.lemmas.List.Elements.{All-append}
use Rattle.std.proofs.lemmas.Option.{get_or_from_slice_get, slice_get_within}
use Rattle.std.proofs.lemmas.List.{length_push}
use Rattle.job_board.specs.Numbers.{times}
use Rattle.job_board.specs.Seats.{BoardValue, SeatValue}
use Rattle.job_board.specs.declared.view.View.{View}
use Rattle.job_board.proofs.Times.{times-append}
use Rattle.history_model.specs.History.{History}
use Rattle.reg_report.specs.Pieces.Plan.{IsFirstPlan, PlanShown}
use Rattle.reg_report.specs.Pieces.Slots.{AreDone, IsDoneAt, PiecesShown, with_pieces}
use Rattle.reg_report.specs.Pieces.Work.{Flags, HasWorked, faulty_numbers, numbers_of}
use Rattle.reg_report.specs.Pieces.Workers.{ClosesWhole, IsHandedBack, IsJoined, IsNewSeat}
use Rattle.reg_report.specs.Pieces.Workers.{view_with, weight_back, weight_of_all, weight_so_far}
use Rattle.reg_report.specs.declared.pieces.tasks.Task.{Task}
use Rattle.reg_report.specs.declared.pieces.worker.Worked.{Worked}
use Rattle.reg_report.proofs.PieceLemmas.Putting.{with-done}
use Rattle.reg_report.proofs.PieceLemmas.Searching.{searched-seat}
use Rattle.history_model.proofs.Lists.{slice_get-push}

pub weight-push : (seats : List SeatValue) (seat : SeatValue)
    → weight_of_all (seats ++ seat ∷ []) ≡ weight_of_all seats + seat.view.weight
weight-push [] seat = omega arith
weight-push (s ∷ seats) seat = let r = weight-push seats seat in omega (arith, r)

pub back-push : (back : List Worked) (w : Worked)
    → weight_back (back ++ w ∷ []) ≡ weight_back back + w.seat.view.weight
back-push [] w = omega arith
back-push (x ∷ back) w = let r = back-push back w in omega (arith, r)

pub same-weights : (seats : List SeatValue) (back : List Worked) → length back ≡ length seats
    → ((i : ℕ) (s : SeatValue) (w : Worked) → slice_get seats i ≡ Some s → slice_get back i ≡ Some w
    → w.seat.view.weight ≡ s.view.weight) → weight_back back ≡ weight_of_all seats
same-weights [] [] l e = refl
same-weights [] (w ∷ back) l e = absurd (omega (arith, l))
same-weights (s ∷ seats) [] l e = absurd (omega (arith, l))
same-weights (s ∷ seats) (w ∷ back) l e =
    let r = same-weights seats back (omega (arith, l)) (λ i x y p q. e (suc i) x y p q) in
    let here = e 0 s w refl refl in
    omega (arith, r, here)

-- what is handed back for a new seat
pub back-of : (h : History) (plan : PlanShown) (board : BoardValue) (seat : SeatValue) (w : Worked)
    → IsNewSeat plan.tasks board seat → HasWorked h plan seat w → IsHandedBack h plan board w
back-of h plan board seat w s worked = record {
  here = worked.board ∙ s.fits.here;
  drawn = drawn;
  exhausted = worked.exhausted;
  pieces = worked.pieces;
  searched =
      λ f p. searched-seat h plan p w.seat.view w.done.items worked.pieces worked.skipped (flagged p)
      (drawn f);
}
  where
    drawn : w.refused ≡ false → w.seat.view.drawn ≡ numbers_of w.done.items
    drawn f = elim worked.drawn [
      | inl e ↦ e ∙ ap (λ (xs : List ℕ). xs ++ numbers_of w.done.items) s.new
      | inr k ↦ absurd (false≢true (sym f ∙ k.0))
    ]

    flagged : IsFirstPlan h plan → w.seat.view.flagged ≡ faulty_numbers w.done.items
    flagged p =
        subst (λ b. Flags b w.done.items seat.view.flagged w.seat.view.flagged) p.early worked.flagged
        ∙ ap (λ (xs : List ℕ). xs ++ faulty_numbers w.done.items) s.unflagged

-- what is said twice of success
pub ok-both : {T E : Type 0} (P Q R : T → Type 0) (r : Result T E) → ((x : T) → P x → Q x → R x) → IfOk r P
    → IfOk r Q → IfOk r R
ok-both P Q R (Ok x) f p q = f x p q
ok-both P Q R (Err e) f p q = tt

pub one-more : {X : Type 0} (P : X → Type 0) (xs : List X) (x : X) → All P xs → P x → All P (xs ++ x ∷ [])
one-more P xs x all one = All-append P xs (x ∷ []) all (λ k d l. only k d l)
  where
    only : (k : ℕ) (d : _) → k < 1 → P (slice_index_or (x ∷ []) k d)
    only zero d l = one
    only (suc k) d l = absurd (omega (arith, l))

-- ---- one seat more is handed back

front-at : {X : Type 0} (xs ys : List X) (k : ℕ) (d : X) → k < length xs
    → slice_index_or (xs ++ ys) k d ≡ slice_index_or xs k d
front-at [] ys k d l = absurd (omega (arith, l))
front-at (x ∷ xs) ys zero d l = refl
front-at (x ∷ xs) ys (suc k) d l = front-at xs ys k d (omega (arith, l))

pub first-ones : {X : Type 0} (P : X → Type 0) (all rest : List X) (x : X) → all ≡ rest ++ x ∷ [] → All P all
    → All P rest
first-ones P all rest x e a k d l =
    let inside : k < length all = omega (arith, l, ap length e, length_push rest x) in
    subst P (ap (λ xs. slice_index_or xs k d) e ∙ front-at rest (x ∷ []) k d l) (a k d inside)

pub last-one : {X : Type 0} (P : X → Type 0) (all rest : List X) (x : X) → all ≡ rest ++ x ∷ []
    → All P all → P x
last-one P all rest x e a =
    let inside : length rest < length all = omega (arith, ap length e, length_push rest x) in
    let at =
    get_or_from_slice_get all (length rest) x x (ap (λ xs. slice_get xs (length rest)) e
    ∙ slice_get-push rest x) in
    subst P at (a (length rest) x inside)

pub weight-with : (before : Option SeatValue) (seat : SeatValue)
    → (view_with before seat).weight ≡ weight_so_far before + seat.view.weight
weight-with None seat = omega arith
weight-with (Some one) seat = refl

module _ (h : History) (plan : PlanShown) (board : BoardValue) (pieces : PiecesShown) (refused : Bool) where
  exhausted-with : (before : Option SeatValue) (seat : SeatValue)
      → IfSome before (IsJoined h plan.tasks board pieces refused) → refused ≡ false
      → seat.view.exhausted ≡ true → (view_with before seat).exhausted ≡ true
  exhausted-with None seat j f t = t
  exhausted-with (Some one) seat j f t = ap (λ b. b || seat.view.exhausted) (j.exhausted f)

  drawn-with : (before : Option SeatValue) (seat : SeatValue) (n : ℕ)
      → IfSome before (IsJoined h plan.tasks board pieces refused) → refused ≡ false
      → 0 < times n (view_with before seat).drawn
      → (0 < times n seat.view.drawn) ⊎ IsDoneAt h plan.tasks pieces n
  drawn-with None seat n j f l = inl l
  drawn-with (Some one) seat n j f l =
      go (times n one.view.drawn) refl (omega (arith, l, times-append n one.view.drawn seat.view.drawn))
    where
      go : (k : ℕ) → times n one.view.drawn ≡ k → 0 < times n one.view.drawn + times n seat.view.drawn
          → (0 < times n seat.view.drawn) ⊎ IsDoneAt h plan.tasks pieces n
      go zero e p = inl (omega (arith, e, p))
      go (suc k) e p = inr (j.full f n (omega (arith, e)))

  -- a worker's seat and what it did are put to those before
  pub one-joined : (before : Option SeatValue) (w : Worked) (joined : SeatValue) (flag : Bool)
      → IsHandedBack h plan board w → length pieces.judgements ≡ length plan.tasks
      → length pieces.reads ≡ length plan.tasks
      → IfSome before (IsJoined h plan.tasks board pieces refused) → joined.board ≡ board.id
      → joined.view ≡ view_with before w.seat → (flag ≡ false → (refused ≡ false) × (w.refused ≡ false))
      → IsJoined h plan.tasks board (with_pieces pieces w.done.items) flag joined
  one-joined before w joined flag back judgements reads j here view both = record {
    here = here;
    exhausted =
        λ f. ap (λ v. v.exhausted) view
        ∙ exhausted-with before w.seat j (both f).0 (back.exhausted (both f).1);
    full = λ f n l t at.
        let drawn : (0 < times n (numbers_of w.done.items)) ⊎ IsDoneAt h plan.tasks pieces n =
        elim (drawn-with before w.seat n j (both f).0 (subst (λ (v : View). 0 < times n v.drawn) view l)) [
          | inl p ↦ inl (subst (λ xs. 0 < times n xs) (back.drawn (both f).1) p)
          | inr kept ↦ inr kept
        ] in
        with-done h plan.tasks pieces w.done.items n judgements reads back.pieces drawn t at;
  }

  -- each task has what is done for it once the board is closed
  pub closed-full : (whole : Option SeatValue) (jobs least : ℕ)
      → IfSome whole (IsJoined h plan.tasks board pieces refused) → ClosesWhole jobs whole least
      → refused ≡ false → (n : ℕ) → n < jobs → IsDoneAt h plan.tasks pieces n
  closed-full None jobs least j c f n l = absurd c
  closed-full (Some seat) jobs least j c f n l = j.full f n (c.0 (j.exhausted f) n l)

pub all-done : (h : History) (tasks : List Task) (pieces : PiecesShown)
    → ((n : ℕ) → n < length tasks → IsDoneAt h tasks pieces n) → AreDone h tasks pieces
all-done h tasks pieces done i t l at = done i (slice_get_within tasks i t at) t at
