-- What the seats know together of the registers that they drew.
use Rattle.std.proofs.Common.{◌≡◌, ℕ, zero, suc, ◌+◌, ◌<◌, ◌==◌, ◌⊎◌, inl, inr, Bool}
use Rattle.std.proofs.Common.{true, false, ◌||◌, List, [], ◌∷◌, ◌++◌, slice_get, Option}
use Rattle.std.proofs.Common.{Some, None, refl, sym, ap, subst, ◌∙◌, arith}
use Rattle.std.specs.Prelude.{IfSome}
use Rattle.std.proofs.lemmas.Bool.{cases_Bool, eqb-true, eqb-false, false≢true}
use Rattle.job_board.specs.Numbers.{one_if, times}
use Rattle.job_board.specs.Seats.{BoardValue, SeatValue, joint_view}
use Rattle.job_board.specs.Steps.{ClosesWith}
use Rattle.job_board.specs.declared.view.View.{View}
use Rattle.job_board.proofs.Times.{times-append}
use Rattle.history_model.specs.History.{History}
use Rattle.history_model.specs.Legal.{IsAtomic}
use Rattle.history_model.specs.Operations.{register_of}
use Rattle.reg_report.specs.Pieces.Judged.{IsLookedAt, is_faulty}
use Rattle.reg_report.specs.Pieces.Plan.{IsFirstPlan, IsPieceAt, IsPieceOf, PlanShown}
use Rattle.reg_report.specs.Pieces.Work.{ArePieces, AreSkippedAbove, faulty_numbers, number_where, numbers_of}
use Rattle.reg_report.specs.Pieces.Workers.{ClosesWhole, IsFoundAt, IsHandedBack}
use Rattle.reg_report.specs.Pieces.Workers.{IsJoinedSearch, IsSearched, view_with}
use Rattle.reg_report.specs.declared.pieces.judgement.Judgement.TheVariants.{Order, Faulty}
use Rattle.reg_report.specs.declared.pieces.piece.Piece.{Piece}
use Rattle.reg_report.specs.declared.pieces.piece.Piece.TheVariants.{Judged, Reads, Clean, Skipped}
use Rattle.reg_report.specs.declared.pieces.worker.Worked.{Worked}

-- ---- one seat

-- a number that was drawn has its piece
drawn-piece : (done : List (ℕ × Piece)) (n : ℕ) → 0 < times n (numbers_of done)
    → (i : ℕ) × (d : ℕ × Piece) × (slice_get done i ≡ Some d) × (d.0 ≡ n)
drawn-piece [] n l = absurd (omega (arith, l))
drawn-piece (d ∷ done) n l = elim (cases_Bool (d.0 == n)) [
  | inl t ↦ (0, d, refl, eqb-true d.0 n t)
  | inr f ↦ let k = drawn-piece done n
      (omega (arith, subst (λ b. 0 < one_if b + times n (numbers_of done)) f l)) in (suc k.0, k.1, k.2, k.3)
]

itself : (n : ℕ) (b : Bool) → (n == n) ≡ b → 0 < one_if b
itself n true e = omega arith
itself n false e = absurd (eqb-false n n e refl)

-- a fault that is done has its number among those of the faults
faulty-there : (done : List (ℕ × Piece)) (i : ℕ) (d : ℕ × Piece) → slice_get done i ≡ Some d
    → is_faulty d.1 ≡ true → 0 < times d.0 (faulty_numbers done)
faulty-there [] i d e t = absurd (cc e)
faulty-there (x ∷ done) zero d e t =
    let same : x ≡ d = cc e in
    subst (λ (y : ℕ × Piece). 0 < times d.0 (number_where (is_faulty y.1) y.0 ++ faulty_numbers done))
    (sym same)
    (subst (λ b. 0 < times d.0 (number_where b d.0 ++ faulty_numbers done)) (sym t)
    (let z = itself d.0 (d.0 == d.0) refl in omega (arith, z)))
faulty-there (x ∷ done) (suc i) d e t =
    let r = faulty-there done i d e t in
    omega (arith, r, times-append d.0 (number_where (is_faulty x.1) x.0) (faulty_numbers done))

-- a fault of this number is done
abbrev HasFault : ℕ → List (ℕ × Piece) → Type 0
HasFault n done = (i : ℕ) × (d : ℕ × Piece) × (slice_get done i ≡ Some d) × (d.0 ≡ n) × (is_faulty d.1 ≡ true)

-- and each number of a fault is that of one that is done
faulty-piece : (done : List (ℕ × Piece)) (n : ℕ) → 0 < times n (faulty_numbers done) → HasFault n done
faulty-piece [] n l = absurd (omega (arith, l))
faulty-piece (d ∷ done) n l = go (is_faulty d.1) refl l (λ k. faulty-piece done n k)
  where
    behind : HasFault n done → HasFault n (d ∷ done)
    behind r = (suc r.0, r.1, r.2, r.3, r.4)

    go : (b : Bool) → is_faulty d.1 ≡ b → 0 < times n (number_where b d.0 ++ faulty_numbers done)
        → (0 < times n (faulty_numbers done) → HasFault n done) → HasFault n (d ∷ done)
    go true e k later = elim (cases_Bool (d.0 == n)) [
      | inl t ↦ (0, d, refl, eqb-true d.0 n t, e)
      | inr f ↦ behind (later (omega (arith, subst (λ b. 0 < one_if b + times n (faulty_numbers done)) f k)))
    ]
    go false e k later = behind (later k)

module _ (h : History) (plan : PlanShown) (p : IsFirstPlan h plan) (v : View) (done : List (ℕ × Piece))
    (a : ArePieces h plan.tasks done) (s : AreSkippedAbove v.seen done)
    (flags : v.flagged ≡ faulty_numbers done) where
  looked-at : (i : ℕ) (d : ℕ × Piece) → slice_get done i ≡ Some d → IsLookedAt (register_of h d.0) d.1
  looked-at i d e =
      let x : IsPieceAt h plan.tasks d.0 d.1 =
      a i d e in subst (λ t. IsPieceOf h t d.1) (p.each d.0 x.0 x.1) x.2

  known : (i : ℕ) (m : ℕ) (q : Piece) → slice_get done i ≡ Some (m, q)
      → IsAtomic (register_of h m) ⊎ ((0 < times m v.flagged) ⊎ (v.seen < m))
  known i m (Judged (Order order)) e = absurd (looked-at i (m, Judged (Order order)) e)
  known i m (Judged (Faulty fault)) e =
      inr (inl (subst (λ xs. 0 < times m xs) (sym flags) (faulty-there done i (
        m,
        Judged (Faulty fault),
      ) e refl)))
  known i m (Reads reads) e = absurd (looked-at i (m, Reads reads) e)
  known i m Clean e = inl (looked-at i (m, Clean) e)
  known i m Skipped e = inr (inr (s i (m, Skipped) e refl))

  not-atomic : (m : ℕ) (q : Piece) → is_faulty q ≡ true → IsLookedAt (register_of h m) q
      → IsAtomic (register_of h m) → ⊥
  not-atomic m (Judged (Order order)) f l = absurd l
  not-atomic m (Judged (Faulty fault)) f l = l.0
  not-atomic m (Reads reads) f l = absurd l
  not-atomic m Clean f l = absurd (false≢true f)
  not-atomic m Skipped f l = absurd (false≢true f)

  pub searched-seat : v.drawn ≡ numbers_of done → IsSearched h v
  searched-seat drawn = record {
    passed = λ n l.
        let k = drawn-piece done n (subst (λ xs. 0 < times n xs) drawn l) in
        subst (λ m. IsAtomic (register_of h m) ⊎ ((0 < times m v.flagged) ⊎ (v.seen < m))) k.3
        (known k.0 k.1.0 k.1.1 k.2);
    flagged = λ n l.
        let k = faulty-piece done n (subst (λ xs. 0 < times n xs) flags l) in
        subst (λ m. IsAtomic (register_of h m) → ⊥) k.3 (not-atomic k.1.0 k.1.1 k.4 (looked-at k.0 k.1 k.2));
  }

-- ---- two seats as one

in-either : (n : ℕ) (xs ys : List ℕ) → 0 < times n (xs ++ ys) → (0 < times n xs) ⊎ (0 < times n ys)
in-either n xs ys l = go (times n xs) refl
  where
    go : (k : ℕ) → times n xs ≡ k → (0 < times n xs) ⊎ (0 < times n ys)
    go zero e = inr (omega (arith, l, e, times-append n xs ys))
    go (suc k) e = inl (omega (arith, e))

searched-both : (h : History) (v w : View) → IsSearched h v → IsSearched h w → IsSearched h (joint_view v w)
searched-both h v w a b = record {
  passed = λ n l. elim (in-either n v.drawn w.drawn l) [
    | inl k ↦ elim (a.passed n k) [
      | inl x ↦ inl x
      | inr y ↦ elim y [
        | inl f ↦ inr (inl (omega (arith, f, times-append n v.flagged w.flagged)))
        | inr s ↦ inr (inr (omega (arith, s)))
      ]
    ]
    | inr k ↦ elim (b.passed n k) [
      | inl x ↦ inl x
      | inr y ↦ elim y [
        | inl f ↦ inr (inl (omega (arith, f, times-append n v.flagged w.flagged)))
        | inr s ↦ inr (inr (omega (arith, s)))
      ]
    ]
  ];
  flagged = λ n l. elim (in-either n v.flagged w.flagged l) [ inl k ↦ a.flagged n k | inr k ↦ b.flagged n k ];
}

module _ (h : History) (plan : PlanShown) (p : IsFirstPlan h plan) (board : BoardValue) (refused : Bool)
    (w : Worked) (back : IsHandedBack h plan board w) where
  searched-with : (before : Option SeatValue) → IfSome before (IsJoinedSearch h board refused)
      → refused ≡ false → w.refused ≡ false → IsSearched h (view_with before w.seat)
  searched-with None j f g = back.searched g p
  searched-with (Some one) j f g = searched-both h one.view w.seat.view (j.searched f) (back.searched g p)

  exhausted-with : (before : Option SeatValue) → IfSome before (IsJoinedSearch h board refused)
      → refused ≡ false → w.refused ≡ false → (view_with before w.seat).exhausted ≡ true
  exhausted-with None j f g = back.exhausted g
  exhausted-with (Some one) j f g = ap (λ b. b || w.seat.view.exhausted) (j.exhausted f)

  -- a worker's seat is put to those before
  pub search-joined : (before : Option SeatValue) (joined : SeatValue) (flag : Bool)
      → IfSome before (IsJoinedSearch h board refused) → joined.board ≡ board.id
      → joined.view ≡ view_with before w.seat → (flag ≡ false → (refused ≡ false) × (w.refused ≡ false))
      → IsJoinedSearch h board flag joined
  search-joined before joined flag j here view both = record {
    here = here;
    exhausted = λ f. ap (λ v. v.exhausted) view ∙ exhausted-with before j (both f).0 (both f).1;
    searched = λ f. subst (IsSearched h) (sym view) (searched-with before j (both f).0 (both f).1);
  }

-- ---- all seats as one

-- what the closing says of a seat that drew all numbers
found-at : (h : History) (registers jobs n : ℕ) (v : View) → jobs ≡ registers → ClosesWith jobs v n
    → ((k : ℕ) → k < jobs → 0 < times k v.drawn) → IsSearched h v → IsFoundAt h registers n
found-at h registers jobs n v e c all s = record {
  within = omega (arith, c.least.at_most, e);
  below = λ r l. elim (s.passed r (all r (omega (arith, l, c.least.at_most)))) [
    | inl a ↦ a
    | inr k ↦ elim k [
      | inl f ↦ let b = c.least.below r f in absurd (omega (arith, b.0, l))
      | inr g ↦ absurd (omega (arith, g, l, c.at_most_seen))
    ]
  ];
  at = λ l. elim c.least.found [ inl q ↦ absurd (omega (arith, q, l, e)) | inr f ↦ s.flagged n f ];
}

-- the closed board has found the register
pub closed-found : (h : History) (board : BoardValue) (refused : Bool) (whole : Option SeatValue)
    (registers jobs least : ℕ) → IfSome whole (IsJoinedSearch h board refused) → ClosesWhole jobs whole least
    → refused ≡ false → jobs ≡ registers → IsFoundAt h registers least
closed-found h board refused None registers jobs least j c f e = absurd c
closed-found h board refused (Some seat) registers jobs least j c f e =
    found-at h registers jobs least seat.view e c.1 (c.0 (j.exhausted f)) (j.searched f)
