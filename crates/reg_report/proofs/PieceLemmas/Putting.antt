-- What is done is put into its slot, and a worker has done one piece more.
use Rattle.std.proofs.Common.{◌≡◌, ℕ, suc, ◌==◌, ◌+◌, ◌<◌, ◌⊎◌, false, List, [], ◌∷◌, ◌++◌, length, slice_get}
use Rattle.std.proofs.Common.{Some, Result, Ok, Err, inl, inr, refl, sym, ap, subst, ◌∙◌, arith}
use Rattle.std.specs.Result.{OnOk, is_err}
use Rattle.std.proofs.lemmas.List.{length-set}
use Rattle.std.proofs.lemmas.Option.{same_Some, slice_get_within}
use Rattle.std.proofs.lemmas.Bool.{cases_Bool, eqb-true, eqb-false, false≢true}
use Rattle.job_board.specs.Numbers.{one_if, times}
use Rattle.history_model.specs.History.{History}
use Rattle.reg_report.specs.Pieces.Plan.{IsPieceAt, IsPieceOf}
use Rattle.reg_report.specs.Pieces.Slots.{AreWithin, IsDoneAt, IsKept, PiecesShown, with_piece, with_pieces}
use Rattle.reg_report.specs.Pieces.Work.{AddsPiece, ArePieces, numbers_of}
use Rattle.reg_report.specs.declared.pieces.piece.Piece.{Piece}
use Rattle.reg_report.specs.declared.pieces.piece.Piece.TheVariants as piece
use Rattle.reg_report.specs.declared.pieces.tasks.Task.{Task}
use Rattle.reg_report.specs.declared.pieces.tasks.Task.TheVariants.{Judge, Reads, First}
use Rattle.reg_report.proofs.PieceLemmas.Pushed.{push-cases, front-get}
use Rattle.history_model.proofs.Lists.{slice_get-set, slice_get-set_other}

-- ---- one piece in its slot

pub judgements-count : (pieces : PiecesShown) (n : ℕ) (p : Piece)
    → length (with_piece pieces n p).judgements ≡ length pieces.judgements
judgements-count pieces n (piece.Judged judgement) = length-set pieces.judgements n judgement
judgements-count pieces n (piece.Reads reads) = refl
judgements-count pieces n piece.Clean = refl
judgements-count pieces n piece.Skipped = refl

pub reads-count : (pieces : PiecesShown) (n : ℕ) (p : Piece)
    → length (with_piece pieces n p).reads ≡ length pieces.reads
reads-count pieces n (piece.Judged judgement) = refl
reads-count pieces n (piece.Reads reads) = length-set pieces.reads n reads
reads-count pieces n piece.Clean = refl
reads-count pieces n piece.Skipped = refl

judgements-beside : (pieces : PiecesShown) (n : ℕ) (p : Piece) (m : ℕ) → (m ≡ n → ⊥)
    → slice_get (with_piece pieces n p).judgements m ≡ slice_get pieces.judgements m
judgements-beside pieces n (piece.Judged judgement) m d =
    slice_get-set_other pieces.judgements n m judgement d
judgements-beside pieces n (piece.Reads reads) m d = refl
judgements-beside pieces n piece.Clean m d = refl
judgements-beside pieces n piece.Skipped m d = refl

reads-beside : (pieces : PiecesShown) (n : ℕ) (p : Piece) (m : ℕ) → (m ≡ n → ⊥)
    → slice_get (with_piece pieces n p).reads m ≡ slice_get pieces.reads m
reads-beside pieces n (piece.Judged judgement) m d = refl
reads-beside pieces n (piece.Reads reads) m d = slice_get-set_other pieces.reads n m reads d
reads-beside pieces n piece.Clean m d = refl
reads-beside pieces n piece.Skipped m d = refl

kept-here : (h : History) (pieces : PiecesShown) (n : ℕ) (p : Piece) (t : Task) → n < length pieces.judgements
    → n < length pieces.reads → IsPieceOf h t p → IsKept h n (with_piece pieces n p) t
kept-here h pieces n p (Judge r) j k done =
    subst (λ q. IsKept h n (with_piece pieces n q) (Judge r)) (sym done.1) (
      done.0,
      slice_get-set pieces.judgements n done.0 j,
      done.2,
    )
kept-here h pieces n p (Reads r from to) j k done =
    subst (λ q. IsKept h n (with_piece pieces n q) (Reads r from to)) (sym done.1) (
      done.0,
      slice_get-set pieces.reads n done.0 k,
      done.2,
    )
kept-here h pieces n p (First r) j k done = tt

kept-beside : (h : History) (pieces : PiecesShown) (n : ℕ) (p : Piece) (m : ℕ) (t : Task) → (m ≡ n → ⊥)
    → IsKept h m pieces t → IsKept h m (with_piece pieces n p) t
kept-beside h pieces n p m (Judge r) d kept = (kept.0, judgements-beside pieces n p m d ∙ kept.1, kept.2)
kept-beside h pieces n p m (Reads r from to) d kept = (kept.0, reads-beside pieces n p m d ∙ kept.1, kept.2)
kept-beside h pieces n p m (First r) d kept = tt

-- ---- all that a worker did

pub put-one-more : (pieces : PiecesShown) (done : List (ℕ × Piece)) (number : ℕ) (p : Piece)
    → with_pieces pieces (done ++ (number, p) ∷ []) ≡ with_pieces (with_piece pieces number p) done
put-one-more pieces [] number p = refl
put-one-more pieces (d ∷ done) number p = ap (λ x. with_piece x d.0 d.1) (put-one-more pieces done number p)

pub all-judgements-count : (pieces : PiecesShown) (done : List (ℕ × Piece))
    → length (with_pieces pieces done).judgements ≡ length pieces.judgements
all-judgements-count pieces [] = refl
all-judgements-count pieces (d ∷ done) =
    judgements-count (with_pieces pieces done) d.0 d.1 ∙ all-judgements-count pieces done

pub all-reads-count : (pieces : PiecesShown) (done : List (ℕ × Piece))
    → length (with_pieces pieces done).reads ≡ length pieces.reads
all-reads-count pieces [] = refl
all-reads-count pieces (d ∷ done) =
    reads-count (with_pieces pieces done) d.0 d.1 ∙ all-reads-count pieces done

-- a task has what is done for it in its slot where its piece is among what is done, or it had it before
pub with-done : (h : History) (tasks : List Task) (pieces : PiecesShown) (done : List (ℕ × Piece)) (n : ℕ)
    → length pieces.judgements ≡ length tasks → length pieces.reads ≡ length tasks → ArePieces h tasks done
    → (0 < times n (numbers_of done)) ⊎ IsDoneAt h tasks pieces n → (t : Task) → slice_get tasks n ≡ Some t
    → IsKept h n (with_pieces pieces done) t
with-done h tasks pieces [] n j k a (inl l) t at = absurd (omega (arith, l))
with-done h tasks pieces [] n j k a (inr kept) t at = kept t at
with-done h tasks pieces (d ∷ done) n j k a c t at =
    let one : IsPieceAt h tasks d.0 d.1 = a 0 d refl in
    let inside = slice_get_within tasks d.0 one.0 one.1 in
    let before = with_pieces pieces done in
    let judgements = all-judgements-count pieces done in
    let reads = all-reads-count pieces done in
    elim (cases_Bool (d.0 == n)) [
      | inl e ↦
          let here : d.0 ≡ n = eqb-true d.0 n e in
          let same : one.0 ≡ t = same_Some _ _ (sym one.1 ∙ (ap (slice_get tasks) here ∙ at)) in
          subst (λ m. IsKept h m (with_piece before d.0 d.1) t) here
          (kept-here h before d.0 d.1 t (omega (arith, inside, judgements, j)) (omega (
            arith,
            inside,
            reads,
            k,
          )) (subst (λ u. IsPieceOf h u d.1) same one.2))
      | inr f ↦
          let rest : (0 < times n (numbers_of done)) ⊎ IsDoneAt h tasks pieces n = elim c [
            | inl l ↦ inl (omega (arith, subst (λ b. 0 < one_if b + times n (numbers_of done)) f l))
            | inr kept ↦ inr kept
          ] in
          kept-beside h before d.0 d.1 n t (λ q. eqb-false d.0 n f (sym q))
          (with-done h tasks pieces done n j k (λ i x e. a (suc i) x e) rest t at)
    ]

pub pieces-within : (h : History) (tasks : List Task) (done : List (ℕ × Piece)) → ArePieces h tasks done
    → AreWithin (length tasks) done
pieces-within h tasks done a i d e = let p = a i d e in slice_get_within tasks d.0 p.0 p.1

-- the rest of what is done, once its last piece is in its slot
pub rest-within : (count : ℕ) (done rest : List (ℕ × Piece)) (d : ℕ × Piece) → done ≡ rest ++ d ∷ []
    → AreWithin count done → AreWithin count rest
rest-within count done rest d e w i x s = w i x (ap (λ xs. slice_get xs i) e ∙ front-get rest (d ∷ []) i x s)

-- ---- one piece more is done

pub one-piece-more : (h : History) (tasks : List Task) (number : ℕ) (old new : List (ℕ × Piece))
    → AddsPiece h tasks number old new → ArePieces h tasks old → ArePieces h tasks new
one-piece-more h tasks number old new x a i d e =
    elim (push-cases old (number, x.0) d i (sym (ap (λ xs. slice_get xs i) x.2) ∙ e)) [
      | inl k ↦ a i d k
      | inr k ↦ subst (λ (y : ℕ × Piece). IsPieceAt h tasks y.0 y.1) k.1 x.1
    ]

pub numbers-more : (h : History) (tasks : List Task) (number : ℕ) (old new : List (ℕ × Piece))
    → AddsPiece h tasks number old new → numbers_of new ≡ numbers_of old ++ number ∷ []
numbers-more h tasks number old new x = ap numbers_of x.2 ∙ map-push old
  where
    map-push : (xs : List (ℕ × Piece)) → numbers_of (xs ++ (number, x.0) ∷ []) ≡ numbers_of xs ++ number ∷ []
    map-push [] = refl
    map-push (y ∷ xs) = ap (λ ns. y.0 ∷ ns) (map-push xs)

-- what is said of success, where there was one
pub on_success : {T E P : Type 0} (r : Result T E) → OnOk r P → is_err r ≡ false → P
on_success (Ok x) p e = p
on_success (Err x) p e = absurd (false≢true (sym e))
