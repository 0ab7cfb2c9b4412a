-- What is known of each seat stays known where the words and the seats change.
use Rattle.std.proofs.Common.{◌≡◌, ◌≢◌, ◌⊎◌, ℕ, ◌<◌, ◌≤◌, min, true, List, [], ◌∷◌, ◌++◌}
use Rattle.std.proofs.Common.{set, sym, ◌∙◌, inl, inr, subst, ⊎_elim, lt_of_not-le, arith}
use mathlib.Core.Option.{some}
use native.Mathlib.Decide.{dec_le}
use lib.ListN.{get_elem?}
use Rattle.atomic_table.proofs.Lists.{at_set, at_snoc}
use Rattle.job_board.specs.Seats.{View}
use Rattle.job_board.specs.Facts.{IsLeastFlagged, IsSound, EachSeat}

-- a fact of each seat stays, where it holds of the one that changed
pub each_set : (F : View → Type 0) (seats : List View) (id : ℕ) (w : View) → F w → EachSeat F seats
    → EachSeat F (set seats id w)
each_set F seats id w mine others j u e =
    ⊎_elim
    (λ (x : (j ≡ id) × (w ≡ u)). subst F x.1 mine)
    (λ (x : (j ≢ id) × (get_elem? seats j ≡ some u)). others j u x.1)
    (at_set seats id j w u e)

-- and where it holds of one more
pub each_snoc : (F : View → Type 0) (seats : List View) (w : View) → F w → EachSeat F seats
    → EachSeat F (seats ++ w ∷ [])
each_snoc F seats w mine others j u e =
    ⊎_elim (λ was. others j u was) (λ (same : w ≡ u). subst F same mine) (at_snoc seats w u j e)

-- a seat stays sound where the counter and the flags grew
pub sound_later : (jobs next later : ℕ) (f g : ℕ → ℕ) (v : View) → next ≤ later → ((x : ℕ) → f x ≤ g x)
    → IsSound jobs next f v → IsSound jobs later g v
sound_later jobs next later f g v le more h = record {
  spent = h.spent;
  jobs_known = h.jobs_known;
  seen =
      λ some_weight.
      ⊎_elim (λ (e : v.seen ≡ jobs). inl e) (λ (e : 0 < f v.seen). inr (let m = more v.seen in
      omega arith)) (h.seen some_weight);
  exhausted = λ t. let le' = h.exhausted t in omega arith;
}

-- a seat that changes, but not in what it has seen, stays sound
pub sound_changed : (jobs next : ℕ) (f : ℕ → ℕ) (v w : View) → 0 < w.weight → 0 < v.weight → w.jobs ≡ v.jobs
    → w.seen ≡ v.seen → (w.exhausted ≡ true → jobs ≤ next) → IsSound jobs next f v → IsSound jobs next f w
sound_changed jobs next f v w heavy was_heavy same_jobs same_seen exhausted was = record {
  spent = λ e. absurd (omega arith);
  jobs_known = λ _. same_jobs ∙ was.jobs_known was_heavy;
  seen = λ _. subst (λ n. (n ≡ jobs) ⊎ (0 < f n)) (sym same_seen) (was.seen was_heavy);
  exhausted = exhausted;
}

-- the least flagged number is a matter of how often each number is flagged
pub least_same : (jobs n : ℕ) (f g : ℕ → ℕ) → ((x : ℕ) → f x ≡ g x) → IsLeastFlagged jobs f n
    → IsLeastFlagged jobs g n
least_same jobs n f g same h = record {
  at_most = h.at_most;
  below = λ x e. let s = same x in h.below x (omega arith);
  found = ⊎_elim (λ (e : n ≡ jobs). inl e) (λ (e : 0 < f n). inr (let s = same n in omega arith)) h.found;
}

-- the lesser of two numbers that are jobs or flagged is so too
pub least_of_two : (jobs a b : ℕ) (f : ℕ → ℕ) → (a ≡ jobs) ⊎ (0 < f a) → (b ≡ jobs) ⊎ (0 < f b)
    → (min a b ≡ jobs) ⊎ (0 < f (min a b))
least_of_two jobs a b f x y = go (dec_le a b)
  where
    go : Dec (a ≤ b) → (min a b ≡ jobs) ⊎ (0 < f (min a b))
    go (yes le) = let m : min a b ≡ a = omega arith in subst (λ n. (n ≡ jobs) ⊎ (0 < f n)) (sym m) x
    go (no gt) =
        let m : min a b ≡ b =
        (let lt = lt_of_not-le gt in omega arith) in subst (λ n. (n ≡ jobs) ⊎ (0 < f n)) (sym m) y
