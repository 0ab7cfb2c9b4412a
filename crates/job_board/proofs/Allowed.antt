-- Each step is one that the table allows: it keeps the rule, and tells what its play says.
use Rattle.std.proofs.Common.{◌≡◌, ℕ, ◌+◌, ◌%◌, ◌^◌, ◌<◌, ◌≤◌, min, false, List, [], ◌∷◌, slice_index}
use Rattle.std.proofs.Common.{slice_set, sym, refl, ap, inl, inr, subst, lt_of_not-le, arith}
use mathlib.Core.Option.{Option}
use native.Mathlib.Decide.{dec_le}
use Rattle.atomic_table.proofs.Lists.{set_again}
use Rattle.atomic_table.specs.Table.{Me, Act, keeps, Valid, carried_after, homes_after, Allows, Splits, Joins}
use Rattle.job_board.specs.Numbers.{times}
use Rattle.job_board.specs.Seats.{View, spent_view, with_drawn, with_exhausted, with_flag}
use Rattle.job_board.specs.Seats.{with_seen, first_part, second_part, joint_view}
use Rattle.job_board.specs.Facts.{weight_of, IsConsistent}
use Rattle.job_board.specs.Steps.{IsBoard, DrawTells, FlagTells, LookTells, CountTells}
use Rattle.job_board.proofs.Totals.{total_at}
use Rattle.job_board.proofs.Drawing.{next_small, new_number, drawn_distinct, draw_keeps, telling_keeps}
use Rattle.job_board.proofs.Flagging.{flag_keeps}
use Rattle.job_board.proofs.Looking.{look_seen, look_flagged, look_keeps}
use Rattle.job_board.proofs.Splitting.{split_keeps}
use Rattle.job_board.proofs.Joining.{join_keeps}

-- what a step on the word i owes, with the words known
abbrev Owes : ℕ → List (Option ℕ) → List View → ℕ → Me ℕ View → ℕ → (ℕ → ℕ) → (ℕ → Me ℕ View → Type 0)
    → List ℕ → Type 0
Owes jobs homes views id me i f then ws =
    (w : View) × (a : Act ℕ) × Valid homes me.1 a
    × IsBoard jobs record {
      words = slice_set ws i (f (slice_index ws i));
      homes = homes_after homes me.1 a;
      views = slice_set views id w;
    }
    × then (slice_index ws i) (w, carried_after me.1 a)

-- a draw
pub draw_allowed : (jobs slots id : ℕ) (me : Me ℕ View) → 0 < me.0.weight → me.0.exhausted ≡ false
    → Allows (IsBoard jobs) slots id me 0 (λ n. (n + 1) % 2 ^ 64) (DrawTells me)
draw_allowed jobs slots id me heavy drawing s h len at small =
    subst (Owes jobs s.homes s.views id me 0 (λ n. (n + 1) % 2 ^ 64) (DrawTells me)) (sym h.2)
    (go (dec_le jobs h.0))
  where
    more : (h.0 + 1) % 2 ^ 64 ≡ h.0 + 1
    more = let small' = next_small jobs h.0 h.1 s.views h.3 in omega arith

    mine : me.0.jobs ≡ jobs
    mine = (h.3.sound id me.0 at).jobs_known heavy

    go : Dec (jobs ≤ h.0)
        → Owes jobs s.homes s.views id me 0 (λ n. (n + 1) % 2 ^ 64) (DrawTells me) (h.0 ∷ h.1 ∷ [])
    go (yes le) = (
      with_exhausted me.0,
      keeps,
      tt,
      (
        h.0 + 1,
        h.1,
        ap (λ n. n ∷ h.1 ∷ []) more,
        telling_keeps jobs h.0 h.1 s.views id me.0 h.3 at heavy drawing le,
      ),
      inr (rw mine le, refl),
    )
    go (no gt) = let lt = lt_of_not-le gt in (
      with_drawn me.0 h.0,
      keeps,
      tt,
      (h.0 + 1, h.1, ap (λ n. n ∷ h.1 ∷ []) more, draw_keeps jobs h.0 h.1 s.views id me.0 h.3 at heavy lt),
      inl (rw mine lt, new_number jobs h.0 h.1 s.views id me.0 h.3 at, refl),
    )

-- a flag
pub flag_allowed : (jobs slots id job : ℕ) (me : Me ℕ View) → 0 < me.0.weight → 0 < times job me.0.drawn
    → Allows (IsBoard jobs) slots id me 1 (λ n. min n job) (λ n after. FlagTells job me after)
flag_allowed jobs slots id job me heavy there s h len at small =
    subst (Owes jobs s.homes s.views id me 1 (λ n. min n job) (λ n after. FlagTells job me after)) (sym h.2) (
      with_flag me.0 job,
      keeps,
      tt,
      (h.0, min h.1 job, refl, flag_keeps jobs h.0 h.1 s.views id me.0 job h.3 at heavy there),
      refl,
    )

-- a look
pub look_allowed : (jobs slots id : ℕ) (me : Me ℕ View) → 0 < me.0.weight
    → Allows (IsBoard jobs) slots id me 1 (λ n. n) (LookTells me)
look_allowed jobs slots id me heavy s h len at small =
    subst (Owes jobs s.homes s.views id me 1 (λ n. n) (LookTells me)) (sym h.2) (
      with_seen me.0 h.1,
      keeps,
      tt,
      (h.0, h.1, refl, look_keeps jobs h.0 h.1 s.views id me.0 h.3 at heavy),
      (
        refl,
        (
          look_seen jobs h.0 h.1 s.views id me.0 h.3 at heavy,
          λ x there. look_flagged jobs h.0 h.1 s.views id me.0 x h.3 at there,
        ),
      ),
    )

-- a step that changes nothing
pub count_allowed : (jobs slots id : ℕ) (me : Me ℕ View)
    → Allows (IsBoard jobs) slots id me 0 (λ n. n) (λ n after. CountTells me after)
count_allowed jobs slots id me s h len at small =
    subst (Owes jobs s.homes s.views id me 0 (λ n. n) (λ n after. CountTells me after)) (sym h.2) (
      me.0,
      keeps,
      tt,
      (h.0, h.1, refl, subst (IsConsistent jobs h.0 h.1) (sym (set_again s.views id me.0 at)) h.3),
      (
        refl,
        drawn_distinct jobs h.0 h.1 s.views id me.0 h.3 at,
        (let a = total_at weight_of s.views id me.0 at in let b = h.3.weights in omega arith),
      ),
    )

-- a split
pub split_allowed : (jobs id part : ℕ) (v : View) → 0 < part → part < v.weight
    → Splits (IsBoard jobs) id v (first_part part v) (second_part part v)
split_allowed jobs id part v some_part some_rest s h at =
    (h.0, h.1, h.2, split_keeps jobs h.0 h.1 part s.views id v h.3 at some_part some_rest)

-- a join
pub join_allowed : (jobs id : ℕ) (v : View) (other : ℕ) (w : View) → 0 < v.weight → 0 < w.weight
    → Joins (IsBoard jobs) id v other w (joint_view v w) spent_view
join_allowed jobs id v other w heavy heavy' s h at apart there =
    (h.0, h.1, h.2, join_keeps jobs h.0 h.1 s.views id other v w h.3 at apart there heavy heavy')
