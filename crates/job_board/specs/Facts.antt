-- The facts that hold of a board between any two steps (this project's own design).
use Rattle.std.specs.Prelude.{◌≡◌, ℕ, ◌+◌, ◌<◌, ◌≤◌, ◌⊎◌, min, Bool, true, false, List, [], ◌∷◌}
use mathlib.Core.Option.{some}
use lib.ListN.{get_elem?}
use Rattle.job_board.specs.Numbers.{times, times_below}
use Rattle.job_board.specs.Seats.{spent_view, View}
use Rattle.job_board.specs.declared.limits.TheConstants.{MAX_JOBS, FULL_WEIGHT}

-- ---- what the seats have together

-- a number of each seat, added up
abbrev pub total : (View → ℕ) → List View → ℕ
total f [] = 0
total f (v ∷ vs) = f v + total f vs

abbrev pub weight_of : View → ℕ
weight_of v = v.weight

-- the number where the test holds, else 0
abbrev pub number_if : Bool → ℕ → ℕ
number_if true n = n
number_if false n = 0

-- the weight of an exhausted seat: one that a draw told that no number is left
abbrev pub exhausted_weight : View → ℕ
exhausted_weight v = number_if v.exhausted v.weight

-- how often the seats drew x
abbrev pub draw_count : List View → ℕ → ℕ
draw_count seats x = total (λ v. times x v.drawn) seats

-- how often the seats flagged x
abbrev pub flag_count : List View → ℕ → ℕ
flag_count seats x = total (λ v. times x v.flagged) seats

-- ---- the facts

-- n is the least flagged number, or jobs where none is flagged; count says how often each number is flagged
pub record IsLeastFlagged (jobs : ℕ) (count : ℕ → ℕ) (n : ℕ) : Type 0 where
  pub at_most : n ≤ jobs
  pub below : (x : ℕ) → 0 < count x → (n ≤ x) × (x < jobs)
  pub found : (n ≡ jobs) ⊎ (0 < count n)

-- What is known of each seat: one without weight is spent, and of each other it is known that what it saw is
-- jobs or a flagged number. A seat is exhausted only once all numbers are drawn.
pub record IsSound (jobs next : ℕ) (count : ℕ → ℕ) (v : View) : Type 0 where
  pub spent : v.weight ≡ 0 → v ≡ spent_view
  pub jobs_known : 0 < v.weight → v.jobs ≡ jobs
  pub seen : 0 < v.weight → (v.seen ≡ jobs) ⊎ (0 < count v.seen)
  pub exhausted : v.exhausted ≡ true → jobs ≤ next

-- a fact of each seat
abbrev pub EachSeat : (View → Type 0) → List View → Type 0
EachSeat Fact seats = (id : ℕ) (v : View) → get_elem? seats id ≡ some v → Fact v

-- The facts of a board's two words and its seats: the weights add up; the drawn numbers are those below next
-- and jobs, each once; least is the least flagged number; each seat is sound; and next passes jobs by no
-- more than the weight of the exhausted seats.
pub record IsConsistent (jobs next least : ℕ) (seats : List View) : Type 0 where
  pub within : jobs ≤ MAX_JOBS
  pub weights : total weight_of seats ≡ FULL_WEIGHT
  pub drawn : (x : ℕ) → draw_count seats x ≡ times_below x (min next jobs)
  pub least_flag : IsLeastFlagged jobs (flag_count seats) least
  pub sound : EachSeat (IsSound jobs next (flag_count seats)) seats
  pub passed : next ≤ jobs + total exhausted_weight seats
