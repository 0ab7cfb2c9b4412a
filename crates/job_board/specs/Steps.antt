-- The board on a table of two words, what each step tells the seat that
-- steps, and what a closing tells the last seat.
use Rattle.std.specs.Prelude.{◌≡◌, ℕ, ◌<◌, ◌≤◌, ◌⊎◌, true, [], ◌∷◌}
use Rattle.atomic_table.specs.Table.{State, Me}
use Rattle.job_board.specs.Numbers.{times, IsDistinct, IsEachBelow}
use Rattle.job_board.specs.Seats.{with_drawn, with_exhausted, with_flag, with_seen, View}
use Rattle.job_board.specs.Facts.{IsConsistent, IsLeastFlagged}
use Rattle.job_board.specs.declared.limits.TheConstants.{FULL_WEIGHT}

-- the table's two words are next and least, its views are the seats, and the facts hold of them
abbrev pub IsBoard : ℕ → State ℕ View → Type 0
IsBoard jobs s =
    (next : ℕ) × (least : ℕ) × (s.words ≡ next ∷ least ∷ []) × IsConsistent jobs next least s.views

-- n is no greater than any number that the seat flagged or saw
abbrev pub IsNoGreater : View → ℕ → Type 0
IsNoGreater v n = (n ≤ v.seen) × ((x : ℕ) → 0 < times x v.flagged → n ≤ x)

-- a draw that found n: a number that the seat hadn't drawn, or that no number is left
abbrev pub DrawTells : Me ℕ View → ℕ → Me ℕ View → Type 0
DrawTells me n after =
    ((n < me.0.jobs) × (times n me.0.drawn ≡ 0) × (after ≡ (with_drawn me.0 n, me.1)))
    ⊎ ((me.0.jobs ≤ n) × (after ≡ (with_exhausted me.0, me.1)))

-- a flag of the number j
abbrev pub FlagTells : ℕ → Me ℕ View → Me ℕ View → Type 0
FlagTells j me after = after ≡ (with_flag me.0 j, me.1)

-- a look that found n
abbrev pub LookTells : Me ℕ View → ℕ → Me ℕ View → Type 0
LookTells me n after = (after ≡ (with_seen me.0 n, me.1)) × IsNoGreater me.0 n

-- a step that changes nothing: the seat drew no number twice, and has no more than all the weight
abbrev pub CountTells : Me ℕ View → Me ℕ View → Type 0
CountTells me after = (after ≡ me) × IsDistinct me.0.drawn × (me.0.weight ≤ FULL_WEIGHT)

-- What the seat with all the weight has where the board is closed with the answer n: it
-- drew each number below some bound once, which is jobs if it is exhausted, and n is
-- the lowest number that it flagged, or jobs.
pub record ClosesWith (jobs : ℕ) (v : View) (n : ℕ) : Type 0 where
  pub jobs_known : v.jobs ≡ jobs
  pub drawn : (bound : ℕ) × (bound ≤ jobs) × IsEachBelow bound v.drawn × (v.exhausted ≡ true → bound ≡ jobs)
  pub least : IsLeastFlagged jobs (λ x. times x v.flagged) n
  pub seen : (v.seen ≡ jobs) ⊎ (0 < times v.seen v.flagged)
  pub at_most_seen : n ≤ v.seen
