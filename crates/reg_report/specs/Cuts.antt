-- Where the cuts of a register's reads stand among the tasks.
use Rattle.std.specs.Prelude.{◌≡◌, ℕ, suc, List, [], ◌∷◌, ◌++◌, drop, slice_get, Option, Some}
use Rattle.reg_report.specs.Pieces.Plan.{AreCuts, AreCutsOf, AreTasks, PlanShown}
use Rattle.reg_report.specs.declared.pieces.tasks.Task.{Task}
use Rattle.reg_report.specs.declared.pieces.tasks.Task.TheVariants.{Judge, Reads, First}

-- how many cuts the tasks begin with
abbrev pub cuts_ahead : List Task → ℕ
cuts_ahead [] = 0
cuts_ahead (Judge r ∷ ts) = 0
cuts_ahead (Reads r from to ∷ ts) = suc (cuts_ahead ts)
cuts_ahead (First r ∷ ts) = 0

-- the tasks begin with all cuts of `len` reads of register r, and no other
abbrev pub HasCuts : ℕ → ℕ → List Task → Type 0
HasCuts r len tasks =
    (cut : ℕ) × (cuts : List Task) × (rest : List Task) × AreCuts cut r 0 len cuts × (tasks ≡ cuts ++ rest)
    × (cuts_ahead rest ≡ 0)

-- the same by the count that the plan has of register r
abbrev pub HasCutsOf : ℕ → PlanShown → List Task → Type 0
HasCutsOf r plan tasks =
    (cut : ℕ) × (count : Option ℕ) × (cuts : List Task) × (rest : List Task)
    × (slice_get plan.counts r ≡ Some count) × AreCutsOf cut r count cuts × (tasks ≡ cuts ++ rest)
    × (cuts_ahead rest ≡ 0)

-- from number `start` on the plan has the tasks of the registers from r on
abbrev pub HasTasks : ℕ → ℕ → PlanShown → Type 0
HasTasks r start plan = (cut : ℕ) × AreTasks cut r (drop r plan.counts) (drop start plan.tasks)
