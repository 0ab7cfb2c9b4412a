-- Which calls need to take effect before a reply, and what they leave.
use Rattle.std.specs.Prelude.{ℕ, ◌==◌, ◌≡◌, not, Bool, true, false, cond, List, [], ◌∷◌, ◌++◌, ◌⊎◌}
use Rattle.std.specs.List.{filter}
use Rattle.history_model.specs.Lists.{In}
use Rattle.configurations.specs.declared.op.Op.{Op}
use Rattle.configurations.specs.declared.moment.Moment.{Moment}
use Rattle.configurations.specs.declared.moment.Moment.TheVariants.{Call, Reply}
use Rattle.configurations.specs.Ops.{asks_at, fits_at, left_at, writes_at}
use Rattle.configurations.specs.Runs.{without}

-- some call that is no write and has not taken effect may do so at v
abbrev pub IsAsked : List Op → List ℕ → List ℕ → ℕ → Type 0
IsAsked ops p f v = (i : ℕ) × (In i p ⊎ In i f) × (asks_at ops i v ≡ true)

-- before the reply of k it is of use that j takes effect at v: it is k, or no write and must take effect, or
-- its value is asked for
abbrev pub IsOfUse : List Op → List ℕ → List ℕ → ℕ → ℕ → ℕ → Type 0
IsOfUse ops p f k j v = (j ≡ k) ⊎ (((writes_at ops j ≡ false) × In j p) ⊎ IsAsked ops p f (left_at ops j v))

-- the calls that must take effect still when a write has: all that are no writes, and the one that replies
abbrev pub stays : List Op → ℕ → ℕ → Bool
stays ops k i = cond (i == k) true (not (writes_at ops i))

abbrev pub kept : List Op → ℕ → List ℕ → List ℕ
kept ops k p = filter (stays ops k) p

abbrev pub freed : List Op → ℕ → List ℕ → List ℕ
freed ops k p = filter (λ i. not (stays ops k i)) p

-- When j takes effect before the reply of k: if it is a write, all other open writes are free from then on,
-- since they could have come just before it.
abbrev pub open_after : List Op → ℕ → ℕ → List ℕ → List ℕ
open_after ops k j p = cond (writes_at ops j) (kept ops k (without j p)) (without j p)

abbrev pub free_after : List Op → ℕ → ℕ → List ℕ → List ℕ → List ℕ
free_after ops k j p f = cond (writes_at ops j) (freed ops k (without j p) ++ without j f) (without j f)

-- going over the events, a reply of i is met before one of j, or neither
abbrev pub IsSooner : ℕ → ℕ → List Moment → Type 0
IsSooner i j [] = Unit {0}
IsSooner i j (Call k ∷ es) = IsSooner i j es
IsSooner i j (Reply k ∷ es) = (k ≡ i) ⊎ ((k ≡ j → ⊥) × IsSooner i j es)

-- the two take effect at the same values, and leave the same
pub record AreAlike (ops : List Op) (i j : ℕ) : Type 0 where
  pub fit : (v : ℕ) → fits_at ops i v ≡ fits_at ops j v
  pub leave : (v : ℕ) → left_at ops i v ≡ left_at ops j v
  pub write : writes_at ops i ≡ writes_at ops j
