-- What can still be explained.
use Rattle.std.specs.Prelude.{ℕ, suc, ◌==◌, ◌≡◌, ◌<◌, not, true, List, [], ◌∷◌, ◌⊎◌}
use Rattle.std.specs.List.{filter}
use Rattle.history_model.specs.Lists.{In}
use Rattle.configurations.specs.declared.op.Op.{Op}
use Rattle.configurations.specs.declared.moment.Moment.{Moment}
use Rattle.configurations.specs.declared.moment.Moment.TheVariants.{Call, Reply}
use Rattle.configurations.specs.Ops.{fits_at, left_at, rank_at}

abbrev pub without : ℕ → List ℕ → List ℕ
without k ks = filter (λ j. not (j == k)) ks

-- From the value v the events to come can be explained, where the calls p have not taken effect and must
-- before their reply, and the calls f may: calls take effect one by one, each at a value that suits it, and
-- only just before a reply (Lowe, Testing for linearizability, 2017; the calls that may are this project's
-- own).
pub data AliveFree (ops : List Op) : ℕ → List ℕ → List ℕ → List Moment → Type 0 where
  over_free : {v : ℕ} {p f : List ℕ} → AliveFree ops v p f []
  called_free : {v : ℕ} {p f : List ℕ} {k : ℕ} {es : List Moment} → AliveFree ops v (k ∷ p) f es
      → AliveFree ops v p f (Call k ∷ es)
  replied_free : {v : ℕ} {p f : List ℕ} {k : ℕ} {es : List Moment} → (In k p → ⊥)
      → AliveFree ops v p (without k f) es → AliveFree ops v p f (Reply k ∷ es)
  uses : {v : ℕ} {p f : List ℕ} {k : ℕ} {es : List Moment} (j : ℕ) → In j p ⊎ In j f → fits_at ops j v ≡ true
      → AliveFree ops (left_at ops j v) (without j p) (without j f) (Reply k ∷ es)
      → AliveFree ops v p f (Reply k ∷ es)

-- The same just before the reply of k, by at most n calls that take effect before it.
pub data AliveBy (ops : List Op) (k : ℕ) (es : List Moment) : ℕ → ℕ → List ℕ → List ℕ → Type 0 where
  at_once : {n v : ℕ} {p f : List ℕ} → (In k p → ⊥) → AliveFree ops v p (without k f) es
      → AliveBy ops k es n v p f
  by_one : {n v : ℕ} {p f : List ℕ} (j : ℕ) → In j p ⊎ In j f → fits_at ops j v ≡ true
      → AliveBy ops k es n (left_at ops j v) (without j p) (without j f) → AliveBy ops k es (suc n) v p f

-- Each operation is called once; and where one replies, all others that are open have a higher rank, or
-- `NEVER`.
abbrev pub AreInOrder : List Op → List ℕ → List Moment → Type 0
AreInOrder ops opened [] = Unit {0}
AreInOrder ops opened (Call k ∷ es) = (In (Call k) es → ⊥) × AreInOrder ops (k ∷ opened) es
AreInOrder ops opened (Reply k ∷ es) =
    ((i : ℕ) → In i opened → (i ≡ k) ⊎ (rank_at ops k < rank_at ops i)) × AreInOrder ops (without k opened) es
