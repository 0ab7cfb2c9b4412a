-- What can still be explained.
use Rattle.std.specs.Prelude.{ℕ, ◌≡◌, true, List, [], ◌∷◌}
use Rattle.history_text.specs.declared.event.Val.{Val}
use Rattle.history_model.specs.Lists.{In}
use Rattle.history_model.specs.declared.operation.Operation.{Operation}
use Rattle.configurations.specs.declared.moment.Moment.{Moment}
use Rattle.configurations.specs.declared.moment.Moment.TheVariants.{Call, Reply}
use Rattle.configurations.specs.Runs.{without}
use Rattle.register_search.specs.Taking.{suits_at, left_at}

-- From the value v, with these calls open that have not taken effect, the events to come can be explained:
-- calls take effect one by one, each at a value that suits it, and only just before a reply; at its reply a
-- call has taken effect (Lowe, Testing for linearizability, 2017).
pub data Alive (ops : List Operation) : Val → List ℕ → List Moment → Type 0 where
  over : {v : Val} {p : List ℕ} → Alive ops v p []
  called : {v : Val} {p : List ℕ} {k : ℕ} {es : List Moment} → Alive ops v (k ∷ p) es
      → Alive ops v p (Call k ∷ es)
  replied : {v : Val} {p : List ℕ} {k : ℕ} {es : List Moment} → (In k p → ⊥) → Alive ops v p es
      → Alive ops v p (Reply k ∷ es)
  takes : {v : Val} {p : List ℕ} {k : ℕ} {es : List Moment} (j : ℕ) → In j p → suits_at ops j v ≡ true
      → Alive ops (left_at ops j v) (without j p) (Reply k ∷ es) → Alive ops v p (Reply k ∷ es)
