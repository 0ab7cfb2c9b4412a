-- The sequential specification, one operation after another.
use Rattle.std.specs.Prelude.{List, [], ◌∷◌}
use Rattle.history_text.specs.declared.event.Val.{Val}
use Rattle.history_model.specs.declared.operation.Operation.{Operation}
use Rattle.history_model.specs.Acts.{Suits, left_by}

-- from the value v on, the operations take effect in turn, each at a value that suits it
abbrev pub Meets : Val → List Operation → Type 0
Meets v [] = Unit {0}
Meets v (a ∷ order) = Suits a.act v × Meets (left_by a.act v) order
