-- The guarantees that speak of sessions, and what of a session an operation must respect.
use Rattle.std.specs.Prelude.{Bool, true, false, not}
use Rattle.history_model.specs.Operations.{is_write}
use Rattle.history_model.specs.declared.guarantee.Guarantee.{Guarantee}
use Rattle.history_model.specs.declared.guarantee.Guarantee.TheVariants.{Atomic, Session, OwnWrites}
use Rattle.history_model.specs.declared.guarantee.Guarantee.TheVariants.{Monotonic, Sequential, Within}
use Rattle.history_model.specs.declared.operation.Operation.{Operation}

-- it asks that a session sees its own operations, or some of them, in order
abbrev pub IsOfSessions : Guarantee → Type 0
IsOfSessions Atomic = ⊥
IsOfSessions Session = Unit {0}
IsOfSessions OwnWrites = Unit {0}
IsOfSessions Monotonic = Unit {0}
IsOfSessions Sequential = Unit {0}
IsOfSessions (Within age) = ⊥

-- writes keep real time
abbrev pub keeps_time : Guarantee → Bool
keeps_time Atomic = true
keeps_time Session = true
keeps_time OwnWrites = true
keeps_time Monotonic = true
keeps_time Sequential = false
keeps_time (Within age) = true

-- all later operations of its session must come after the operation
abbrev pub is_lasting : Guarantee → Operation → Bool
is_lasting Atomic a = true
is_lasting Session a = true
is_lasting OwnWrites a = is_write a
is_lasting Monotonic a = not (is_write a)
is_lasting Sequential a = true
is_lasting (Within age) a = true
