-- The walks over the events of a register, of a process, and of a register and value; and the calls of a
-- register, as a walk over its events meets them.
use Rattle.std.specs.Prelude.{◌≡◌, ℕ, ◌+◌, ◌-◌, ◌<◌, ◌≤◌, suc, List, [], length, drop}
use Rattle.std.specs.Prelude.{slice_get, Option, Some, None, option_map, option_and_then}
use Rattle.history_text.specs.declared.event.Val.{Val}
use Rattle.history_model.specs.Operations.{operation, next_of, reply_in, calls_from, of_register}
use Rattle.history_model.specs.declared.operation.Operation.{Operation}
use Rattle.history_model.specs.declared.ids.EvId.{EvId}
use Rattle.history_model.specs.declared.event.Event.{Event}

-- ---- what the three families of walks go by

-- a crash has no register
abbrev pub by_register : Event → Option ℕ
by_register e = option_map (λ r. r.0) e.register

abbrev pub by_process : Event → Option ℕ
by_process e = Some e.process

-- nor a value
abbrev pub by_value : Event → Option (ℕ × Val)
by_value e = option_and_then (λ v. option_map (λ r. (r.0, v)) e.register) e.value

-- ---- walks

-- the least place from n on at which P holds
abbrev pub IsLeastFrom : (ℕ → Type 0) → ℕ → Option EvId → Type 0
IsLeastFrom P n None = (i : ℕ) → n ≤ i → P i → ⊥
IsLeastFrom P n (Some j) = (n ≤ j.0) × P j.0 × ((i : ℕ) → n ≤ i → i < j.0 → P i → ⊥)

-- the key of the event at place i, where there is one
abbrev pub key_at : {K : Type 0} → (Event → Option K) → List Event → ℕ → Option K
key_at key events i = option_and_then key (slice_get events i)

-- the first event of a key
abbrev pub IsFirstOf : {K : Type 0} → (Event → Option K) → List Event → K → Option EvId → Type 0
IsFirstOf key events k o = IsLeastFrom (λ j. key_at key events j ≡ Some k) 0 o

-- the next event that has the key of the event at place i
abbrev pub IsNextOf : {K : Type 0} → (Event → Option K) → List Event → ℕ → Option EvId → Type 0
IsNextOf {K} key events i o =
    (k : K) → key_at key events i ≡ Some k → IsLeastFrom (λ j. key_at key events j ≡ Some k) (i + 1) o

-- ---- the calls of a register

-- the operation of the call e at place i
abbrev pub called_at : List Event → ℕ → Event → Operation
called_at events i e =
    operation (length events + 2) (i + 2) e (reply_in (next_of e.process (suc (i + 2)) (drop (suc i) events)))

-- an event with its time
abbrev pub timed : List Event → Option EvId → Option (ℕ × Event)
timed events None = None
timed events (Some j) = option_map (λ e. (j.0 + 2, e)) (slice_get events j.0)

-- the reply to the call at place i
abbrev pub IsReplyOf : List Event → ℕ → Option EvId → Type 0
IsReplyOf events i o =
    (e : Event) → slice_get events i ≡ Some e
    → reply_in (next_of e.process (suc (i + 2)) (drop (suc i) events)) ≡ timed events o

-- the calls of register r at and after an event of it; where the walk has ended, none
abbrev pub calls_at : List Event → ℕ → Option EvId → List Operation
calls_at events r None = []
calls_at events r (Some i) = of_register r (calls_from (length events + 2) (i.0 + 2) (drop i.0 events))

-- a walk over register r stands at an event of it, or has ended
abbrev pub IsOnWalk : List Event → ℕ → Option EvId → Type 0
IsOnWalk events r None = Unit {0}
IsOnWalk events r (Some i) = key_at by_register events i.0 ≡ Some r

-- how many events a walk may still meet
abbrev pub walk_left : List Event → Option EvId → ℕ
walk_left events None = 0
walk_left events (Some i) = length events - i.0
