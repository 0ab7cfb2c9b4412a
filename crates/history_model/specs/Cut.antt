-- What is known of operations at a time: those that were called up to then, without later replies. What each
-- did is known, also if its reply tells it later (this project's profile).
use Rattle.std.specs.Prelude.{ℕ, suc, Bool, cond, nat_le, ◌&&◌, List, map}
use Rattle.std.specs.List.{filter}
use Rattle.history_model.specs.declared.operation.Operation.{Operation}

-- whether the reply came by time t
abbrev pub is_over : ℕ → Operation → Bool
is_over t a = a.completed && nat_le a.reply t

-- the operation without a later reply, and pending then; what it did stays
abbrev pub known_at : ℕ → Operation → Operation
known_at t a = record a { reply = cond (is_over t a) a.reply (suc t); completed = is_over t a }

abbrev pub is_called_by : ℕ → Operation → Bool
is_called_by t a = nat_le a.call t

-- the operations as they are known at time t
abbrev pub cut_at : ℕ → List Operation → List Operation
cut_at t ops = map (known_at t) (filter (is_called_by t) ops)
