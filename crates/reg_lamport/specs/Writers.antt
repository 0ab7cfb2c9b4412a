-- Who calls the writes of a register.
use Rattle.std.specs.Prelude.{ℕ, ◌&&◌, ◌==◌, Bool, false, not, List, Option, Some, None}
use Rattle.history_model.specs.Operations.{kind_in, writes}
use Rattle.history_model.specs.Naming.{begins_at}
use Rattle.history_model.specs.declared.event.Event.{Event}

-- the event e at place i is the call of a write that didn't fail
abbrev pub begins_write : List Event → ℕ → Event → Bool
begins_write events i e = begins_at events i e && writes (kind_in e.what)

-- a process other than the writer, where one is known
abbrev pub is_another : Option ℕ → ℕ → Bool
is_another None p = false
is_another (Some known) p = not (known == p)
