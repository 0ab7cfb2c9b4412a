-- The last call and the first reply of a register's value, by its entry.
use Rattle.std.specs.Prelude.{◌≡◌, ℕ, ◌+◌, ◌<◌}
use Rattle.std.specs.Prelude.{Option, Some, None, option_map, option_and_then}
use Rattle.history_text.specs.declared.limits.TheConstants.{MAX_EVENTS}
use Rattle.std.specs.Option.{option_or}
use Rattle.history_text.specs.declared.event.Val.{Val}
use Rattle.history_text.specs.declared.event.Val.TheVariants.{Null, Int}
use Rattle.history_model.specs.declared.ids.EvId.{EvId}
use Rattle.reg_arena.specs.declared.event_lists.list_ends.Entry.{Entry}
use Rattle.reg_arena.specs.Lists.EventLists.{later, write_kept}

-- the call of the initial write
abbrev pub initial_call : Val → Option ℕ
initial_call Null = Some 0
initial_call (Int n) = None

-- the last call by an entry; the initial write is called at 0
abbrev pub last_time : Val → Option Entry → Option ℕ
last_time v y =
    option_or (option_map (λ id. id.0 + 2) (option_and_then (λ y. later (write_kept y.write) y.last_read) y))
    (initial_call v)

-- the first reply by an entry; the initial write replies at 1
abbrev pub reply_time : Val → Option Entry → Option ℕ
reply_time Null y = Some 1
reply_time (Int n) y = option_map (λ id. id.0 + 2) (option_and_then (λ y. y.first_reply) y)

-- the times of an entry's events fit 32 bits
pub record HasTimes (y : Entry) : Type 0 where
  pub write : (id : EvId) → write_kept y.write ≡ Some id → id.0 < MAX_EVENTS
  pub read : (id : EvId) → y.last_read ≡ Some id → id.0 < MAX_EVENTS
  pub reply : (id : EvId) → y.first_reply ≡ Some id → id.0 < MAX_EVENTS
