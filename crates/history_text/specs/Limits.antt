-- The limits of the format; they are this project's profile.
use Rattle.std.specs.Prelude.{ℕ, ◌≤◌, List, length}
pub use Rattle.history_text.specs.declared.limits.TheConstants.{MAX_INPUT, MAX_LINE, MAX_EVENTS, MAX_NAME}

-- the greatest number of a process, 32 bits
abbrev pub MAX_PROCESS : ℕ
MAX_PROCESS = 4_294_967_295

-- the bytes of a register's name: at least one, and at most the limit
abbrev pub IsName : List ℕ → Type 0
IsName bytes = (1 ≤ length bytes) × (length bytes ≤ MAX_NAME)
