-- What contracts see of a source and a sink over memory.
use Rattle.std.specs.Prelude.{ℕ, List, Bool, Option}

-- the bytes that are left, how many a pull gives at most, which pull from now on
-- fails (the next is 1), and how many failed
pub record MemoryLeft : Type 0 where
  pub left : List ℕ
  pub step : ℕ
  pub fails_in : Option ℕ
  pub failures : ℕ

-- the bytes that were taken, how many there is room for in all, how many a push takes at most, whether a
-- flush fails, whether one came after the last push, and how many pushes and flushes failed
pub record MemoryTaken : Type 0 where
  pub taken : List ℕ
  pub room : ℕ
  pub step : ℕ
  pub flush_fails : Bool
  pub flushed : Bool
  pub failures : ℕ
