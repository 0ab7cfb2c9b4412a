-- What contracts see of settings.
use Rattle.std.specs.Prelude.{ℕ, Bool}

-- how many workers there are, how many reads a cut has at most, and whether the first register
-- that isn't atomic is all that is asked for
pub record SettingsShown : Type 0 where
  pub workers : ℕ
  pub cut : ℕ
  pub first : Bool
