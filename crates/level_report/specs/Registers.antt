-- The lines of the registers of a history.
use Rattle.std.specs.Prelude.{◌≡◌, ℕ, List, length, slice_get, Some}
use Rattle.history_model.specs.History.{History}
use Rattle.history_model.specs.declared.ids.RegId.{RegId}
use Rattle.report_text.specs.declared.level.report.RegisterLevels.{RegisterLevels}
use Rattle.level_report.specs.Meaning.{IsRegisterLine}
use Rattle.level_report.specs.declared.settings.Asked.{Asked}

-- the numbers below n, in order
pub record AreNumbers (n : ℕ) (ids : List RegId) : Type 0 where
  pub count : length ids ≡ n
  pub each : (i : ℕ) (id : RegId) → slice_get ids i ≡ Some id → id.0 ≡ i

-- the lines of the registers below n, by their numbers
pub record AreFirstLines (h : History) (asked : Asked) (n : ℕ) (lines : List RegisterLevels) : Type 0 where
  pub count : length lines ≡ n
  pub each : (r : ℕ) (reg : RegisterLevels) → slice_get lines r ≡ Some reg → IsRegisterLine h asked r reg

-- the line of each register
abbrev pub AreLines : History → Asked → List RegisterLevels → Type 0
AreLines h asked lines = AreFirstLines h asked (length h.names) lines
