-- What a report on levels says.
use Rattle.std.specs.Prelude.{◌≡◌, ◌<◌, ℕ, List, length, slice_get, Some}
use Rattle.history_model.specs.History.{History}
use Rattle.history_model.specs.Legal.{HasOrderFor, IsAtomic}
use Rattle.level_laws.specs.Causal.{IsCausal}
use Rattle.history_model.specs.Operations.{operations, register_of}
use Rattle.history_model.specs.declared.guarantee.Guarantee.TheVariants as guarantee
use Rattle.history_model.specs.declared.operation.Operation.{Operation}
use Rattle.reg_levels.specs.Counts.Staleness.{IsRegularForAll}
use Rattle.report_text.specs.declared.level.report.LevelName.{LevelName}
use Rattle.report_text.specs.declared.level.report.LevelName.TheVariants.{Atomic, Regular, Session}
use Rattle.report_text.specs.declared.level.report.LevelName.TheVariants.{OwnWrites, Monotonic, Sequential}
use Rattle.report_text.specs.declared.level.report.LevelsReport.{LevelsReport}
use Rattle.report_text.specs.declared.level.report.RegisterLevels.{RegisterLevels}
use Rattle.report_text.specs.declared.level.report.Required.{Required}
use Rattle.report_text.specs.declared.level.report.Required.TheVariants.{Each, Causal}
use Rattle.level_report.specs.Called.{AreCalled}
use Rattle.level_report.specs.Causal.{IsCausalSaid}
use Rattle.level_report.specs.Freshness.{IsFreshness}
use Rattle.level_report.specs.Guarantees.{AreGuarantees, IsOrderShown}
use Rattle.level_report.specs.Totals.{AreTotals}
use Rattle.level_report.specs.declared.settings.Asked.{Asked}

-- ---- a register

-- the line of register r
pub record IsRegisterLine (h : History) (asked : Asked) (r : ℕ) (reg : RegisterLevels) : Type 0 where
  pub name : slice_get h.names r ≡ Some reg.register
  pub operations : AreCalled (register_of h r) reg.operations
  pub freshness : IsFreshness (register_of h r) asked.stale reg.freshness
  pub guarantees : AreGuarantees (register_of h r) reg.guarantees
  pub order : IsOrderShown (register_of h r) asked.orders reg.freshness.atomic reg.guarantees reg.order

-- ---- whether a level holds

-- the register's operations keep the level
abbrev pub Holds : LevelName → List Operation → Type 0
Holds Atomic ops = IsAtomic ops
Holds Regular ops = IsRegularForAll ops
Holds Session ops = HasOrderFor guarantee.Session ops
Holds OwnWrites ops = HasOrderFor guarantee.OwnWrites ops
Holds Monotonic ops = HasOrderFor guarantee.Monotonic ops
Holds Sequential ops = HasOrderFor guarantee.Sequential ops

-- each register keeps the level
abbrev pub EachHolds : LevelName → History → Type 0
EachHolds level h = (r : ℕ) → r < length h.names → Holds level (register_of h r)

-- a history keeps what is required: of a level, each register does
abbrev pub KeepsRequired : Required → History → Type 0
KeepsRequired (Each level) h = EachHolds level h
KeepsRequired Causal h = IsCausal (operations h)

-- the report of a history: the line of each register in the order of the first calls, and the summary
pub record IsReport (h : History) (asked : Asked) (report : LevelsReport) : Type 0 where
  pub count : length report.registers.items ≡ length h.names
  pub each : (r : ℕ) (reg : RegisterLevels) → slice_get report.registers.items r ≡ Some reg
      → IsRegisterLine h asked r reg
  pub totals : AreTotals report.registers.items report.totals
  pub causal : IsCausalSaid (operations h) asked.orders report.totals.causal
