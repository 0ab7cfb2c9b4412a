-- What a report says of the guarantees of a register that are weaker than atomic; `ops` are the register's
-- operations.
use Rattle.std.specs.Prelude.{◌≡◌, ◌⊎◌, ℕ, Bool, true, false, List, Option, Some, None, map, is_some}
use Rattle.std.specs.Prelude.{unwrap_or}
use Rattle.std.specs.List.{filter}
use Rattle.history_model.specs.Legal.{HasOrderFor, IsLegalFor}
use Rattle.history_model.specs.declared.guarantee.Guarantee.{Guarantee}
use Rattle.history_model.specs.declared.guarantee.Guarantee.TheVariants as guarantee
use Rattle.history_model.specs.declared.operation.Operation.{Operation}
use Rattle.level_laws.specs.Evidence.{Evidence, IsLevelFault, Link}
use Rattle.level_laws.specs.Evidence.Evidence.{unwritten, early, cycle}
use Rattle.report_text.specs.declared.level.report.FaultLines.{FaultLines}
use Rattle.report_text.specs.declared.level.report.FaultLines.TheVariants.{Unwritten, Early, Cycle}
use Rattle.report_text.specs.declared.level.report.KeptGuarantees.{KeptGuarantees}
use Rattle.report_text.specs.declared.level.report.LevelName.{LevelName}
use Rattle.report_text.specs.declared.level.report.LevelName.TheVariants as level
use Rattle.report_text.specs.declared.level.report.OrderLines.{OrderLines}

-- ---- why a guarantee wasn't kept

abbrev pub step_lines : Link → ℕ × ℕ
step_lines link = (link.before.line, link.after.line)

abbrev pub write_line : Link → ℕ
write_line link = link.write.line

-- the lines of what shows it
abbrev pub ShowsEvidence : Evidence → FaultLines → Type 0
ShowsEvidence (unwritten r) (Unwritten read) = read ≡ r.line
ShowsEvidence (unwritten r) (Early read write) = ⊥
ShowsEvidence (unwritten r) (Cycle steps writes) = ⊥
ShowsEvidence (early r w) (Unwritten read) = ⊥
ShowsEvidence (early r w) (Early read write) = (read ≡ r.line) × (write ≡ w.line)
ShowsEvidence (early r w) (Cycle steps writes) = ⊥
ShowsEvidence (cycle links) (Unwritten read) = ⊥
ShowsEvidence (cycle links) (Early read write) = ⊥
ShowsEvidence (cycle links) (Cycle steps writes) =
    (steps.items ≡ map step_lines links) × (writes.items ≡ map write_line links)

-- a fault of the guarantee, by lines
abbrev pub IsFaultShown : Guarantee → List Operation → FaultLines → Type 0
IsFaultShown g ops fault = (e : Evidence) × IsLevelFault g ops e × ShowsEvidence e fault

-- whether a guarantee was kept, and if not, why
abbrev pub IsVerdict : Guarantee → List Operation → Bool → Option FaultLines → Type 0
IsVerdict g ops true fault = HasOrderFor g ops × (fault ≡ None)
IsVerdict g ops false fault =
    (HasOrderFor g ops → ⊥) × ((lines : FaultLines) × (fault ≡ Some lines) × IsFaultShown g ops lines)

-- ---- the session and its halves

-- the halves are told of if the session wasn't kept, and why it wasn't only if both halves were
pub record AreHalves (ops : List Operation) (k : KeptGuarantees) : Type 0 where
  pub own : Bool
  pub monotonic : Bool
  pub own_writes : k.own_writes ≡ Some own
  pub monotonic_is : k.monotonic ≡ Some monotonic
  pub own_verdict : IsVerdict guarantee.OwnWrites ops own k.own_writes_fault
  pub monotonic_verdict : IsVerdict guarantee.Monotonic ops monotonic k.monotonic_fault
  pub both : own ≡ true → monotonic ≡ true
      → (lines : FaultLines) × (k.session_fault ≡ Some lines) × IsFaultShown guarantee.Session ops lines
  pub one : (own ≡ false) ⊎ (monotonic ≡ false) → k.session_fault ≡ None

abbrev pub IsSession : List Operation → Bool → KeptGuarantees → Type 0
IsSession ops true k = HasOrderFor guarantee.Session ops × (k.session_fault ≡ None) × (k.own_writes ≡ None)
    × (k.monotonic ≡ None) × (k.own_writes_fault ≡ None) × (k.monotonic_fault ≡ None)
IsSession ops false k = (HasOrderFor guarantee.Session ops → ⊥) × AreHalves ops k

pub record AreGuarantees (ops : List Operation) (k : KeptGuarantees) : Type 0 where
  pub session : IsSession ops k.session k
  pub sequential : IsVerdict guarantee.Sequential ops k.sequential k.sequential_fault

-- ---- orders

-- what an order of a level keeps; `regular` has no order
abbrev pub IsGuaranteeOf : LevelName → Guarantee → Type 0
IsGuaranteeOf level.Atomic g = g ≡ guarantee.Atomic
IsGuaranteeOf level.Regular g = ⊥
IsGuaranteeOf level.Session g = g ≡ guarantee.Session
IsGuaranteeOf level.OwnWrites g = g ≡ guarantee.OwnWrites
IsGuaranteeOf level.Monotonic g = g ≡ guarantee.Monotonic
IsGuaranteeOf level.Sequential g = g ≡ guarantee.Sequential

-- the level, if it holds, else the next one
abbrev pub or_else : Bool → LevelName → Option LevelName → Option LevelName
or_else true name next = Some name
or_else false name next = next

-- the strongest level that holds
abbrev pub strongest : Bool → KeptGuarantees → Option LevelName
strongest atomic k =
    or_else atomic level.Atomic (or_else k.session level.Session
    (or_else (unwrap_or k.own_writes false) level.OwnWrites
    (or_else (unwrap_or k.monotonic false) level.Monotonic
    (or_else k.sequential level.Sequential None))))

abbrev pub is_called : Operation → Bool
is_called a = is_some a.process

-- the operations by the lines of their calls, without the initial write
abbrev pub lines_of : List Operation → List ℕ
lines_of order = map (λ (a : Operation). a.line) (filter is_called order)

-- the lines of an order that keeps the level
abbrev pub KeepsLevel : List Operation → LevelName → List ℕ → Type 0
KeepsLevel ops name lines =
    (g : Guarantee) × IsGuaranteeOf name g
    × ((order : List Operation) × IsLegalFor g ops order × (lines ≡ lines_of order))

abbrev pub IsOrderFor : List Operation → Option LevelName → Option OrderLines → Type 0
IsOrderFor ops None shown = shown ≡ None
IsOrderFor ops (Some name) shown =
    (lines : OrderLines) × (shown ≡ Some lines) × (lines.level ≡ name) × KeepsLevel ops name lines.lines.items

-- an order for the strongest level that holds, if it is asked for
abbrev pub IsOrderShown : List Operation → Bool → Bool → KeptGuarantees → Option OrderLines → Type 0
IsOrderShown ops false atomic k shown = shown ≡ None
IsOrderShown ops true atomic k shown = IsOrderFor ops (strongest atomic k) shown
