-- What a report of a history says.
use Rattle.std.specs.Prelude.{◌≡◌, ◌<◌, ◌-◌, ℕ, List, length, map, get_or, count_by, slice_get}
use Rattle.std.specs.Prelude.{Bool, true, false, not, Option, Some, None, is_some}
use Rattle.std.specs.List.{filter}
use Rattle.history_model.specs.History.{History}
use Rattle.history_model.specs.Legal.{IsLegal, IsAtomic}
use Rattle.history_model.specs.Operations.{operations, calls, of_register, is_write, register_of}
use Rattle.history_model.specs.declared.operation.Operation.{Operation}
use Rattle.history_model.specs.declared.event.Event.{Event}
use Rattle.history_model.specs.Lamport.{HasSingleWriter}
use Rattle.history_model.specs.Naming.{IsNamed, name_of}
use Rattle.history_model.specs.declared.ids.Oper.{Oper}
use Rattle.reg_lamport.specs.Levels.{IsAtLevel, IsFirstBadRead}
use Rattle.reg_lamport.specs.declared.level.Level.{Level}
use Rattle.reg_lamport.specs.declared.level.Level.TheVariants.{Safe, Regular}
use Rattle.reg_zones.specs.Faults.{IsFault}
use Rattle.reg_zones.specs.Inversions.{IsInversion, inversion_named}
use Rattle.reg_zones.specs.Order.{IsCanonical}
use Rattle.history_model.specs.Placed.{PlacedOperation, placed}
use Rattle.reg_zones.specs.declared.fault.Fault.{Fault}
use Rattle.reg_zones.specs.declared.fault.Fault.TheVariants as fault
use Rattle.reg_report.specs.Merged.{IsWholeOrder}
use Rattle.report_text.specs.declared.check.report.Verdict.{Verdict}
use Rattle.report_text.specs.declared.check.report.Verdict.TheVariants.{Yes, No, SeveralWriters}
use Rattle.report_text.specs.declared.check.report.FaultLines.{FaultLines}
use Rattle.report_text.specs.declared.check.report.FaultLines.TheVariants.{Unwritten, Early, Zones}
use Rattle.report_text.specs.declared.check.report.RegReport.{RegReport}
use Rattle.report_text.specs.declared.check.report.Report.{Report}

-- ---- a register's operations

-- the called operations of register r, without its initial write
abbrev pub calls_of : History → ℕ → List Operation
calls_of h r = of_register r (calls h.events)

abbrev pub is_pending : Operation → Bool
is_pending o = not o.completed

-- ---- a level

-- Whether a register keeps a level, and of the reads that break it the line of the one called first. The
-- level is defined for a single writer (Lamport, On Interprocess Communication, Part II, 1986).
abbrev pub IsVerdict : Level → List Operation → Verdict → Option ℕ → Type 0
IsVerdict level ops Yes line = HasSingleWriter ops × IsAtLevel level ops × (line ≡ None)
IsVerdict level ops No line =
    HasSingleWriter ops × ((r : Operation) × IsFirstBadRead level ops r × (line ≡ Some r.line))
IsVerdict level ops SeveralWriters line = (HasSingleWriter ops → ⊥) × (line ≡ None)

-- ---- a fault

-- the line of the operation with this name; the initial write has line 0
abbrev pub HasLine : History → Oper → ℕ → Type 0
HasLine h name line = (o : Operation) × IsNamed h name o × (line ≡ o.line)

abbrev pub HaveLines : History → (Oper × Oper) → (ℕ × ℕ) → Type 0
HaveLines h names lines = HasLine h names.0 lines.0 × HasLine h names.1 lines.1

-- the lines of a fault are those of its operations
abbrev pub ShowsFault : History → Fault → FaultLines → Type 0
ShowsFault h (fault.Unwritten read) (Unwritten r) = HasLine h read r
ShowsFault h (fault.Unwritten read) (Early r w) = ⊥
ShowsFault h (fault.Unwritten read) (Zones ws f s) = ⊥
ShowsFault h (fault.Early read write) (Unwritten r) = ⊥
ShowsFault h (fault.Early read write) (Early r w) = HasLine h read r × HasLine h write w
ShowsFault h (fault.Early read write) (Zones ws f s) = ⊥
ShowsFault h (fault.Zones writes first second) (Unwritten r) = ⊥
ShowsFault h (fault.Zones writes first second) (Early r w) = ⊥
ShowsFault h (fault.Zones writes first second) (Zones ws f s) =
    HaveLines h writes ws × HaveLines h first f × HaveLines h second s

-- the lines of the fault of a register's operations
abbrev pub IsFaultShown : History → List Operation → FaultLines → Type 0
IsFaultShown h ops lines = (f : Fault) × IsFault ops f × ShowsFault h f lines

-- ---- an inversion

-- a new-old inversion that the fault of a register's operations names, by lines
pub record IsInversionShown (h : History) (ops : List Operation) (lines : ℕ × ℕ) : Type 0 where
  pub fault : Fault
  pub is_fault : IsFault ops fault
  pub first : Operation
  pub second : Operation
  pub inversion : IsInversion ops first second
  pub named : inversion_named fault ≡ Some (name_of first, name_of second)
  pub shown : HaveLines h (name_of first, name_of second) lines

-- an inversion is shown for a register with a single writer that is regular and not atomic, and for no other
-- (Lamport, On Interprocess Communication, Part II, 1986)
abbrev pub IsInversionAnswer : History → List Operation → Bool → Verdict → Option (ℕ × ℕ) → Type 0
IsInversionAnswer h ops true regular inversion = inversion ≡ None
IsInversionAnswer h ops false Yes inversion =
    (lines : ℕ × ℕ) × IsInversionShown h ops lines × (inversion ≡ Some lines)
IsInversionAnswer h ops false No inversion = inversion ≡ None
IsInversionAnswer h ops false SeveralWriters inversion = inversion ≡ None

-- ---- an order

-- an operation that some process called, as all but the initial writes are
abbrev pub is_called : PlacedOperation → Bool
is_called x = is_some x.operation.process

-- an order without the initial writes
abbrev pub without_initial : List PlacedOperation → List PlacedOperation
without_initial placed = filter is_called placed

-- the operations by the lines of their calls
abbrev pub lines_of : List PlacedOperation → List ℕ
lines_of placed = map (λ x. x.operation.line) (without_initial placed)

-- the line of the event at a time; the event at place i has time i + 2
abbrev pub line_at : List Event → ℕ → ℕ
line_at events t = get_or (map (λ e. e.line) events) (t - 2) 0

-- the points, each by the line of the call at that time
abbrev pub points_of : List Event → List PlacedOperation → List ℕ
points_of events placed = map (λ x. line_at events x.point) (without_initial placed)

-- the canonical order of a register's operations, which is a legal one, and its points
pub record IsOrderShown (h : History) (ops : List Operation) (lines points : List ℕ) : Type 0 where
  pub order : List Operation
  pub canonical : IsCanonical ops order
  pub legal : IsLegal ops order
  pub operations : lines ≡ lines_of (placed order)
  pub times : points ≡ points_of h.events (placed order)

-- the merged order of the whole history
abbrev pub IsWholeOrderShown : History → List ℕ → Type 0
IsWholeOrderShown h lines =
    (merged : List PlacedOperation) × IsWholeOrder h merged × (lines ≡ lines_of merged)

-- ---- atomic

-- a register's operations are atomic, with a legal order and its points (Herlihy and Wing, Linearizability: A
-- Correctness Condition for Concurrent Objects, 1990), or they aren't, and the fault says why
abbrev pub IsAtomicity : History → List Operation → Bool → Option FaultLines → Option (List ℕ)
    → Option (List ℕ) → Type 0
IsAtomicity h ops true fault order points = IsAtomic ops × (fault ≡ None)
    × ((lines : List ℕ) × (times : List ℕ) × IsOrderShown h ops lines times × (order ≡ Some lines)
    × (points ≡ Some times))
IsAtomicity h ops false fault order points = (IsAtomic ops → ⊥) × (order ≡ None) × (points ≡ None)
    × ((lines : FaultLines) × IsFaultShown h ops lines × (fault ≡ Some lines))

-- the whole history is atomic, with a legal order, or it isn't
abbrev pub IsWholeAtomicity : History → Bool → Option (List ℕ) → Type 0
IsWholeAtomicity h true order =
    IsAtomic (operations h) × ((lines : List ℕ) × IsWholeOrderShown h lines × (order ≡ Some lines))
IsWholeAtomicity h false order = (IsAtomic (operations h) → ⊥) × (order ≡ None)

-- ---- the report

-- the line of register r
pub record IsRegisterReport (h : History) (r : ℕ) (reg : RegReport) : Type 0 where
  pub name : slice_get h.names r ≡ Some reg.register
  pub pending : reg.pending ≡ count_by is_pending (calls_of h r)
  pub reads : reg.reads ≡ count_by (λ o. not (is_write o)) (calls_of h r)
  pub writes : reg.writes ≡ count_by is_write (calls_of h r)
  pub safe : IsVerdict Safe (register_of h r) reg.safe reg.safe_read
  pub regular : IsVerdict Regular (register_of h r) reg.regular reg.regular_read
  pub atomic : IsAtomicity h (register_of h r) reg.atomic reg.fault reg.order reg.points
  pub inversion : IsInversionAnswer h (register_of h r) reg.atomic reg.regular reg.inversion

-- each register is atomic
abbrev pub IsEachAtomic : History → Type 0
IsEachAtomic h = (r : ℕ) → r < length h.names → IsAtomic (register_of h r)

-- the report of a history: the line of each register in the order of the first calls, and the summary
pub record IsReport (h : History) (report : Report) : Type 0 where
  pub lines : length report.regs ≡ length h.names
  pub each : (r : ℕ) (reg : RegReport) → slice_get report.regs r ≡ Some reg → IsRegisterReport h r reg
  pub called : report.operations ≡ length (calls h.events)
  pub named : report.registers ≡ length h.names
  pub atomic : IsWholeAtomicity h report.atomic report.order
