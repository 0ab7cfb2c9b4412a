-- What a report says of a whole history, whose operations are `ops`: whether it is causal, and why, by lines.
use Rattle.std.specs.Global.{Global}
use Rattle.std.specs.Prelude.{◌≡◌, ◌⊎◌, ℕ, Bool, true, false, List, [], ◌∷◌, ◌++◌, map, Option, None, Some}
use Rattle.std.specs.Prelude.{Vec}
use Rattle.history_model.specs.declared.operation.Operation.{Operation}
use Rattle.level_laws.specs.Causal.{IsCausal, IsCausalOrder, IsWay}
use Rattle.level_laws.specs.CausalFault.{CausalFault, IsCausalFault, Reason, Step, first_of}
use Rattle.level_laws.specs.CausalFault.CausalFault.{unwritten, cycle}
use Rattle.level_laws.specs.CausalFault.Reason.{process, read, initial, hidden}
use Rattle.causal_order.specs.Decisions.{IsBeyond}
use Rattle.report_text.specs.declared.level.causal.CausalFaultLines.{CausalFaultLines}
use Rattle.report_text.specs.declared.level.causal.CausalFaultLines.TheVariants.{Unwritten, Cycle}
use Rattle.report_text.specs.declared.level.causal.CausalLines.{CausalLines}
use Rattle.report_text.specs.declared.level.causal.CausalVerdict.{CausalVerdict}
use Rattle.report_text.specs.declared.level.causal.CausalVerdict.TheVariants.{Yes, No, Unknown}
use Rattle.report_text.specs.declared.level.causal.StepLines.{StepLines}
use Rattle.report_text.specs.declared.level.causal.StepReason.TheVariants as shown
use Rattle.level_report.specs.Guarantees.{lines_of}

-- ---- why it isn't

-- the operations by which r knew of a, both among them; they may be left out
abbrev pub IsWayShown : List Operation → Operation → Operation → Option (Vec ℕ Global) → Type 0
IsWayShown ops a r None = Unit {0}
IsWayShown ops a r (Some lines) =
    (way : List Operation) × IsWay ops a way r
    × (lines.items ≡ map (λ (b : Operation). b.line) (a ∷ (way ++ r ∷ [])))

-- a step from a shows its reason
abbrev pub IsReasonShown : List Operation → Operation → Reason → StepLines → Type 0
IsReasonShown ops a process step = (step.why ≡ shown.Process) × (step.read ≡ None) × (step.knew ≡ None)
IsReasonShown ops a read step = (step.why ≡ shown.Read) × (step.read ≡ None) × (step.knew ≡ None)
IsReasonShown ops a initial step = (step.why ≡ shown.Initial) × (step.read ≡ None) × (step.knew ≡ None)
IsReasonShown ops a (hidden r) step =
    (step.why ≡ shown.Hidden) × (step.read ≡ Some r.line) × IsWayShown ops a r step.knew

-- the steps by lines, the last of which leads to b
abbrev pub AreStepsShown : List Operation → List Step → Operation → List StepLines → Type 0
AreStepsShown ops [] b [] = Unit {0}
AreStepsShown ops [] b (lines ∷ rest) = ⊥
AreStepsShown ops (step ∷ steps) b [] = ⊥
AreStepsShown ops (step ∷ steps) b (lines ∷ rest) =
    (lines.from ≡ step.from.line) × (lines.to ≡ (first_of steps b).line)
    × IsReasonShown ops step.from step.why lines × AreStepsShown ops steps b rest

-- the steps of a cycle
abbrev pub IsCycleShown : List Operation → List Step → List StepLines → Type 0
IsCycleShown ops [] lines = ⊥
IsCycleShown ops (step ∷ steps) lines = AreStepsShown ops (step ∷ steps) step.from lines

abbrev pub ShowsCausalFault : List Operation → CausalFault → CausalFaultLines → Type 0
ShowsCausalFault ops (unwritten r) (Unwritten line) = line ≡ r.line
ShowsCausalFault ops (unwritten r) (Cycle lines) = ⊥
ShowsCausalFault ops (cycle steps) (Unwritten line) = ⊥
ShowsCausalFault ops (cycle steps) (Cycle lines) = IsCycleShown ops steps lines.items

-- a fault, by lines
abbrev pub IsCausalFaultShown : List Operation → CausalFaultLines → Type 0
IsCausalFaultShown ops lines =
    (fault : CausalFault) × IsCausalFault ops fault × ShowsCausalFault ops fault lines

-- ---- the answer

-- a causal order, by the lines of its writes without the initial ones, if it is asked for
abbrev pub IsCausalOrderShown : List Operation → Bool → Option (Vec ℕ Global) → Type 0
IsCausalOrderShown ops false shown = shown ≡ None
IsCausalOrderShown ops true shown =
    (lines : Vec ℕ Global) × (shown ≡ Some lines)
    × ((order : List Operation) × IsCausalOrder ops order × (lines.items ≡ lines_of order))

-- an order is there if it is asked for, unless there are many sessions and operations
abbrev pub IsCausalOrderFor : List Operation → Bool → Option (Vec ℕ Global) → Type 0
IsCausalOrderFor ops orders shown = IsCausalOrderShown ops orders shown ⊎ ((shown ≡ None) × IsBeyond ops)

-- yes, with an order; no, with a fault; or unknown, only if there are many sessions and operations
abbrev pub IsCausalAnswer : List Operation → Bool → CausalVerdict → CausalLines → Type 0
IsCausalAnswer ops orders Yes c = IsCausal ops × (c.fault ≡ None) × IsCausalOrderFor ops orders c.order
IsCausalAnswer ops orders No c =
    (IsCausal ops → ⊥) × (c.order ≡ None)
    × ((lines : CausalFaultLines) × (c.fault ≡ Some lines) × IsCausalFaultShown ops lines)
IsCausalAnswer ops orders Unknown c = IsBeyond ops × (c.fault ≡ None) × (c.order ≡ None)

abbrev pub IsCausalSaid : List Operation → Bool → CausalLines → Type 0
IsCausalSaid ops orders c = IsCausalAnswer ops orders c.verdict c
