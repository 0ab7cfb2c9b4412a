-- A fault or none: so not atomic, or atomic.
use Rattle.std.proofs.Common.{◌↔◌, List, Result, Ok, Err, refl, IsOk, IsErr}
use Rattle.std.proofs.lemmas.Bool.{false≢true}
use Rattle.std.specs.Prelude.{IfOk, IfErr}
use Rattle.history_model.specs.Operations.{IsHistory}
use Rattle.history_model.specs.declared.operation.Operation.{Operation}
use Rattle.history_model.specs.Legal.{IsAtomic}
use Rattle.reg_zones.specs.declared.fault.Fault.{Fault}
use Rattle.reg_zones.specs.Faults.{HasNoFault, IsFault}
use Rattle.reg_zones.proofs.Exists.{decides}
use Rattle.reg_zones.proofs.OneFault.{fault_is_none}

pub refused : (ops : List Operation) (fault : Fault) (result : Result (Unit {0}) Fault) → IsHistory ops
    → IsErr result → IsFault ops fault → (IsOk result ↔ IsAtomic ops)
refused ops fault (Ok u) y e f = absurd (false≢true e)
refused ops fault (Err g) y e f =
    (λ t. absurd (false≢true t), λ a. absurd (fault_is_none ops fault f ((decides ops y).0 a)))

pub verdict : (ops : List Operation) (result : Result (Unit {0}) Fault) → IsHistory ops
    → IfOk result (λ _. HasNoFault ops) → IfErr result (λ fault. IsFault ops fault)
    → (IsOk result ↔ IsAtomic ops)
verdict ops (Ok u) y ok f = (λ _. (decides ops y).1 ok, λ _. refl)
verdict ops (Err fault) y ok f =
    (λ t. absurd (false≢true t), λ a. absurd (fault_is_none ops fault f ((decides ops y).0 a)))

pub faulty : (ops : List Operation) (fault : Fault) → IsHistory ops → IsFault ops fault
    → (IsAtomic ops → ⊥) × IsFault ops fault
faulty ops fault y f = (λ a. fault_is_none ops fault f ((decides ops y).0 a), f)
