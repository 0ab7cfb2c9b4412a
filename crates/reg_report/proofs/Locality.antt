-- A history is atomic exactly if each of its registers is.
use Rattle.std.proofs.Common.{ℕ, ◌<◌, ◌≤◌, length, List, [], ◌↔◌, arith}
use Rattle.history_model.specs.Lists.{In}
use Rattle.history_model.specs.History.{History}
use Rattle.history_model.specs.Operations.{IsHistory, of_register, operations, register_of}
use Rattle.history_model.specs.declared.operation.Operation.{Operation}
use Rattle.history_model.specs.Legal.{IsLegal, IsAtomic}
use Rattle.history_model.proofs.Locality.{each_decides}
use Rattle.history_model.proofs.Placed.{history-timed}
use Rattle.history_model.proofs.Recorded.{of_register-In}

pub each : (ops : List Operation) → ((r : ℕ) → IsHistory (of_register r ops))
    → (IsAtomic ops ↔ ((r : ℕ) → IsAtomic (of_register r ops)))
each ops y = each_decides ops (λ r. history-timed (of_register r ops) (y r))

-- a register that isn't there has no operation, and so a legal order
pub nothing_legal : (h : History) (r : ℕ)
    → ((o : Operation) → In o (operations h) → o.register < length h.names) → length h.names ≤ r
    → IsLegal (register_of h r) []
nothing_legal h r numbered l = record {
  completion = record {
    once = λ o b. absurd b;
    only = λ o i. absurd i;
    all =
        λ o i d. let k =
        of_register-In r (operations h) o i in absurd (omega (arith, numbered o k.0, k.1, l));
  };
  keeps = λ o p b. absurd b;
  met = λ o i. absurd i;
}

pub nothing_atomic : (h : History) (r : ℕ)
    → ((o : Operation) → In o (operations h) → o.register < length h.names) → length h.names ≤ r
    → IsAtomic (register_of h r)
nothing_atomic h r numbered l = ([], nothing_legal h r numbered l)
