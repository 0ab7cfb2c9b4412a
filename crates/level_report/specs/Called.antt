-- How many operations a register has.
use Rattle.std.specs.Prelude.{◌≡◌, ◌+◌, List, count_by, not}
use Rattle.history_model.specs.Operations.{is_write}
use Rattle.history_model.specs.declared.operation.Operation.{Operation}
use Rattle.report_text.specs.declared.level.report.CalledOperations.{CalledOperations}

-- how many operations there are of each kind; the initial write, which nobody called, isn't counted
pub record AreCalled (ops : List Operation) (c : CalledOperations) : Type 0 where
  pub reads : c.reads ≡ count_by (λ (a : Operation). not (is_write a)) ops
  pub writes : c.writes + 1 ≡ count_by is_write ops
  pub pending : c.pending ≡ count_by (λ (a : Operation). not a.completed) ops
