use Rattle.std.proofs.Common.{◌≡◌, Ok, Err}
use Rattle.std.specs.Prelude.{IfOk, Result}
use Rattle.std.specs.declared.alloc.AllocError.{AllocError}
use Rattle.history_model.specs.History.{History, history_of}
use Rattle.std.proofs.Common.{[]}
use Rattle.reg_arena.specs.Built.{IsBuilt}
use Rattle.reg_arena.proofs.Reading.{nothing-built}
use Rattle.reg_arena.proofs.arena.Arena.empty.Goals as goal

pub returns-clause-built : goal.returns-clause-built
returns-clause-built c = go c.new-2.result c.new-2.ensures
  where
    go : (r : Result History AllocError) → IfOk r (λ a. a ≡ history_of []) → IfOk r (IsBuilt [])
    go (Ok a) h = nothing-built a h
    go (Err e) h = tt
