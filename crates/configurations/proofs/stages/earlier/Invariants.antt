use Rattle.std.proofs.Common.{[]}
use Rattle.configurations.specs.Reached.{IsReached}
use Rattle.configurations.specs.Runs.{AreInOrder}
use Rattle.configurations.proofs.stages.earlier.Given as goal

abbrev pub invariant-loop-stage : goal.invariant-loop-stage
invariant-loop-stage g l = AreInOrder l.ops [] l.events → IsReached l.ops l.events l.found
