use Rattle.reg_report.specs.Merged.{AreGathered}
use Rattle.reg_report.proofs.history.orders_of.Given as goal

abbrev pub invariant-loop-finding : goal.invariant-loop-finding
invariant-loop-finding l = AreGathered l.arena l.finding-index l.operations.items
