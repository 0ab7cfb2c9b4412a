-- The object is open, and the members before `rest` have the parts that were found.
use Rattle.history_text.proofs.Joined.{Open}
use Rattle.history_text.proofs.flat_members.flat_object.Given as goal

abbrev pub invariant-loop : goal.invariant-loop
invariant-loop l = Open l.fn.operations l.text l.rest l.found
