use Rattle.std.proofs.Common.{◌≡◌, ◌++◌, List, drop, take}
use Rattle.history_model.specs.Refusals.{Line}
use Rattle.reg_arena.specs.Built.{IsBuilt}
use Rattle.reg_arena.specs.Numbered.{AreNumbered, lines_of, names_with}
use Rattle.reg_arena.proofs.arena.Arena.add_lines.Given as goal

-- behind whatever was built before stand the lines so far, and the lines that are left have their numbers
abbrev pub invariant-loop-place : goal.invariant-loop-place
invariant-loop-place l = record {
  built : (before : List Line) → IsBuilt before l.fn.self
      → IsBuilt (before ++ take l.place (lines_of l.fn.part)) l.self;
  numbered : AreNumbered l.self.names (drop l.place (lines_of l.fn.part))
      (drop l.place l.fn.part.numbers.items);
  names : names_with l.self.names (drop l.place (lines_of l.fn.part))
      ≡ names_with l.fn.self.names (lines_of l.fn.part);
}
