use Rattle.std.proofs.Common.{◌++◌, List, drop, flat_map, take}
use Rattle.history_model.specs.Refusals.{Line}
use Rattle.reg_arena.specs.Built.{IsBuilt}
use Rattle.reg_arena.specs.Numbered.{ArePartsNumbered, lines_of}
use Rattle.reg_arena.proofs.arena.Arena.with_lines.Given as goal

-- behind whatever was built before stand the lines of the parts so far, and
-- the parts that are left have their numbers
abbrev pub invariant-loop-part : goal.invariant-loop-part
invariant-loop-part l = record {
  built : (before : List Line) → IsBuilt before l.fn.self
      → IsBuilt (before ++ flat_map lines_of (take l.part-index l.fn.parts)) l.self;
  numbered : ArePartsNumbered l.self.names (drop l.part-index l.fn.parts);
}
