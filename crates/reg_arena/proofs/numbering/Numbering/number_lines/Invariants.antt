use Rattle.std.proofs.Common.{◌≡◌, take}
use Rattle.reg_arena.specs.Numbered.{AreNumbered, names_with}
use Rattle.reg_arena.proofs.numbering.Numbering.number_lines.Given as goal

-- the lines so far have their numbers, and the names are those with these lines
abbrev pub invariant-loop-line : goal.invariant-loop-line
invariant-loop-line l = record {
  numbers : AreNumbered l.fn.self (take l.line-index l.line-items) l.numbers.items;
  names : l.self ≡ names_with l.fn.self (take l.line-index l.line-items);
}
