use Rattle.std.proofs.Common.{◌≡◌, flat_map}
use Rattle.reg_arena.specs.Numbered.{ArePartsNumbered, lines_of, names_with}
use Rattle.reg_arena.proofs.numbering.Numbering.number_parts.Given as goal

-- the parts so far have their numbers, and the names are those with their lines
abbrev pub invariant-loop-part : goal.invariant-loop-part
invariant-loop-part l = record {
  lines : flat_map lines_of l.numbered.items ≡ flat_map (λ part. part.items) l.yielded;
  numbers : ArePartsNumbered l.fn.self l.numbered.items;
  names : l.self ≡ names_with l.fn.self (flat_map lines_of l.numbered.items);
}
