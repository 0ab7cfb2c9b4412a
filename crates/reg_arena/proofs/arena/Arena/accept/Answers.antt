use Rattle.std.proofs.Common.{sym, ◌∙◌}
use Rattle.reg_arena.proofs.arena.Arena.accept.Goals as goal

pub returns-in-None-clause-taken : goal.returns-in-None-clause-taken
returns-in-None-clause-taken c = record {
  recorded = c.stays_recorded.ensures;
  free = λ es acc q. sym (c.requires es acc q) ∙ c.in-None.is;
}

pub returns-in-Some-clause-refused : goal.returns-in-Some-clause-refused
returns-in-Some-clause-refused c = λ es acc q. sym (c.requires es acc q) ∙ c.in-Some.is
