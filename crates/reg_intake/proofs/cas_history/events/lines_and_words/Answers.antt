-- What the iterator collects is the line of each event.
use Rattle.std.proofs.Common.{rules}
use Rattle.reg_intake.proofs.cas_history.events.lines_and_words.Goals as goal

pub returns : goal.returns
returns c = (search rules, c.in_ok-words.ensures)
