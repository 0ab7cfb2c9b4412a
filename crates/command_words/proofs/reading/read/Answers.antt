-- What `clap` promises of a simple command.
use Rattle.clap.proofs.WalkLemmas.{both}
use Rattle.command_words.specs.Words.{IsFaultless, IsTaken}
use Rattle.command_words.proofs.reading.read.Goals as goal

pub returns-in-Ok-clause-rows : goal.returns-in-Ok-clause-rows
returns-in-Ok-clause-rows c = (c.in-Ok.ensures.matches (both _ _ c.requires).0).0

pub returns-in-Ok-clause-faultless : goal.returns-in-Ok-clause-faultless
unfolding IsFaultless
returns-in-Ok-clause-faultless c = c.in-Ok.ensures.kinds c.requires

pub returns-in-Err-clause-taken : goal.returns-in-Err-clause-taken
unfolding IsTaken
returns-in-Err-clause-taken c = λ taken. c.fault.ensures (c.in-Err.ensures.passes taken)
