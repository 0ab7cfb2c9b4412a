use Rattle.level_laws.proofs.Weaker.{atomic-session, atomic-within, session-own_writes, session-monotonic}
use Rattle.level_laws.proofs.Weaker.{session-sequential, within-longer, within-atomic}
use Rattle.level_laws.proofs.laws.weaker_follow.Goals as goal

pub returns-clause-session : goal.returns-clause-session
returns-clause-session c ops o = atomic-session ops o

pub returns-clause-own_writes : goal.returns-clause-own_writes
returns-clause-own_writes c ops o = session-own_writes ops o

pub returns-clause-monotonic : goal.returns-clause-monotonic
returns-clause-monotonic c ops o = session-monotonic ops o

pub returns-clause-sequential : goal.returns-clause-sequential
returns-clause-sequential c ops o = session-sequential ops o

pub returns-clause-within : goal.returns-clause-within
returns-clause-within c ops age o = atomic-within ops age o

pub returns-clause-older : goal.returns-clause-older
returns-clause-older c ops age more le o = within-longer ops age more le o

pub returns-clause-atomic : goal.returns-clause-atomic
returns-clause-atomic c ops age le = within-atomic ops age le
