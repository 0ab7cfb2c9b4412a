use Rattle.reg_levels.proofs.CountLemmas.OneWriter.{monotonic-decided, own-decided, session-decided}
use Rattle.reg_levels.proofs.CountLemmas.Regular.{atomic-decided, from-lamport, to-lamport}
use Rattle.reg_levels.proofs.counts.laws.one_writer_decides.Goals as goal

pub returns-clause-regular : goal.returns-clause-regular
returns-clause-regular c = λ ops y s.
    let turns = c.single_writer_takes_turns.ensures ops y s in (
      to-lamport ops y turns,
      from-lamport ops y
          turns,
    )

pub returns-clause-atomic : goal.returns-clause-atomic
returns-clause-atomic c = λ ops y s. atomic-decided ops y (c.single_writer_takes_turns.ensures ops y s)

pub returns-clause-own_writes : goal.returns-clause-own_writes
returns-clause-own_writes c = λ ops y s. own-decided ops y (c.single_writer_takes_turns.ensures ops y s)

pub returns-clause-monotonic : goal.returns-clause-monotonic
returns-clause-monotonic c = λ ops y s. monotonic-decided ops y (c.single_writer_takes_turns.ensures ops y s)

pub returns-clause-session : goal.returns-clause-session
returns-clause-session c = λ ops y s. session-decided ops y (c.single_writer_takes_turns.ensures ops y s)
