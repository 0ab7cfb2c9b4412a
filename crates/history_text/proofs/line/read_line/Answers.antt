use Rattle.history_text.proofs.Plain.{without-cas}
use Rattle.history_text.proofs.line.read_line.Goals as goal

pub returns-clause-no_cas : goal.returns-clause-no_cas
returns-clause-no_cas c = without-cas c.args.line c.args.bytes.now

pub returns-in_err-read_event-clause-no_cas : goal.returns-in_err-read_event-clause-no_cas
returns-in_err-read_event-clause-no_cas c = without-cas c.args.line c.args.bytes.now
