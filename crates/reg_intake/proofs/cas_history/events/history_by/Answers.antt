-- What is listed for each register is its operations.
use Rattle.std.proofs.Common.{◌∙◌, ap, length, sym}
use Rattle.reg_intake.specs.CasHistory.Listed.{items_of}
use Rattle.reg_intake.proofs.cas_history.events.history_by.Goals as goal

pub returns : goal.returns
returns c = λ events by lists. record {
  names = c.in_ok-into_names.ensures ∙ by.names;
  count = by.whole ∙ sym (ap length c.in_ok-into_names.ensures);
  registers = λ r ops h. ap items_of (sym h) ∙ by.each r;
  operations = by.count;
  lines = lists.0;
  words = lists.1;
}
