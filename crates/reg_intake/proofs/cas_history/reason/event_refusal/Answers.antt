-- The last of the reasons is joined to none in the definition, and to nothing in the code.
use Rattle.history_model.proofs.Lists.{option_or-none}
use Rattle.reg_intake.proofs.cas_history.reason.event_refusal.Goals as goal

pub returns : goal.returns
returns c = let last = option_or-none c.reply_tells_wrong.result in cc
