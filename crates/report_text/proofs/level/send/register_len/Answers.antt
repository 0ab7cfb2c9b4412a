use Rattle.report_text.proofs.LevelLemmas.Counts.{register_count}
use Rattle.report_text.proofs.level.send.register_len.Goals as goal

pub returns : goal.returns
returns c =
    register_count c.args.reg.now _ _ _ _ c.first_len.ensures.fields c.second_len.ensures.fields
    c.third_len.ensures.fields
    c.last_len.ensures.fields
