use Rattle.reg_levels.proofs.GapLemmas.Showing.{conflict-shown}
use Rattle.reg_levels.proofs.gap.answer.shown.Goals as goal

pub returns-clause-shown : goal.returns-clause-shown
returns-clause-shown c = λ v w kv kw ne l m.
    conflict-shown c.args.age c.args.ops.now c.args.first.now c.args.second.now v w kv kw ne _ _
    (c.after.ensures w c.args.age kw l) (c.after-2.ensures v c.args.age kv m)
