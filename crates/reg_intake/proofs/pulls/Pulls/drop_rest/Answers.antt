-- One piece more is pulled, or why there is none.
use Rattle.std.proofs.Common.{◌++◌, take}
use Rattle.reg_intake.proofs.Passing.{passed-on}
use Rattle.reg_intake.proofs.Pulling.{gives-more, stops-after}
use Rattle.reg_intake.specs.Pulls.{StopsAt}
use Rattle.reg_intake.proofs.pulls.Pulls.drop_rest.Goals as goal

pub loop-self-preserved : goal.loop-self-preserved
loop-self-preserved g c =
    let before = c.loop-self.invariant in
    let piece = take c.in_ok-pull.field-0 c.pull.new.piece in
    (before.0 ++ piece, gives-more _ _ _ _ _ _ _ _ before.0 before.1 _ piece c.in_ok-pull.ensures.ok)

pub returns-in_err-pull-clause-err : goal.returns-in_err-pull-clause-err
returns-in_err-pull-clause-err g c =
    let before = c.loop-self.invariant in
    let e = c.in_err-pull.field-0.0 in
    passed-on (StopsAt (g.S.Source.left c.args.source.now) (g.S.Source.left c.pull.new.source)
    (g.S.Source.failed c.args.source.now) (g.S.Source.failed c.pull.new.source) c.args.self.now)
    e c.from_residual.result c.from_residual.ensures.1
    (stops-after _ _ _ _ _ _ _ _ before.0 before.1 e c.in_err-pull.ensures.err)
