-- What a pull gave is held after the bytes before it, or why it gave none.
use Rattle.std.proofs.Common.{◌∙◌, ◌++◌, ℕ, List, inr, ap, append_assoc}
use Rattle.reg_intake.proofs.Passing.{passed-on}
use Rattle.reg_intake.proofs.Pulling.{further-behind, gives-more, no-more-after}
use Rattle.reg_intake.specs.Pulls.{GetsNoMore}
use Rattle.reg_intake.proofs.intake.Intake.fill.Goals as goal

pub loop-self-preserved : goal.loop-self-preserved
loop-self-preserved g c =
    let before = c.loop-self.invariant.held in
    let pulled = c.in_ok-pull.ensures.ok in
    record {
      held = (
        before.0 ++ pulled.0,
        record {
          given = gives-more _ _ _ _ _ _ _ _ before.0 before.1.given _ pulled.0 pulled.1;
          held =
              pulled.2 ∙ ap (λ (xs : List ℕ). xs ++ pulled.0) before.1.held
              ∙ append_assoc c.args.self.now.held before.0 pulled.0;
          line = before.1.line;
        },
      );
      further = inr (λ _. further-behind _ _ _ _ _ _ _ before.0 before.1.given c.in_ok-pull.ensures.further);
    }

pub returns-in_err-pull-clause-err : goal.returns-in_err-pull-clause-err
returns-in_err-pull-clause-err g c =
    let before = c.loop-self.invariant.held in
    let e = c.in_err-pull.field-0.0 in
    passed-on (GetsNoMore (g.S.Source.left c.args.source.now) (g.S.Source.left c.pull.new.source)
    (g.S.Source.failed c.args.source.now)
    (g.S.Source.failed c.pull.new.source) c.args.self.now.pulled c.pull.new.pulled)
    e c.from_residual.result c.from_residual.ensures.1
    (no-more-after _ _ _ _ _ _ _ _ before.0 before.1.given c.pull.new.pulled e c.in_err-pull.ensures.err)
