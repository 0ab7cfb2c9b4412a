use Rattle.std.proofs.Common.{◌≡◌, ◌∙◌, false, sym, ap, arith}
use Rattle.std.proofs.lemmas.Bool.{false≢true}
use Rattle.reg_report.specs.Pieces.Workers.{IsHandedBack, weight_back}
use Rattle.reg_report.proofs.PieceLemmas.Gathering.{back-push, first-ones, last-one, weight-with}
use Rattle.reg_report.proofs.PieceLemmas.Searching.{closed-found, search-joined}
use Rattle.reg_report.proofs.pieces.first_search.least_flagged.Goals as goal
use Rattle.reg_report.proofs.pieces.first_search.least_flagged.Goals.{then-refused, else-refused}

pub loop-worked-preserved : goal.loop-worked-preserved
loop-worked-preserved c =
    let h = c.args.arena.now in
    let plan = c.args.plan.now in
    let board = c.args.board in
    let l = c.loop-worked in
    let w = c.in-Some.worked in
    let rest = c.pop.new.self.items in
    let popped = c.in-Some.ensures.items in
    let one = last-one (IsHandedBack h plan board) l.back.items rest w popped l.invariant.back in
    let both : c.if-refused.refused ≡ false → (l.refused ≡ false) × (w.refused ≡ false) =
    λ f. elim c.if-refused.branch [
      | then-refused k ↦ absurd (false≢true (sym f ∙ (k.refused-is ∙ k.if-refused.true)))
      | else-refused k ↦ (k.if-refused.false, sym k.refused-is ∙ f)
    ] in
    record {
      back = first-ones (IsHandedBack h plan board) l.back.items rest w popped l.invariant.back;
      weight =
          omega (
            arith,
            ap (λ v. v.weight) c.joined.ensures.view,
            weight-with l.whole w.seat,
            ap weight_back popped,
            back-push rest w,
            l.invariant.weight,
          );
      whole =
          search-joined h plan c.requires.plan board l.refused w one l.whole c.joined.result
          c.if-refused.refused l.invariant.whole c.joined.ensures.board c.joined.ensures.view both;
    }

pub returns : goal.returns
returns c =
    let l = c.loop-worked in
    closed-found c.args.arena.now c.args.board l.refused l.whole _ c.args.board.jobs c.closed-least.result
    l.invariant.whole c.closed-least.ensures c.if-refused-2.false c.requires.jobs
