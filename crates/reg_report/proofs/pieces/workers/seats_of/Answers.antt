use Rattle.std.proofs.Common.{length, ◌∙◌, All, sym, ap, subst, arith}
use Rattle.std.proofs.lemmas.List.{length_push}
use Rattle.reg_report.specs.Pieces.Workers.{IsNewSeat, weight_of_all}
use Rattle.reg_report.proofs.PieceLemmas.Gathering.{weight-push, one-more}
use Rattle.reg_report.proofs.pieces.workers.seats_of.Goals as goal

pub loop-preserved : goal.loop-preserved
loop-preserved c =
    let l = c.loop in
    let one = c.split-one.result.0 in
    let pushed = c.in_ok-push.ensures.items in
    let boards = c.split-one.ensures.boards in
    let first = c.split-one.ensures.first in
    let second = c.split-one.ensures.second in
    let was = l.invariant.rest in
    let heavy = c.requires.count in
    record {
      rest = record {
        fits = record { here = boards.1 ∙ was.fits.here; jobs = ap (λ v. v.jobs) second ∙ was.fits.jobs };
        new = ap (λ v. v.drawn) second;
        unflagged = ap (λ v. v.flagged) second;
      };
      left =
          omega (
            arith,
            l.invariant.left,
            ap (λ v. v.weight) second,
            c.loop-test.true,
            l.auto.counter-end,
            heavy,
          );
      weight =
          omega (
            arith,
            ap weight_of_all pushed,
            weight-push l.seats.items one,
            l.invariant.weight,
            ap (λ v. v.weight) first,
            ap (λ v. v.weight) second,
            l.invariant.left,
            c.loop-test.true,
            l.auto.counter-end,
            heavy,
          );
      count = omega (arith, ap length pushed, length_push l.seats.items one, l.invariant.count);
      seats = subst (λ xs. All (IsNewSeat c.args.plan.now.tasks c.args.board.now) xs) (sym pushed)
          (one-more (IsNewSeat c.args.plan.now.tasks c.args.board.now) l.seats.items one l.invariant.seats
          (record {
            fits = record {
              here = boards.0 ∙ was.fits.here;
              jobs = ap (λ v. v.jobs) first ∙ was.fits.jobs;
            };
            new = ap (λ v. v.drawn) first ∙ was.new;
            unflagged = ap (λ v. v.flagged) first ∙ was.unflagged;
          }));
    }

pub returns-clause-weight : goal.returns-clause-weight
returns-clause-weight c =
    ap weight_of_all c.in_ok-push-2.ensures.items
    ∙ (weight-push c.loop.seats.items c.loop.rest ∙ c.loop.invariant.weight)

pub returns-clause-count : goal.returns-clause-count
returns-clause-count c =
    omega (
      arith,
      ap length c.in_ok-push-2.ensures.items,
      length_push c.loop.seats.items c.loop.rest,
      c.loop.invariant.count,
      c.loop-test.false,
      c.loop.auto.counter-end,
      c.requires.count,
    )
