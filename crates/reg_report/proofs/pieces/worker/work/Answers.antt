use Rattle.std.proofs.Common.{◌≡◌, ◌<◌, ◌∙◌, ℕ, false, Vec, Global, sym, ap, subst, arith}
use Rattle.std.specs.Result.{is_err}
use Rattle.job_board.specs.Numbers.{times}
use Rattle.job_board.specs.Seats.{SeatValue}
use Rattle.job_board.specs.declared.view.View.{View}
use Rattle.reg_report.specs.declared.pieces.piece.Piece.{Piece}
use Rattle.reg_report.proofs.PieceLemmas.Putting.{on_success}
use Rattle.reg_report.proofs.PieceLemmas.Working.{IsWorking, first-plan, lacks-drawn}
use Rattle.reg_report.proofs.PieceLemmas.Working.{whole-plan, working-done, working-looked}
use Rattle.reg_report.proofs.pieces.worker.work.Goals as goal
use Rattle.reg_report.proofs.pieces.worker.work.Goals.{then-is_first, else-is_first}
use Rattle.job_board.proofs.Lacking.{drawn_there}

pub do_register-added-requires-clause-drawn : goal.do_register-added-requires-clause-drawn
do_register-added-requires-clause-drawn g c =
    let n = c.in-Some.number in
    subst (λ (v : View). 0 < times n v.drawn) (sym c.in-Some.ensures.some.3)
    (drawn_there n c.loop-number.seat.view.drawn)

pub loop-number-smaller : goal.loop-number-smaller
loop-number-smaller g c =
    let old = c.loop-number.seat.view in
    let some = c.in-Some.ensures.some in
    let lacks = lacks-drawn old c.if-is_first.seat.view c.in-Some.number some.1 some.2 in
    elim c.if-is_first.branch [
      | then-is_first w ↦
          let kept = w.do_register-added.ensures.seat in
          lacks (ap (λ (s : SeatValue). s.view.jobs) w.seat-is
          ∙ (kept.jobs ∙ ap (λ (v : View). v.jobs) some.3))
          (ap (λ (s : SeatValue). s.view.drawn) w.seat-is
          ∙ (kept.drawn ∙ ap (λ (v : View). v.drawn) some.3))
      | else-is_first w ↦ lacks (ap (λ (s : SeatValue). s.view.jobs) w.seat-is
          ∙ ap (λ (v : View). v.jobs) some.3) (ap (λ (s : SeatValue). s.view.drawn) w.seat-is
          ∙ ap (λ (v : View). v.drawn) some.3)
    ]

pub loop-number-preserved : goal.loop-number-preserved
loop-number-preserved g c =
    let h = c.args.arena.now in
    let plan = c.args.plan.now in
    let given = c.args.seat in
    let l = c.loop-number in
    let n = c.in-Some.number in
    let some = c.in-Some.ensures.some in
    let succeeded : is_err c.if-is_first.added ≡ false = sym c.is_err.ensures.value ∙ c.if-is_err.false in
    elim c.if-is_first.branch [
      | then-is_first w ↦
          let call = w.do_register-added in
          let added = on_success call.result call.ensures.ok (ap is_err (sym w.added-is) ∙ succeeded) in
          let first = first-plan h plan c.requires.plan (sym c.is_first.ensures ∙ w.if-is_first.true) in
          let working =
          working-looked h plan given l.seat c.draw.new.seat n l.done.items call.new.done.items
          l.invariant.working c.in-Some.ensures.board some.3 call.new.seat first (omega (
            arith,
            some.1,
            l.invariant.working.jobs,
            c.requires.seat.jobs,
          )) call.ensures.seat added in
          record {
            working =
                subst (λ (s : SeatValue). IsWorking h plan given s c.if-is_first.done.items) (sym w.seat-is)
                (subst (λ (v : Vec (ℕ × Piece) Global). IsWorking h plan given call.new.seat v.items)
                (sym w.done-is) working);
            kept = rw w.kept-is l.invariant.kept;
          }
      | else-is_first w ↦
          let call = w.do_piece-added in
          let added = on_success call.result call.ensures.ok (ap is_err (sym w.added-is) ∙ succeeded) in
          let whole = sym c.is_first.ensures ∙ w.if-is_first.false in
          let working =
          working-done h plan given l.seat c.draw.new.seat n l.done.items call.new.done.items
          l.invariant.working
          c.in-Some.ensures.board some.3 (whole-plan h plan c.requires.plan whole) whole added in
          record {
            working =
                subst (λ (s : SeatValue). IsWorking h plan given s c.if-is_first.done.items) (sym w.seat-is)
                (subst (λ (v : Vec (ℕ × Piece) Global). IsWorking h plan given c.draw.new.seat v.items)
                (sym w.done-is) working);
            kept = rw w.kept-is call.ensures.kept;
          }
    ]
