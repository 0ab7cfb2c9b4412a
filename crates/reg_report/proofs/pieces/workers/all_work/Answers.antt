use Rattle.std.proofs.Common.{◌≡◌, ◌<◌, ◌∙◌, ℕ, All, Some, length, slice_get}
use Rattle.std.proofs.Common.{slice_index_or, subst, sym, ap, arith}
use Rattle.std.proofs.lemmas.Option.{get_or_from_slice_get, slice_get_within}
use Rattle.job_board.specs.Seats.{SeatValue}
use Rattle.reg_report.specs.Pieces.Workers.{IsHandedBack, IsNewSeat, weight_back, weight_of_all}
use Rattle.reg_report.specs.declared.pieces.worker.Worked.{Worked}
use Rattle.reg_report.proofs.PieceLemmas.Gathering.{back-of, ok-both, same-weights}
use Rattle.reg_report.proofs.pieces.workers.all_work.Goals as goal

pub returns-clause-back : goal.returns-clause-back
returns-clause-back g c =
    let h = c.args.arena.now in
    let plan = c.args.plan.now in
    let board = c.args.board.now in
    ok-both (λ v. length v.items ≡ length c.args.seats.items) _ (λ back.
    All (IsHandedBack h plan board) back.items) c.map_jobs.result
    (λ back len each. λ k d l.
    let inside : k < length c.args.seats.items = omega (arith, l, len) in
    let j = (each k d inside).1 in
    back-of h plan board j.job (slice_index_or back.items k d)
    (subst (IsNewSeat plan.tasks board) (j.job_is j.job) (c.requires.seats k j.job inside)) j.call.met)
    c.map_jobs.ensures.count c.map_jobs.ensures.each

pub returns-clause-weight : goal.returns-clause-weight
returns-clause-weight g c =
    ok-both (λ v. length v.items ≡ length c.args.seats.items) _ (λ back.
    weight_back back.items ≡ weight_of_all c.args.seats.items) c.map_jobs.result
    (λ back len each.
    let weight : (i : ℕ) (s : SeatValue) (w : Worked) → slice_get c.args.seats.items i ≡ Some s
    → slice_get back.items i ≡ Some w → w.seat.view.weight ≡ s.view.weight =
    λ i s w at there.
    let j = (each i w (slice_get_within c.args.seats.items i s at)).1 in
    let seat = sym (j.job_is s) ∙ get_or_from_slice_get c.args.seats.items i s s at in
    let same = get_or_from_slice_get back.items i w w there in
    sym (ap (λ (x : Worked). x.seat.view.weight) same)
    ∙ (j.call.met.weight ∙ ap (λ (x : SeatValue). x.view.weight) seat) in
    same-weights c.args.seats.items back.items len weight)
    c.map_jobs.ensures.count c.map_jobs.ensures.each
