use Rattle.std.proofs.Common.{◌≡◌, ◌+◌, All, length}
use Rattle.reg_report.specs.Pieces.Workers.{IsNewSeat, weight_of_all}
use Rattle.reg_report.proofs.pieces.workers.seats_of.Given as goal

abbrev pub invariant-loop : goal.invariant-loop
invariant-loop l = record {
  rest : IsNewSeat l.plan.tasks l.board l.rest;
  left : l.rest.view.weight + l.counter ≡ l.fn.seat.view.weight + 1;
  weight : weight_of_all l.seats.items + l.rest.view.weight ≡ l.fn.seat.view.weight;
  count : length l.seats.items + 1 ≡ l.counter;
  seats : All (IsNewSeat l.plan.tasks l.board) l.seats.items;
}
