-- The registers of the tests are those of histories.
use Rattle.std.proofs.Common.{ℕ, List, [], ◌∷◌, Some, pos, true, false, refl}
use Rattle.history_text.specs.declared.event.Val.TheVariants.{Int, Null}
use Rattle.history_model.specs.declared.act.Act.{Act}
use Rattle.history_model.specs.declared.act.Act.TheVariants.{Read, Write}
use Rattle.history_model.specs.Operations.{IsHistory, initial_write}
use Rattle.history_model.specs.declared.operation.Operation.{Operation}
use Rattle.reg_levels.specs.Clusters.Places.{IsByCall}
use Rattle.program_tests.proofs.ReglevelLemmas.Spelled.{spelled-by_call, spelled-history}

-- a completed operation by its line, its call, its reply and its session
abbrev completed : ℕ → ℕ → ℕ → ℕ → Act → Operation
completed line call reply process act = record {
  line = line;
  call = call;
  reply = reply;
  completed = true;
  process = Some process;
  register = 0;
  act = act;
}

abbrev came_back-called : List Operation
came_back-called =
    record {
      line = 1;
      call = 2;
      reply = 10;
      completed = false;
      process = Some 1;
      register = 0;
      act = Write (Int (pos 1));
    } ∷
    completed 3 4 5 2 (Read (Some (Int (pos 1)))) ∷
    completed 5 6 7 3 (Write (Int (pos 2))) ∷
    completed 7 8 9 3 (Read (Some (Int (pos 1)))) ∷ []

pub came_back-history : IsHistory (initial_write 0 ∷ came_back-called)
came_back-history = spelled-history 0 came_back-called refl

pub came_back-by_call : IsByCall (initial_write 0 ∷ came_back-called)
came_back-by_call = spelled-by_call 0 came_back-called refl

abbrev went_back-called : List Operation
went_back-called =
    completed 1 2 3 1 (Write (Int (pos 1))) ∷
    completed 3 4 5 2 (Write (Int (pos 2))) ∷
    completed 5 6 7 3 (Read (Some (Int (pos 2)))) ∷
    completed 7 8 9 3 (Read (Some (Int (pos 1)))) ∷ []

pub went_back-history : IsHistory (initial_write 0 ∷ went_back-called)
went_back-history = spelled-history 0 went_back-called refl

pub went_back-by_call : IsByCall (initial_write 0 ∷ went_back-called)
went_back-by_call = spelled-by_call 0 went_back-called refl

abbrev one_guarantee_each-called : List Operation
one_guarantee_each-called =
    completed 1 2 4 1 (Write (Int (pos 1))) ∷
    completed 2 3 5 2 (Write (Int (pos 2))) ∷
    completed 5 6 7 1 (Read (Some (Int (pos 2)))) ∷
    completed 7 8 9 3 (Read (Some (Int (pos 2)))) ∷
    completed 9 10 11 3 (Read (Some (Int (pos 1)))) ∷ []

pub one_guarantee_each-history : IsHistory (initial_write 0 ∷ one_guarantee_each-called)
one_guarantee_each-history = spelled-history 0 one_guarantee_each-called refl

pub one_guarantee_each-by_call : IsByCall (initial_write 0 ∷ one_guarantee_each-called)
one_guarantee_each-by_call = spelled-by_call 0 one_guarantee_each-called refl

abbrev read_too_soon-called : List Operation
read_too_soon-called =
    completed 1 2 3 1 (Read (Some (Int (pos 1)))) ∷
    completed 3 4 5 2 (Write (Int (pos 1))) ∷ []

pub read_too_soon-history : IsHistory (initial_write 0 ∷ read_too_soon-called)
read_too_soon-history = spelled-history 0 read_too_soon-called refl

pub read_too_soon-by_call : IsByCall (initial_write 0 ∷ read_too_soon-called)
read_too_soon-by_call = spelled-by_call 0 read_too_soon-called refl

abbrev stale_read-called : List Operation
stale_read-called =
    completed 1 2 3 1 (Write (Int (pos 1))) ∷
    completed 3 4 5 2 (Read (Some Null)) ∷ []

pub stale_read-history : IsHistory (initial_write 0 ∷ stale_read-called)
stale_read-history = spelled-history 0 stale_read-called refl

pub stale_read-by_call : IsByCall (initial_write 0 ∷ stale_read-called)
stale_read-by_call = spelled-by_call 0 stale_read-called refl

abbrev unwritten-called : List Operation
unwritten-called =
    completed 1 2 3 1 (Read (Some Null)) ∷
    completed 3 4 5 1 (Read (Some (Int (pos 9)))) ∷ []

pub unwritten-history : IsHistory (initial_write 0 ∷ unwritten-called)
unwritten-history = spelled-history 0 unwritten-called refl

pub unwritten-by_call : IsByCall (initial_write 0 ∷ unwritten-called)
unwritten-by_call = spelled-by_call 0 unwritten-called refl
