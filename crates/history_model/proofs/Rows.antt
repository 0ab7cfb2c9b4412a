-- Worked histories, computed: what is refused and what is accepted, and the operations of a small history.
use Rattle.std.proofs.Common.{◌≡◌, ℕ, ◌<◌, zero, suc, pos, codes, List, [], ◌∷◌}
use Rattle.std.proofs.Common.{Option, Some, None, Ok, Err, true, false, refl, arith}
use Rattle.history_text.specs.declared.event.Val.{Val}
use Rattle.history_text.specs.declared.event.Val.TheVariants.{Null, Int}
use Rattle.history_text.specs.declared.event.OpWord.TheVariants as word
use Rattle.history_text.specs.declared.event.Kind.{Kind}
use Rattle.history_text.specs.declared.event.Kind.TheVariants.{CallRead, CallWrite, Reply}
use Rattle.history_text.specs.declared.event.LineEvent.{LineEvent}
use Rattle.history_text.specs.declared.fault.LineKind.TheVariants.{NotJson}
use Rattle.history_model.specs.declared.act.Act.TheVariants.{Read, Write}
use Rattle.history_model.specs.Refusals.{AreAccepted, IsRefusal, IsWellFormed, refusal_at}
use Rattle.history_model.specs.History.{history_of}
use Rattle.history_model.specs.Operations.{initial_write, operations}
use Rattle.history_model.specs.declared.refusal.Reason.TheVariants.{Faulty, OpenCall, NoOpenCall}
use Rattle.history_model.specs.declared.refusal.Reason.TheVariants.{Disagreement, NoValue, WrittenBefore}

abbrev event : ℕ → ℕ → Kind → LineEvent
event line process kind = record { line = line; process = process; kind = kind }

abbrev wrote : List ℕ → ℕ → Kind
wrote name n = CallWrite name (pos n)

-- a reply that says nothing, and one that gives a value
abbrev done : Kind
done = Reply (record { op = None; register = None; value = None; ok = None })

abbrev gave : Option Val → Kind
gave v = Reply (record { op = None; register = None; value = v; ok = None })

-- ---- refusals

-- a call while the process has an open call, before a line that is torn: the first faulty line counts
twice_open : IsRefusal (Ok (event 1 1 (wrote (codes "x") 1)) ∷ Ok (event 2 1 (wrote (codes "x") 2))
    ∷ Err (record { line = 3; kind = NotJson }) ∷ []) (record { line = 2; reason = OpenCall 1 })
twice_open = record { place = 1; there = refl; least = below }
  where
    below : (i : ℕ) → i < 1
        → refusal_at (Ok (event 1 1 (wrote (codes "x") 1)) ∷ Ok (event 2 1 (wrote (codes "x") 2))
        ∷ Err (record { line = 3; kind = NotJson }) ∷ []) i ≡ None
    below zero h = refl
    below (suc i) h = absurd (omega arith)

-- a torn line before a call while one is open
torn_first : refusal_at (Ok (event 1 1 (CallRead (codes "x"))) ∷ Err (record { line = 3; kind = NotJson })
    ∷ Ok (event 4 1 (CallRead (codes "x"))) ∷ []) 1 ≡ Some (record { line = 3; reason = Faulty NotJson })
torn_first = refl

no_call : refusal_at (Ok (event 1 1 done) ∷ []) 0 ≡ Some (record { line = 1; reason = NoOpenCall })
no_call = refl

-- the open call of another process is none
no_call_of_its_own : refusal_at (Ok (event 1 1 (CallRead (codes "x"))) ∷ Ok (event 2 2 (gave (Some Null)))
    ∷ []) 1 ≡ Some (record { line = 2; reason = NoOpenCall })
no_call_of_its_own = refl

-- a reply disagrees by its value, its operation or its register
other_value : refusal_at (Ok (event 1 1 (wrote (codes "x") 5)) ∷ Ok (event 2 1 (gave (Some (Int (pos 6)))))
    ∷ []) 1 ≡ Some (record { line = 2; reason = Disagreement })
other_value = refl

other_op : refusal_at
    (Ok (event 1 1 (wrote (codes "x") 5))
    ∷ Ok (event 2 1
    (Reply (record { op = Some word.Read; register = None; value = None; ok = None }))) ∷ []) 1
    ≡ Some (record { line = 2; reason = Disagreement })
other_op = refl

-- that a read's reply has no value is the greater number
other_register : refusal_at
    (Ok (event 1 1 (CallRead (codes "x")))
    ∷ Ok (event 2 1
    (Reply (record { op = None; register = Some (codes "y"); value = None; ok = None }))) ∷ []) 1
    ≡ Some (record { line = 2; reason = Disagreement })
other_register = refl

no_value : refusal_at (Ok (event 1 1 (CallRead (codes "x"))) ∷ Ok (event 2 1 done) ∷ []) 1 ≡ Some (record {
  line = 2;
  reason = NoValue;
})
no_value = refl

-- null is a value for a read, and agrees with every write
null_read : refusal_at (Ok (event 1 1 (CallRead (codes "x"))) ∷ Ok (event 2 1 (gave (Some Null))) ∷ [])
    1 ≡ None
null_read = refl

null_for_a_write : refusal_at (Ok (event 1 1 (wrote (codes "x") 5)) ∷ Ok (event 2 1 (gave (Some Null))) ∷ [])
    1 ≡ None
null_for_a_write = refl

written_twice : refusal_at (Ok (event 1 1 (wrote (codes "x") 5)) ∷ Ok (event 2 1 done)
    ∷ Ok (event 3 1 (wrote (codes "x") 5)) ∷ []) 2 ≡ Some (record { line = 3; reason = WrittenBefore 1 })
written_twice = refl

-- of two reasons the least number
open_and_written : refusal_at (Ok (event 1 1 (wrote (codes "x") 5)) ∷ Ok (event 2 1 (wrote (codes "x") 5))
    ∷ []) 1 ≡ Some (record { line = 2; reason = OpenCall 1 })
open_and_written = refl

-- one value in two registers is accepted
two_registers : IsWellFormed (Ok (event 1 1 (wrote (codes "x") 5)) ∷ Ok (event 2 1 done)
    ∷ Ok (event 3 1 (wrote (codes "y") 5)) ∷ [])
two_registers zero = refl
two_registers (suc zero) = refl
two_registers (suc (suc zero)) = refl
two_registers (suc (suc (suc i))) = refl

-- ---- operations

-- a new value is read, and then an old one, while the write of the new one goes on
abbrev inversion : List LineEvent
inversion =
    event 1 1 (wrote (codes "x") 1) ∷ event 2 1 done ∷ event 3 1 (wrote (codes "x") 2)
    ∷ event 4 2 (CallRead (codes "x")) ∷ event 5 2 (gave (Some (Int (pos 2))))
    ∷ event 6 2 (CallRead (codes "x")) ∷ event 7 2 (gave (Some (Int (pos 1)))) ∷ event 8 1 done ∷ []

inversion_accepted : AreAccepted inversion
inversion_accepted zero = refl
inversion_accepted (suc zero) = refl
inversion_accepted (suc (suc zero)) = refl
inversion_accepted (suc (suc (suc zero))) = refl
inversion_accepted (suc (suc (suc (suc zero)))) = refl
inversion_accepted (suc (suc (suc (suc (suc zero))))) = refl
inversion_accepted (suc (suc (suc (suc (suc (suc zero)))))) = refl
inversion_accepted (suc (suc (suc (suc (suc (suc (suc zero))))))) = refl
inversion_accepted (suc (suc (suc (suc (suc (suc (suc (suc i)))))))) = refl

inversion_operations : operations (history_of inversion) ≡
    initial_write 0
    ∷ record {
      line = 1;
      call = 2;
      reply = 3;
      completed = true;
      process = Some 1;
      register = 0;
      act = Write (Int (pos 1));
    }
    ∷ record {
      line = 3;
      call = 4;
      reply = 9;
      completed = true;
      process = Some 1;
      register = 0;
      act = Write (Int (pos 2));
    }
    ∷ record {
      line = 4;
      call = 5;
      reply = 6;
      completed = true;
      process = Some 2;
      register = 0;
      act = Read (Some (Int (pos 2)));
    }
    ∷ record {
      line = 6;
      call = 7;
      reply = 8;
      completed = true;
      process = Some 2;
      register = 0;
      act = Read (Some (Int (pos 1)));
    }
    ∷ []
inversion_operations = refl

-- registers by their first calls, a pending write with its value and a pending read without one
abbrev pending : List LineEvent
pending =
    event 2 7 (wrote (codes "y") 5) ∷ event 3 8 (CallRead (codes "x")) ∷ event 5 7 done
    ∷ event 6 7 (wrote (codes "y") 6) ∷ []

pending_names : (history_of pending).names ≡ codes "y" ∷ codes "x" ∷ []
pending_names = refl

pending_operations : operations (history_of pending) ≡
    initial_write 1
    ∷ initial_write 0
    ∷ record {
      line = 2;
      call = 2;
      reply = 4;
      completed = true;
      process = Some 7;
      register = 0;
      act = Write (Int (pos 5));
    }
    ∷ record {
      line = 3;
      call = 3;
      reply = 6;
      completed = false;
      process = Some 8;
      register = 1;
      act = Read None;
    }
    ∷ record {
      line = 6;
      call = 5;
      reply = 6;
      completed = false;
      process = Some 7;
      register = 0;
      act = Write (Int (pos 6));
    }
    ∷ []
pending_operations = refl
