-- Worked histories with cas, computed: why an event is refused, and the operations of a small history.
use Rattle.std.proofs.Common.{◌≡◌, ℕ, pos, codes, List, [], ◌∷◌, Bool, true, false, Option, Some, None, refl}
use Rattle.std.proofs.Common.{option_map}
use Rattle.history_text.specs.declared.event.Val.{Val}
use Rattle.history_text.specs.declared.event.Val.TheVariants.{Null, Int}
use Rattle.history_text.specs.declared.event.AnyEvent.{AnyEvent}
use Rattle.history_text.specs.declared.event.AnyKind.{AnyKind}
use Rattle.history_text.specs.declared.event.AnyKind.TheVariants.{Plain, CallOther}
use Rattle.history_text.specs.declared.event.OtherCall.TheVariants as other
use Rattle.history_text.specs.declared.event.Kind.TheVariants.{CallRead, CallWrite, Reply, Fail, Crash}
use Rattle.history_text.specs.declared.event.OpWord.TheVariants as word
use Rattle.history_model.specs.declared.act.Act.{Act}
use Rattle.history_model.specs.declared.act.Act.TheVariants.{Read, Cas, Miss}
use Rattle.history_model.specs.declared.operation.Operation.{Operation}
use Rattle.reg_intake.specs.CasHistory.History.{calls_of, register_names}
use Rattle.history_model.specs.Table.{refusal_after}
use Rattle.history_model.specs.declared.refusal.Reason.{Reason}
use Rattle.reg_intake.specs.CasHistory.Refusals.{any_rules, event_refusal}
use Rattle.history_model.specs.declared.refusal.Reason.TheVariants.{OpenCall, NoOpenCall, Disagreement}
use Rattle.history_model.specs.declared.refusal.Reason.TheVariants.{NoValue, TooMany, AfterCrash, NoOk}

abbrev event : ℕ → ℕ → AnyKind → AnyEvent
event line process kind = record { line = line; process = process; kind = kind }

abbrev swap : List ℕ → Val → ℕ → AnyKind
swap name from to = CallOther name (other.Cas from (pos to))

abbrev read : List ℕ → AnyKind
read name = Plain (CallRead name)

-- replies that say nothing but `ok`, or nothing but a value
abbrev said : Option Bool → AnyKind
said ok = Plain (Reply (record { op = None; register = None; value = None; ok = ok }))

abbrev gave : Val → AnyKind
gave value = Plain (Reply (record { op = None; register = None; value = Some value; ok = None }))

abbrev failed : AnyKind
failed = Plain (Fail (record { op = None; register = None; value = None; ok = None }))

-- ---- reasons

abbrev event_reason : ℕ → Option AnyEvent → AnyEvent → Option Reason
event_reason count last e = option_map (λ r. r.reason) (refusal_after any_rules count last e [])

-- a cas's reply that doesn't say whether the cas took place; behind a write's or a read's call `ok` doesn't
-- count
no_ok : event_reason 1 (Some (event 1 1 (swap (codes "x") Null 1))) (event 2 1 (said None)) ≡ Some NoOk
no_ok = refl

missed : event_reason 1 (Some (event 1 1 (swap (codes "x") Null 1))) (event 2 1 (said (Some false))) ≡ None
missed = refl

write_without_ok : event_reason 1 (Some (event 1 1 (Plain (CallWrite (codes "x") (pos 1)))))
    (event 2 1 (said None)) ≡ None
write_without_ok = refl

-- of two reasons the least number: the value 7 disagrees with a cas, and there is no `ok`
value_before_ok : event_reason 1 (Some (event 1 1 (swap (codes "x") Null 1)))
    (event 2 1 (gave (Int (pos 7))))
    ≡ Some Disagreement
value_before_ok = refl

-- a reply to a cas may give the value null, and name its operation and its register
null_and_names : event_reason 1 (Some (event 1 1 (swap (codes "x") Null 1)))
    (event 2 1 (Plain (Reply (record {
      op = Some word.Cas;
      register = Some (codes "x");
      value = Some Null;
      ok = Some true;
    })))) ≡ None
null_and_names = refl

other_word : event_reason 1 (Some (event 1 1 (swap (codes "x") Null 1)))
    (event 2 1 (Plain (Fail (record { op = Some word.Write; register = None; value = None; ok = None }))))
    ≡ Some Disagreement
other_word = refl

no_value : event_reason 1 (Some (event 1 1 (read (codes "x")))) (event 2 1 (said (Some true))) ≡ Some NoValue
no_value = refl

twice_open : event_reason 1 (Some (event 1 1 (read (codes "x")))) (event 2 1 (swap (codes "x") Null 1))
    ≡ Some (OpenCall 1)
twice_open = refl

not_open : event_reason 2 (Some (event 2 1 (said (Some true)))) (event 3 1 failed) ≡ Some NoOpenCall
not_open = refl

-- a reply behind a crash lacks no open call; past the limit the lesser number stands
crashed : event_reason 2 (Some (event 2 1 (Plain Crash))) (event 3 1 (said (Some true)))
    ≡ Some (AfterCrash 2)
crashed = refl

past_the_limit : event_reason 1048576 (Some (event 2 1 (Plain Crash)))
    (event 3 1 (read (codes "x"))) ≡ Some TooMany
past_the_limit = refl

-- the events of other processes don't count
another_process : event_refusal (event 1 1 (read (codes "x")) ∷ []) (event 2 2 (read (codes "x"))) ≡ None
another_process = refl

-- ---- operations

-- a cas that took place, one that missed, one that failed, and one
-- without a reply; a read of what the first gave
abbrev small : List AnyEvent
small =
    event 1 1 (swap (codes "y") Null 1) ∷ event 2 2 (swap (codes "y") Null 2) ∷ event 3 1 (said (Some true))
    ∷ event 4 3 (swap (codes "x") Null 3) ∷ event 5 2 (said (Some false)) ∷ event 6 3 failed
    ∷ event 7 2 (swap (codes "y") (Int (pos 1)) 4) ∷ event 8 1 (read (codes "y"))
    ∷ event 9 1 (gave (Int (pos 1))) ∷ []

small_names : register_names small ≡ codes "y" ∷ codes "x" ∷ []
small_names = refl

abbrev called : ℕ → ℕ → ℕ → Bool → ℕ → Act → Operation
called line call reply completed process act = record {
  line = line;
  call = call;
  reply = reply;
  completed = completed;
  process = Some process;
  register = 0;
  act = act;
}

abbrev done : ℕ → ℕ → ℕ → ℕ → Act → Operation
done line call reply process act = called line call reply true process act

-- nine events have the times 2 to 10, so a missing reply has time 11
small_calls : calls_of small 0 ≡ done 1 2 4 1 (Cas Null (Int (pos 1))) ∷ done 2 3 6 2 (Miss Null)
    ∷ called 7 8 11 false 2 (Cas (Int (pos 1)) (Int (pos 4))) ∷ done 8 9 10 1 (Read (Some (Int (pos 1))))
    ∷ []
small_calls = refl

failed_left_out : calls_of small 1 ≡ []
failed_left_out = refl
