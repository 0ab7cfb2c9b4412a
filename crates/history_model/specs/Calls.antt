-- From events to operations, for all programs: each call that didn't fail is one, with its reply, which is
-- the next event of its process.
use Rattle.std.specs.Prelude.{ℕ, suc, ◌+◌, ◌==◌, ◌&&◌, not, cond, Bool, true, false}
use Rattle.std.specs.Prelude.{List, [], ◌∷◌, length, Option, Some, None, option_and_then}
use Rattle.history_model.specs.declared.act.Act.{Act}
use Rattle.history_model.specs.declared.operation.Operation.{Operation}

-- What of an event makes an operation: the number of its register, and what its call did, by its reply if it
-- has one.
pub record Calls (Event : Type 0) : Type 0 where
  pub line : Event → ℕ
  pub process : Event → ℕ
  pub is_call : Event → Bool
  pub is_reply : Event → Bool
  pub is_fail : Event → Bool
  pub register : Event → ℕ
  pub act : Event → Option Event → Act

module _ {Event : Type 0} (calls : Calls Event) where
  -- the first event of process p among those from time s on, with its time
  abbrev pub next_of : ℕ → ℕ → List Event → Option (ℕ × Event)
  next_of p s [] = None
  next_of p s (e ∷ es) = cond (calls.process e == p) (Some (s, e)) (next_of p (suc s) es)

  -- the next event of the process of the event e at time s, with its time
  abbrev pub next_after : ℕ → Event → List Event → Option (ℕ × Event)
  next_after s e es = next_of (calls.process e) (suc s) es

  -- the next event of a call's process, if that is its reply
  abbrev pub reply_in : Option (ℕ × Event) → Option (ℕ × Event)
  reply_in next = option_and_then (λ r. cond (calls.is_reply r.1) (Some r) None) next

  -- whether a call failed, by the next event of its process
  abbrev pub has_failed : Option (ℕ × Event) → Bool
  has_failed None = false
  has_failed (Some r) = calls.is_fail r.1

  -- whether an event begins an operation, by the next event of its process: it is a call that didn't fail
  abbrev pub begins : Event → Option (ℕ × Event) → Bool
  begins e next = calls.is_call e && not (has_failed next)

  -- the operation of the call e at time t, by its reply; n is the time of a missing reply
  abbrev pub operation : ℕ → ℕ → Event → Option (ℕ × Event) → Operation
  operation n t e None = record {
    line = calls.line e;
    call = t;
    reply = n;
    completed = false;
    process = Some (calls.process e);
    register = calls.register e;
    act = calls.act e None;
  }
  operation n t e (Some r) = record {
    line = calls.line e;
    call = t;
    reply = r.0;
    completed = true;
    process = Some (calls.process e);
    register = calls.register e;
    act = calls.act e (Some r.1);
  }

  -- the operations of the calls among events, the first of which has time s
  abbrev pub calls_from : ℕ → ℕ → List Event → List Operation
  calls_from n s [] = []
  calls_from n s (e ∷ es) =
      cond (begins e (next_after s e es)) (operation n s e (reply_in (next_after s e es))
      ∷ calls_from n (suc s) es) (calls_from n (suc s) es)

  -- the calls of a history that didn't fail, by time: event i has time i + 2,
  -- a missing reply the time after all events
  abbrev pub calls_of : List Event → List Operation
  calls_of events = calls_from (length events + 2) 2 events
