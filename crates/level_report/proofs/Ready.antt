-- The operations of a register of an accepted history are what the floors below ask for.
use Rattle.std.proofs.Common.{◌≡◌, ℕ, suc, ◌+◌, ◌<◌, ◌≤◌, inl, inr, List, ◌∷◌, length, cond}
use Rattle.std.proofs.Common.{sym, ap, subst, arith, count_by, drop}
use Rattle.std.proofs.lemmas.List.Sums.{count_by-le-length, length-filter, sum_by-cons}
use Rattle.history_text.specs.declared.limits.TheConstants.{MAX_EVENTS}
use Rattle.history_model.specs.History.{History, IsRecorded}
use Rattle.history_model.specs.Lists.{In, Before}
use Rattle.history_model.specs.Operations.{calls, initial_write, is_of, is_write, next_of, of_register}
use Rattle.history_model.specs.Operations.{operation, register_of, reply_in}
use Rattle.history_model.specs.declared.event.Event.{Event}
use Rattle.history_model.specs.declared.operation.Operation.{Operation}
use Rattle.history_model.proofs.Recorded.{accepted-history, of_register-In}
use Rattle.history_model.proofs.Walking.{calls-few, is-called, operation-call}
use Rattle.reg_lamport.proofs.Calls.{calls-ascend}
use Rattle.level_report.specs.Shown.{AreReady}
use Rattle.level_report.proofs.Listing.{register-of}

-- a call comes after the initial write's
called-later : (es : List Event) (r : ℕ) (b : Operation) → In b (of_register r (calls es)) → 0 < b.call
called-later es r b i =
    let there = is-called (length es + 2) 2 es b (of_register-In r (calls es) b i).0 in
    let n = length es + 2 in
    let k = there.0 in
    let next = next_of there.1.process (suc (2 + k)) (drop (suc k) es) in
    let made : b.call ≡ (operation n (2 + k) there.1 (reply_in next)).call =
    ap (λ (o : Operation). o.call) there.2.2 in
    let call = operation-call n (2 + k) there.1 (reply_in next) in
    omega (arith, made, call)

by-call : (es : List Event) (r : ℕ) (a b : Operation) → Before a b (initial_write r ∷ of_register r (calls
    es))
    → a.call < b.call
by-call es r a b (inl h) =
    let later = called-later es r b h.1 in
    let first = ap (λ (o : Operation). o.call) h.0 in
    omega (arith, later, first)
by-call es r a b (inr h) = calls-ascend es r a b h

pub ready : (h : History) → IsRecorded h → (r : ℕ) → r < length h.names → length h.events ≤ MAX_EVENTS
    → AreReady (register_of h r)
ready h rec r below few = record {
  history = accepted-history h rec r;
  by_call = λ a b i. by-call h.events r a b (subst (Before a b) is i);
  few = (let size = ap length is in
      let part = length-filter (is_of r) (calls h.events) in
      let most = count_by-le-length (is_of r) (calls h.events) in
      let all = calls-few (length h.events + 2) 2 h.events in
      omega (arith, size, part, most, all, few));
  initial = subst (λ ops. 0 < count_by is_write ops) (sym is)
      (let first = sum_by-cons (λ (a : Operation). cond (is_write a) 1 0) (initial_write r)
      (of_register r (calls h.events)) in omega (arith, first));
}
  where
    is : register_of h r ≡ initial_write r ∷ of_register r (calls h.events)
    is = register-of h r below
