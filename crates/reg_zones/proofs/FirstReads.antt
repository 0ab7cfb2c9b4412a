-- A walk by calls that meets a read without a write, or an early read, has met the first.
use Rattle.std.proofs.Common.{◌≡◌, ℕ, ◌+◌, ◌-◌, ◌≤◌, Some, None, Option, inl, inr, sym, ap, ◌∙◌, arith}
use Rattle.std.proofs.lemmas.Bool.{cases_lt, false≢true}
use Rattle.std.specs.Option.{option_or}
use Rattle.history_model.specs.declared.ids.EvId.{EvId}
use Rattle.history_model.specs.declared.ids.Oper.{Oper}
use Rattle.history_model.specs.Lists.{In}
use Rattle.history_model.specs.History.{History}
use Rattle.history_model.specs.Operations.{IsCompletedRead, of_register, operations, is_write}
use Rattle.history_model.specs.declared.operation.Operation.{Operation}
use Rattle.history_model.specs.Walking.{IsNextOf, by_register, key_at}
use Rattle.reg_zones.specs.declared.fault.Fault.TheVariants.{Unwritten}
use Rattle.reg_zones.specs.Faults.{IsEarly, IsFault}
use Rattle.reg_zones.proofs.Known.{IsKnown}
use Rattle.reg_zones.specs.Sweep.{AreWritten, IsUnwrittenAt, IsEarlyAt, IsEarlyFound}
use Rattle.reg_zones.proofs.Registers.{cases_process, event-key}
use Rattle.reg_zones.proofs.Walks.{IsWalk, IsPassed, walk-more}

-- of the early reads that are called behind a walk, the one called first, with its write; or there is none
abbrev pub IsEarlySoFar : History → ℕ → Option (Oper × Oper) → Option EvId → Type 0
IsEarlySoFar h r None next =
    IsWalk h.events r (λ i. IsEarlyAt (of_register r (operations h)) (i + 2) None) next
IsEarlySoFar h r (Some pair) next = IsEarlyFound (of_register r (operations h)) (Some pair)

module _ (h : History) (r : ℕ) (y : IsKnown h r) where
  -- the call of a completed read is an event
  read-call : (a : Operation) → In a (of_register r (operations h)) → IsCompletedRead a → 2 ≤ a.call
  read-call a k d = elim (cases_process a.process) [
    | inl n ↦ absurd (false≢true (sym d.read ∙ ap (λ (x : Operation). is_write x) (y.history.initial a k n)))
    | inr p ↦ y.history.called a p.0 k p.1
  ]

  read-key : (a : Operation) → In a (of_register r (operations h)) → IsCompletedRead a
      → key_at by_register h.events (a.call - 2) ≡ Some r
  read-key a k d = let l = read-call a k d in event-key h r y (a.call - 2) a k (inl (omega arith))

  -- what a walk has shown of each read that is called behind it
  behind : (Q : ℕ → Type 0) (next : Option EvId) (a : Operation) → IsWalk h.events r Q next
      → In a (of_register r (operations h)) → IsCompletedRead a → IsPassed (a.call - 2) next → Q (a.call - 2)
  behind Q next a w k d p = w.behind (a.call - 2) (read-key a k d) p

  pub all_written : IsWalk h.events r (λ i. IsUnwrittenAt (of_register r (operations h)) (i + 2) None) None
      → AreWritten (of_register r (operations h))
  all_written w a k d =
      let l = read-call a k d in
      behind (λ i. IsUnwrittenAt (of_register r (operations h)) (i + 2) None) None a w k d tt a k d
      (omega arith)

  pub first_unwritten : (id : EvId) (read : Oper)
      → IsWalk h.events r (λ i. IsUnwrittenAt (of_register r (operations h)) (i + 2) None) (Some id)
      → IsUnwrittenAt (of_register r (operations h)) (id.0 + 2) (Some read)
      → IsFault (of_register r (operations h)) (Unwritten read)
  first_unwritten id read w f = (
    f.0,
    record {
      fault = f.1;
      first = λ b u. elim (cases_lt b.call f.0.call) [
        | inr l ↦ l
        | inl l ↦
            let m = read-call b u.within u.read in
            let q =
            behind (λ i. IsUnwrittenAt (of_register r (operations h)) (i + 2) None)
            (Some id) b w u.within u.read (omega (arith, f.2)) b u.within u.read (omega arith) in
            absurd (u.unwritten q.0 q.1 q.2 q.3)
      ];
    },
    f.3,
  )

  early-read : (a w : Operation) → IsEarly (of_register r (operations h)) a w → IsCompletedRead a
  early-read a w e = record { read = e.read.read; completed = e.read.completed }

  -- an early read that is called behind a walk which has met none
  early-behind : (next : Option EvId) (a u : Operation)
      → IsWalk h.events r (λ i. IsEarlyAt (of_register r (operations h)) (i + 2) None) next
      → IsEarly (of_register r (operations h)) a u → IsPassed (a.call - 2) next → ⊥
  early-behind next a u w e p =
      let d = early-read a u e in
      let l = read-call a e.within d in
      behind (λ i. IsEarlyAt (of_register r (operations h)) (i + 2) None) next a w e.within d p a u e
      (omega arith)

  -- what the walk has shown once it has met one more event
  pub early-more : (early here : Option (Oper × Oper)) (id : EvId) (next : Option EvId)
      → IsEarlySoFar h r early (Some id) → IsEarlyAt (of_register r (operations h)) (id.0 + 2) here
      → IsNextOf by_register h.events id.0 next → IsEarlySoFar h r (option_or early here) next
  early-more (Some pair) here id next w q n = w
  early-more None None id next w q n =
      walk-more h.events r (λ i. IsEarlyAt (of_register r (operations h)) (i + 2) None) id next w q n
  early-more None (Some pair) id next w q n = (
    q.0,
    q.1,
    q.2,
    λ b u e. elim (cases_lt b.call q.0.call) [
      | inr l ↦ l
      | inl l ↦ let m = read-call b e.within (early-read b u e) in
          absurd (early-behind (Some id) b u w e (omega (arith, q.3)))
    ],
    q.4,
    q.5,
  )

  pub early-over : (early : Option (Oper × Oper)) → IsEarlySoFar h r early None
      → IsEarlyFound (of_register r (operations h)) early
  early-over None w = λ a u e. early-behind None a u w e tt
  early-over (Some pair) w = w
