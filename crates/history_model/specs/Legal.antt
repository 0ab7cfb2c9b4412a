-- Atomic: some order of the operations, pending ones completed or dropped, keeps precedence and lets each
-- operation meet a value that suits it.
use Rattle.std.specs.Prelude.{◌≡◌, ◌⊎◌, ◌<◌, ◌≤◌, ◌+◌, ℕ, false, List, None, Some, IsSomeAnd}
use Rattle.history_model.specs.Lists.{In, Before}
use Rattle.history_model.specs.Acts.{Suits, given_by}
use Rattle.history_model.specs.Operations.{Precedes, IsWrite, IsCompleted, IsAsking, is_write, value_of}
use Rattle.history_model.specs.declared.guarantee.Guarantee.{Guarantee}
use Rattle.history_model.specs.declared.guarantee.Guarantee.TheVariants.{Atomic, Session, OwnWrites}
use Rattle.history_model.specs.declared.guarantee.Guarantee.TheVariants.{Monotonic, Sequential, Within}
use Rattle.history_model.specs.declared.operation.Operation.{Operation}

-- A completion of the operations, in some order: each operation once, no other, and each completed one.
-- Pending ones are there by choice: a cas without an outcome is there if it took place, and one whose outcome
-- is known by a later reply (see `Cut`) did what that says (Herlihy and Wing, Linearizability: A Correctness
-- Condition for Concurrent Objects, 1990, section 2.2).
pub record IsCompletion (ops order : List Operation) : Type 0 where
  pub once : (a : Operation) → Before a a order → ⊥
  pub only : (a : Operation) → In a order → In a ops
  pub all : (a : Operation) → In a ops → IsCompleted a → In a order

-- w is the nearest write of r's register before r in the order; a cas that took place is a write too
pub record IsNearestWrite (order : List Operation) (w r : Operation) : Type 0 where
  pub write : IsWrite w
  pub register : w.register ≡ r.register
  pub before : Before w r order
  pub nearest : (v : Operation) → IsWrite v → v.register ≡ r.register → Before w v order
      → Before v r order → ⊥

-- r meets a value that suits it: the one that the nearest write before it gave
abbrev pub IsMet : List Operation → Operation → Type 0
IsMet order r = (w : Operation) × IsNearestWrite order w r × IsSomeAnd (given_by w.act) (Suits r.act)

-- a comes before b in a session: one process called both, a first; what nobody called, the initial write,
-- comes before all that somebody called (a session is a process: Terry, Demers, Petersen, Spreitzer, Theimer
-- and Welch, Session Guarantees for Weakly Consistent Replicated Data, 1994)
abbrev pub IsBeforeInSession : Operation → Operation → Type 0
IsBeforeInSession a b =
    ((p : ℕ) × (a.process ≡ Some p) × (b.process ≡ Some p) × (a.call < b.call))
    ⊎ ((a.process ≡ None) × ((p : ℕ) × (b.process ≡ Some p)))

-- a has to come before b in an order that gives the guarantee (this project's own frame for the
-- definitions of others, which `Guarantee` names)
abbrev pub MustKeep : Guarantee → Operation → Operation → Type 0
MustKeep Atomic a b = Precedes a b
MustKeep Session a b = Precedes a b × (IsWrite b ⊎ IsBeforeInSession a b)
MustKeep OwnWrites a b = Precedes a b × (IsWrite b ⊎ (IsBeforeInSession a b × IsWrite a))
MustKeep Monotonic a b = Precedes a b × (IsWrite b ⊎ (IsBeforeInSession a b × (is_write a ≡ false)))
MustKeep Sequential a b = Precedes a b × IsBeforeInSession a b
MustKeep (Within age) a b = Precedes a b × (IsWrite b ⊎ (a.reply + age ≤ b.call))

-- A legal order of a completion: no operation stands after one that it must come before, and each that asks
-- something of the value meets one that suits it (Herlihy and Wing, 1990, section 2.2, for the sequential
-- specification of a register; with cas this project's own). The initial writes are among the operations, or
-- no read of null is met. A pending read in the order carries no condition: it may be given any value.
pub record IsLegalFor (guarantee : Guarantee) (ops order : List Operation) : Type 0 where
  pub completion : IsCompletion ops order
  pub keeps : (a b : Operation) → Before a b order → MustKeep guarantee b a → ⊥
  pub met : (r : Operation) → In r order → IsAsking r → IsMet order r

abbrev pub IsLegal : List Operation → List Operation → Type 0
IsLegal ops order = IsLegalFor Atomic ops order

-- some completion of the operations, of one register or of a whole history, has a legal order that gives it
abbrev pub HasOrderFor : Guarantee → List Operation → Type 0
HasOrderFor guarantee ops = (order : List Operation) × IsLegalFor guarantee ops order

abbrev pub IsAtomic : List Operation → Type 0
IsAtomic ops = HasOrderFor Atomic ops

-- r gives the value of the nearest write before it
abbrev pub HasLatest : List Operation → Operation → Type 0
HasLatest order r = (w : Operation) × IsNearestWrite order w r × (value_of w ≡ value_of r)
