-- A whole history's operations by their places.
use Rattle.std.proofs.Common.{◌≡◌, ℕ, zero, suc, ◌<◌, List, [], ◌∷◌, slice_get, Some, None, inl, inr, refl}
use Rattle.std.proofs.Common.{sym, ap}
use Rattle.std.proofs.Common.{◌∙◌, arith}
use Rattle.history_model.specs.Lists.{In, Before}
use Rattle.history_model.specs.Operations.{IsWrite, initial_write, is_write, of_register}
use Rattle.history_model.specs.declared.operation.Operation.{Operation}
use Rattle.history_model.proofs.Lists.{slice_get-In}
use Rattle.history_model.proofs.Recorded.{In-of_register}
use Rattle.level_laws.specs.Causal.{IsSource, IsWhole}
use Rattle.causal_order.specs.SessionClocks.Sessions.{IsAt}

pub at-In : (ops : List Operation) (p : ℕ) (a : Operation) → IsAt ops p a → In a ops
at-In ops p a h = slice_get-In ops p a h

pub In-at : {X : Type 0} (xs : List X) (a : X) → In a xs → (p : ℕ) × (slice_get xs p ≡ Some a)
In-at [] a h = absurd h
In-at (x ∷ xs) a (inl e) = (zero, ap Some (sym e))
In-at (x ∷ xs) a (inr h) = let r = In-at xs a h in (suc r.0, r.1)

pub at-Before : {X : Type 0} (xs : List X) (i j : ℕ) (a b : X) → i < j → slice_get xs i ≡ Some a
    → slice_get xs j ≡ Some b → Before a b xs
at-Before [] i j a b l h k = absurd (cc h)
at-Before (x ∷ xs) i zero a b l h k = absurd (omega arith)
at-Before (x ∷ xs) zero (suc j) a b l h k = inl (cc h, slice_get-In xs j b k)
at-Before (x ∷ xs) (suc i) (suc j) a b l h k = inr (at-Before xs i j a b (omega arith) h k)

-- ---- of one register

pub In-register : (ops : List Operation) (a : Operation) → In a ops → In a (of_register a.register ops)
In-register ops a i = In-of_register a.register ops a i refl

-- what nobody called is the initial write
pub initial-is : (ops : List Operation) → IsWhole ops → (a : Operation) → In a ops → a.process ≡ None
    → a ≡ initial_write a.register
initial-is ops w a i p = (w.each a.register).initial a (In-register ops a i) p

pub initial-write : (ops : List Operation) → IsWhole ops → (a : Operation) → In a ops → a.process ≡ None
    → IsWrite a
initial-write ops w a i p = ap is_write (initial-is ops w a i p)

-- one value of a register has one write
pub source-one : (ops : List Operation) → IsWhole ops → (v w r : Operation) → In v ops → In w ops
    → IsSource v r
    → IsSource w r → v ≡ w
source-one ops whole v w r i j s t =
    let k : In w (of_register v.register ops) =
    In-of_register v.register ops w j (t.register ∙ sym s.register) in
    (whole.each v.register).values v w (In-register ops v i) k s.write t.write
    (sym s.read.value ∙ t.read.value)
