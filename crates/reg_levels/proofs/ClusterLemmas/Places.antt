-- Operations and their places.
use Rattle.std.proofs.Common.{◌≡◌, ℕ, zero, suc, ◌<◌, List, [], ◌∷◌, length, slice_get, Some, None}
use Rattle.std.proofs.Common.{inl, inr, refl, sym, ap, ◌∙◌, arith, true, false, get_or}
use Rattle.history_model.specs.declared.act.Act.TheVariants.{Read}
use Rattle.std.proofs.lemmas.Bool.{cases_order}
use Rattle.history_model.specs.Acts.{is_plain}
use Rattle.history_model.specs.Lists.{In, Before}
use Rattle.history_model.specs.Operations.{IsHistory}
use Rattle.history_model.proofs.Lists.{slice_get-In}
use Rattle.history_model.specs.declared.operation.Operation.{Operation}
use Rattle.reg_levels.specs.Clusters.Places.{IsAt, IsByCall}

pub at-In : (ops : List Operation) (p : ℕ) (a : Operation) → IsAt ops p a → In a ops
at-In ops p a h = slice_get-In ops p a h

pub at-below : (ops : List Operation) (p : ℕ) (a : Operation) → IsAt ops p a → p < length ops
at-below [] p a h = absurd (cc h)
at-below (x ∷ xs) zero a h = omega arith
at-below (x ∷ xs) (suc p) a h = omega (arith, at-below xs p a h)

pub In-at : (ops : List Operation) (a : Operation) → In a ops → (p : ℕ) × IsAt ops p a
In-at [] a h = absurd h
In-at (x ∷ xs) a (inl e) = (zero, ap Some (sym e))
In-at (x ∷ xs) a (inr h) = let r = In-at xs a h in (suc r.0, r.1)

at-Before : (ops : List Operation) (i j : ℕ) (a b : Operation) → i < j → IsAt ops i a → IsAt ops j b
    → Before a b ops
at-Before [] i j a b l h k = absurd (cc h)
at-Before (x ∷ xs) zero zero a b l h k = absurd (omega arith)
at-Before (x ∷ xs) zero (suc j) a b l h k = inl (cc h, at-In xs j b k)
at-Before (x ∷ xs) (suc i) zero a b l h k = absurd (omega arith)
at-Before (x ∷ xs) (suc i) (suc j) a b l h k = inr (at-Before xs i j a b (omega arith) h k)

-- by the calls, places ascend as calls do
pub calls_ascend : (ops : List Operation) → IsByCall ops → (i j : ℕ) (a b : Operation) → i < j → IsAt ops i a
    → IsAt ops j b → a.call < b.call
calls_ascend ops y i j a b l h k = y a b (at-Before ops i j a b l h k)

pub places_ascend : (ops : List Operation) → IsByCall ops → (i j : ℕ) (a b : Operation) → IsAt ops i a
    → IsAt ops j b → a.call < b.call → i < j
places_ascend ops y i j a b h k l = elim (cases_order i j) [
  | inl e ↦ let s : Some a ≡ Some b = sym h ∙ (ap (slice_get ops) e ∙ k) in
      let q : a ≡ b = cc s in let c = ap (λ (x : Operation). x.call) q in absurd (omega arith)
  | inr o ↦ elim o [
    | inl m ↦ m
    | inr m ↦ let c = calls_ascend ops y j i b a m k h in absurd (omega arith)
  ]
]

-- one operation stands at one place
pub at-same : (ops : List Operation) → IsByCall ops → (i j : ℕ) (a : Operation) → IsAt ops i a → IsAt ops j a
    → i ≡ j
at-same ops y i j a h k = elim (cases_order i j) [
  | inl e ↦ e
  | inr o ↦ elim o [
    | inl m ↦ let c = calls_ascend ops y i j a a m h k in absurd (omega arith)
    | inr m ↦ let c = calls_ascend ops y j i a a m k h in absurd (omega arith)
  ]
]

-- ---- what code reads at a place

-- what is read past the end, which never happens
abbrev pub nothing : Operation
nothing = record {
  line = 0;
  call = 0;
  reply = 0;
  completed = false;
  process = None;
  register = 0;
  act = Read None;
}

pub at-get : (ops : List Operation) (p : ℕ) → p < length ops → IsAt ops p (get_or ops p nothing)
at-get [] p l = absurd (omega arith)
at-get (x ∷ xs) zero l = refl
at-get (x ∷ xs) (suc p) l = at-get xs p (omega arith)

pub at-is : (ops : List Operation) (p : ℕ) (a : Operation) → IsAt ops p a → get_or ops p nothing ≡ a
at-is [] p a h = absurd (cc h)
at-is (x ∷ xs) zero a h = cc h
at-is (x ∷ xs) (suc p) a h = at-is xs p a h

-- it is a read or a write
pub plain-get : (ops : List Operation) → IsHistory ops → (p : ℕ) → p < length ops
    → is_plain (get_or ops p nothing).act ≡ true
plain-get ops y p l = y.plain (get_or ops p nothing) (at-In ops p (get_or ops p nothing) (at-get ops p l))
