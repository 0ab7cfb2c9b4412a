-- The numbers of integers are a numbering, and with one more they still are.
use Rattle.std.proofs.Common.{◌≡◌, ℕ, ◌+◌, ℤ, cond, Bool, true, false, Some}
use Rattle.std.proofs.Common.{None, ◌⊎◌, inl, inr, refl, sym, ap, ◌∙◌, arith}
use Rattle.std.specs.Ordering.{int_eq}
use Rattle.std.proofs.lemmas.Bool.Decides.{Decides-int_eq}
use Rattle.history_text.specs.declared.event.Val.{Val}
use Rattle.history_text.specs.declared.event.Val.TheVariants.{Null, Int}
use Rattle.register_search.specs.declared.numbered.TheConstants.{NOTHING}
use Rattle.register_search.specs.declared.value_numbers.ValueNumbers.{ValueNumbers}
use Rattle.register_search.specs.ValueNumbers.{number_at}
use Rattle.register_search.specs.ByNumbers.{IsNumbering, number_in, AreNumbers, IsMore}

-- ---- one more

-- the next number is given to an integer that has none
module _ (old new : ValueNumbers) (q : ℤ) (n : ℕ) (none : number_at old q ≡ None)
    (next : n ≡ old.next) (more : new.next ≡ old.next + 1)
    (is : (p : ℤ) → number_at new p ≡ cond (int_eq q p) (Some n) (number_at old p)) where
  -- an integer has the new number, or the number that it had
  after : (p : ℤ) (k : ℕ) → number_at new p ≡ Some k → ((q ≡ p) × (n ≡ k)) ⊎ (number_at old p ≡ Some k)
  after p k h = go (int_eq q p) refl (sym (is p) ∙ h)
    where
      go : (b : Bool) → int_eq q p ≡ b → cond b (Some n) (number_at old p) ≡ Some k
          → ((q ≡ p) × (n ≡ k)) ⊎ (number_at old p ≡ Some k)
      go true e h = inl ((Decides-int_eq q p).0 e, cc (h))
      go false e h = inr h

  before : (p : ℤ) (k : ℕ) → number_at old p ≡ Some k → number_at new p ≡ Some k
  before p k h = go (int_eq q p) refl (is p)
    where
      go : (b : Bool) → int_eq q p ≡ b → number_at new p ≡ cond b (Some n) (number_at old p)
          → number_at new p ≡ Some k
      go true e f =
          let same : q ≡ p = (Decides-int_eq q p).0 e in
          absurd (let z = sym none ∙ (ap (number_at old) same ∙ h) in cc (z))
      go false e f = f ∙ h

  numbers : AreNumbers old → AreNumbers new
  numbers a = record {
    above = λ p k h. elim (after p k h) [
      | inl e ↦ let first = a.next in omega (arith, e.1)
      | inr f ↦ a.above p k f
    ];
    below = λ p k h. elim (after p k h) [
      | inl e ↦ omega (arith, e.1)
      | inr f ↦ let le = a.below p k f in omega arith
    ];
    next = let first = a.next in omega arith;
    apart = λ p r k h i. elim (after p k h) [
      | inl e ↦ elim (after r k i) [
        | inl f ↦ sym e.0 ∙ f.0
        | inr f ↦ absurd (let le = a.below r k f in omega (arith, e.1))
      ]
      | inr e ↦ elim (after r k i) [
        | inl f ↦ absurd (let le = a.below p k e in omega (arith, f.1))
        | inr f ↦ a.apart p r k e f
      ]
    ];
  }

  kept : (v : Val) (k : ℕ) → number_in old v ≡ Some k → number_in new v ≡ Some k
  kept Null k h = h
  kept (Int p) k h = before p k h

  pub one-more : IsMore old new
  one-more = record { numbers = numbers; kept = kept }

-- ---- none yet

pub none-yet : (m : ValueNumbers) → ((q : ℤ) → number_at m q ≡ None) → m.next ≡ NOTHING + 1 → AreNumbers m
none-yet m none first = record {
  above = λ n k h. absurd (lost n k h);
  below = λ n k h. absurd (lost n k h);
  next = omega (arith, first);
  apart = λ n p k h i. absurd (lost n k h);
}
  where
    lost : (n : ℤ) (k : ℕ) → number_at m n ≡ Some k → ⊥
    lost n k h = let z = sym (none n) ∙ h in cc (z)

-- ---- as a numbering

pub numbering : (m : ValueNumbers) → AreNumbers m → IsNumbering (number_in m)
numbering m a = record { null = refl; nothing = nothing; apart = apart }
  where
    nothing : (v : Val) → number_in m v ≡ Some NOTHING → ⊥
    nothing Null h = cc (h)
    nothing (Int n) h = let lt = a.above n NOTHING h in omega arith

    apart : (v w : Val) (k : ℕ) → number_in m v ≡ Some k → number_in m w ≡ Some k → v ≡ w
    apart Null Null k h i = refl
    apart Null (Int n) k h i = absurd (let z : 0 ≡ k = cc (h) in let lt = a.above n k i in omega arith)
    apart (Int n) Null k h i = absurd (let z : 0 ≡ k = cc (i) in let lt = a.above n k h in omega arith)
    apart (Int m) (Int n) k h i = ap Int (a.apart m n k h i)
