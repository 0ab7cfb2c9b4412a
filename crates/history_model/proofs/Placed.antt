-- Points lie between call and reply, and never fall.
use Rattle.std.proofs.Common.{◌≡◌, ℕ, ◌<◌, ◌≤◌, List, [], ◌∷◌, max}
use Rattle.std.proofs.Common.{◌⊎◌, inl, inr, refl, sym, ap, subst, arith}
use Rattle.std.proofs.lemmas.Bool.{cases_lt}
use Rattle.history_model.specs.Lists.{In, Before}
use Rattle.history_model.proofs.Lists.{In-map, Before-first}
use Rattle.history_model.specs.declared.operation.Operation.{Operation}
use Rattle.history_model.specs.Legal.{IsLegal}
use Rattle.history_model.specs.Operations.{AreTimed, IsHistory}
use Rattle.history_model.specs.Placed.{IsWithinLife, PlacedOperation, placed_from, placed, operations_of}

operations_of-placed_from : (n : ℕ) (xs : List Operation) → operations_of (placed_from n xs) ≡ xs
operations_of-placed_from n [] = refl
operations_of-placed_from n (a ∷ xs) = ap (λ ys. a ∷ ys) (operations_of-placed_from (max n a.call) xs)

pub operations_of-placed : (xs : List Operation) → operations_of (placed xs) ≡ xs
operations_of-placed xs = operations_of-placed_from 0 xs

above : (n : ℕ) (xs : List Operation) (x : PlacedOperation) → In x (placed_from n xs) → n ≤ x.point
above n [] x h = elim h [ ]
above n (a ∷ xs) x (inl e) = omega (arith, ap (λ (z : PlacedOperation). z.point) e)
above n (a ∷ xs) x (inr h) = omega (arith, above (max n a.call) xs x h)

rising_from : (n : ℕ) (xs : List Operation) (x y : PlacedOperation) → Before x y (placed_from n xs)
    → x.point ≤ y.point
rising_from n [] x y h = elim h [ ]
rising_from n (a ∷ xs) x y (inl h) =
    omega (arith, ap (λ (z : PlacedOperation). z.point) h.0, above (max n a.call) xs y h.1)
rising_from n (a ∷ xs) x y (inr h) = rising_from (max n a.call) xs x y h

pub rising : (xs : List Operation) (x y : PlacedOperation) → Before x y (placed xs) → x.point ≤ y.point
rising xs x y h = rising_from 0 xs x y h

from_call : (n : ℕ) (xs : List Operation) (x : PlacedOperation) → In x (placed_from n xs)
    → x.operation.call ≤ x.point
from_call n [] x h = elim h [ ]
from_call n (a ∷ xs) x (inl e) =
    omega (arith, ap (λ (z : PlacedOperation). z.point) e, ap (λ (z : PlacedOperation). z.operation.call) e)
from_call n (a ∷ xs) x (inr h) = from_call (max n a.call) xs x h

pub after_call : (xs : List Operation) (x : PlacedOperation) → In x (placed xs) → x.operation.call ≤ x.point
after_call xs x i = from_call 0 xs x i

-- a point is a call of an operation that stands no later
pub reached : (n : ℕ) (xs : List Operation) (x : PlacedOperation) → In x (placed_from n xs)
    → (x.point ≡ n) ⊎ ((b : Operation) × (x.point ≡ b.call) × ((b ≡ x.operation) ⊎ Before b x.operation xs))
reached n [] x h = elim h [ ]
reached n (a ∷ xs) x (inl e) = elim (cases_lt n a.call) [
  | inl l ↦ inr (
    a,
    omega (arith, ap (λ (z : PlacedOperation). z.point) e),
    inl (sym (ap (λ (z : PlacedOperation). z.operation) e)),
  )
  | inr l ↦ inl (omega (arith, ap (λ (z : PlacedOperation). z.point) e))
]
reached n (a ∷ xs) x (inr h) = elim (reached (max n a.call) xs x h) [
  | inl e ↦ elim (cases_lt n a.call) [
    | inl l ↦ inr (
      a,
      omega arith,
      inr (inl (
        refl,
        subst (In x.operation) (operations_of-placed_from (max n a.call) xs)
            (In-map (λ (z : PlacedOperation). z.operation) x _ h),
      )),
    )
    | inr l ↦ inl (omega arith)
  ]
  | inr r ↦ inr (r.0, r.1, elim r.2 [ inl e ↦ inl e | inr b ↦ inr (inr b) ])
]

pub placed-In : (xs : List Operation) (x : PlacedOperation) → In x (placed xs) → In x.operation xs
placed-In xs x h =
    subst (In x.operation) (operations_of-placed xs) (In-map (λ (z : PlacedOperation). z.operation) x _ h)

-- in a legal order of one register
pub before_reply : (ops order : List Operation) → AreTimed ops → IsLegal ops order → (x : PlacedOperation)
    → In x (placed order) → x.point < x.operation.reply
before_reply ops order y l x i =
    let j = l.completion.only x.operation (placed-In order x i) in
    let lives = y.life x.operation j in
    elim (reached 0 order x i) [
      | inl z ↦ omega arith
      | inr r ↦ elim r.2 [
        | inl z ↦ omega (arith, r.1, ap (λ (z : Operation). z.call) z)
        | inr b ↦ elim (cases_lt x.operation.reply r.0.call) [
          | inl p ↦ absurd (l.keeps r.0 x.operation b p)
          | inr p ↦ elim (cases_lt r.0.call x.operation.reply) [
            | inl q ↦ omega (arith, r.1)
            | inr q ↦ absurd
                (y.apart x.operation r.0 j (l.completion.only r.0 (Before-first r.0 x.operation order b))
                (omega arith))
          ]
        ]
      ]
    ]

pub within_life : (ops order : List Operation) → AreTimed ops → IsLegal ops order → (x : PlacedOperation)
    → In x (placed order) → IsWithinLife x
within_life ops order y l x i = record {
  called = after_call order x i;
  unreplied = before_reply ops order y l x i;
}

pub history-timed : (ops : List Operation) → IsHistory ops → AreTimed ops
history-timed ops y = record { life = y.life; apart = y.apart }
