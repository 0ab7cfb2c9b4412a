-- Operations by ascending call.
use Rattle.std.proofs.Common.{◌≡◌, ℕ, zero, suc, ◌<◌, ◌≤◌, cond, Bool, true, false, List, [], ◌∷◌}
use Rattle.std.proofs.Common.{slice_get, Option, Some, None, inl, inr, sym, ap, ◌∙◌, arith}
use Rattle.std.specs.List.{filter}
use Rattle.history_model.specs.Lists.{In}
use Rattle.history_model.proofs.Lists.{slice_get-In}
use Rattle.history_model.specs.declared.operation.Operation.{Operation}
use Rattle.history_model.specs.Calls.{Calls, begins, calls_from, next_after, operation, reply_in}

-- each is called later than the one before it, and the first not before n
abbrev pub Ascends : ℕ → List Operation → Type 0
Ascends n [] = Unit {0}
Ascends n (a ∷ ops) = (n ≤ a.call) × Ascends (suc a.call) ops

weaker : (m n : ℕ) (ops : List Operation) → m ≤ n → Ascends n ops → Ascends m ops
weaker m n [] l h = tt
weaker m n (a ∷ ops) l h = (omega (arith, l, h.0), h.1)

pub not_before : (n : ℕ) (ops : List Operation) → Ascends n ops → (a : Operation) → In a ops → n ≤ a.call
not_before n [] h a i = absurd i
not_before n (b ∷ ops) h a (inl q) = omega (arith, h.0, ap (λ (z : Operation). z.call) q)
not_before n (b ∷ ops) h a (inr i) = omega (arith, h.0, not_before (suc b.call) ops h.1 a i)

-- two operations with one call are one
pub same-call : (n : ℕ) (ops : List Operation) → Ascends n ops → (a b : Operation) → In a ops → In b ops
    → a.call ≡ b.call → a ≡ b
same-call n [] h a b i j q = absurd i
same-call n (x ∷ ops) h a b (inl i) (inl j) q = i ∙ sym j
same-call n (x ∷ ops) h a b (inl i) (inr j) q =
    absurd (omega (arith, q, ap (λ (z : Operation). z.call) i, not_before (suc x.call) ops h.1 b j))
same-call n (x ∷ ops) h a b (inr i) (inl j) q =
    absurd (omega (arith, q, ap (λ (z : Operation). z.call) j, not_before (suc x.call) ops h.1 a i))
same-call n (x ∷ ops) h a b (inr i) (inr j) q = same-call (suc x.call) ops h.1 a b i j q

pub in_order : (n : ℕ) (ops : List Operation) → Ascends n ops → (j k : ℕ) (a b : Operation) → j < k
    → slice_get ops j ≡ Some a → slice_get ops k ≡ Some b → a.call < b.call
in_order n [] h j k a b l p q = absurd (cc (p))
in_order n (x ∷ ops) h j zero a b l p q = absurd (omega (arith, l))
in_order n (x ∷ ops) h zero (suc k) a b l p q =
    let same : x ≡ a = cc (p) in
    omega (
      arith,
      ap (λ (z : Operation). z.call) same,
      not_before (suc x.call) ops h.1 b (slice_get-In ops k b q),
    )
in_order n (x ∷ ops) h (suc j) (suc k) a b l p q =
    in_order (suc x.call) ops h.1 j k a b (omega (arith, l)) p q

-- a filter keeps the order
pub ascends-filter : (test : Operation → Bool) (n : ℕ) (ops : List Operation) → Ascends n ops
    → Ascends n (filter test ops)
ascends-filter test n [] h = tt
ascends-filter test n (a ∷ ops) h = go (test a) (ascends-filter test (suc a.call) ops h.1)
  where
    go : (b : Bool) → Ascends (suc a.call) (filter test ops)
        → Ascends n (cond b (a ∷ filter test ops) (filter test ops))
    go true r = (h.0, r)
    go false r = weaker n (suc a.call) (filter test ops) (omega (arith, h.0)) r

-- the calls of events stand in the order of the events
pub ascends-calls : {Event : Type 0} (calls : Calls Event) (n s : ℕ) (es : List Event)
    → Ascends s (calls_from calls n s es)
ascends-calls calls n s [] = tt
ascends-calls {Event} calls n s (e ∷ es) =
    go (begins calls e (next_after calls s e es)) (ascends-calls calls n (suc s) es)
  where
    one : (o : Option (ℕ × Event)) → Ascends (suc s) (calls_from calls n (suc s) es)
        → Ascends s (operation calls n s e o ∷ calls_from calls n (suc s) es)
    one None rest = (omega arith, rest)
    one (Some r) rest = (omega arith, rest)

    go : (b : Bool) → Ascends (suc s) (calls_from calls n (suc s) es)
        → Ascends s (cond b (operation calls n s e (reply_in calls (next_after calls s e es))
        ∷ calls_from calls n (suc s) es) (calls_from calls n (suc s) es))
    go true rest = one (reply_in calls (next_after calls s e es)) rest
    go false rest = weaker s (suc s) (calls_from calls n (suc s) es) (omega arith) rest
