-- All operations of a history are gathered one by one, and stand in the order of their calls.
use Rattle.std.proofs.Common.{◌≡◌, ℕ, zero, suc, ◌+◌, ◌<◌, ◌≤◌, ◌⊎◌, Bool, true, false, cond, None, Some}
use Rattle.std.proofs.Common.{Option}
use Rattle.std.proofs.Common.{List, [], ◌∷◌, ◌++◌, length, drop, slice_get, inl, inr, refl, sym, ap, ◌∙◌}
use Rattle.std.proofs.Common.{arith}
use Rattle.std.proofs.Common.{append_assoc}
use Rattle.std.proofs.lemmas.List.{length-append}
use Rattle.history_text.specs.declared.limits.TheConstants.{MAX_EVENTS}
use Rattle.history_model.specs.History.{History, IsRecorded}
use Rattle.history_model.specs.Lists.{In, Before}
use Rattle.history_model.specs.Naming.{begins_at}
use Rattle.history_model.specs.Operations.{begins, calls, calls_from, initial_write, initial_writes, next_of}
use Rattle.history_model.specs.Operations.{operation, operations, reply_in}
use Rattle.history_model.specs.Walking.{called_at}
use Rattle.history_model.specs.declared.event.Event.{Event}
use Rattle.history_model.specs.declared.operation.Operation.{Operation}
use Rattle.history_model.proofs.Lists.{append-In, Before-first, Before-second}
use Rattle.history_model.proofs.Recorded.{initials-In}
use Rattle.history_model.proofs.Walking.{calls-few, drop-at, is-called, operation-call}
use Rattle.level_laws.proofs.CausalLemmas.Whole.{recorded-whole}
use Rattle.causal_order.specs.SessionClocks.Sessions.{IsCalledInOrder}
use Rattle.level_report.specs.Shown.{AreAllReady}

-- ---- one by one

pub one-initial-more : (xs : List Operation) (n : ℕ)
    → (xs ++ initial_write n ∷ []) ++ initial_writes n ≡ xs ++ initial_writes (suc n)
one-initial-more xs n = append_assoc xs (initial_write n ∷ []) (initial_writes n)

-- the calls from an event on are that event's, if it begins one, and those behind it
pub call-more : (es : List Event) (i : ℕ) (e : Event) (xs : List Operation) (b : Bool)
    → slice_get es i ≡ Some e → begins_at es i e ≡ b
    → cond b (xs ++ called_at es i e ∷ []) xs
    ++ calls_from (length es + 2) (i + 1 + 2) (drop (i + 1) es)
    ≡ xs ++ calls_from (length es + 2) (i + 2) (drop i es)
call-more es i e xs b at begun = later ∙ ap (λ ys. xs ++ ys) (sym here)
  where
    rest : List Operation
    rest = calls_from (length es + 2) (suc (i + 2)) (drop (suc i) es)

    here : calls_from (length es + 2) (i + 2) (drop i es) ≡ cond b (called_at es i e ∷ rest) rest
    here = ap (calls_from (length es + 2) (i + 2)) (drop-at es i e at)
        ∙ ap (λ c. cond c (called_at es i e ∷ rest) rest) begun

    next : calls_from (length es + 2) (i + 1 + 2) (drop (i + 1) es) ≡ rest
    next = let s : i + 1 ≡ suc i = omega arith in
        let t : i + 1 + 2 ≡ suc (i + 2) = omega arith in
        ap (λ n. calls_from (length es + 2) n (drop (i + 1) es)) t
        ∙ ap (λ n. calls_from (length es + 2) (suc (i + 2)) (drop n es)) s

    join : (c : Bool) → cond c (xs ++ called_at es i e ∷ []) xs ++ rest
        ≡ xs ++ cond c (called_at es i e ∷ rest) rest
    join true = append_assoc xs (called_at es i e ∷ []) rest
    join false = refl

    later : cond b (xs ++ called_at es i e ∷ []) xs
        ++ calls_from (length es + 2) (i + 1 + 2) (drop (i + 1) es)
        ≡ xs ++ cond b (called_at es i e ∷ rest) rest
    later = ap (λ ys. cond b (xs ++ called_at es i e ∷ []) xs ++ ys) next ∙ join b

-- ---- in order

before-append : (a b : Operation) (xs ys : List Operation) → Before a b (xs ++ ys)
    → Before a b xs ⊎ ((In a xs × In b ys) ⊎ Before a b ys)
before-append a b [] ys h = inr (inr h)
before-append a b (x ∷ xs) ys (inl h) =
    elim (append-In b xs ys h.1) [
      | inl i ↦ inl (inl (h.0, i))
      | inr i ↦ inr (inl (inl h.0, i))
    ]
before-append a b (x ∷ xs) ys (inr h) =
    elim (before-append a b xs ys h) [
      | inl k ↦ inl (inr k)
      | inr r ↦ elim r [ inl k ↦ inr (inl (inr k.0, k.1)) | inr k ↦ inr (inr k) ]
    ]

operation-process : (n t : ℕ) (e : Event) (o : Option (ℕ × Event)) → (operation n t e o).process
    ≡ Some e.process
operation-process n t e None = refl
operation-process n t e (Some r) = refl

-- a call among those from time s on: its time, and that somebody called it
called-from : (n s : ℕ) (es : List Event) (a : Operation) → In a (calls_from n s es)
    → (s ≤ a.call) × ((x : ℕ) × (a.process ≡ Some x))
called-from n s es a i =
    let x = is-called n s es a i in
    let next = reply_in (next_of x.1.process (suc (s + x.0)) (drop (suc x.0) es)) in
    let t = ap (λ (o : Operation). o.call) x.2.2 ∙ operation-call n (s + x.0) x.1 next in (
      omega (arith, t),
      (x.1.process, ap (λ (o : Operation). o.process) x.2.2 ∙ operation-process n (s + x.0) x.1 next),
    )

calls-rise : (n s : ℕ) (es : List Event) (a b : Operation) → Before a b (calls_from n s es)
    → a.call < b.call
calls-rise n s [] a b h = elim h [ ]
calls-rise n s (e ∷ es) a b h = go (begins e (next_of e.process (suc s) es)) h (calls-rise n (suc s) es a b)
  where
    first : Operation
    first = operation n s e (reply_in (next_of e.process (suc s) es))

    go : (c : Bool) → Before a b (cond c (first ∷ calls_from n (suc s) es) (calls_from n (suc s) es))
        → (Before a b (calls_from n (suc s) es) → a.call < b.call) → a.call < b.call
    go true (inl k) rest =
        let t = ap (λ (o : Operation). o.call) k.0 in
        let u = operation-call n s e (reply_in (next_of e.process (suc s) es)) in
        let v = (called-from n (suc s) es b k.1).0 in
        omega (arith, t, u, v)
    go true (inr k) rest = rest k
    go false k rest = rest k

initials-fall : (m : ℕ) (a b : Operation) → Before a b (initial_writes m) → b.register < a.register
initials-fall zero a b h = elim h [ ]
initials-fall (suc m) a b (inl h) =
    let x = initials-In m b h.1 in
    let s = ap (λ (o : Operation). o.register) h.0 in
    let t = ap (λ (o : Operation). o.register) x.2 in
    omega (arith, x.1, s, t)
initials-fall (suc m) a b (inr h) = initials-fall m a b h

module _ (h : History) where
  initial-of : (a : Operation) → In a (initial_writes (length h.names)) → (a.process ≡ None) × (a.call ≡ 0)
  initial-of a i =
      let x = (initials-In (length h.names) a i).2 in
      (ap (λ (o : Operation). o.process) x, ap (λ (o : Operation). o.call) x)

  called-of : (a : Operation) → In a (calls h.events) → (2 ≤ a.call) × ((x : ℕ) × (a.process ≡ Some x))
  called-of a i = called-from (length h.events + 2) 2 h.events a i

  -- an initial write isn't called
  apart : (a : Operation) → In a (initial_writes (length h.names)) → (x : ℕ) → a.process ≡ Some x → ⊥
  apart a i x q = let p = (initial-of a i).0 in let z : None ≡ Some x = sym p ∙ q in cc z

  called-none : (a : Operation) → In a (calls h.events) → a.process ≡ None → ⊥
  called-none a i q =
      let p = (called-of a i).1 in let z : None ≡ Some p.0 = sym q ∙ p.1 in cc z

  called-in-order : IsCalledInOrder (operations h)
  called-in-order = record { once = once; called = called; initial = initial }
    where
      names : List Operation
      names = initial_writes (length h.names)

      once : (a : Operation) → Before a a (operations h) → ⊥
      once a k = elim (before-append a a names (calls h.events) k) [
        | inl i ↦ (let f = initials-fall (length h.names) a a i in absurd (omega (arith, f)))
        | inr r ↦ elim r [
          | inl i ↦ (let p = (called-of a i.1).1 in apart a i.0 p.0 p.1)
          | inr i ↦ (let f = calls-rise (length h.events + 2) 2 h.events a a i in absurd (omega (arith, f)))
        ]
      ]

      called : (a b : Operation) (x : ℕ) → Before a b (operations h) → b.process ≡ Some x → a.call < b.call
      called a b x k q = elim (before-append a b names (calls h.events) k) [
        | inl i ↦ absurd (apart b (Before-second a b names i) x q)
        | inr r ↦ elim r [
          | inl i ↦ (let z = (initial-of a i.0).1 in let l = (called-of b i.1).0 in omega (arith, z, l))
          | inr i ↦ calls-rise (length h.events + 2) 2 h.events a b i
        ]
      ]

      initial : (a b : Operation) (x : ℕ) → Before a b (operations h) → a.process ≡ Some x
          → b.process ≡ None → ⊥
      initial a b x k q n = elim (before-append a b names (calls h.events) k) [
        | inl i ↦ apart a (Before-first a b names i) x q
        | inr r ↦ elim r [
          | inl i ↦ called-none b i.1 n
          | inr i ↦ called-none b (Before-second a b (calls h.events) i) n
        ]
      ]

initials-few : (m : ℕ) → length (initial_writes m) ≡ m
initials-few zero = refl
initials-few (suc m) = ap suc (initials-few m)

pub all-ready : (h : History) → IsRecorded h → length h.names ≤ MAX_EVENTS → length h.events ≤ MAX_EVENTS
    → AreAllReady (operations h)
all-ready h rec names events = record {
  whole = recorded-whole h rec;
  called = called-in-order h;
  few = (let both = length-append (initial_writes (length h.names)) (calls h.events) in
      let first = initials-few (length h.names) in
      let rest = calls-few (length h.events + 2) 2 h.events in
      omega (arith, both, first, rest, names, events));
}
