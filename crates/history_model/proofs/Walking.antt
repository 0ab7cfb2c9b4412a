-- A walk over the events of a register meets its calls one after another, and
-- each is the operation that its name names.
use Rattle.std.proofs.Common.{◌≡◌, ℕ, zero, suc, ◌+◌, ◌-◌, ◌<◌, ◌≤◌, ◌&&◌, not, cond, Bool, true, false}
use Rattle.std.proofs.Common.{List, [], ◌∷◌, length, drop, slice_get, Option, Some, None, inl, inr}
use Rattle.std.proofs.Common.{refl, sym, ap, ◌∙◌, arith, option_map, option_and_then}
use Rattle.std.proofs.lemmas.Bool.{eq-eqb, ne_eqb, false≢true}
use Rattle.std.proofs.lemmas.Option.{slice_get_within}
use Rattle.history_text.specs.declared.event.Val.{Val}
use Rattle.history_model.specs.Operations.{plain_calls}
use Rattle.history_model.proofs.Calling as all
use Rattle.history_model.specs.Lists.{In}
use Rattle.history_model.specs.History.{History}
use Rattle.history_model.specs.Operations.{operation, next_of, reply_in}
use Rattle.history_model.specs.declared.operation.Operation.{Operation}
use Rattle.history_model.specs.Operations.{has_failed, begins, is_a_call, number_in}
use Rattle.history_model.specs.Operations.{calls_from, calls, of_register, initial_writes}
use Rattle.history_model.specs.Walking.{IsLeastFrom, IsFirstOf, IsNextOf, key_at, by_register}
use Rattle.history_model.specs.Walking.{by_value, called_at, calls_at, IsOnWalk, walk_left}
use Rattle.history_model.specs.Naming.{IsNamed, begins_at, name_by}
use Rattle.history_model.specs.declared.ids.EvId.{EvId}
use Rattle.history_model.specs.declared.ids.RegId.{RegId}
use Rattle.history_model.specs.declared.ids.Oper.TheVariants.{Called}
use Rattle.history_model.specs.declared.event.Event.{Event}
use Rattle.history_model.proofs.Lists.{append-In}

-- ---- a walk meets the calls of its register

operation-register : (n t : ℕ) (e : Event) (o : Option (ℕ × Event))
    → (operation n t e o).register ≡ number_in e.register
operation-register n t e None = refl
operation-register n t e (Some r) = refl

pub operation-call : (n t : ℕ) (e : Event) (o : Option (ℕ × Event)) → (operation n t e o).call ≡ t
operation-call n t e None = refl
operation-call n t e (Some r) = refl

operation-process : (n t : ℕ) (e : Event) (o : Option (ℕ × Event))
    → (operation n t e o).process ≡ Some e.process
operation-process n t e None = refl
operation-process n t e (Some r) = refl

-- what begins an operation is a call
pub begins-call : (e : Event) (next : Option (ℕ × Event)) → begins e next ≡ true → is_a_call e.what ≡ true
begins-call e next h = go (is_a_call e.what) h
  where
    go : (b : Bool) → (b && not (has_failed next)) ≡ true → b ≡ true
    go true h = refl
    go false h = absurd (false≢true h)

pub number-known : (e : Event) (r : ℕ) → by_register e ≡ Some r → number_in e.register ≡ r
number-known e r h = go e.register h
  where
    go : (o : Option RegId) → option_map {U = ℕ} (λ (n : RegId). n.0) o ≡ Some r → number_in o ≡ r
    go None h = absurd (cc (h))
    go (Some n) h = cc (h)

-- the calls have registers
abbrev pub HaveRegisters : List Event → Type 0
HaveRegisters es =
    (i : ℕ) (e : Event) → slice_get es i ≡ Some e → is_a_call e.what ≡ true
    → (r : ℕ) × (by_register e ≡ Some r)

-- an event of another register adds no call
step-other : (n s r : ℕ) (e : Event) (es : List Event)
    → (is_a_call e.what ≡ true → (k : ℕ) × (by_register e ≡ Some k)) → (by_register e ≡ Some r → ⊥)
    → of_register r (calls_from n s (e ∷ es)) ≡ of_register r (calls_from n (suc s) es)
step-other n s r e es has h = go (begins e next) refl
  where
    next : Option (ℕ × Event)
    next = next_of e.process (suc s) es

    go : (b : Bool) → begins e next ≡ b
        → of_register r
        (cond b (operation n s e (reply_in next) ∷ calls_from n (suc s) es) (calls_from n (suc s) es))
        ≡ of_register r (calls_from n (suc s) es)
    go false q = refl
    go true q =
        let k = has (begins-call e next q) in
        let d =
        ne_eqb (operation n s e (reply_in next)).register r
        (λ w. h (k.1 ∙ ap Some (sym (number-known e k.0 k.1)
        ∙ (sym (operation-register n s e (reply_in next)) ∙ w)))) in
        ap (λ b. cond b (operation n s e (reply_in next) ∷ of_register r (calls_from n (suc s) es))
        (of_register r (calls_from n (suc s) es))) d

-- an event of the register adds its call
step-own : (n s r : ℕ) (e : Event) (es : List Event) → by_register e ≡ Some r
    → of_register r (calls_from n s (e ∷ es)) ≡ cond (begins e (next_of e.process (suc s) es))
    (operation n s e (reply_in (next_of e.process (suc s) es)) ∷ of_register r (calls_from n (suc s) es))
    (of_register r (calls_from n (suc s) es))
step-own n s r e es h = go (begins e next)
  where
    next : Option (ℕ × Event)
    next = next_of e.process (suc s) es

    go : (b : Bool)
        → of_register r
        (cond b (operation n s e (reply_in next) ∷ calls_from n (suc s) es) (calls_from n (suc s) es))
        ≡ cond b (operation n s e (reply_in next) ∷ of_register r (calls_from n (suc s) es))
        (of_register r (calls_from n (suc s) es))
    go false = refl
    go true =
        let d =
        eq-eqb (operation n s e (reply_in next)).register r (operation-register n s e (reply_in next)
        ∙ number-known e r h) in
        ap (λ b. cond b (operation n s e (reply_in next) ∷ of_register r (calls_from n (suc s) es))
        (of_register r (calls_from n (suc s) es))) d

pub drop-at : (es : List Event) (i : ℕ) (e : Event) → slice_get es i ≡ Some e
    → drop i es ≡ e ∷ drop (suc i) es
drop-at [] i e h = absurd (cc (h))
drop-at (x ∷ xs) zero e h = let q : x ≡ e = cc (h) in ap (λ y. y ∷ xs) q
drop-at (x ∷ xs) (suc i) e h = drop-at xs i e h

drop-past : (es : List Event) (i : ℕ) → slice_get es i ≡ None → drop i es ≡ []
drop-past [] zero h = refl
drop-past [] (suc i) h = refl
drop-past (x ∷ xs) zero h = absurd (cc (h))
drop-past (x ∷ xs) (suc i) h = drop-past xs i h

-- events of other registers add no calls
skipped : (n r : ℕ) (es : List Event) → HaveRegisters es → (k i : ℕ)
    → ((j : ℕ) → i ≤ j → j < i + k → key_at by_register es j ≡ Some r → ⊥)
    → of_register r (calls_from n (i + 2) (drop i es))
    ≡ of_register r (calls_from n (i + k + 2) (drop (i + k) es))
skipped n r es has zero i h =
    let e : i ≡ i + 0 = omega arith in ap (λ m. of_register r (calls_from n (m + 2) (drop m es))) e
skipped n r es has (suc k) i h =
    let more = skipped n r es has k (suc i) (λ j l m. h j (omega arith) (omega arith)) in
    let e : suc i + k ≡ i + suc k = omega arith in
    one (slice_get es i) refl ∙ (more ∙ ap (λ m. of_register r (calls_from n (m + 2) (drop m es))) e)
  where
    one : (o : Option Event) → slice_get es i ≡ o
        → of_register r (calls_from n (i + 2) (drop i es))
        ≡ of_register r (calls_from n (suc i + 2) (drop (suc i) es))
    one None q =
        let a = drop-past es i q in
        let b : drop (suc i) es ≡ [] = past es i q in
        ap (λ xs. of_register r (calls_from n (i + 2) xs)) a
        ∙ sym (ap (λ xs. of_register r (calls_from n (suc i + 2) xs)) b)
      where
        past : (xs : List Event) (m : ℕ) → slice_get xs m ≡ None → drop (suc m) xs ≡ []
        past [] m q = refl
        past (x ∷ xs) zero q = absurd (cc (q))
        past (x ∷ xs) (suc m) q = past xs m q
    one (Some e) q =
        let ne : by_register e ≡ Some r → ⊥ =
        λ c. h i (omega arith) (omega arith) (ap (option_and_then by_register) q ∙ c) in
        let t : suc (i + 2) ≡ suc i + 2 = omega arith in
        ap (λ xs. of_register r (calls_from n (i + 2) xs)) (drop-at es i e q)
        ∙ (step-other n (i + 2) r e (drop (suc i) es) (has i e q) ne
        ∙ ap (λ m. of_register r (calls_from n m (drop (suc i) es))) t)

-- no event of the register is left
none-left : (n r : ℕ) (es : List Event) → HaveRegisters es → (i : ℕ)
    → ((j : ℕ) → i ≤ j → key_at by_register es j ≡ Some r → ⊥)
    → of_register r (calls_from n (i + 2) (drop i es)) ≡ []
none-left n r es has i h =
    let all = skipped n r es has (length es) i (λ j l m. h j l) in
    let e = past es (i + length es) (omega arith) in
    all ∙ ap (λ xs. of_register r (calls_from n (i + length es + 2) xs)) e
  where
    past : (xs : List Event) (m : ℕ) → length xs ≤ m → drop m xs ≡ []
    past [] zero l = refl
    past [] (suc m) l = refl
    past (x ∷ xs) zero l = absurd (omega arith)
    past (x ∷ xs) (suc m) l = past xs m (omega arith)

-- from a place on, to the next event of the register
leads : (r : ℕ) (es : List Event) → HaveRegisters es → (i : ℕ) (o : Option EvId)
    → IsLeastFrom (λ j. key_at by_register es j ≡ Some r) i o
    → of_register r (calls_from (length es + 2) (i + 2) (drop i es)) ≡ calls_at es r o
leads r es has i None h = none-left (length es + 2) r es has i h
leads r es has i (Some j) h =
    let e : i + (j.0 - i) ≡ j.0 = omega (arith, h.0) in
    skipped (length es + 2) r es has (j.0 - i) i (λ m l g. h.2 m l (omega (arith, h.0)))
    ∙ ap (λ m. of_register r (calls_from (length es + 2) (m + 2) (drop m es))) e

-- the first event of a register begins its calls
pub walk-begins : (r : ℕ) (es : List Event) (o : Option EvId) → HaveRegisters es
    → IsFirstOf by_register es r o → of_register r (calls es) ≡ calls_at es r o
walk-begins r es o has h = leads r es has 0 o h

-- each event of it adds its call, and the next goes on
pub walk-goes : (r : ℕ) (es : List Event) (i : EvId) (e : Event) (o : Option EvId) → HaveRegisters es
    → slice_get es i.0 ≡ Some e → by_register e ≡ Some r → IsNextOf by_register es i.0 o
    → calls_at es r (Some i) ≡ cond (begins_at es i.0 e) (called_at es i.0 e ∷ calls_at es r o)
    (calls_at es r o)
walk-goes r es i e o has at q h =
    let n = length es + 2 in
    let more : of_register r (calls_from n (suc (i.0 + 2)) (drop (suc i.0) es)) ≡ calls_at es r o =
    let t : suc (i.0 + 2) ≡ (i.0 + 1) + 2 = omega arith in
    let u : suc i.0 ≡ i.0 + 1 = omega arith in
    ap (λ m. of_register r (calls_from n m (drop (suc i.0) es))) t
    ∙ (ap (λ m. of_register r (calls_from n (i.0 + 1 + 2) (drop m es))) u
    ∙ leads r es has (i.0 + 1) o (h r (ap (option_and_then by_register) at ∙ q))) in
    ap (λ xs. of_register r (calls_from n (i.0 + 2) xs)) (drop-at es i.0 e at)
    ∙ (step-own n (i.0 + 2) r e (drop (suc i.0) es) q
    ∙ ap (λ xs. cond (begins_at es i.0 e) (called_at es i.0 e ∷ xs) xs) more)

-- ---- a walk stays on its register, and ends

pub event-at : (r : ℕ) (es : List Event) (i : EvId) → IsOnWalk es r (Some i)
    → (e : Event) × (slice_get es i.0 ≡ Some e) × (by_register e ≡ Some r)
event-at r es i h = go (slice_get es i.0) refl h
  where
    go : (o : Option Event) → slice_get es i.0 ≡ o → option_and_then by_register o ≡ Some r
        → (e : Event) × (slice_get es i.0 ≡ Some e) × (by_register e ≡ Some r)
    go None q k = absurd (cc (k))
    go (Some e) q k = (e, q, k)

pub walk-within : (r : ℕ) (es : List Event) (i : EvId) → IsOnWalk es r (Some i) → i.0 < length es
walk-within r es i h = let x = event-at r es i h in slice_get_within es i.0 x.0 x.1

pub walk-first : (r : ℕ) (es : List Event) (o : Option EvId) → IsFirstOf by_register es r o → IsOnWalk es r o
walk-first r es None h = tt
walk-first r es (Some i) h = h.1

pub walk-next : (r : ℕ) (es : List Event) (i : EvId) (o : Option EvId) → IsOnWalk es r (Some i)
    → IsNextOf by_register es i.0 o → IsOnWalk es r o
walk-next r es i None on h = tt
walk-next r es i (Some j) on h = (h r on).1

pub walk-ends : (r : ℕ) (es : List Event) (i : EvId) (o : Option EvId) → IsOnWalk es r (Some i)
    → IsNextOf by_register es i.0 o → walk_left es o < walk_left es (Some i)
walk-ends r es i None on h = let w = walk-within r es i on in omega arith
walk-ends r es i (Some j) on h =
    let w =
    walk-within r es i on in let x =
    h r on in let l = x.0 in let v = walk-within r es j x.1 in omega arith

-- ---- a call's name names the operation of its event

-- the operation o is that of the event e at place k, where the first event has time s
abbrev pub IsOperationAt : ℕ → ℕ → List Event → Operation → ℕ → Event → Type 0
IsOperationAt n s es o k e = all.IsOperationAt plain_calls n s es o k e

-- an operation among the calls is that of an event
pub is-called : (n s : ℕ) (es : List Event) (o : Operation) → In o (calls_from n s es)
    → (k : ℕ) × (e : Event) × IsOperationAt n s es o k e
is-called = all.is-called plain_calls

initial-process : (m : ℕ) (o : Operation) → In o (initial_writes m) → o.process ≡ None
initial-process zero o h = elim h [ ]
initial-process (suc m) o (inl e) = ap (λ (x : Operation). x.process) e
initial-process (suc m) o (inr h) = initial-process m o h

pub named-is-called : (h : History) (i : EvId) (e : Event) (o : Operation) → slice_get h.events i.0 ≡ Some e
    → IsNamed h (Called i) o → o ≡ called_at h.events i.0 e
named-is-called h i e o at named =
    elim (append-In o (initial_writes (length h.names)) (calls h.events) named.one) [
      | inl j ↦ absurd (let q = ap (λ p. name_by p o) (initial-process (length h.names) o j) in
          let m = named.named in cc (q, m))
      | inr j ↦
          let x = is-called (length h.events + 2) 2 h.events o j in
          let f = x.1 in
          let y = x.2 in
          let p : o.process ≡ Some f.process =
          ap (λ (y : Operation). y.process) y.2
          ∙ operation-process (length h.events + 2) (2 + x.0) f
          (reply_in (next_of f.process (suc (2 + x.0)) (drop (suc x.0) h.events))) in
          let c : o.call ≡ 2 + x.0 =
          ap (λ (y : Operation). y.call) y.2
          ∙ operation-call (length h.events + 2) (2 + x.0) f
          (reply_in (next_of f.process (suc (2 + x.0)) (drop (suc x.0) h.events))) in
          let w : Called (record { 0 = o.call - 2 }) ≡ Called i =
          sym (ap (λ q. name_by q o) p) ∙ named.named in
          let v : record { 0 = o.call - 2 } ≡ i = cc (w) in
          let u : o.call - 2 ≡ i.0 = ap (λ (y : EvId). y.0) v in
          let k : x.0 ≡ i.0 = omega (arith, c, u) in
          let g : f ≡ e = let a = y.0 in let b = ap (slice_get h.events) k in cc (a, b, at) in
          let t : 2 + i.0 ≡ i.0 + 2 = omega arith in
          y.2
          ∙ (ap (λ m. operation (length h.events + 2) (2 + m) f
          (reply_in (next_of f.process (suc (2 + m)) (drop (suc m) h.events)))) k
          ∙ (ap (λ (y : Event).
          operation (length h.events + 2) (2 + i.0) y
          (reply_in (next_of y.process (suc (2 + i.0)) (drop (suc i.0) h.events)))) g
          ∙ ap (λ m. operation (length h.events + 2) m e
          (reply_in (next_of e.process (suc m) (drop (suc i.0) h.events)))) t))
    ]

-- ---- an event of a register and a value

-- an event with a register and a value has both as its key
pub keyed : (e : Event) (r : ℕ) (v : Val) → by_register e ≡ Some r → e.value ≡ Some v
    → by_value e ≡ Some (r, v)
keyed e r v own q =
    ap (λ (b : Option Val).
    option_and_then {U = ℕ
    × Val} (λ (x : Val). option_map {U = ℕ × Val} (λ (n : RegId). (n.0, x)) e.register) b) q
    ∙ go e.register own
  where
    go : (a : Option RegId) → option_map {U = ℕ} (λ (n : RegId). n.0) a ≡ Some r
        → option_map {U = ℕ × Val} (λ (n : RegId). (n.0, v)) a ≡ Some (r, v)
    go None h = absurd (cc (h))
    go (Some n) h = let p : n.0 ≡ r = cc (h) in ap (λ m. Some (m, v)) p

-- ---- there are no more calls than events

pub calls-few : (n s : ℕ) (es : List Event) → length (calls_from n s es) ≤ length es
calls-few n s [] = omega arith
calls-few n s (e ∷ es) = go (begins e (next_of e.process (suc s) es)) (calls-few n (suc s) es)
  where
    go : (b : Bool) → length (calls_from n (suc s) es) ≤ length es
        → length (cond b (operation n s e (reply_in (next_of e.process (suc s) es)) ∷ calls_from n (suc s) es)
        (calls_from n (suc s) es)) ≤ suc (length es)
    go true l = omega arith
    go false l = omega arith
