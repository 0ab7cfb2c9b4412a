-- Which numbers are given, and why a needed one that nobody gives leaves no legal order.
use Rattle.std.proofs.Common.{◌≡◌, ◌↔◌, ℕ, ◌+◌, ◌<◌, ℤ, cond, not, Bool, true, false}
use Rattle.std.proofs.Common.{List, [], ◌∷◌, ◌++◌, take, length, get_or, slice_get, ◌≤◌}
use Rattle.std.proofs.Common.{arith, Option, Some, None, IsTrue}
use Rattle.std.proofs.Common.{IsSomeAnd, is_some, inl, inr, refl, sym, ap, subst, ◌∙◌, add-one}
use Rattle.std.proofs.Math.Seq.{take-suc}
use Rattle.std.proofs.lemmas.Bool.{false≢true, cases_Bool, cases_order}
use Rattle.std.proofs.lemmas.Bool.Decides.{Decides-int_eq}
use Rattle.std.proofs.lemmas.Option.{slice_get_within, slice_get-get_or}
use Rattle.std.specs.Ordering.{int_eq}
use Rattle.register_search.specs.declared.value_numbers.ValueNumbers.{ValueNumbers}
use Rattle.register_search.specs.ValueNumbers.{has_number, number_at}
use Rattle.history_text.specs.declared.event.Val.{Val}
use Rattle.history_text.specs.declared.event.Val.TheVariants.{Null, Int}
use Rattle.history_model.specs.Lists.{In}
use Rattle.history_model.proofs.Lists.{In-left, In-right, append-In, Before-first, slice_get-In}
use Rattle.history_model.specs.declared.act.Act.{Act}
use Rattle.history_model.specs.declared.act.Act.TheVariants.{Read, Write, Cas, CasUnless, Miss}
use Rattle.history_model.specs.declared.operation.Operation.{Operation}
use Rattle.history_model.specs.Acts.{Suits, suits, asks, given_by}
use Rattle.history_model.specs.Legal.{IsAtomic}
use Rattle.history_model.specs.Operations.{initial_write}
use Rattle.history_model.proofs.Values.{value-true}
use Rattle.register_search.specs.Unwritten.{number_given, number_asked, number_needed}
use Rattle.register_search.specs.Unwritten.{IsGiven, IsUnwritten, HasGiven}

-- ---- the given numbers

pub none-given : (s : ValueNumbers) → ((q : ℤ) → number_at s q ≡ None) → HasGiven [] s
none-given s none n = (λ t. absurd (false≢true (sym (ap is_some (none n)) ∙ t)), λ g. absurd g.1)

pub one-silent : (ops : List Operation) (a : Operation) (s : ValueNumbers) → number_given a.act ≡ None
    → HasGiven ops s → HasGiven (ops ++ a ∷ []) s
one-silent ops a s none h n = (
  λ t. let g = (h n).0 t in (g.0, In-left g.0 ops (a ∷ []) g.1, g.2),
  λ g. elim (append-In g.0 ops (a ∷ []) g.1) [
    | inl i ↦ (h n).1 (g.0, i, g.2)
    | inr i ↦ elim i [
      | inl e ↦ absurd (let q = sym none
          ∙ (ap (λ (o : Operation). number_given o.act) (sym e) ∙ g.2) in cc (q))
      | inr z ↦ absurd z
    ]
  ],
)

pub one-given : (ops : List Operation) (a : Operation) (s t : ValueNumbers) (m : ℤ)
    → number_given a.act ≡ Some m
    → ((q : ℤ) → has_number t q ≡ cond (int_eq m q) true (has_number s q))
    → HasGiven ops s → HasGiven (ops ++ a ∷ []) t
one-given ops a s t m gives adds h n = (
  λ there. elim (cases_Bool (int_eq m n)) [
    | inl e ↦ (a, In-right a ops (a ∷ []) (inl refl), gives ∙ ap Some ((Decides-int_eq m n).0 e))
    | inr e ↦
        let before : has_number s n ≡ true =
        sym (ap (λ b. cond b true (has_number s n)) e) ∙ (sym (adds n) ∙ there) in
        let g = (h n).0 before in
        (g.0, In-left g.0 ops (a ∷ []) g.1, g.2)
  ],
  λ g. elim (append-In g.0 ops (a ∷ []) g.1) [
    | inl i ↦ adds n ∙ elim (cases_Bool (int_eq m n)) [
      | inl e ↦ ap (λ b. cond b true (has_number s n)) e
      | inr e ↦ ap (λ b. cond b true (has_number s n)) e ∙ (h n).1 (g.0, i, g.2)
    ]
    | inr i ↦ elim i [
      | inl e ↦
          let q = sym gives ∙ (ap (λ (o : Operation). number_given o.act) (sym e) ∙ g.2) in
          let same : m ≡ n = cc (q) in
          adds n ∙ ap (λ b. cond b true (has_number s n)) ((Decides-int_eq m n).1 same)
      | inr z ↦ absurd z
    ]
  ],
)

take-one : (ops : List Operation) (i : ℕ) (a : Operation) → slice_get ops i ≡ Some a
    → take (i + 1) ops ≡ take i ops ++ a ∷ []
take-one ops i a e =
    let l = slice_get_within ops i a e in
    let there = slice_get-get_or ops i a l in
    let same : get_or ops i a ≡ a = cc (there, e) in
    ap (λ n. take n ops) (add-one i) ∙ (take-suc ops i a l ∙ ap (λ x. take i ops ++ x ∷ []) same)

-- ---- the needed ones

pub unwritten-decides : (ops : List Operation) (s : ValueNumbers) (a : Operation) (n : ℤ) (b : Bool)
    → number_needed a ≡ Some n → b ≡ not (has_number s n) → HasGiven ops s
    → (IsTrue b ↔ IsUnwritten ops a)
unwritten-decides ops s a n b needs is h = (
  λ t. (n, needs, λ g. false≢true (sym (is ∙ ap not ((h n).1 g)) ∙ t)),
  λ u. elim (cases_Bool (has_number s n)) [
    | inl t ↦
        let q = sym needs ∙ u.1 in
        let same : n ≡ u.0 = cc (q) in
        absurd (u.2 (subst (IsGiven ops) same ((h n).0 t)))
    | inr f ↦ is ∙ ap not f
  ],
)

pub unneeded-decides : (ops : List Operation) (a : Operation) → number_needed a ≡ None
    → (IsTrue false ↔ IsUnwritten ops a)
unneeded-decides ops a none = (λ t. absurd (false≢true t), λ u. absurd (let q = sym none ∙ u.1 in cc (q)))

some-cond : (b : Bool) (o : Option ℤ) (n : ℤ) → cond b o None ≡ Some n → (b ≡ true) × (o ≡ Some n)
some-cond true o n e = (refl, e)
some-cond false o n e = absurd (cc (e))

asked-asks : (act : Act) (n : ℤ) → number_asked act ≡ Some n → asks act ≡ true
asked-asks (Read None) n e = absurd (cc (e))
asked-asks (Read (Some v)) n e = refl
asked-asks (Write v) n e = absurd (cc (e))
asked-asks (Cas from to) n e = refl
asked-asks (CasUnless unless to) n e = refl
asked-asks (Miss from) n e = refl

asked-suits : (act : Act) (n : ℤ) (v : Val) → number_asked act ≡ Some n → suits act v ≡ true → v ≡ Int n
asked-suits (Read None) n v e s = absurd (cc (e))
asked-suits (Read (Some Null)) n v e s = absurd (cc (e))
asked-suits (Read (Some (Int m))) n v e s = let same : m ≡ n = cc (e) in value-true v (Int m) s ∙ ap Int same
asked-suits (Write w) n v e s = absurd (cc (e))
asked-suits (Cas Null to) n v e s = absurd (cc (e))
asked-suits (Cas (Int m) to) n v e s = let same : m ≡ n = cc (e) in value-true v (Int m) s ∙ ap Int same
asked-suits (CasUnless unless to) n v e s = absurd (cc (e))
asked-suits (Miss from) n v e s = absurd (cc (e))

given-number : (act : Act) (n : ℤ) → IsSomeAnd (given_by act) (λ v. v ≡ Int n) → number_given act ≡ Some n
given-number (Read v) n e = absurd e
given-number (Write Null) n e = absurd (cc (e))
given-number (Write (Int m)) n e = let same : m ≡ n = cc (e) in ap Some same
given-number (Cas from Null) n e = absurd (cc (e))
given-number (Cas from (Int m)) n e = let same : m ≡ n = cc (e) in ap Some same
given-number (CasUnless unless Null) n e = absurd (cc (e))
given-number (CasUnless unless (Int m)) n e = let same : m ≡ n = cc (e) in ap Some same
given-number (Miss from) n e = absurd e

asked-given : (o : Option Val) (act : Act) (n : ℤ) → number_asked act ≡ Some n → IsSomeAnd o (Suits act)
    → IsSomeAnd o (λ v. v ≡ Int n)
asked-given None act n e s = s
asked-given (Some v) act n e s = asked-suits act n v e s

pub unwritten-refutes : (r : ℕ) (ops : List Operation) (a : Operation) → In a ops → IsUnwritten ops a
    → IsAtomic (initial_write r ∷ ops) → ⊥
unwritten-refutes r ops a i u atomic =
    let order = atomic.0 in
    let l = atomic.1 in
    let c = some-cond a.completed (number_asked a.act) u.0 u.1 in
    let m = l.met a (l.completion.all a (inr i) c.0) (asked-asks a.act u.0 c.1) in
    let w = m.0 in
    let gives = given-number w.act u.0 (asked-given (given_by w.act) a.act u.0 c.1 m.2) in
    elim (l.completion.only w (Before-first w a order m.1.before)) [
      | inl e ↦ let q = ap (λ (o : Operation). number_given o.act) (sym e) ∙ gives in cc (q)
      | inr j ↦ u.2 (w, j, gives)
    ]

-- ---- the first

pub found-first : (ops : List Operation) (i : ℕ) (d : Operation) → i < length ops
    → IsUnwritten ops (get_or ops i d) → (a : Operation) × (slice_get ops i ≡ Some a) × IsUnwritten ops a
found-first ops i d l u = (get_or ops i d, slice_get-get_or ops i d l, u)

pub found-refutes : (r : ℕ) (ops : List Operation) (i : ℕ) (d : Operation) → i < length ops
    → IsUnwritten ops (get_or ops i d) → IsAtomic (initial_write r ∷ ops) → ⊥
found-refutes r ops i d l u =
    unwritten-refutes r ops (get_or ops i d)
    (slice_get-In ops i (get_or ops i d) (slice_get-get_or ops i d l)) u

pub none-more : (ops : List Operation) (i : ℕ) (d : Operation) → i < length ops
    → ((j : ℕ) (a : Operation) → j < i → slice_get ops j ≡ Some a → IsUnwritten ops a → ⊥)
    → (IsUnwritten ops (get_or ops i d) → ⊥) → (j : ℕ) (a : Operation) → j < i + 1 → slice_get ops j ≡ Some a
    → IsUnwritten ops a → ⊥
none-more ops i d l below here j a lt e u = elim (cases_order j i) [
  | inl same ↦
      let there = slice_get-get_or ops i d l in
      let at : slice_get ops i ≡ Some a = subst (λ k. slice_get ops k ≡ Some a) same e in
      let is : a ≡ get_or ops i d = cc (there, at) in
      here (subst (IsUnwritten ops) is u)
  | inr c ↦ elim c [ inl b ↦ below j a b e u | inr g ↦ absurd (omega arith) ]
]

pub none-left : (ops : List Operation) (i : ℕ) → length ops ≤ i
    → ((j : ℕ) (a : Operation) → j < i → slice_get ops j ≡ Some a → IsUnwritten ops a → ⊥)
    → (j : ℕ) (a : Operation) → slice_get ops j ≡ Some a → IsUnwritten ops a → ⊥
none-left ops i l below j a e = let k = slice_get_within ops j a e in below j a (omega arith) e

-- one more operation of a list
pub given-more : (ops : List Operation) (i : ℕ) (d : Operation) (s t : ValueNumbers) → i < length ops
    → ((xs : List Operation) → HasGiven xs s → HasGiven (xs ++ get_or ops i d ∷ []) t)
    → HasGiven (take i ops) s → HasGiven (take (i + 1) ops) t
given-more ops i d s t l more h =
    subst (λ xs. HasGiven xs t) (sym (take-one ops i (get_or ops i d) (slice_get-get_or ops i d l)))
    (more (take i ops) h)
