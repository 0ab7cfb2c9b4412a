-- The writes by register and value with one operation more, and the write of a read's value.
use Rattle.std.proofs.Common.{◌≡◌, ℕ, ◌+◌, ◌<◌, ℤ, Bool, true, false, cond, List, [], ◌∷◌, ◌++◌, length}
use Rattle.std.proofs.Common.{slice_get}
use Rattle.std.proofs.Common.{Option, Some, None, inl, inr, refl, sym, ap, subst, ◌∙◌, arith}
use Rattle.std.specs.Cmp.{Equal-is, nat_cmp_is}
use Rattle.std.specs.FinMap.{nat_cmp-IsAntisymmetric}
use Rattle.std.specs.Option.{option_cmp}
use Rattle.std.specs.Ordering.{int_cmp, is_eq, nat_cmp, ordering_then}
use Rattle.std.specs.declared.cmp.Ordering.{Ordering}
use Rattle.std.specs.declared.cmp.Ordering.TheVariants.{Less, Equal, Greater}
use Rattle.std.proofs.lemmas.Bool.{cases_Bool, false≢true}
use Rattle.std.proofs.lemmas.Bool.Decides.{Decides-int_eq}
use Rattle.history_text.specs.declared.event.Val.{Val}
use Rattle.history_text.specs.declared.event.Val.TheVariants.{Null, Int}
use Rattle.history_model.specs.Acts.{asks, changes, given_by, is_plain, value_of_act}
use Rattle.history_model.specs.Lists.{In}
use Rattle.history_model.specs.Operations.{is_write}
use Rattle.history_model.specs.declared.act.Act.{Act}
use Rattle.history_model.specs.declared.act.Act.TheVariants.{Read, Write}
use Rattle.history_model.specs.declared.operation.Operation.{Operation}
use Rattle.history_model.proofs.Lists.{slice_get-In}
use Rattle.level_laws.specs.Causal.{IsWhole}
use Rattle.level_laws.specs.CausalFault.{IsUnwrittenRead}
use Rattle.level_laws.proofs.CausalLemmas.Whole.{own}
use Rattle.reg_levels.proofs.ClusterLemmas.Places.{In-at, at-below}
use Rattle.reg_levels.proofs.ClusterLemmas.Pushes.{get-push_cases, length-push}
use Rattle.reg_levels.proofs.ClusterLemmas.Written.{giver-writes, write-gives}
use Rattle.causal_order.specs.SessionClocks.Sessions.{IsAt, IsSourceAt}
use Rattle.causal_order.specs.SessionClocks.Steps.{AreSources, AreValueWrites, IsWriteFound, IsWriteOf}
use Rattle.causal_order.specs.SessionClocks.Steps.{key_cmp, number_in, read_by}
use Rattle.causal_order.proofs.SessionClockLemmas.Ordered.{at-one, split_below}

-- ---- keys

abbrev pub same_key : ℕ × Option ℤ → ℕ × Option ℤ → Bool
same_key a b = is_eq (key_cmp a b)

then-equal : (x y : Ordering) → is_eq (ordering_then x y) ≡ true → (is_eq x ≡ true) × (is_eq y ≡ true)
then-equal Less y h = absurd (false≢true h)
then-equal Equal y h = (refl, h)
then-equal Greater y h = absurd (false≢true h)

number-same : (v w : Val) → is_eq (option_cmp int_cmp (number_in v) (number_in w)) ≡ true → v ≡ w
number-same Null Null h = refl
number-same Null (Int n) h = absurd (false≢true h)
number-same (Int n) Null h = absurd (false≢true h)
number-same (Int m) (Int n) h = ap Int ((Decides-int_eq m n).0 h)

same-number : (v : Val) → is_eq (option_cmp int_cmp (number_in v) (number_in v)) ≡ true
same-number Null = refl
same-number (Int n) = (Decides-int_eq n n).1 refl

key-same : (r s : ℕ) (v w : Val) → same_key (r, number_in v) (s, number_in w) ≡ true → (r ≡ s) × (v ≡ w)
key-same r s v w h =
    let p = then-equal (nat_cmp r s) (option_cmp int_cmp (number_in v) (number_in w)) h in
    (nat_cmp-IsAntisymmetric r s ((Equal-is (nat_cmp r s)).0 p.0), number-same v w p.1)

same-key : (r : ℕ) (v : Val) → same_key (r, number_in v) (r, number_in v) ≡ true
same-key r v =
    ap (λ x. is_eq (ordering_then x (option_cmp int_cmp (number_in v) (number_in v))))
    (sym (nat_cmp_is r r Equal refl)) ∙ same-number v

-- ---- writes

module _ (ops : List Operation) (i : ℕ) (a : Operation) (at : IsAt ops i a) where
  others : (r : ℕ) (v : Val) (found : Option ℕ) → (a.register ≡ r → given_by a.act ≡ Some v → ⊥)
      → IsWriteFound ops i r v found → IsWriteFound ops (i + 1) r v found
  others r v None never h = λ p l w. elim (split_below p i (omega (arith, l))) [
    | inl m ↦ h p m w
    | inr m ↦
        let one = at-one ops i a w.0 at (sym (ap (slice_get ops) m) ∙ w.1) in
        never (ap (λ (o : Operation). o.register) one ∙ w.2) (ap (λ (o : Operation). given_by o.act) one ∙
        w.3)
  ]
  others r v (Some p) never h = h

  pub values-same : (found : ℕ × Option ℤ → Option ℕ) → given_by a.act ≡ None → AreValueWrites ops i found
      → AreValueWrites ops (i + 1) found
  values-same found e h r v =
      others r v (found (r, number_in v)) (λ _ g. let bad : None ≡ Some v = sym e ∙ g in cc bad) (h r v)

  pub values-more : (old new : ℕ × Option ℤ → Option ℕ) (v : Val) → given_by a.act ≡ Some v
      → ((k : ℕ × Option ℤ) → new k ≡ cond (same_key (a.register, number_in v) k) (Some i) (old k))
      → AreValueWrites ops i old → AreValueWrites ops (i + 1) new
  values-more old new v e is h r w = elim (cases_Bool (same_key (a.register, number_in v) (r, number_in w))) [
    | inl t ↦
        let both = key-same a.register r v w t in
        let there : new (r, number_in w) ≡ Some i =
        is (r, number_in w) ∙ ap (λ b. cond b (Some i) (old (r, number_in w))) t in
        subst (IsWriteFound ops (i + 1) r w) (sym there) (a, at, both.0, e ∙ ap Some both.1)
    | inr f ↦
        let there : new (r, number_in w) ≡ old (r, number_in w) =
        is (r, number_in w) ∙ ap (λ b. cond b (Some i) (old (r, number_in w))) f in
        subst (IsWriteFound ops (i + 1) r w) (sym there)
        (others r w (old (r, number_in w)) (λ same g.
        let one : Some v ≡ Some w = sym e ∙ g in
        let value : v ≡ w = cc one in
        false≢true (sym f ∙ subst (λ n. same_key (a.register, number_in v) (n, number_in w) ≡ true) same
        (subst (λ x. same_key (a.register, number_in v) (a.register, number_in x) ≡ true) value
        (same-key a.register v)))) (h r w))
  ]

pub values-none : (ops : List Operation) (found : ℕ × Option ℤ → Option ℕ)
    → ((k : ℕ × Option ℤ) → found k ≡ None) → AreValueWrites ops 0 found
values-none ops found none r v =
    subst (IsWriteFound ops 0 r v) (sym (none (r, number_in v))) (λ p l. absurd (omega (arith, l)))

-- ---- sources

-- what is no write, and gives no value, has none to ask for
asks-given : (act : Act) → is_plain act ≡ true → changes act ≡ false → (v : Val) → read_by act ≡ Some v
    → (asks act ≡ true) × (value_of_act act ≡ Some v)
asks-given (Read None) p n v e = absurd (cc e)
asks-given (Read (Some given)) p n v e = (refl, e)
asks-given act p n v e = absurd (cc e)

asks-none : (act : Act) → is_plain act ≡ true → changes act ≡ false → read_by act ≡ None → asks act ≡ false
asks-none (Read None) p n e = refl
asks-none (Read (Some given)) p n e = absurd (cc e)
asks-none (Write written) p n e = absurd (false≢true (sym n))
asks-none act p n e = absurd (false≢true p)

read-plain : (act : Act) (v : Val) → read_by act ≡ Some v → changes act ≡ false
read-plain (Read given) v e = refl
read-plain act v e = absurd (cc e)

module _ (ops : List Operation) (y : IsWhole ops) (p : ℕ) (a : Operation) (at : IsAt ops p a) where
  in-a : In a ops
  in-a = slice_get-In ops p a at

  plain : is_plain a.act ≡ true
  plain = (y.each a.register).plain a (own ops y a in-a)

  pub no-source : read_by a.act ≡ None → IsSourceAt ops a None
  no-source e = λ r.
      let asked = (y.each a.register).reads a (own ops y a in-a) r.read in
      false≢true (sym (asks-none a.act plain r.read e) ∙ (asked ∙ r.completed))

  module _ (v : Val) (e : read_by a.act ≡ Some v) where
    read : is_write a ≡ false
    read = read-plain a.act v e

    given : (asks a.act ≡ true) × (value_of_act a.act ≡ Some v)
    given = asks-given a.act plain read v e

    completed : a.completed ≡ true
    completed = sym ((y.each a.register).reads a (own ops y a in-a) read) ∙ given.0

    pub source-is : (q : ℕ) → IsWriteOf ops a.register v q → IsSourceAt ops a (Some q)
    source-is q h =
        let write = giver-writes h.0.act v h.3 in
        let whole = (y.each h.0.register).plain h.0 (own ops y h.0 (slice_get-In ops q h.0 h.1)) in (
          h.0,
          h.1,
          record {
            write = write;
            register = h.2;
            read = record {
              read = read;
              completed = completed;
              value = given.1 ∙ (sym h.3 ∙ write-gives h.0.act whole write);
            };
          },
        )

    pub source-none : ((q : ℕ) → q < length ops → IsWriteOf ops a.register v q → ⊥) → IsUnwrittenRead ops a
    source-none none = record {
      within = in-a;
      read = record { read = read; completed = completed };
      unwritten = λ w i s.
          let q = In-at ops w i in
          let whole = (y.each w.register).plain w (own ops y w i) in
          none q.0 (at-below ops q.0 w q.1)
          (w, q.1, s.register, write-gives w.act whole s.write ∙ (sym s.read.value ∙ given.1));
    }

pub sources-begin : (ops : List Operation) (sources : List (Option ℕ)) → sources ≡ [] → AreSources ops 0
    sources
sources-begin ops sources e = record {
  places = ap length e;
  each = λ p a found at g. let bad = sym (ap (λ xs. slice_get xs p) e) ∙ g in absurd (cc bad);
}

pub sources-more : (ops : List Operation) (i : ℕ) (sources : List (Option ℕ)) (found : Option ℕ)
    (a : Operation)
    → IsAt ops i a → IsSourceAt ops a found → AreSources ops i sources
    → AreSources ops (i + 1) (sources ++ found ∷ [])
sources-more ops i sources found a at is h = record {
  places = omega (arith, h.places, length-push sources found);
  each = λ p b o at-b g. elim (get-push_cases sources found o p g) [
    | inl m ↦ h.each p b o at-b m
    | inr m ↦
        let one = at-one ops i a b at (sym (ap (slice_get ops) (m.0 ∙ h.places)) ∙ at-b) in
        subst (IsSourceAt ops b) m.1 (subst (λ c. IsSourceAt ops c found) one is)
  ];
}

-- what has a source isn't unwritten
pub source-written : (ops : List Operation) (a : Operation) (found : Option ℕ) → IsSourceAt ops a found
    → IsUnwrittenRead ops a → ⊥
source-written ops a None h u = h u.read
source-written ops a (Some q) h u = u.unwritten h.0 (slice_get-In ops q h.0 h.1) h.2
