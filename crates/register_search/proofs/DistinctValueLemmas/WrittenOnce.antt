-- One more operation, which writes a value that none before it wrote.
use Rattle.std.proofs.Common.{◌≡◌, ℤ, cond, Bool, true, false, List, [], ◌∷◌, ◌++◌}
use Rattle.std.proofs.Common.{Result, Ok, Err, IfOk, IsTrue, inl, inr, sym, ap, ◌∙◌, ◌⊎◌}
use Rattle.std.proofs.lemmas.Bool.{false≢true, cases_Bool}
use Rattle.std.proofs.lemmas.Bool.Decides.{Decides-int_eq}
use Rattle.std.specs.Ordering.{int_eq}
use Rattle.register_search.specs.declared.value_numbers.ValueNumbers.{ValueNumbers}
use Rattle.register_search.specs.ValueNumbers.{has_number}
use Rattle.history_text.specs.declared.event.Val.{Val}
use Rattle.history_text.specs.declared.event.Val.TheVariants.{Null, Int}
use Rattle.history_model.specs.Lists.{Before, In}
use Rattle.history_model.proofs.Lists.{append-In}
use Rattle.history_model.specs.declared.act.Act.TheVariants.{Write}
use Rattle.history_model.specs.declared.operation.Operation.{Operation}
use Rattle.register_search.specs.DistinctValues.WrittenOnce.{HasWritten}

-- what stands before what in a list with one more
before-push : (x y : Operation) (zs : List Operation) (a : Operation) → Before x y (zs ++ a ∷ [])
    → Before x y zs ⊎ (In x zs × (y ≡ a))
before-push x y [] a h = elim h [ inl one ↦ absurd one.1 | inr none ↦ absurd none ]
before-push x y (z ∷ zs) a h = elim h [
  | inl first ↦ elim (append-In y zs (a ∷ []) first.1) [
    | inl j ↦ inl (inl (first.0, j))
    | inr j ↦ elim j [ inl same ↦ inr (inl first.0, same) | inr none ↦ absurd none ]
  ]
  | inr later ↦ elim (before-push x y zs a later) [
    | inl there ↦ inl (inr there)
    | inr last ↦ inr (inr last.0, last.1)
  ]
]

-- one that writes nothing
pub one-other : (ops : List Operation) (a : Operation) (s : ValueNumbers)
    → ((v : Val) → a.act ≡ Write v → ⊥) → HasWritten ops s → HasWritten (ops ++ a ∷ []) s
one-other ops a s other h =
    let no : (b : Operation) (v : Val) → b ≡ a → b.act ≡ Write v → ⊥ =
    λ b v same e. other v (ap (λ (o : Operation). o.act) (sym same) ∙ e) in
    record {
      once = record {
        null = λ b i e. elim (append-In b ops (a ∷ []) i) [
          | inl j ↦ h.once.null b j e
          | inr j ↦ elim j [ inl same ↦ no b Null same e | inr z ↦ absurd z ]
        ];
        once = λ b c n t e f. elim (before-push b c ops a t) [
          | inl there ↦ h.once.once b c n there e f
          | inr last ↦ no c (Int n) last.1 f
        ];
      };
      has = λ b n i e. elim (append-In b ops (a ∷ []) i) [
        | inl j ↦ h.has b n j e
        | inr j ↦ elim j [ inl same ↦ absurd (no b (Int n) same e) | inr z ↦ absurd z ]
      ];
    }

written-number : (m n : ℤ) → Write (Int m) ≡ Write (Int n) → m ≡ n
written-number m n e = cc (e)

-- one that writes a new number
pub one-write : (ops : List Operation) (a : Operation) (s t : ValueNumbers) (m : ℤ) → a.act ≡ Write (Int m)
    → has_number s m ≡ false
    → ((q : ℤ) → has_number t q ≡ cond (int_eq m q) true (has_number s q))
    → HasWritten ops s → HasWritten (ops ++ a ∷ []) t
one-write ops a s t m writes new adds h =
    let number : (b : Operation) (n : ℤ) → b ≡ a → b.act ≡ Write (Int n) → m ≡ n =
    λ b n same e. written-number m n (sym writes ∙ (ap (λ (o : Operation). o.act) (sym same) ∙ e)) in
    record {
      once = record {
        null = λ b i e. elim (append-In b ops (a ∷ []) i) [
          | inl j ↦ h.once.null b j e
          | inr j ↦ elim j [
            | inl same ↦ let q = sym writes ∙ (ap (λ (o : Operation). o.act) (sym same) ∙ e) in cc (q)
            | inr z ↦ absurd z
          ]
        ];
        once = λ b c n u e f. elim (before-push b c ops a u) [
          | inl there ↦ h.once.once b c n there e f
          | inr last ↦
              let same = number c n last.1 f in
              absurd (false≢true (sym new ∙ (ap (has_number s) same ∙ h.has b n last.0 e)))
        ];
      };
      has = λ b n i e. adds n ∙ elim (append-In b ops (a ∷ []) i) [
        | inl j ↦ elim (cases_Bool (int_eq m n)) [
          | inl y ↦ ap (λ x. cond x true (has_number s n)) y
          | inr y ↦ ap (λ x. cond x true (has_number s n)) y ∙ h.has b n j e
        ]
        | inr j ↦ elim j [
          | inl same ↦
              ap (λ x. cond x true (has_number s n)) ((Decides-int_eq m n).1 (number b n same e))
          | inr z ↦ absurd z
        ]
      ];
    }

-- unless memory ran out or the number is there, it is added
pub write-or-not : {E : Type 0} (result : Result Bool E) (s t : ValueNumbers) (m : ℤ)
    → IfOk result (λ is. IsTrue is → has_number s m ≡ false)
    → IfOk result (λ _. (q : ℤ) → has_number t q ≡ cond (int_eq m q) true (has_number s q))
    → IfOk result (λ is. IsTrue is → (ops : List Operation) (a : Operation) → a.act ≡ Write (Int m)
    → HasWritten ops s → HasWritten (ops ++ a ∷ []) t)
write-or-not (Ok is) s t m new adds = λ y ops a writes h. one-write ops a s t m writes (new y) adds h
write-or-not (Err e) s t m new adds = adds
