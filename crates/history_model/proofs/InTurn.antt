-- One after another, or by nearest changes: the same orders of one register.
use Rattle.std.proofs.Common.{◌≡◌, ℕ, true, List, [], ◌∷◌, ◌⊎◌, ◌↔◌, inl, inr, refl, sym, ap, subst, ◌∙◌}
use Rattle.std.specs.Prelude.{IsSomeAnd}
use Rattle.std.proofs.lemmas.Bool.{false≢true, cases_Bool}
use Rattle.history_text.specs.declared.event.Val.{Val}
use Rattle.history_text.specs.declared.event.Val.TheVariants.{Null}
use Rattle.history_model.specs.Lists.{In, Before}
use Rattle.history_model.proofs.Lists.{Before-first, Before-second}
use Rattle.history_model.specs.declared.operation.Operation.{Operation}
use Rattle.history_model.specs.Acts.{Suits, asks, changes, given_by, left_by}
use Rattle.history_model.specs.InTurn.{Meets}
use Rattle.history_model.specs.Legal.{IsMet}
use Rattle.history_model.specs.Operations.{IsWrite, IsAsking, initial_write}
use Rattle.history_model.proofs.Acts.{given-suits, suits-given, left-same, unasking-suits}

-- as IsMet, where r may also come before all changes and meet the value v of the register before the order
abbrev IsMetFrom : Val → List Operation → Operation → Type 0
IsMetFrom v order r =
    IsMet order r ⊎ (((w : Operation) → IsWrite w → w.register ≡ r.register → Before w r order → ⊥)
    × Suits r.act v)

-- the first of a list without repeats comes after nothing
not_before : (a w : Operation) (order : List Operation) → ((b : Operation) → Before b b (a ∷ order) → ⊥)
    → Before w a (a ∷ order) → ⊥
not_before a w order once (inl h) = once a (inl (refl, h.1))
not_before a w order once (inr h) = once a (inl (refl, Before-second w a order h))

module _ (k : ℕ) where
  abbrev AreOf : List Operation → Type 0
  AreOf order = (a : Operation) → In a order → a.register ≡ k

  meets_nearest : (order : List Operation) (v : Val) → ((a : Operation) → Before a a order → ⊥) → AreOf order
      → Meets v order → (r : Operation) → In r order → IsMetFrom v order r
  meets_nearest [] v once own m r i = absurd i
  meets_nearest (a ∷ order) v once own m r (inl e) = inr (
    (λ w c q b. not_before a w order once (subst (λ x. Before w x (a ∷ order)) e b)),
    subst (λ (x : Operation). Suits x.act v) (sym e) m.0,
  )
  meets_nearest (a ∷ order) v once own m r (inr i) =
      let absent : In a order → ⊥ = λ h. once a (inl (refl, h)) in
      let not_first : (w : Operation) → In w order → w ≡ a → ⊥ =
      λ w h e. absent (subst (λ x. In x order) e h) in
      elim (meets_nearest order (left_by a.act v) (λ b h. once b (inr h)) (λ b h. own b (inr h)) m.1 r i) [
        | inl h ↦ inl (
          h.0,
          record {
            write = h.1.write;
            register = h.1.register;
            before = inr h.1.before;
            nearest = λ w c q s t. elim s [
              | inl x ↦ not_first h.0 (Before-first h.0 r order h.1.before) x.0
              | inr x ↦ elim t [
                | inl y ↦ not_first w (Before-second h.0 w order x) y.0
                | inr y ↦ h.1.nearest w c q x y
              ]
            ];
          },
          h.2,
        )
        | inr h ↦ elim (cases_Bool (changes a.act)) [
          | inl c ↦ inl (
            a,
            record {
              write = c;
              register = own a (inl refl) ∙ sym (own r (inr i));
              before = inl (refl, i);
              nearest = λ w d q s t. elim t [
                | inl y ↦ elim s [ inl x ↦ not_first w x.1 y.0 | inr x ↦ absent (Before-first a w order x) ]
                | inr y ↦ h.0 w d q y
              ];
            },
            given-suits (Suits r.act) (given_by a.act) v c h.1,
          )
          | inr c ↦ inr (
            (λ w d q b. elim b [
              | inl y ↦
                  false≢true (sym c ∙ subst (λ (x : Operation). changes x.act ≡ true) y.0 d)
              | inr y ↦ h.0 w d q y
            ]),
            subst (Suits r.act) (left-same (given_by a.act) v c) h.1,
          )
        ]
      ]

  nearest_meets : (order : List Operation) (v : Val) → ((a : Operation) → Before a a order → ⊥) → AreOf order
      → ((r : Operation) → In r order → IsAsking r → IsMetFrom v order r) → Meets v order
  nearest_meets [] v once own m = tt
  nearest_meets (a ∷ order) v once own m = (
    elim (cases_Bool (asks a.act)) [
      | inl y ↦ elim (m a (inl refl) y) [
        | inl h ↦ absurd (not_before a h.0 order once h.1.before)
        | inr h ↦ h.1
      ]
      | inr n ↦ unasking-suits a.act v n
    ],
    nearest_meets order (left_by a.act v) (λ b h. once b (inr h)) (λ b h. own b (inr h)) (λ r i y.
        elim (m r (inr i) y) [
          | inl h ↦ elim h.1.before [
            | inl x ↦ inr (
              (λ w c q b. h.1.nearest w c q (inl (x.0, Before-first w r order b)) (inr b)),
              suits-given (Suits r.act) (given_by a.act) v
                  (subst (λ (z : Operation). IsSomeAnd (given_by z.act) (Suits r.act)) x.0 h.2),
            )
            | inr x ↦ inl (
              h.0,
              record {
                write = h.1.write;
                register = h.1.register;
                before = x;
                nearest = λ w c q s t. h.1.nearest w c q (inr s) (inr t);
              },
              h.2,
            )
          ]
          | inr h ↦ inr (
            (λ w c q b. h.0 w c q (inr b)),
            elim (cases_Bool (changes a.act)) [
              | inl c ↦ absurd (h.0 a c (own a (inl refl) ∙ sym (own r (inr i))) (inl (refl, i)))
              | inr c ↦ subst (Suits r.act) (sym (left-same (given_by a.act) v c)) h.1
            ],
          )
        ]),
  )

  pub in-turn : (order : List Operation) → ((a : Operation) → Before a a (initial_write k ∷ order) → ⊥)
      → AreOf order → (((r : Operation) → In r (initial_write k ∷ order) → IsAsking r
      → IsMet (initial_write k ∷ order) r) ↔ Meets Null order)
  in-turn order once own =
      let all : AreOf (initial_write k ∷ order) =
      λ a i. elim i [ inl e ↦ ap (λ (o : Operation). o.register) e | inr h ↦ own a h ] in (
        λ m. (nearest_meets (initial_write k ∷ order) Null once all (λ r i y. inl (m r i y))).1,
        λ m r i y. elim (meets_nearest (initial_write k ∷ order) Null once all (refl, m) r i) [
          | inl h ↦ h
          | inr h ↦ elim i [
            | inl e ↦ absurd (false≢true (ap (λ (o : Operation). asks o.act) (sym e) ∙ y))
            | inr j ↦ absurd (h.0 (initial_write k) refl (sym (own r j)) (inl (refl, j)))
          ]
        ],
      )
