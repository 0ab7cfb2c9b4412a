-- Every list whose elements a strict order ranks has a sorted form.
use Rattle.std.proofs.Common.{◌≡◌, List, [], ◌∷◌, ◌⊎◌, inl, inr, refl, sym, subst, ◌∙◌}
use Rattle.history_model.specs.Lists.{In, Before}

-- ys has the elements of xs, ascending by R
pub record IsSortedOf {X : Type 0} (R : X → X → Type 0) (xs ys : List X) : Type 0 where
  pub only : (a : X) → In a ys → In a xs
  pub all : (a : X) → In a xs → In a ys
  pub ascending : (a b : X) → Before a b ys → R a b

module _ {X : Type 0} (P : X → Type 0) (R : X → X → Type 0)
    (total : (a b : X) → P a → P b → (a ≡ b) ⊎ (R a b ⊎ R b a))
    (trans : (a b c : X) → P a → P b → P c → R a b → R b c → R a c) where
  insert : (a : X) (ys : List X) → P a → ((x : X) → In x ys → P x) → ((x z : X) → Before x z ys → R x z)
      → (zs : List X) × IsSortedOf R (a ∷ ys) zs
  insert a [] p ps up = (
    a ∷ [],
    record {
      only = λ x i. i;
      all = λ x i. i;
      ascending = λ x z b. elim b [ inl h ↦ absurd h.1 | inr h ↦ absurd h ];
    },
  )
  insert a (y ∷ ys) p ps up =
      let rest = insert a ys p (λ x i. ps x (inr i)) (λ x z b. up x z (inr b)) in
      elim (total a y p (ps y (inl refl))) [
        | inl e ↦ (
          y ∷ ys,
          record {
            only = λ x i. inr i;
            all = λ x i. elim i [ inl s ↦ inl (s ∙ e) | inr k ↦ k ];
            ascending = up;
          },
        )
        | inr r ↦ elim r [
          | inl lt ↦ (
            a ∷ y ∷ ys,
            record {
              only = λ x i. i;
              all = λ x i. i;
              ascending = λ x z b. elim b [
                | inl h ↦ subst (λ w. R w z) (sym h.0) (elim h.1 [
                  | inl s ↦ subst (R a) (sym s) lt
                  | inr k ↦ trans a y z p (ps y (inl refl)) (ps z (inr k)) lt (up y z (inl (refl, k)))
                ])
                | inr h ↦ up x z h
              ];
            },
          )
          | inr gt ↦ (
            y ∷ rest.0,
            record {
              only =
                  λ x i. elim i [
                    | inl s ↦ inr (inl s)
                    | inr k ↦ elim (rest.1.only x k) [ inl s ↦ inl s | inr t ↦ inr (inr t) ]
                  ];
              all =
                  λ x i. elim i [
                    | inl s ↦ inr (rest.1.all x (inl s))
                    | inr k ↦ elim k [ inl s ↦ inl s | inr t ↦ inr (rest.1.all x (inr t)) ]
                  ];
              ascending = λ x z b. elim b [
                | inl h ↦ subst (λ w. R w z) (sym h.0)
                    (elim (rest.1.only z h.1) [
                      | inl s ↦ subst (R y) (sym s) gt
                      | inr t ↦ up y z (inl (refl, t))
                    ])
                | inr h ↦ rest.1.ascending x z h
              ];
            },
          )
        ]
      ]

  pub sorted : (xs : List X) → ((x : X) → In x xs → P x) → (ys : List X) × IsSortedOf R xs ys
  sorted [] ps = ([], record { only = λ x i. i; all = λ x i. i; ascending = λ x z b. absurd b })
  sorted (a ∷ xs) ps =
      let rest = sorted xs (λ x i. ps x (inr i)) in
      let one = insert a rest.0 (ps a (inl refl)) (λ x i. ps x (inr (rest.1.only x i))) rest.1.ascending in (
        one.0,
        record {
          only = λ x i. elim (one.1.only x i) [ inl s ↦ inl s | inr k ↦ inr (rest.1.only x k) ];
          all = λ x i. one.1.all x (elim i [ inl s ↦ inl s | inr k ↦ inr (rest.1.all x k) ]);
          ascending = one.1.ascending;
        },
      )

-- the elements that pass a test
pub picked : {X : Type 0} (Q : X → Type 0) → ((x : X) → Q x ⊎ (Q x → ⊥)) → (xs : List X)
    → (ys : List X) × ((x : X) → In x ys → In x xs × Q x) × ((x : X) → In x xs → Q x → In x ys)
picked Q d [] = ([], λ x i. elim i [ ], λ x i q. i)
picked Q d (a ∷ xs) =
    let r = picked Q d xs in
    elim (d a) [
      | inl q ↦ (
        a ∷ r.0,
        λ x i. elim i [ inl s ↦ (inl s, subst Q (sym s) q) | inr k ↦ (inr (r.1 x k).0, (r.1 x k).1) ],
        λ x i p. elim i [ inl s ↦ inl s | inr k ↦ inr (r.2 x k p) ],
      )
      | inr n ↦ (
        r.0,
        λ x i. (inr (r.1 x i).0, (r.1 x i).1),
        λ x i p. elim i [ inl s ↦ absurd (n (subst Q s p)) | inr k ↦ r.2 x k p ],
      )
    ]
