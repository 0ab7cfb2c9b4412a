-- What a filter keeps, of lists whose elements pass, fail or were filtered before.
use Rattle.std.proofs.Common.{◌≡◌, Bool, true, false, cond, List, [], ◌∷◌, map, inl, inr, refl, sym, ap, ◌∙◌}
use Rattle.std.proofs.lemmas.Bool.{cases_Bool, false≢true}
use Rattle.std.specs.List.{filter}
use Rattle.history_model.specs.Lists.{In}

module _ {A : Type 0} (p : A → Bool) where
  pub filter-pass : (x : A) (xs : List A) → p x ≡ true → filter p (x ∷ xs) ≡ x ∷ filter p xs
  filter-pass x xs t = ap (λ b. cond b (x ∷ filter p xs) (filter p xs)) t

  pub filter-fail : (x : A) (xs : List A) → p x ≡ false → filter p (x ∷ xs) ≡ filter p xs
  filter-fail x xs f = ap (λ b. cond b (x ∷ filter p xs) (filter p xs)) f

  pub filter-all : (xs : List A) → ((x : A) → In x xs → p x ≡ true) → filter p xs ≡ xs
  filter-all [] t = refl
  filter-all (x ∷ xs) t =
      filter-pass x xs (t x (inl refl)) ∙ ap (λ ys. x ∷ ys) (filter-all xs (λ y i. t y (inr i)))

  pub filter-none : (xs : List A) → ((x : A) → In x xs → p x ≡ false) → filter p xs ≡ []
  filter-none [] f = refl
  filter-none (x ∷ xs) f = filter-fail x xs (f x (inl refl)) ∙ filter-none xs (λ y i. f y (inr i))

-- whoever passes q passes p: to filter by p before changes nothing
pub filter-filter : {A : Type 0} (q p : A → Bool) (xs : List A) → ((x : A) → q x ≡ true → p x ≡ true)
    → filter q (filter p xs) ≡ filter q xs
filter-filter q p [] t = refl
filter-filter q p (x ∷ xs) t = elim (cases_Bool (p x)) [
  | inl y ↦ ap (filter q) (filter-pass p x xs y) ∙ elim (cases_Bool (q x)) [
    | inl z ↦ filter-pass q x (filter p xs) z
        ∙ (ap (λ ys. x ∷ ys) (filter-filter q p xs t) ∙ sym (filter-pass q x xs z))
    | inr z ↦ filter-fail q x (filter p xs) z ∙ (filter-filter q p xs t ∙ sym (filter-fail q x xs z))
  ]
  | inr n ↦ ap (filter q) (filter-fail p x xs n) ∙ elim (cases_Bool (q x)) [
    | inl z ↦ absurd (false≢true (sym n ∙ t x z))
    | inr z ↦ filter-filter q p xs t ∙ sym (filter-fail q x xs z)
  ]
]

pub filter-map : {A B : Type 0} (p : B → Bool) (f : A → B) (xs : List A)
    → filter p (map f xs) ≡ map f (filter (λ x. p (f x)) xs)
filter-map p f [] = refl
filter-map p f (x ∷ xs) = elim (cases_Bool (p (f x))) [
  | inl t ↦ filter-pass p (f x) (map f xs) t
      ∙ (ap (λ ys. f x ∷ ys) (filter-map p f xs) ∙ ap (map f) (sym (filter-pass (λ y. p (f y)) x xs t)))
  | inr n ↦ filter-fail p (f x) (map f xs) n
      ∙ (filter-map p f xs ∙ ap (map f) (sym (filter-fail (λ y. p (f y)) x xs n)))
]
