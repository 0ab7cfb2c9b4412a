-- Elements of lists and their places: what maps, filters, joins and writes keep.
use Rattle.std.proofs.Common.{◌≡◌, ℕ, zero, suc, ◌<◌, Bool, true, false, cond, List, []}
use Rattle.std.proofs.Common.{◌∷◌, ◌++◌, length, set, slice_get, Option, Some, None, map}
use Rattle.std.proofs.Common.{◌⊎◌, inl, inr, refl, sym, ap, subst, ◌∙◌, arith}
use Rattle.std.specs.List.{filter}
use Rattle.std.specs.Option.{option_or}
use Rattle.history_model.specs.Lists.{In, Before}

pub In-map : {A B : Type 0} (f : A → B) (a : A) (xs : List A) → In a xs → In (f a) (map f xs)
In-map f a [] h = h
In-map f a (x ∷ xs) (inl e) = inl (ap f e)
In-map f a (x ∷ xs) (inr h) = inr (In-map f a xs h)

pub map-In : {A B : Type 0} (f : A → B) (b : B) (xs : List A) → In b (map f xs)
    → (a : A) × In a xs × (b ≡ f a)
map-In f b [] h = absurd h
map-In f b (x ∷ xs) (inl e) = (x, inl refl, e)
map-In f b (x ∷ xs) (inr h) = let r = map-In f b xs h in (r.0, inr r.1, r.2)

pub In-filter : {A : Type 0} (p : A → Bool) (a : A) (xs : List A) → In a xs → p a ≡ true → In a (filter p xs)
In-filter p a [] h t = h
In-filter p a (x ∷ xs) (inl e) t =
    subst (λ b. In a (cond b (x ∷ filter p xs) (filter p xs))) (sym t ∙ ap p e) (inl e)
In-filter p a (x ∷ xs) (inr h) t =
    elim (p x) as (λ b. In a (cond b (x ∷ filter p xs) (filter p xs))) [
      | true ↦ inr (In-filter p a xs h t)
      | false ↦ In-filter p a xs h t
    ]

pub filter-In : {A : Type 0} (p : A → Bool) (a : A) (xs : List A) → In a (filter p xs)
    → In a xs × (p a ≡ true)
filter-In p a [] h = absurd h
filter-In p a (x ∷ xs) h = go (p x) refl h (filter-In p a xs)
  where
    go : (b : Bool) → p x ≡ b → In a (cond b (x ∷ filter p xs) (filter p xs))
        → (In a (filter p xs) → In a xs × (p a ≡ true)) → In a (x ∷ xs) × (p a ≡ true)
    go true e (inl i) f = (inl i, ap p i ∙ e)
    go true e (inr k) f = (inr (f k).0, (f k).1)
    go false e k f = (inr (f k).0, (f k).1)

pub Before-first : {X : Type 0} (x y : X) (zs : List X) → Before x y zs → In x zs
Before-first x y [] h = h
Before-first x y (z ∷ zs) (inl h) = inl h.0
Before-first x y (z ∷ zs) (inr h) = inr (Before-first x y zs h)

pub Before-second : {X : Type 0} (x y : X) (zs : List X) → Before x y zs → In y zs
Before-second x y [] h = h
Before-second x y (z ∷ zs) (inl h) = inr h.1
Before-second x y (z ∷ zs) (inr h) = inr (Before-second x y zs h)

-- of two elements one is the other, or stands before it
pub Before-total : {X : Type 0} (x y : X) (zs : List X) → In x zs → In y zs
    → (x ≡ y) ⊎ (Before x y zs ⊎ Before y x zs)
Before-total x y [] h k = absurd h
Before-total x y (z ∷ zs) (inl h) (inl k) = inl (h ∙ sym k)
Before-total x y (z ∷ zs) (inl h) (inr k) = inr (inl (inl (h, k)))
Before-total x y (z ∷ zs) (inr h) (inl k) = inr (inr (inl (k, h)))
Before-total x y (z ∷ zs) (inr h) (inr k) =
    elim (Before-total x y zs h k) [
      | inl e ↦ inl e
      | inr b ↦ elim b [ inl c ↦ inr (inl (inr c)) | inr c ↦ inr (inr (inr c)) ]
    ]

-- where no element stands twice, what stands before is a strict order
pub Before-trans : {X : Type 0} (x y w : X) (zs : List X) → ((a : X) → Before a a zs → ⊥) → Before x y zs
    → Before y w zs → Before x w zs
Before-trans x y w [] once h k = h
Before-trans x y w (z ∷ zs) once (inl h) (inl k) = inl (h.0, k.1)
Before-trans x y w (z ∷ zs) once (inl h) (inr k) = inl (h.0, Before-second y w zs k)
Before-trans x y w (z ∷ zs) once (inr h) (inl k) = absurd (once y (inl (k.0, Before-second x y zs h)))
Before-trans x y w (z ∷ zs) once (inr h) (inr k) = inr (Before-trans x y w zs (λ a b. once a (inr b)) h k)

pub Before-map : {A B : Type 0} (f : A → B) (x y : A) (zs : List A) → Before x y zs
    → Before (f x) (f y) (map f zs)
Before-map f x y [] h = h
Before-map f x y (z ∷ zs) (inl h) = inl (ap f h.0, In-map f y zs h.1)
Before-map f x y (z ∷ zs) (inr h) = inr (Before-map f x y zs h)

pub map-Before : {A B : Type 0} (f : A → B) (a b : B) (zs : List A) → Before a b (map f zs)
    → (x : A) × (y : A) × Before x y zs × (a ≡ f x) × (b ≡ f y)
map-Before f a b [] h = absurd h
map-Before f a b (z ∷ zs) (inl h) = let r = map-In f b zs h.1 in (z, r.0, inl (refl, r.1), h.0, r.2)
map-Before f a b (z ∷ zs) (inr h) = let r = map-Before f a b zs h in (r.0, r.1, inr r.2, r.3, r.4)

pub Before-filter : {A : Type 0} (p : A → Bool) (x y : A) (zs : List A) → Before x y zs → p x ≡ true
    → p y ≡ true → Before x y (filter p zs)
Before-filter p x y [] h s t = h
Before-filter p x y (z ∷ zs) (inl h) s t =
    subst (λ b. Before x y (cond b (z ∷ filter p zs) (filter p zs))) (sym s
    ∙ ap p h.0) (inl (h.0, In-filter p y zs h.1 t))
Before-filter p x y (z ∷ zs) (inr h) s t =
    elim (p z) as (λ b. Before x y (cond b (z ∷ filter p zs) (filter p zs))) [
      | true ↦
          inr (Before-filter p x y zs h s t)
      | false ↦ Before-filter p x y zs h s t
    ]

pub filter-Before : {A : Type 0} (p : A → Bool) (x y : A) (zs : List A) → Before x y (filter p zs)
    → Before x y zs
filter-Before p x y [] h = h
filter-Before p x y (z ∷ zs) h = go (p z) h (filter-Before p x y zs)
  where
    go : (b : Bool) → Before x y (cond b (z ∷ filter p zs) (filter p zs))
        → (Before x y (filter p zs) → Before x y zs) → Before x y (z ∷ zs)
    go true (inl k) f = inl (k.0, (filter-In p y zs k.1).0)
    go true (inr k) f = inr (f k)
    go false k f = inr (f k)

pub append-In : {X : Type 0} (a : X) (xs ys : List X) → In a (xs ++ ys) → In a xs ⊎ In a ys
append-In a [] ys h = inr h
append-In a (x ∷ xs) ys (inl h) = inl (inl h)
append-In a (x ∷ xs) ys (inr h) = elim (append-In a xs ys h) [ inl k ↦ inl (inr k) | inr k ↦ inr k ]

pub In-left : {X : Type 0} (a : X) (xs ys : List X) → In a xs → In a (xs ++ ys)
In-left a [] ys h = elim h [ ]
In-left a (x ∷ xs) ys (inl e) = inl e
In-left a (x ∷ xs) ys (inr h) = inr (In-left a xs ys h)

pub In-right : {X : Type 0} (a : X) (xs ys : List X) → In a ys → In a (xs ++ ys)
In-right a [] ys h = h
In-right a (x ∷ xs) ys h = inr (In-right a xs ys h)

pub Before-across : {X : Type 0} (x y : X) (xs ys : List X) → In x xs → In y ys → Before x y (xs ++ ys)
Before-across x y [] ys h k = elim h [ ]
Before-across x y (z ∷ xs) ys (inl e) k = inl (e, In-right y xs ys k)
Before-across x y (z ∷ xs) ys (inr h) k = inr (Before-across x y xs ys h k)

pub Before-right : {X : Type 0} (x y : X) (xs ys : List X) → Before x y ys → Before x y (xs ++ ys)
Before-right x y [] ys h = h
Before-right x y (z ∷ xs) ys h = inr (Before-right x y xs ys h)

pub slice_get-In : {X : Type 0} (xs : List X) (i : ℕ) (x : X) → slice_get xs i ≡ Some x → In x xs
slice_get-In [] i x e = absurd (cc e)
slice_get-In (y ∷ xs) zero x e = inl (cc e)
slice_get-In (y ∷ xs) (suc i) x e = inr (slice_get-In xs i x e)

-- the element at a place within a list
pub slice_get_inside : {X : Type 0} (xs : List X) (i : ℕ) → i < length xs
    → (x : X) × (slice_get xs i ≡ Some x)
slice_get_inside [] i l = absurd (omega arith)
slice_get_inside (x ∷ xs) zero l = (x, refl)
slice_get_inside (x ∷ xs) (suc i) l = slice_get_inside xs i (omega arith)

-- what stands behind a list doesn't change what stands at a place of it
pub slice_get-append : {X : Type 0} (xs ys : List X) (i : ℕ) → i < length xs
    → slice_get (xs ++ ys) i ≡ slice_get xs i
slice_get-append [] ys i l = absurd (omega arith)
slice_get-append (x ∷ xs) ys zero l = refl
slice_get-append (x ∷ xs) ys (suc i) l = slice_get-append xs ys i (omega arith)

-- the element behind a list
pub slice_get-behind : {X : Type 0} (xs : List X) (y : X) (ys : List X)
    → slice_get (xs ++ y ∷ ys) (length xs) ≡ Some y
slice_get-behind [] y ys = refl
slice_get-behind (x ∷ xs) y ys = slice_get-behind xs y ys

pub slice_get-push : {A : Type 0} (xs : List A) (y : A) → slice_get (xs ++ y ∷ []) (length xs) ≡ Some y
slice_get-push xs y = slice_get-behind xs y []

pub slice_get-push_other : {A : Type 0} (xs : List A) (y : A) (i : ℕ) → (i ≡ length xs → ⊥)
    → slice_get (xs ++ y ∷ []) i ≡ slice_get xs i
slice_get-push_other [] y zero h = absurd (h refl)
slice_get-push_other [] y (suc i) h = refl
slice_get-push_other (x ∷ xs) y zero h = refl
slice_get-push_other (x ∷ xs) y (suc i) h = slice_get-push_other xs y i (λ e. h (omega (arith, e)))

pub slice_get-set : {A : Type 0} (xs : List A) (i : ℕ) (y : A) → i < length xs
    → slice_get (set xs i y) i ≡ Some y
slice_get-set [] i y l = absurd (omega arith)
slice_get-set (x ∷ xs) zero y l = refl
slice_get-set (x ∷ xs) (suc i) y l = slice_get-set xs i y (omega arith)

pub slice_get-set_other : {A : Type 0} (xs : List A) (i j : ℕ) (y : A) → (j ≡ i → ⊥)
    → slice_get (set xs i y) j ≡ slice_get xs j
slice_get-set_other [] i j y h = refl
slice_get-set_other (x ∷ xs) zero zero y h = absurd (h refl)
slice_get-set_other (x ∷ xs) zero (suc j) y h = refl
slice_get-set_other (x ∷ xs) (suc i) zero y h = refl
slice_get-set_other (x ∷ xs) (suc i) (suc j) y h = slice_get-set_other xs i j y (λ e. h (ap suc e))

pub option_or-none : {X : Type 0} (o : Option X) → option_or o None ≡ o
option_or-none None = refl
option_or-none (Some x) = refl
