-- What stands at a place of a list after a push or a write, and edges by their places.
use Rattle.std.proofs.Common.{◌≡◌, ℕ, zero, suc, ◌<◌, List, [], ◌∷◌, ◌++◌, length, set, slice_get}
use Rattle.std.proofs.Common.{Some, ◌⊎◌, inl, inr, refl, ap, ◌∙◌, arith}
use Rattle.std.proofs.lemmas.Option.{slice_get_within, slice_get-get_or, get_or_from_slice_get}
use Rattle.reg_levels.specs.OrderGraph.Graph.{HasEdge}
use Rattle.reg_levels.specs.declared.order_graph.edge.Edge.{Edge}

pub place-push : {X : Type 0} (xs : List X) (y : X) → slice_get (xs ++ y ∷ []) (length xs) ≡ Some y
place-push [] y = refl
place-push (x ∷ xs) y = place-push xs y

pub place-push_kept : {X : Type 0} (xs : List X) (y : X) (i : ℕ) (x : X) → slice_get xs i ≡ Some x
    → slice_get (xs ++ y ∷ []) i ≡ Some x
place-push_kept [] y i x e = absurd (cc e)
place-push_kept (z ∷ xs) y zero x e = e
place-push_kept (z ∷ xs) y (suc i) x e = place-push_kept xs y i x e

pub place-push_cases : {X : Type 0} (xs : List X) (y : X) (i : ℕ) (x : X) → slice_get (xs ++ y ∷ []) i ≡
    Some x
    → (slice_get xs i ≡ Some x) ⊎ ((i ≡ length xs) × (x ≡ y))
place-push_cases [] y zero x e = inr (refl, cc e)
place-push_cases [] y (suc i) x e = absurd (cc e)
place-push_cases (z ∷ xs) y zero x e = inl e
place-push_cases (z ∷ xs) y (suc i) x e =
    elim (place-push_cases xs y i x e) [ inl h ↦ inl h | inr h ↦ inr (ap suc h.0, h.1) ]

pub place-set : {X : Type 0} (xs : List X) (i : ℕ) (y : X) → i < length xs → slice_get (set xs i y) i ≡ Some y
place-set [] i y l = absurd (omega arith)
place-set (x ∷ xs) zero y l = refl
place-set (x ∷ xs) (suc i) y l = place-set xs i y (omega arith)

pub place-set_other : {X : Type 0} (xs : List X) (i j : ℕ) (y : X) → (j ≡ i → ⊥)
    → slice_get (set xs i y) j ≡ slice_get xs j
place-set_other [] i j y h = refl
place-set_other (x ∷ xs) zero zero y h = absurd (h refl)
place-set_other (x ∷ xs) zero (suc j) y h = refl
place-set_other (x ∷ xs) (suc i) zero y h = refl
place-set_other (x ∷ xs) (suc i) (suc j) y h = place-set_other xs i j y (λ e. h (ap suc e))

-- what stands at a place after a write: what was written there, or at another place what stood there
pub place-set_cases : {X : Type 0} (xs : List X) (i j : ℕ) (y x : X) → slice_get (set xs i y) j ≡ Some x
    → ((j ≡ i) × (x ≡ y)) ⊎ ((j ≡ i → ⊥) × (slice_get xs j ≡ Some x))
place-set_cases [] i j y x e = absurd (cc e)
place-set_cases (z ∷ xs) zero zero y x e = inl (refl, cc e)
place-set_cases (z ∷ xs) zero (suc j) y x e = inr (λ k. omega (arith, k), e)
place-set_cases (z ∷ xs) (suc i) zero y x e = inr (λ k. omega (arith, k), e)
place-set_cases (z ∷ xs) (suc i) (suc j) y x e =
    elim (place-set_cases xs i j y x e) [
      | inl h ↦ inl (ap suc h.0, h.1)
      | inr h ↦ inr (λ k. h.0 (omega (arith, k)), h.1)
    ]

pub place-inside : {X : Type 0} (xs : List X) (i : ℕ) → i < length xs → (x : X) × (slice_get xs i ≡ Some x)
place-inside [] i l = absurd (omega arith)
place-inside (x ∷ xs) zero l = (x, refl)
place-inside (x ∷ xs) (suc i) l = place-inside xs i (omega arith)

pub place-same : {X : Type 0} (xs : List X) (i : ℕ) (x y : X) → slice_get xs i ≡ Some x → slice_get xs i ≡
    Some y
    → x ≡ y
place-same xs i x y e f = cc (e, f)

pub edge-at : (edges : List Edge) (k : ℕ) (e : Edge) → slice_get edges k ≡ Some e → HasEdge edges e.from e.to
edge-at edges k e h = (k, slice_get_within edges k e h, get_or_from_slice_get edges k e _ h)

pub place-edge : (edges : List Edge) (a b : ℕ) → HasEdge edges a b
    → (k : ℕ) × (e : Edge) × (slice_get edges k ≡ Some e) × (e.from ≡ a) × (e.to ≡ b)
place-edge edges a b h =
    let e : Edge = record { from = a; to = b } in
    (h.0, e, slice_get-get_or edges h.0 e h.1 ∙ ap Some h.2, refl, refl)
