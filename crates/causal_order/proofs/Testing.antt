-- What the tests of a listing say of the operation at a place.
use Rattle.std.proofs.Common.{◌≡◌, ◌⊎◌, ℕ, ◌<◌, Bool, true, false, ◌&&◌, ◌||◌, List, ◌++◌, length}
use Rattle.std.proofs.Common.{slice_get, Option, Some, None, inl, inr, refl, sym, ap, ◌∙◌, subst}
use Rattle.std.specs.List.{filter}
use Rattle.std.specs.Option.{is_none, is_some}
use Rattle.history_model.specs.Lists.{In}
use Rattle.history_model.specs.Operations.{IsCompleted, IsWrite, is_write}
use Rattle.history_model.specs.declared.operation.Operation.{Operation}
use Rattle.history_model.proofs.Lists.{append-In, filter-In}
use Rattle.reg_levels.specs.OrderGraph.Graph.{IsForwardOrder}
use Rattle.reg_levels.specs.declared.order_graph.edge.Edge.{Edge}
use Rattle.reg_levels.proofs.OrderGraphLemmas.Places.{place-inside}
use Rattle.causal_order.specs.SessionClocks.Sessions.{IsAt}
use Rattle.causal_order.specs.CausalOrders.{is_initial_at, is_initial_of, is_listed_at, is_listed_of}
use Rattle.causal_order.proofs.Places.{In-at}

none_of : (o : Option ℕ) → is_none o ≡ true → o ≡ None
none_of None e = refl
none_of (Some x) e = absurd (cc e)

some_of : (o : Option ℕ) → is_some o ≡ true → (x : ℕ) × (o ≡ Some x)
some_of None e = absurd (cc e)
some_of (Some x) e = (x, refl)

both_true : (b c : Bool) → (b && c) ≡ true → (b ≡ true) × (c ≡ true)
both_true true c e = (refl, e)
both_true false c e = absurd (cc e)

either_true : (b c : Bool) → (b || c) ≡ true → (b ≡ true) ⊎ (c ≡ true)
either_true true c e = inl refl
either_true false c e = inr e

pub initial_place : (ops : List Operation) (p : ℕ) (v : Operation) → IsAt ops p v → is_initial_at ops p ≡ true
    → v.process ≡ None
initial_place ops p v at e = none_of v.process (sym (ap is_initial_of at) ∙ e)

pub place_initial : (ops : List Operation) (p : ℕ) (v : Operation) → IsAt ops p v → v.process ≡ None
    → is_initial_at ops p ≡ true
place_initial ops p v at e = ap is_initial_of at ∙ ap is_none e

-- a write that somebody called and that is completed or read
pub record IsListed (read : List Bool) (p : ℕ) (v : Operation) : Type 0 where
  pub process : ℕ
  pub called : v.process ≡ Some process
  pub write : IsWrite v
  pub kept : IsCompleted v ⊎ (slice_get read p ≡ Some true)

pub listed_place : (ops : List Operation) (read : List Bool) (p : ℕ) (v : Operation) → IsAt ops p v
    → is_listed_at ops read p ≡ true → IsListed read p v
listed_place ops read p v at e =
    go (slice_get read p) refl (sym (ap (λ o. is_listed_of o (slice_get read p)) at) ∙ e)
  where
    go : (o : Option Bool) → slice_get read p ≡ o → is_listed_of (Some v) o ≡ true → IsListed read p v
    go None there f = absurd (cc f)
    go (Some b) there f =
        let all = both_true (is_some v.process && is_write v) (v.completed || b) f in
        let first = both_true (is_some v.process) (is_write v) all.0 in
        let called = some_of v.process first.0 in
        record {
          process = called.0;
          called = called.1;
          write = first.1;
          kept = elim (either_true v.completed b all.1) [
            | inl c ↦ inl c
            | inr c ↦ inr (there ∙ ap Some c)
          ];
        }

pub place_listed : (ops : List Operation) (read : List Bool) (p : ℕ) (v : Operation) → IsAt ops p v
    → p < length read → IsListed read p v → is_listed_at ops read p ≡ true
place_listed ops read p v at l h =
    let b = place-inside read p l in
    ap (λ o. is_listed_of o (slice_get read p)) at
    ∙ (ap (is_listed_of (Some v)) b.1
    ∙ go (v.process) v.completed b.0 h.called (elim h.kept [
      | inl c ↦ inl c
      | inr c ↦ let s : Some b.0 ≡ Some true = sym b.1 ∙ c in inr (cc s)
    ]))
  where
    go : (process : Option ℕ) (completed b : Bool) → process ≡ Some h.process
        → (completed ≡ true) ⊎ (b ≡ true)
        → ((is_some process && is_write v) && (completed || b)) ≡ true
    go process completed b e k =
        ap (λ o. (is_some o && is_write v) && (completed || b)) e
        ∙ (ap (λ c. c && (completed || b)) h.write ∙ either completed b k)
      where
        either : (c d : Bool) → (c ≡ true) ⊎ (d ≡ true) → (c || d) ≡ true
        either true d k = refl
        either false d (inl e) = absurd (cc e)
        either false d (inr e) = e

-- the places that are listed are those of operations
pub listed-below : (ops : List Operation) (edges : List Edge) (order : List ℕ) (read : List Bool)
    (places : List ℕ)
    → IsForwardOrder (length ops) edges order
    → places ≡ filter (is_initial_at ops) order ++ filter (is_listed_at ops read) order
    → (p : ℕ) → In p places → p < length ops
listed-below ops edges order read places f e p i =
    elim (append-In p (filter (is_initial_at ops) order) (filter (is_listed_at ops read) order)
    (subst (In p) e i)) [
      | inl k ↦ below (filter-In (is_initial_at ops) p order k).0
      | inr k ↦ below (filter-In (is_listed_at ops read) p order k).0
    ]
  where
    below : In p order → p < length ops
    below i = let j = In-at order p i in f.only j.0 p j.1
