-- The operations at places, and what stands before what among them.
use Rattle.std.proofs.Common.{◌≡◌, ℕ, ◌<◌, List, [], ◌∷◌, length}
use Rattle.std.proofs.Common.{slice_get, Some, inl, inr, refl, sym, ap, ◌∙◌, subst, arith}
use Rattle.std.proofs.lemmas.Option.{slice_get-get_or}
use Rattle.history_model.specs.Lists.{In, Before}
use Rattle.history_model.specs.declared.operation.Operation.{Operation}
use Rattle.history_model.proofs.Indexes.{get_or-Before}
use Rattle.reg_levels.proofs.OrderGraphLemmas.Places.{place-inside}
use Rattle.causal_order.specs.SessionClocks.Sessions.{IsAt}
use Rattle.causal_order.specs.Decisions.{AreAt}
use Rattle.causal_order.proofs.SessionClockLemmas.Ordered.{at-one}
use Rattle.history_model.proofs.Indexes.{get_or-Before}

-- the operations at places below their number
pub ops-at : (ops : List Operation) (places : List ℕ) → ((p : ℕ) → In p places → p < length ops)
    → (order : List Operation) × AreAt ops places order
ops-at ops [] h = ([], tt)
ops-at ops (p ∷ places) h =
    let a = place-inside ops p (h p (inl refl)) in
    let rest = ops-at ops places (λ q i. h q (inr i)) in
    (a.0 ∷ rest.0, (a.1, rest.1))

pub ops_in : (ops : List Operation) (places : List ℕ) (order : List Operation) (v : Operation)
    → AreAt ops places order
    → In v order → (p : ℕ) × In p places × IsAt ops p v
ops_in ops [] [] v h i = absurd i
ops_in ops [] (a ∷ order) v h i = absurd h
ops_in ops (p ∷ places) [] v h i = absurd h
ops_in ops (p ∷ places) (a ∷ order) v h (inl e) = (p, inl refl, subst (IsAt ops p) (sym e) h.0)
ops_in ops (p ∷ places) (a ∷ order) v h (inr i) = let r = ops_in ops places order v h.1 i in
    (r.0, inr r.1, r.2)

pub in_ops : (ops : List Operation) (places : List ℕ) (order : List Operation) (p : ℕ) (v : Operation)
    → AreAt ops places order → In p places → IsAt ops p v → In v order
in_ops ops [] [] p v h i at = absurd i
in_ops ops [] (a ∷ order) p v h i at = absurd h
in_ops ops (q ∷ places) [] p v h i at = absurd h
in_ops ops (q ∷ places) (a ∷ order) p v h (inl e) at =
    inl (at-one ops q v a (subst (λ n. IsAt ops n v) e at) h.0)
in_ops ops (q ∷ places) (a ∷ order) p v h (inr i) at = inr (in_ops ops places order p v h.1 i at)

pub ops_before : (ops : List Operation) (places : List ℕ) (order : List Operation) (v w : Operation)
    → AreAt ops places order → Before v w order
    → (p : ℕ) × (q : ℕ) × Before p q places × IsAt ops p v × IsAt ops q w
ops_before ops [] [] v w h b = absurd b
ops_before ops [] (a ∷ order) v w h b = absurd h
ops_before ops (p ∷ places) [] v w h b = absurd h
ops_before ops (p ∷ places) (a ∷ order) v w h (inl b) =
    let r = ops_in ops places order w h.1 b.1 in
    (p, r.0, inl (refl, r.1), subst (IsAt ops p) (sym b.0) h.0, r.2)
ops_before ops (p ∷ places) (a ∷ order) v w h (inr b) =
    let r = ops_before ops places order v w h.1 b in (r.0, r.1, inr r.2, r.3, r.4)

pub before_ops : (ops : List Operation) (places : List ℕ) (order : List Operation) (p q : ℕ) (v w : Operation)
    → AreAt ops places order → Before p q places → IsAt ops p v → IsAt ops q w → Before v w order
before_ops ops [] [] p q v w h b at there = absurd b
before_ops ops [] (a ∷ order) p q v w h b at there = absurd h
before_ops ops (n ∷ places) [] p q v w h b at there = absurd h
before_ops ops (n ∷ places) (a ∷ order) p q v w h (inl b) at there =
    inl (at-one ops n v a (subst (λ k. IsAt ops k v) b.0 at) h.0, in_ops ops places order q w h.1 b.1 there)
before_ops ops (n ∷ places) (a ∷ order) p q v w h (inr b) at there =
    inr (before_ops ops places order p q v w h.1 b at there)

-- what stands before what, by places
pub before_places : (xs : List ℕ) (a b : ℕ) → Before a b xs
    → (i : ℕ) × (j : ℕ) × (i < j) × (slice_get xs i ≡ Some a) × (slice_get xs j ≡ Some b)
before_places xs a b h =
    let r = get_or-Before xs a b h in
    let l : r.0 < length xs = omega (arith, r.2, r.3) in (
      r.0,
      r.1,
      r.2,
      slice_get-get_or xs r.0 0 l ∙ ap Some (r.4 0),
      slice_get-get_or xs r.1 0 r.3
          ∙ ap Some (r.5 0),
    )
