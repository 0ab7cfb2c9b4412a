-- In an order in which each operation comes after those that it learns of at once, it comes after all that it
-- knows of.
use Rattle.std.proofs.Common.{◌≡◌, ℕ, zero, suc, ◌<◌, ◌≤◌, List, [], ◌∷◌, slice_get, Option, Some, None}
use Rattle.std.proofs.Common.{inl, inr, refl}
use Rattle.std.proofs.Common.{sym, ap, ◌∙◌, subst, arith, length}
use Rattle.std.proofs.lemmas.Bool.{cases_order}
use Rattle.std.proofs.lemmas.Option.{slice_get_within}
use Rattle.history_model.specs.Lists.{In}
use Rattle.history_model.specs.declared.operation.Operation.{Operation}
use Rattle.reg_levels.proofs.OrderGraphLemmas.Places.{place-inside}
use Rattle.level_laws.specs.Causal.{IsWay, IsWhole, Knows, Learns}
use Rattle.causal_order.specs.SessionClocks.Clocks.{Asks, IsLearningOrder}
use Rattle.causal_order.specs.SessionClocks.Sessions.{IsAt, IsCalledInOrder, IsPrevious, IsSessionTable}
use Rattle.causal_order.specs.SessionClocks.Sessions.{IsSourceAt}
use Rattle.causal_order.specs.declared.session_clocks.table.SessionTable.{SessionTable}
use Rattle.causal_order.proofs.SessionClockLemmas.Ordered.{at-once, places_ascend}
use Rattle.causal_order.proofs.Places.{In-at, at-In, initial-write}
use Rattle.causal_order.proofs.Places.{source-one}

-- p stands before q in the order
abbrev pub GoesBefore : List ℕ → ℕ → ℕ → Type 0
GoesBefore order p q = (i j : ℕ) → slice_get order i ≡ Some p → slice_get order j ≡ Some q → i < j

-- a way begins with an operation of the list
pub in_way : (ops : List Operation) (c : Operation) (way : List Operation) (b : Operation)
    → IsWay ops c way b → In c ops
in_way ops c [] b u = u.0
in_way ops c (d ∷ way) b u = u.0

module _ (ops : List Operation) (table : SessionTable) (order : List ℕ) (whole : IsWhole ops)
    (called : IsCalledInOrder ops) (t : IsSessionTable ops table) (o : IsLearningOrder table order)
    (all : (p : ℕ) → p < length ops → (i : ℕ) × (slice_get order i ≡ Some p)) where
  asks_forward : (p q : ℕ) → Asks table q p → GoesBefore order p q
  asks_forward p q a i j h k =
      let r = o.after j q p k a in
      subst (λ n. n < j) (o.once r.0 i p r.2 h) r.1

  -- the place of what an operation asks, in the order
  asked_at : (p q j : ℕ) → Asks table q p → slice_get order j ≡ Some q
      → (i : ℕ) × (slice_get order i ≡ Some p)
  asked_at p q j a k = let r = o.after j q p k a in (r.0, r.2)

  all_at : (p : ℕ) (a : Operation) → IsAt ops p a → (i : ℕ) × (slice_get order i ≡ Some p)
  all_at p a h = all p (slice_get_within ops p a h)

  -- the entry of a table's list at a place
  previous_at : (q : ℕ) (b : Operation) → IsAt ops q b
      → (found : Option ℕ) × (slice_get table.previous.items q ≡ Some found)
  previous_at q b k = place-inside table.previous.items q
      (let l = slice_get_within ops q b k in omega (arith, l, t.previous))

  source_at : (q : ℕ) (b : Operation) → IsAt ops q b
      → (found : Option ℕ) × (slice_get table.sources.items q ≡ Some found)
  source_at q b k = place-inside table.sources.items q
      (let l = slice_get_within ops q b k in omega (arith, l, t.sources))

  -- what a session called before comes before, by as many steps back as there are places
  session_steps : (n p q x : ℕ) (a b : Operation) → q ≤ n → p < q → IsAt ops p a → IsAt ops q b
      → a.process ≡ Some x → b.process ≡ Some x → GoesBefore order p q
  session_steps zero p q x a b few l h k s r i j f g = absurd (omega arith)
  session_steps (suc n) p q x a b few l h k s r i j f g =
      let found = previous_at q b k in
      go found.0 found.1 (t.each_previous q b found.0 k found.1)
      (λ d c m v at yc. session_steps n p d x a c (omega arith) v h at s yc)
    where
      go : (found : Option ℕ) → slice_get table.previous.items q ≡ Some found → IsPrevious ops q b found
          → ((d : ℕ) (c : Operation) → d < q → p < d → IsAt ops d c → c.process ≡ Some x
          → GoesBefore order p d)
          → i < j
      go None e none far = absurd (none p x a l h r s)
      go (Some d) e (y, c, m, at, yb, yc, last) far =
          let same : y ≡ x = cc (yb, r) in
          let le = last p a l h (s ∙ ap Some (sym same)) in
          let from = asked_at d q j (inl e) g in
          let near = asks_forward d q (inl e) from.0 j from.1 g in
          elim (cases_order p d) [
            | inl z ↦ asks_forward p q (inl (e ∙ ap (λ (u : ℕ). Some (Some u)) (sym z))) i j f g
            | inr u ↦ elim u [
              | inl v ↦ let past = far d c m v at (yc ∙ ap Some same) i from.0 f from.1 in omega arith
              | inr v ↦ absurd (omega arith)
            ]
          ]

  -- what an operation learns of at once comes before it, and is called before it or wrote its value
  learns_forward : (p q x : ℕ) (a b : Operation) → IsAt ops p a → IsAt ops q b → a.process ≡ Some x
      → Learns a b → GoesBefore order p q
  learns_forward p q x a b h k s (inl (inl (y, ya, yb, l))) =
      session_steps q p q y a b (omega arith) (places_ascend ops called p q y a b h k ya l) h k ya yb
  learns_forward p q x a b h k s (inl (inr (none, called_b))) = absurd (cc (s, none))
  learns_forward p q x a b h k s (inr source) =
      let found = source_at q b k in
      go found.0 found.1 (t.each_source q b found.0 k found.1)
    where
      go : (found : Option ℕ) → slice_get table.sources.items q ≡ Some found → IsSourceAt ops b found
          → GoesBefore order p q
      go None e none =
          absurd (none (record { read = source.read.read; completed = source.read.completed }))
      go (Some d) e (w, at, is) =
          let one = source-one ops whole a w b (at-In ops p a h) (at-In ops d w at) source is in
          let same : d ≡ p = at-once ops called d p a (subst (IsAt ops d) (sym one) at) h in
          asks_forward p q (inr (e ∙ ap (λ (z : ℕ). Some (Some z)) same))

  -- a called operation is learned of by called ones alone
  learns_called : (p q x : ℕ) (a b : Operation) → IsAt ops p a → IsAt ops q b → a.process ≡ Some x
      → Learns a b
      → (y : ℕ) × (b.process ≡ Some y)
  learns_called p q x a b h k s (inl (inl (y, ya, yb, l))) = (y, yb)
  learns_called p q x a b h k s (inl (inr (none, called_b))) = called_b
  learns_called p q x a b h k s (inr source) = go b.process refl
    where
      go : (process : Option ℕ) → b.process ≡ process → (y : ℕ) × (b.process ≡ Some y)
      go None e = let w = initial-write ops whole b (at-In ops q b k) e in absurd (cc (w, source.read.read))
      go (Some y) e = (y, e)

  way_forward : (way : List Operation) (p q x : ℕ) (a b : Operation) → IsAt ops p a → IsAt ops q b
      → a.process ≡ Some x → IsWay ops a way b → GoesBefore order p q
  way_forward [] p q x a b h k s w i j f g = learns_forward p q x a b h k s w.2 i j f g
  way_forward (c ∷ way) p q x a b h k s w i j f g =
      let at = In-at ops c (in_way ops c way b w.2) in
      let first = learns_forward p at.0 x a c h at.1 s w.1 in
      let there = learns_called p at.0 x a c h at.1 s w.1 in
      let place = all_at at.0 c at.1 in
      let later = way_forward way at.0 q there.0 c b at.1 k there.1 w.2 place.0 j place.1 g in
      let earlier = first i place.0 f place.1 in
      omega arith

  -- what an operation knows of comes before it
  pub knows_forward : (p q x : ℕ) (a b : Operation) → IsAt ops p a → IsAt ops q b → a.process ≡ Some x
      → Knows ops a b → GoesBefore order p q
  knows_forward p q x a b h k s knows = way_forward knows.0 p q x a b h k s knows.1
