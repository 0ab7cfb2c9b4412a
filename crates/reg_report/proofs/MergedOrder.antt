-- The merged order of legal orders is a legal order of the whole history.
use Rattle.std.proofs.Common.{◌≡◌, ℕ, List, inl, inr, refl, sym, ap, subst, ◌∙◌, arith}
use Rattle.history_model.specs.Lists.{In, Before}
use Rattle.history_model.specs.Operations.{Precedes, IsHistory, of_register}
use Rattle.history_model.specs.declared.operation.Operation.{Operation}
use Rattle.history_model.specs.Legal.{IsLegal}
use Rattle.history_model.specs.Placed.{PlacedOperation, placed, operations_of}
use Rattle.history_model.proofs.Lists.{In-map, map-In, Before-first, Before-second}
use Rattle.history_model.proofs.Lists.{Before-total, Before-trans, Before-map, map-Before}
use Rattle.history_model.proofs.Placed.{operations_of-placed, rising, placed-In, history-timed, within_life}
use Rattle.reg_report.specs.Merged.{IsMerged}
use Rattle.history_model.proofs.Recorded.{of_register-In, In-of_register}

placed-once : (ops order : List Operation) → IsLegal ops order → (x : PlacedOperation)
    → Before x x (placed order) → ⊥
placed-once ops order l x b =
    l.completion.once x.operation
    (subst (Before x.operation x.operation) (operations_of-placed order)
    (Before-map (λ (z : PlacedOperation). z.operation) x x _ b))

module _ (ops : List Operation) (orders : ℕ → List Operation) (merged : List PlacedOperation)
    (y : (r : ℕ) → IsHistory (of_register r ops)) (l : (r : ℕ)
    → IsLegal (of_register r ops) (orders r)) (m : IsMerged orders merged) where
  once : (r : ℕ) (x : PlacedOperation) → Before x x (placed (orders r)) → ⊥
  once r x b = placed-once (of_register r ops) (orders r) (l r) x b

  -- two operations of one register stand in the merged order as in the register's
  same_register : (x y : PlacedOperation) → Before x y merged → x.operation.register ≡ y.operation.register
      → Before x y (placed (orders x.operation.register))
  same_register x y b e =
      let i = m.only x (Before-first x y merged b) in
      let j = subst (λ r. In y (placed (orders r))) (sym e) (m.only y (Before-second x y merged b)) in
      elim (m.ascending x y b) [
        | inl lt ↦ elim (Before-total x y _ i j) [
          | inl s ↦ absurd (omega (arith, ap (λ (z : PlacedOperation). z.point) s))
          | inr t ↦ elim t [
            | inl c ↦ c
            | inr c ↦ absurd (omega (arith, rising (orders x.operation.register) y x c))
          ]
        ]
        | inr q ↦ elim q.1 [ inl lt ↦ absurd (omega arith) | inr k ↦ k.1 ]
      ]

  down : (a b : Operation) → Before a b (operations_of merged) → a.register ≡ b.register
      → Before a b (orders a.register)
  down a b s e =
      let k = map-Before (λ (z : PlacedOperation). z.operation) a b merged s in
      let t =
      same_register k.0 k.1 k.2 (sym (ap (λ (o : Operation). o.register) k.3)
      ∙ (e ∙ ap (λ (o : Operation). o.register) k.4)) in
      let u =
      subst (Before k.0.operation k.1.operation) (operations_of-placed (orders k.0.operation.register))
      (Before-map (λ (z : PlacedOperation). z.operation) k.0 k.1 _ t) in
      subst (λ o. Before o b (orders o.register)) (sym k.3)
      (subst (λ o. Before k.0.operation o (orders k.0.operation.register)) (sym k.4) u)

  register-is : (r : ℕ) (a : Operation) → In a (orders r) → a.register ≡ r
  register-is r a i = (of_register-In r ops a ((l r).completion.only a i)).1

  up : (r : ℕ) (a b : Operation) → Before a b (orders r) → Before a b (operations_of merged)
  up r a b s =
      let k =
      map-Before (λ (z : PlacedOperation). z.operation) a b (placed (orders r))
      (subst (Before a b) (sym (operations_of-placed (orders r))) s) in
      let i = Before-first k.0 k.1 _ k.2 in
      let j = Before-second k.0 k.1 _ k.2 in
      let kx = register-is r k.0.operation (placed-In (orders r) k.0 i) in
      let ky = register-is r k.1.operation (placed-In (orders r) k.1 j) in
      let t : Before k.0 k.1 merged = elim (Before-total k.0 k.1 merged (m.all r k.0 i) (m.all r k.1 j)) [
        | inl e ↦ absurd (once r k.0 (subst (λ z. Before k.0 z (placed (orders r))) (sym e) k.2))
        | inr c ↦ elim c [
          | inl c ↦ c
          | inr c ↦ absurd (once r k.0 (Before-trans k.0 k.1 k.0 (placed (orders r)) (once r) k.2
              (subst (λ n. Before k.1 k.0 (placed (orders n))) ky (same_register k.1 k.0 c (ky ∙ sym kx)))))
        ]
      ] in
      subst (λ o. Before o b (operations_of merged)) (sym k.3)
      (subst (λ o. Before k.0.operation o (operations_of merged)) (sym k.4)
      (Before-map (λ (z : PlacedOperation). z.operation) k.0 k.1 merged t))

  merged-In : (a : Operation) → In a (operations_of merged) → In a (orders a.register)
  merged-In a i =
      let k = map-In (λ (z : PlacedOperation). z.operation) a merged i in
      subst (λ o. In o (orders o.register)) (sym k.2) (placed-In _ k.0 (m.only k.0 k.1))

  In-merged : (r : ℕ) (a : Operation) → In a (orders r) → In a (operations_of merged)
  In-merged r a i =
      let k =
      map-In (λ (z : PlacedOperation). z.operation) a (placed (orders r))
      (subst (In a) (sym (operations_of-placed (orders r))) i) in
      subst (λ o. In o (operations_of merged)) (sym k.2)
      (In-map (λ (z : PlacedOperation). z.operation) k.0 merged (m.all r k.0 k.1))

  -- where b precedes a but a stands first: b's point, b's reply, a's
  -- call, a's point and again b's point ascend
  keeps : (a b : Operation) → Before a b (operations_of merged) → Precedes b a → ⊥
  keeps a b s p =
      let k = map-Before (λ (z : PlacedOperation). z.operation) a b merged s in
      let kx = k.0.operation.register in
      let ky = k.1.operation.register in
      let from =
      (within_life (of_register kx ops) (orders kx) (history-timed (of_register kx ops) (y kx)) (l kx) k.0
      (m.only k.0 (Before-first k.0 k.1 merged k.2))).called in
      let to =
      (within_life (of_register ky ops) (orders ky) (history-timed (of_register ky ops) (y ky)) (l ky) k.1
      (m.only k.1 (Before-second k.0 k.1 merged k.2))).unreplied in
      let ca = ap (λ (o : Operation). o.call) k.3 in
      let rb = ap (λ (o : Operation). o.reply) k.4 in
      elim (m.ascending k.0 k.1 k.2) [
        | inl lt ↦ omega (arith, from, to, ca, rb)
        | inr q ↦ omega (arith, from, to, ca, rb, q.0)
      ]

  pub merged_legal : IsLegal ops (operations_of merged)
  merged_legal = record {
    completion = record {
      once = λ a b. (l a.register).completion.once a (down a a b refl);
      only = λ a i. (of_register-In a.register ops a ((l a.register).completion.only a (merged-In a i))).0;
      all =
          λ a i d. In-merged a.register a
          ((l a.register).completion.all a (In-of_register a.register ops a i refl) d);
    };
    keeps = keeps;
    met = λ r i d.
        let n = (l r.register).met r (merged-In r i) d in (
          n.0,
          record {
            write = n.1.write;
            register = n.1.register;
            before = up r.register n.0 r n.1.before;
            nearest = λ v u e s t. n.1.nearest v u e
                (subst (λ j. Before n.0 v (orders j)) n.1.register (down n.0 v s (n.1.register ∙ sym e)))
                (subst (λ j. Before v r (orders j)) e (down v r t e));
          },
          n.2,
        );
  }
