-- A history is atomic exactly if each of its registers is.
use Rattle.std.proofs.Common.{◌≡◌, ℕ, ◌<◌, ◌+◌, max, List, [], ◌∷◌, ◌↔◌}
use Rattle.std.proofs.Common.{inl, inr, refl, sym, ap, subst, ◌∙◌, arith}
use Rattle.std.proofs.lemmas.Bool.{eq-eqb}
use Rattle.history_model.specs.Lists.{In, Before}
use Rattle.history_model.proofs.Lists.{In-filter, Before-filter, filter-Before}
use Rattle.history_model.proofs.Lists.{map-Before, map-In, Before-first, Before-second}
use Rattle.history_model.specs.declared.operation.Operation.{Operation}
use Rattle.history_model.specs.Legal.{IsLegal, IsMet, IsAtomic}
use Rattle.history_model.specs.Operations.{AreTimed, Precedes, is_of, of_register}
use Rattle.history_model.specs.Placed.{PlacedOperation, placed, operations_of}
use Rattle.history_model.proofs.Filters.{filter-map}
use Rattle.history_model.proofs.Merging.{AreMerged, is_placed_of, merged}
use Rattle.history_model.proofs.Recorded.{of_register-In, In-of_register}
use Rattle.history_model.proofs.Placed.{operations_of-placed, rising, after_call, placed-In, before_reply}

-- ---- from the whole to a register

pub restricted : (ops order : List Operation) (k : ℕ) → IsLegal ops order
    → IsLegal (of_register k ops) (of_register k order)
restricted ops order k l = record {
  completion = record {
    once = λ a b. l.completion.once a (filter-Before (is_of k) a a order b);
    only = λ a i. let r = of_register-In k order a i in In-of_register k ops a (l.completion.only a r.0) r.1;
    all =
        λ a i d. let r = of_register-In k ops a i in In-of_register k order a (l.completion.all a r.0 d) r.1;
  };
  keeps = λ a b s. l.keeps a b (filter-Before (is_of k) a b order s);
  met = λ r i d.
      let j = of_register-In k order r i in
      let n = l.met r j.0 d in (
        n.0,
        record {
          write = n.1.write;
          register = n.1.register;
          before =
              Before-filter (is_of k) n.0 r order n.1.before (eq-eqb _ _ (n.1.register ∙ j.1))
              (eq-eqb _ _ j.1);
          nearest =
              λ v u e s t. n.1.nearest v u e (filter-Before (is_of k) n.0 v order s)
              (filter-Before (is_of k) v r order t);
        },
        n.2,
      );
}

-- ---- from the registers to the whole

module _ (ops order : List Operation) (n : ℕ) (orders : ℕ → List Operation)
    (legal : (r : ℕ) → IsLegal (of_register r ops) (orders r))
    (each : (r : ℕ) → r < n → of_register r order ≡ orders r)
    (below : (a : Operation) → In a order → a.register < n)
    (bound : (a : Operation) → In a ops → a.register < n)
    (keeps : (a b : Operation) → Before a b order → Precedes b a → ⊥) where
  down-In : (a : Operation) → In a order → In a (orders a.register)
  down-In a i = subst (In a) (each a.register (below a i)) (In-of_register a.register order a i refl)

  down : (r : ℕ) (a b : Operation) → a.register ≡ r → b.register ≡ r → Before a b order
      → Before a b (orders r)
  down r a b e f h =
      subst (Before a b) (each r (subst (λ k. k < n) e (below a (Before-first a b order h))))
      (Before-filter (is_of r) a b order h (eq-eqb _ _ e) (eq-eqb _ _ f))

  up : (r : ℕ) (a b : Operation) → r < n → Before a b (orders r) → Before a b order
  up r a b l h = filter-Before (is_of r) a b order (subst (Before a b) (sym (each r l)) h)

  met-up : (r : Operation) → r.register < n → IsMet (orders r.register) r → IsMet order r
  met-up r l m = (
    m.0,
    record {
      write = m.1.write;
      register = m.1.register;
      before = up r.register m.0 r l m.1.before;
      nearest =
          λ v c e s t. m.1.nearest v c e (down r.register m.0 v m.1.register e s)
          (down r.register v r e refl t);
    },
    m.2,
  )

  pub joined : IsLegal ops order
  joined = record {
    completion = record {
      once = λ a b. (legal a.register).completion.once a (down a.register a a refl refl b);
      only =
          λ a i. (of_register-In a.register ops a ((legal a.register).completion.only a (down-In a i))).0;
      all =
          λ a i d. (of_register-In a.register order a
          (subst (In a) (sym (each a.register (bound a i)))
          ((legal a.register).completion.all a (In-of_register a.register ops a i refl) d))).0;
    };
    keeps = keeps;
    met = λ r i d. met-up r (below r i) ((legal r.register).met r (down-In r i) d);
  }

module _ (ops : List Operation) (timed : (r : ℕ) → AreTimed (of_register r ops)) (orders : ℕ
    → List Operation) (legal : (r : ℕ) → IsLegal (of_register r ops) (orders r)) where
  own : (r : ℕ) (x : PlacedOperation) → In x (placed (orders r)) → x.operation.register ≡ r
  own r x i =
      (of_register-In r ops x.operation ((legal r).completion.only x.operation (placed-In (orders r) x i))).1

  module _ (n : ℕ) (zs : List PlacedOperation) (m : AreMerged (λ r. placed (orders r)) n zs) where
    placed-there : (x : PlacedOperation) → In x zs → In x (placed (orders x.operation.register))
    placed-there x i =
        subst (In x) (m.each x.operation.register (m.below x i))
        (In-filter (is_placed_of x.operation.register) x zs i (eq-eqb _ _ refl))

    -- where b precedes a but a stands first: b's point, b's reply, a's
    -- call, a's point and again b's point ascend
    points_keep : (a b : Operation) → Before a b (operations_of zs) → Precedes b a → ⊥
    points_keep a b s p =
        let k = map-Before (λ (z : PlacedOperation). z.operation) a b zs s in
        let i = placed-there k.0 (Before-first k.0 k.1 zs k.2) in
        let j = placed-there k.1 (Before-second k.0 k.1 zs k.2) in
        let q = k.1.operation.register in
        let from = after_call (orders k.0.operation.register) k.0 i in
        let to =
        before_reply (of_register q ops) (orders q) (timed q) (legal q) k.1 j in
        omega (
          arith,
          from,
          to,
          p,
          m.rising k.0 k.1 k.2,
          ap (λ (o : Operation). o.call) k.3,
          ap (λ (o : Operation). o.reply) k.4,
        )

    of_register-each : (r : ℕ) → r < n → of_register r (operations_of zs) ≡ orders r
    of_register-each r l =
        filter-map (is_of r) (λ (z : PlacedOperation). z.operation) zs
        ∙ (ap operations_of (m.each r l) ∙ operations_of-placed (orders r))

    registers_below : (a : Operation) → In a (operations_of zs) → a.register < n
    registers_below a i =
        let k =
        map-In (λ (z : PlacedOperation). z.operation) a zs i in
        omega (arith, m.below k.0 k.1, ap (λ (o : Operation). o.register) k.2)

  bounded : (xs : List Operation) → (n : ℕ) × ((a : Operation) → In a xs → a.register < n)
  bounded [] = (0, λ a i. absurd i)
  bounded (x ∷ xs) =
      let b = bounded xs in (
        max b.0 (x.register + 1),
        λ a i. elim i [
          | inl e ↦ omega (arith, ap (λ (o : Operation). o.register) e)
          | inr k ↦ omega (arith, b.1 a k)
        ],
      )

  pub whole : IsAtomic ops
  whole =
      let b = bounded ops in
      let m = merged (λ r. placed (orders r)) (λ r. rising (orders r)) own b.0 in (
        operations_of m.0,
        joined ops (operations_of m.0) b.0 orders legal (of_register-each b.0 m.0 m.1)
            (registers_below b.0 m.0 m.1) b.1 (points_keep b.0 m.0 m.1),
      )

pub each_decides : (ops : List Operation) → ((r : ℕ) → AreTimed (of_register r ops))
    → (IsAtomic ops ↔ ((r : ℕ) → IsAtomic (of_register r ops)))
each_decides ops timed = (
  λ a r. (of_register r a.0, restricted ops a.0 r a.1),
  λ all. whole ops timed (λ r. (all r).0) (λ r. (all r).1),
)
