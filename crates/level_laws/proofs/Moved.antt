-- An order whose operations are replaced by others with the same acts.
use Rattle.std.proofs.Common.{◌≡◌, List, map, sym, ap, subst, ◌∙◌}
use Rattle.std.specs.Prelude.{IsSomeAnd}
use Rattle.history_model.specs.Acts.{Suits, changes, given_by}
use Rattle.history_model.specs.Lists.{In, Before}
use Rattle.history_model.specs.Operations.{IsWrite}
use Rattle.history_model.specs.Legal.{IsMet}
use Rattle.history_model.specs.declared.act.Act.{Act}
use Rattle.history_model.specs.declared.operation.Operation.{Operation}
use Rattle.history_model.proofs.Lists.{map-In, Before-first, Before-second, Before-map, map-Before}

-- what an operation became, which is no other's
pub record IsMove (f : Operation → Operation) (xs : List Operation) : Type 0 where
  pub act : (a : Operation) → In a xs → (f a).act ≡ a.act
  pub register : (a : Operation) → In a xs → (f a).register ≡ a.register
  pub one : (a b : Operation) → In a xs → In b xs → f a ≡ f b → a ≡ b

module _ (f : Operation → Operation) (xs : List Operation) (k : IsMove f xs) where
  pub move-back : (a b : Operation) → In a xs → In b xs → Before (f a) (f b) (map f xs) → Before a b xs
  move-back a b i j h =
      let s = map-Before f (f a) (f b) xs h in
      let e = k.one a s.0 i (Before-first s.0 s.1 xs s.2) s.3 in
      let d = k.one b s.1 j (Before-second s.0 s.1 xs s.2) s.4 in
      subst (λ z. Before z b xs) (sym e) (subst (λ z. Before s.0 z xs) (sym d) s.2)

  pub move-once : ((a : Operation) → Before a a xs → ⊥) → (a : Operation) → Before a a (map f xs) → ⊥
  move-once once a h =
      let s = map-Before f a a xs h in
      let e =
      k.one s.0 s.1 (Before-first s.0 s.1 xs s.2) (Before-second s.0 s.1 xs s.2) (sym s.3 ∙ s.4) in
      once s.1 (subst (λ z. Before z s.1 xs) e s.2)

  pub move-met : (a : Operation) → In a xs → IsMet xs a → IsMet (map f xs) (f a)
  move-met a i m =
      let w = m.0 in
      let j = Before-first w a xs m.1.before in (
        f w,
        record {
          write = ap changes (k.act w j) ∙ m.1.write;
          register = k.register w j ∙ (m.1.register ∙ sym (k.register a i));
          before = Before-map f w a xs m.1.before;
          nearest = λ v c e h q.
              let p = map-In f v xs (Before-second (f w) v (map f xs) h) in
              let u = p.2 in
              m.1.nearest p.0
              (ap changes (sym (k.act p.0 p.1)) ∙ subst (λ (o : Operation). IsWrite o) u c)
              (sym (k.register p.0 p.1) ∙ (ap (λ (o : Operation). o.register) (sym u) ∙ (e ∙ k.register a i)))
              (move-back w p.0 j p.1 (subst (λ o. Before (f w) o (map f xs)) u h))
              (move-back p.0 a p.1 i (subst (λ o. Before o (f a) (map f xs)) u q));
        },
        subst (λ (x : Act). IsSomeAnd (given_by x) (Suits (f a).act)) (sym (k.act w j))
            (subst (λ (x : Act). IsSomeAnd (given_by w.act) (Suits x)) (sym (k.act a i)) m.2),
      )
