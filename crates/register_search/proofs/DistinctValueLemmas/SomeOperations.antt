-- An order of reads and writes, kept to the writes of some values and some of the
-- reads of these, is an order of what is kept.
use Rattle.std.proofs.Common.{◌≡◌, ◌&&◌, ℕ, Bool, true, false, Some, None, List}
use Rattle.std.proofs.Common.{[], ◌∷◌, map, inl, inr, refl, sym, ap, subst, ◌∙◌}
use Rattle.std.specs.Prelude.{IsSomeAnd}
use Rattle.std.specs.List.{filter}
use Rattle.std.proofs.lemmas.Bool.{and_parts, cases_Bool, false≢true}
use Rattle.history_text.specs.declared.event.Val.{Val}
use Rattle.history_model.proofs.Lists.{In-filter, filter-In, Before-filter, filter-Before, Before-first}
use Rattle.history_model.specs.declared.act.Act.{Act}
use Rattle.history_model.specs.declared.act.Act.TheVariants.{Read, Write, Cas, CasUnless, Miss}
use Rattle.history_model.specs.declared.operation.Operation.{Operation}
use Rattle.history_model.specs.Acts.{Suits, asks, given_by, is_plain}
use Rattle.history_model.specs.Cut.{known_at, is_called_by, cut_at}
use Rattle.history_model.specs.Legal.{IsLegal, IsAtomic}
use Rattle.history_model.proofs.Filters.{filter-pass, filter-fail, filter-map}
use Rattle.history_model.proofs.Values.{value-true}
use Rattle.register_search.specs.DistinctValues.SomeOperations.{ArePlain, is_kept, kept_of}

-- two filters, one after the other
filter-swap : {A : Type 0} (p q : A → Bool) (xs : List A) → filter p (filter q xs) ≡ filter q (filter p xs)
filter-swap p q [] = refl
filter-swap p q (x ∷ xs) = elim (cases_Bool (p x)) [
  | inl y ↦ elim (cases_Bool (q x)) [
    | inl z ↦ ap (filter p) (filter-pass q x xs z)
        ∙ (filter-pass p x (filter q xs) y
        ∙ (ap (λ ys. x ∷ ys) (filter-swap p q xs)
        ∙ (sym (filter-pass q x (filter p xs) z) ∙ ap (filter q) (sym (filter-pass p x xs y)))))
    | inr z ↦ ap (filter p) (filter-fail q x xs z)
        ∙ (filter-swap p q xs
        ∙ (sym (filter-fail q x (filter p xs) z) ∙ ap (filter q) (sym (filter-pass p x xs y))))
  ]
  | inr y ↦ elim (cases_Bool (q x)) [
    | inl z ↦ ap (filter p) (filter-pass q x xs z)
        ∙ (filter-fail p x (filter q xs) y
        ∙ (filter-swap p q xs ∙ ap (filter q) (sym (filter-fail p x xs y))))
    | inr z ↦ ap (filter p) (filter-fail q x xs z)
        ∙ (filter-swap p q xs ∙ ap (filter q) (sym (filter-fail p x xs y)))
  ]
]

module _ (values : Val → Bool) (times : ℕ → Bool) where
  abbrev stays : Operation → Bool
  stays a = is_kept values times a.act a.call

  -- what suits a read that is kept is the write of its value, which is kept too
  met-kept : (w r : Act) (m n : ℕ) → is_plain w ≡ true → is_kept values times r n ≡ true → asks r ≡ true
      → IsSomeAnd (given_by w) (Suits r) → is_kept values times w m ≡ true
  met-kept (Read v) r m n y k q s = absurd s
  met-kept (Write u) (Read None) m n y k q s = absurd (false≢true k)
  met-kept (Write u) (Read (Some v)) m n y k q s =
      subst (λ x. values x ≡ true) (sym (value-true u v s)) (and_parts (values v) (times n) k).0
  met-kept (Write u) (Write v) m n y k q s = absurd (false≢true q)
  met-kept (Write u) (Cas from to) m n y k q s = absurd (false≢true k)
  met-kept (Write u) (CasUnless unless to) m n y k q s = absurd (false≢true k)
  met-kept (Write u) (Miss from) m n y k q s = absurd (false≢true k)
  met-kept (Cas from to) r m n y k q s = absurd (false≢true y)
  met-kept (CasUnless unless to) r m n y k q s = absurd (false≢true y)
  met-kept (Miss from) r m n y k q s = absurd (false≢true y)

  kept-legal : (ops order : List Operation) → ArePlain ops → IsLegal ops order
      → IsLegal (kept_of values times ops) (kept_of values times order)
  kept-legal ops order plain l = record {
    completion = record {
      once = λ a b. l.completion.once a (filter-Before stays a a order b);
      only = λ a i. let r = filter-In stays a order i in In-filter stays a ops (l.completion.only a r.0) r.1;
      all =
          λ a i d. let r = filter-In stays a ops i in In-filter stays a order (l.completion.all a r.0 d) r.1;
    };
    keeps = λ a b s. l.keeps a b (filter-Before stays a b order s);
    met = λ r i d.
        let j = filter-In stays r order i in
        let n = l.met r j.0 d in
        let w = n.0 in
        let there = l.completion.only w (Before-first w r order n.1.before) in (
          w,
          record {
            write = n.1.write;
            register = n.1.register;
            before =
                Before-filter stays w r order n.1.before
                (met-kept w.act r.act w.call r.call (plain w there) j.1 d n.2) j.1;
            nearest =
                λ v u e s t. n.1.nearest v u e (filter-Before stays w v order s)
                (filter-Before stays v r order t);
          },
          n.2,
        );
  }

  pub kept-atomic : (ops : List Operation) → ArePlain ops → IsAtomic ops → IsAtomic (kept_of values times ops)
  kept-atomic ops plain a = (kept_of values times a.0, kept-legal ops a.0 plain a.1)

  pub known-kept : (ops : List Operation) (t : ℕ)
      → cut_at t (kept_of values times ops) ≡ kept_of values times (cut_at t ops)
  known-kept ops t =
      ap (map (known_at t)) (filter-swap (is_called_by t) stays ops)
      ∙ sym (filter-map stays (known_at t) (filter (is_called_by t) ops))
