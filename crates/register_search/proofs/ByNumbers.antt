-- What can be explained of some operations can be explained of the same operations by numbers.
use Rattle.std.proofs.Common.{◌≡◌, ℕ, zero, suc, ◌+◌, ◌<◌, ◌==◌, not, cond, Bool, true, false}
use Rattle.std.proofs.Common.{List, [], ◌∷◌, ◌++◌, length, take, get_or, slice_get, Option, Some}
use Rattle.std.proofs.Common.{None, inl, refl, sym, ap, subst, ◌∙◌, add-one, arith}
use Rattle.std.specs.List.{AllZip}
use Rattle.std.proofs.Math.Seq.{take-suc}
use Rattle.std.proofs.lemmas.Bool.{false≢true}
use Rattle.std.proofs.lemmas.Bool.Decides.{nat_tests}
use Rattle.history_text.specs.declared.event.Val.{Val}
use Rattle.history_text.specs.Values.{value_eq}
use Rattle.history_model.specs.declared.act.Act.{Act}
use Rattle.history_model.specs.declared.act.Act.TheVariants.{Read, Write, Cas, CasUnless, Miss}
use Rattle.history_model.specs.declared.operation.Operation.{Operation}
use Rattle.history_model.specs.Acts.{suits, left_by}
use Rattle.history_model.proofs.Values.{value-true, value-refl}
use Rattle.configurations.specs.declared.moment.Moment.{Moment}
use Rattle.configurations.specs.declared.moment.Moment.TheVariants.{Call, Reply}
use Rattle.configurations.specs.declared.op.Op.{Op}
use Rattle.configurations.specs.declared.op.Kind.{Kind}
use Rattle.configurations.specs.declared.op.Kind.TheVariants as kinds
use Rattle.configurations.specs.Ops as by
use Rattle.configurations.specs.Runs.{AliveFree, over_free, called_free, replied_free, uses}
use Rattle.configurations.proofs.Tables.{eq_true}
use Rattle.register_search.specs.declared.value_numbers.ValueNumbers.{ValueNumbers}
use Rattle.register_search.specs.Taking.{option_suits, option_left_by, suits_at, left_at}
use Rattle.register_search.specs.Runs.{Alive, over, called, replied, takes}
use Rattle.register_search.specs.ByNumbers.{IsNumbering, number_in, IsMore, DoesAs, IsCas, IsCasUnless}
use Rattle.register_search.specs.ByNumbers.{IsByNumber}

-- the operation at a place by number
pub at-place : (number : Val → Option ℕ) (ops : List Operation) (numbered : List Op)
    → AllZip (IsByNumber number) ops numbered
    → (k : ℕ) (a : Operation) → slice_get ops k ≡ Some a → (o : Op) × (slice_get numbered k ≡ Some o)
    × IsByNumber number a o
at-place number [] numbered each k a e = absurd (cc (e))
at-place number (x ∷ ops) [] each k a e = absurd each
at-place number (x ∷ ops) (o ∷ numbered) each zero a e =
    let same : x ≡ a = cc (e) in
    (o, refl, subst (λ y. IsByNumber number y o) same each.0)
at-place number (x ∷ ops) (o ∷ numbered) each (suc k) a e = at-place number ops numbered each.1 k a e

-- ---- made one by one

-- a cas by the numbers of what it finds and of what it gives
pub does-cas : (number : Val → Option ℕ) (v w : Val) (from to : ℕ) (o : Op) → number v ≡ Some from
    → number w ≡ Some to → IsCas from to o → DoesAs number (Cas v w) o
does-cas number v w from to o f t is = (
  is.kind_is
      ∙ (ap (λ m. cond (m == to) kinds.Read kinds.Cas) (sym is.from_is)
      ∙ ap (λ m. cond (o.from == m) kinds.Read kinds.Cas) (sym is.to_is)),
  f ∙ ap Some (sym is.from_is),
  t ∙ ap Some (sym is.to_is),
)

pub does-unless : (number : Val → Option ℕ) (v w : Val) (from to : ℕ) (o : Op) → number v ≡ Some from
    → number w ≡ Some to → IsCasUnless from to o → DoesAs number (CasUnless v w) o
does-unless number v w from to o f t is =
    (is.kind_is, f ∙ ap Some (sym is.from_is), t ∙ ap Some (sym is.to_is))

module _ (old new : Val → Option ℕ) (kept : (v : Val) (k : ℕ) → old v ≡ Some k → new v ≡ Some k) where
  does-still : (act : Act) (o : Op) → DoesAs old act o → DoesAs new act o
  does-still (Read None) o d = d
  does-still (Read (Some v)) o d = (d.0, kept v o.from d.1)
  does-still (Write v) o d = (d.0, d.1, kept v o.to d.2)
  does-still (Cas v w) o d = (d.0, kept v o.from d.1, kept w o.to d.2)
  does-still (CasUnless v w) o d = (d.0, kept v o.from d.1, kept w o.to d.2)
  does-still (Miss v) o d = (d.0, kept v o.from d.1)

  each-still : (ops : List Operation) (numbered : List Op) → AllZip (IsByNumber old) ops numbered
      → AllZip (IsByNumber new) ops numbered
  each-still [] [] each = each
  each-still [] (o ∷ numbered) each = absurd each
  each-still (a ∷ ops) [] each = absurd each
  each-still (a ∷ ops) (o ∷ numbered) each =
      (record { act = does-still a.act o (each.0).act; rank = (each.0).rank }, each-still ops numbered each.1)

each-push : (number : Val → Option ℕ) (ops : List Operation) (numbered : List Op) (a : Operation) (o : Op)
    → AllZip (IsByNumber number) ops numbered → IsByNumber number a o
    → AllZip (IsByNumber number) (ops ++ a ∷ []) (numbered ++ o ∷ [])
each-push number [] [] a o each is = (is, tt)
each-push number [] (p ∷ numbered) a o each is = absurd each
each-push number (b ∷ ops) [] a o each is = absurd each
each-push number (b ∷ ops) (p ∷ numbered) a o each is = (each.0, each-push number ops numbered a o each.1 is)

-- one more operation, by more numbers
pub each-more : (old new : ValueNumbers) (ops : List Operation) (i : ℕ) (d : Operation)
    (before after : List Op) (o : Op) → i < length ops
    → IsMore old new → IsByNumber (number_in new) (get_or ops i d) o → after ≡ before ++ o ∷ []
    → AllZip (IsByNumber (number_in old)) (take i ops) before
    → AllZip (IsByNumber (number_in new)) (take (i + 1) ops) after
each-more old new ops i d before after o lt more is e each =
    let split : take (i + 1) ops ≡ take i ops ++ get_or ops i d ∷ [] =
    ap (λ n. take n ops) (add-one i) ∙ take-suc ops i d lt in
    let still = each-still (number_in old) (number_in new) more.kept (take i ops) before each in
    let pushed = each-push (number_in new) (take i ops) before (get_or ops i d) o still is in
    let all = subst (λ xs. AllZip (IsByNumber (number_in new)) xs (before ++ o ∷ [])) (sym split) pushed in
    subst (AllZip (IsByNumber (number_in new)) (take (i + 1) ops)) (sym e) all

-- ---- one act

other-test : (m n : ℕ) → (m ≡ n → ⊥) → not (m == n) ≡ true
other-test m n d = grind (arith, nat_tests)

module _ (number : Val → Option ℕ) (numbering : IsNumbering number) (o : Op) (v : Val) (n : ℕ)
    (is : number v ≡ Some n) where
  -- a value with the number n
  same-number : (w : Val) (m : ℕ) → number w ≡ Some m → v ≡ w → n ≡ m
  same-number w m f e = let z = sym is ∙ (ap number e ∙ f) in cc (z)

  by-kind : (k : Kind) → o.kind ≡ k → by.kind_fits k o.from n ≡ true → by.fits o n ≡ true
  by-kind k e f = ap (λ x. by.kind_fits x o.from n) e ∙ f

  -- a value other than that of the number `from`
  other-number : (w : Val) → number w ≡ Some o.from → not (value_eq v w) ≡ true → not (n == o.from) ≡ true
  other-number w f s =
      other-test n o.from (λ e.
      let same : v ≡ w = numbering.apart v w n is (f ∙ ap Some (sym e)) in
      false≢true (sym (ap not (ap (value_eq v) (sym same) ∙ value-refl v)) ∙ s))

  -- where the value suits an act, its number suits the act by numbers
  pub fits : (act : Act) → DoesAs number act o → suits act v ≡ true → by.fits o n ≡ true
  fits (Read None) d s =
      by-kind kinds.Miss d.0 (other-test n o.from (λ e. numbering.nothing v (is ∙ ap Some (e ∙ d.1))))
  fits (Read (Some w)) d s =
      by-kind kinds.Read d.0 (eq_true n o.from (same-number w o.from d.1 (value-true v w s)))
  fits (Write w) d s = by-kind kinds.Write d.0 refl
  fits (Cas w m) d s = go (o.from == o.to) d.0
    where
      found : (n == o.from) ≡ true
      found = eq_true n o.from (same-number w o.from d.1 (value-true v w s))

      go : (b : Bool) → o.kind ≡ cond b kinds.Read kinds.Cas → by.fits o n ≡ true
      go true e = by-kind kinds.Read e found
      go false e = by-kind kinds.Cas e found
  fits (CasUnless w m) d s = by-kind kinds.CasUnless d.0 (other-number w d.1 s)
  fits (Miss w) d s = by-kind kinds.Miss d.0 (other-number w d.1 s)

  leaves : (k : Kind) (w : Val) (m : ℕ) → o.kind ≡ k → number w ≡ Some m → m ≡ by.kind_leaves k o.to n
      → number w ≡ Some (by.left_by o n)
  leaves k w m e f g = f ∙ ap Some (g ∙ ap (λ x. by.kind_leaves x o.to n) (sym e))

  -- and what it leaves is the number of the value after the act
  pub left : (act : Act) → DoesAs number act o → suits act v ≡ true
      → number (left_by act v) ≡ Some (by.left_by o n)
  left (Read None) d s = leaves kinds.Miss v n d.0 is refl
  left (Read (Some w)) d s = leaves kinds.Read v n d.0 is refl
  left (Write w) d s = leaves kinds.Write w o.to d.0 d.2 refl
  left (Cas w m) d s = go (o.from == o.to) refl d.0
    where
      go : (b : Bool) → (o.from == o.to) ≡ b → o.kind ≡ cond b kinds.Read kinds.Cas
          → number m ≡ Some (by.left_by o n)
      go true t e =
          let same : o.from ≡ o.to = grind (arith, nat_tests) in
          leaves kinds.Read m o.to e d.2 (sym same ∙ sym (same-number w o.from d.1 (value-true v w s)))
      go false t e = leaves kinds.Cas m o.to e d.2 refl
  left (CasUnless w m) d s = leaves kinds.CasUnless m o.to d.0 d.2 refl
  left (Miss w) d s = leaves kinds.Miss v n d.0 is refl

-- ---- whole runs

-- the call of number j may take effect at n, and leaves the number of what it leaves at v
abbrev TakesAs : (Val → Option ℕ) → List Operation → List Op → ℕ → Val → ℕ → Type 0
TakesAs number ops numbered j v n =
    (by.fits_at numbered j n ≡ true) × (number (left_at ops j v) ≡ Some (by.left_at numbered j n))

module _ (number : Val → Option ℕ) (numbering : IsNumbering number) (ops : List Operation)
    (numbered : List Op)
    (each : AllZip (IsByNumber number) ops numbered) where
  -- a call that takes effect does so by numbers
  taking : (j : ℕ) (v : Val) (n : ℕ) → number v ≡ Some n → suits_at ops j v ≡ true
      → TakesAs number ops numbered j v n
  taking j v n is s = go (slice_get ops j) refl s
    where
      go : (o : Option Operation) → slice_get ops j ≡ o → option_suits o v ≡ true
          → TakesAs number ops numbered j v n
      go None e s = absurd (false≢true s)
      go (Some a) e s =
          let x = at-place number ops numbered each j a e in
          let leaves = left number numbering x.0 v n is a.act (x.2).act s in (
            ap (λ o. by.option_fits o n) x.1 ∙ fits number numbering x.0 v n is a.act (x.2).act s,
            ap (λ o. number (option_left_by o v)) e
                ∙ (leaves ∙ ap (λ o. Some (by.option_left_by o n)) (sym x.1)),
          )

  -- what can be explained from a value can be from its number
  pub explained : (es : List Moment) (v : Val) (n : ℕ) (p : List ℕ) → number v ≡ Some n → Alive ops v p es
      → AliveFree numbered n p [] es
  explained [] v n p is over = over_free
  explained (Call k ∷ es) v n p is (called r) = called_free (explained es v n (k ∷ p) is r)
  explained (Reply k ∷ es) v n p is (replied out r) = replied_free out (explained es v n p is r)
  explained (Reply k ∷ es) v n p is (takes j i s r) =
      let x = taking j v n is s in
      uses j (inl i) x.0 (explained (Reply k ∷ es) (left_at ops j v) (by.left_at numbered j n) _ x.1 r)
