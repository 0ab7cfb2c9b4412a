-- The writes that stand below a place, with one place more.
use Rattle.std.proofs.Common.{◌≡◌, ℕ, ◌+◌, ◌<◌, ℤ, Bool, true, false, cond, List, Option, Some}
use Rattle.std.proofs.Common.{None, is_some}
use Rattle.std.proofs.Common.{inl, inr, refl, sym, ap, subst, ◌∙◌, arith}
use Rattle.std.specs.BTreeMap.{BTreeMap, get}
use Rattle.std.specs.Ordering.{int_cmp, int_eq}
use Rattle.std.proofs.lemmas.Bool.{cases_order, false≢true}
use Rattle.std.proofs.lemmas.Bool.Decides.{Decides-int_eq}
use Rattle.history_text.specs.declared.event.Val.{Val}
use Rattle.history_text.specs.declared.event.Val.TheVariants.{Null, Int}
use Rattle.history_model.specs.Acts.{changes, given_by, is_plain, value_of_act}
use Rattle.history_model.specs.declared.act.Act.{Act}
use Rattle.history_model.specs.declared.act.Act.TheVariants.{Read, Write}
use Rattle.history_model.specs.declared.operation.Operation.{Operation}
use Rattle.reg_levels.specs.Clusters.Places.{IsAt}
use Rattle.reg_levels.specs.Clusters.Steps.{IsWriteAt, IsWriteFound, AreIntegerWrites, write_in}

-- a write gives the register its value
pub write-gives : (a : Act) → is_plain a ≡ true → changes a ≡ true → given_by a ≡ value_of_act a
write-gives (Read given) p w = absurd (false≢true w)
write-gives (Write written) p w = refl
write-gives a p w = absurd (false≢true p)

pub giver-writes : (a : Act) (v : Val) → given_by a ≡ Some v → changes a ≡ true
giver-writes a v e = ap is_some e

module _ (ops : List Operation) (i : ℕ) (a : Operation) (at : IsAt ops i a) where
  -- what is written at i is what a gives
  here : (v : Val) → IsWriteAt ops v i → given_by a.act ≡ Some v
  here v h =
      let same : Some h.0 ≡ Some a = sym h.1 ∙ at in
      let is : h.0 ≡ a = cc same in
      sym (ap (λ (x : Operation). given_by x.act) is) ∙ h.2

  pub none_more : (v : Val) → (given_by a.act ≡ Some v → ⊥) → ((p : ℕ) → p < i → IsWriteAt ops v p → ⊥)
      → (p : ℕ) → p < i + 1 → IsWriteAt ops v p → ⊥
  none_more v never below p l h = elim (cases_order p i) [
    | inl e ↦ never (here v (subst (IsWriteAt ops v) e h))
    | inr o ↦ elim o [ inl m ↦ below p m h | inr m ↦ absurd (omega arith) ]
  ]

  pub found_more : (v : Val) (found : Option ℕ) → (given_by a.act ≡ Some v → ⊥) → IsWriteFound ops i v found
      → IsWriteFound ops (i + 1) v found
  found_more v None never below = none_more v never below
  found_more v (Some p) never h = h

  pub integers_same : (writes : BTreeMap ℤ ℕ) → ((n : ℤ) → given_by a.act ≡ Some (Int n) → ⊥)
      → AreIntegerWrites ops i writes → AreIntegerWrites ops (i + 1) writes
  integers_same writes never h n = found_more (Int n) (get int_cmp writes n) (never n) (h n)

  pub integers_more : (old new : BTreeMap ℤ ℕ) (m : ℤ) → given_by a.act ≡ Some (Int m)
      → ((n : ℤ) → get int_cmp new n ≡ cond (int_eq m n) (Some i) (get int_cmp old n))
      → AreIntegerWrites ops i old → AreIntegerWrites ops (i + 1) new
  integers_more old new m gives is h n =
      subst (IsWriteFound ops (i + 1) (Int n)) (sym (is n)) (go (int_eq m n) refl)
    where
      go : (b : Bool) → int_eq m n ≡ b → IsWriteFound ops (i + 1) (Int n) (cond b (Some i) (get int_cmp
          old n))
      go true e = (a, at, gives ∙ ap (λ k. Some (Int k)) ((Decides-int_eq m n).0 e))
      go false e =
          found_more (Int n) (get int_cmp old n) (λ g.
          let same : Some (Int m) ≡ Some (Int n) = sym gives ∙ g in
          let is : m ≡ n = cc same in
          absurd (false≢true (sym e ∙ (Decides-int_eq m n).1 is))) (h n)

-- the write of a value, if the map and the place have those of integers and of null
pub write_in-found : (ops : List Operation) (i : ℕ) (null : Option ℕ) (integers : BTreeMap ℤ ℕ)
    → IsWriteFound ops i Null null → AreIntegerWrites ops i integers → (v : Val)
    → IsWriteFound ops i v (write_in null integers v)
write_in-found ops i null integers h k Null = h
write_in-found ops i null integers h k (Int n) = k n
