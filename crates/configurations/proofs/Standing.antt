-- When one configuration stands for another, and lists with one more.
use Rattle.std.proofs.Common.{◌≡◌, ℕ, zero, suc, ◌++◌, ◌||◌, Bool, true, false, List, [], ◌∷◌, ◌⊎◌}
use Rattle.std.proofs.Common.{length, slice_get, Some, None, inl, inr, refl, sym, ap, subst, ◌∙◌}
use Rattle.std.proofs.lemmas.Bool.{false≢true}
use Rattle.std.proofs.lemmas.Option.{get_or_from_slice_get}
use Rattle.slot_sets.specs.Sets.{has}
use Rattle.configurations.specs.declared.op.Op.{Op}
use Rattle.configurations.specs.declared.op.Kind.{Kind}
use Rattle.configurations.specs.declared.op.Kind.TheVariants.{Read, Write, Cas, CasUnless, Miss}
use Rattle.configurations.specs.declared.table.Table.{Table}
use Rattle.configurations.specs.declared.config.Config.{Config}
use Rattle.configurations.specs.declared.config.Configs.{Configs}
use Rattle.configurations.specs.Ops.{kind_looks, kind_leaves, option_left_by}
use Rattle.configurations.specs.Tables.{IsTable, IsWithin, call_at, members}
use Rattle.configurations.specs.Runs.{AliveBy, AliveFree}
use Rattle.configurations.specs.Configs.{AreHeld, AreOwing, AreStill, CanAll}
use Rattle.configurations.specs.Configs.{IsHeld, IsStoodFor, free_of, owed_by}
use Rattle.configurations.proofs.AsFree.{IsAsFree, IsIdle, as_free, as_free_by}
use Rattle.configurations.proofs.Members.{slot_of_member, member_of_slot}

-- ---- looks change nothing

kind_idle : (k : Kind) → kind_looks k ≡ true → (b v : ℕ) → kind_leaves k b v ≡ v
kind_idle Read e b v = refl
kind_idle Write e b v = absurd (false≢true e)
kind_idle Cas e b v = absurd (false≢true e)
kind_idle CasUnless e b v = absurd (false≢true e)
kind_idle Miss e b v = refl

pub looking_is_idle : (ops : List Op) (j : ℕ) (o : Op) → slice_get ops j ≡ Some o → kind_looks o.kind ≡ true
    → IsIdle ops j
looking_is_idle ops j o e l v = ap (λ x. option_left_by x v) e ∙ kind_idle o.kind l o.to v

-- there is no operation of the number
pub missing_is_idle : (ops : List Op) (j : ℕ) → slice_get ops j ≡ None → IsIdle ops j
missing_is_idle ops j e v = ap (λ x. option_left_by x v) e

pub either_or : (a b : Bool) → (a || b) ≡ true → (a ≡ true) ⊎ (b ≡ true)
either_or true b e = inl refl
either_or false b e = inr e

module _ {W : ℕ} where
  -- a call at a slot for looks changes nothing
  pub look_is_idle : (t : Table W) (q j : ℕ) → IsTable t → has t.used q ≡ true → has t.looks q ≡ true
      → slice_get t.calls.items q ≡ Some j → IsIdle t.ops.items j
  look_is_idle t q j i u l e =
      let s = i.each q u in
      let same : call_at t q ≡ j = get_or_from_slice_get t.calls.items q j 0 e in
      looking_is_idle t.ops.items j s.op (subst (λ x. slice_get t.ops.items x ≡ Some s.op) same s.there)
      (sym s.looks ∙ l)

  -- c has the value of d, owes no more, and has each call of d that isn't a look
  pub stands_for_it : (t : Table W) (c d : Config W) → IsTable t → IsHeld (has t.used) d → c.value ≡ d.value
      → IsWithin (has c.owed) (has d.owed) → IsWithin (has d.free) (has c.free)
      → ((q : ℕ) → has d.owed q ≡ true → ((has c.owed q || has c.free q) || has t.looks q) ≡ true)
      → CanAll t c d
  stands_for_it t c d i u e owes frees keeps =
      let ks = t.calls.items in
      let free : IsAsFree t.ops.items (members ks d.owed) (members ks d.free) (members ks c.owed)
      (members ks c.free) =
      record {
        owes = λ j h.
            let r = slot_of_member ks c.owed j h in
            member_of_slot ks d.owed j r.0 r.1 (owes r.0 r.2);
        keeps = λ j h.
            let r = slot_of_member ks d.owed j h in
            elim (either_or (has c.owed r.0 || has c.free r.0) (has t.looks r.0) (keeps r.0 r.2)) [
              | inl x ↦ inl (elim (either_or (has c.owed r.0) (has c.free r.0) x) [
                | inl y ↦ inl (member_of_slot ks c.owed j r.0 r.1 y)
                | inr y ↦ inr (member_of_slot ks c.free j r.0 r.1 y)
              ])
              | inr x ↦ inr (look_is_idle t r.0 j i (u.0 r.0 r.2) x r.1)
            ];
        has = λ j h.
            let r = slot_of_member ks d.free j h in
            inl (member_of_slot ks c.free j r.0 r.1 (frees r.0 r.2));
      } in
      record {
        able = λ es l.
            as_free t.ops.items es d.value c.value (members ks d.owed) (members ks d.free) (members ks c.owed)
            (members ks c.free) (sym e) free l;
        able_by = λ k es n l.
            as_free_by t.ops.items es k n d.value c.value (members ks d.owed) (members ks d.free)
            (members ks c.owed) (members ks c.free) (sym e) free l;
      }

-- ---- places in lists

pub get_left : {A : Type 0} (xs ys : List A) (i : ℕ) (a : A) → slice_get xs i ≡ Some a
    → slice_get (xs ++ ys) i ≡ Some a
get_left [] ys i a e = absurd (cc)
get_left (x ∷ xs) ys zero a e = e
get_left (x ∷ xs) ys (suc i) a e = get_left xs ys i a e

pub get_end : {A : Type 0} (xs : List A) (a : A) → slice_get (xs ++ (a ∷ [])) (length xs) ≡ Some a
get_end [] a = refl
get_end (x ∷ xs) a = get_end xs a

module _ {W : ℕ} where
  pub still_there : (before after : Configs W) (c : Config W)
      → after.list.items ≡ before.list.items ++ (c ∷ []) → AreStill before after
  still_there before after c e at d g =
      subst (λ x. slice_get x at ≡ Some d) (sym e) (get_left before.list.items (c ∷ []) at d g)

  -- one that means the same was put in
  pub new_there : (t : Table W) (before after : Configs W) (c d : Config W)
      → after.list.items ≡ before.list.items ++ (c ∷ []) → c.value ≡ d.value → c.owed ≡ d.owed
      → c.free ≡ d.free → IsStoodFor t after d
  new_there t before after c d e v o f = (
    length before.list.items,
    c,
    subst (λ x. slice_get x (length before.list.items) ≡ Some c) (sym e) (get_end before.list.items c),
    record {
      able = λ es l.
          subst (λ x. AliveFree t.ops.items x (owed_by t c) (free_of t c) es) (sym v)
          (subst (λ x. AliveFree t.ops.items d.value (members t.calls.items x) (free_of t c) es) (sym o)
          (subst (λ x. AliveFree t.ops.items d.value (owed_by t d) (members t.calls.items x) es)
          (sym f) l));
      able_by = λ k es n l.
          subst (λ x. AliveBy t.ops.items k es n x (owed_by t c) (free_of t c)) (sym v)
          (subst (λ x. AliveBy t.ops.items k es n d.value (members t.calls.items x) (free_of t c)) (sym o)
          (subst (λ x. AliveBy t.ops.items k es n d.value (owed_by t d) (members t.calls.items x))
          (sym f) l));
    },
  )

  pub held_pushed : (w : ℕ → Bool) (before after : Configs W) (c : Config W)
      → after.list.items ≡ before.list.items ++ (c ∷ []) → IsHeld w c → AreHeld w before → AreHeld w after
  held_pushed w before after c e u a at x g =
      go before.list.items at (subst (λ y. slice_get y at ≡ Some x) e g) a
    where
      go : (xs : List (Config W)) (at : ℕ) → slice_get (xs ++ (c ∷ [])) at ≡ Some x
          → ((i : ℕ) (z : Config W) → slice_get xs i ≡ Some z → IsHeld w z) → IsHeld w x
      go [] zero g a = let same : c ≡ x = cc in subst (IsHeld w) same u
      go [] (suc at) g a = absurd (cc)
      go (y ∷ ys) zero g a = a 0 x g
      go (y ∷ ys) (suc at) g a = go ys at g (λ i z f. a (suc i) z f)

  pub owing_pushed : (slot : ℕ) (before after : Configs W) (c : Config W)
      → after.list.items ≡ before.list.items ++ (c ∷ []) → has c.owed slot ≡ true → AreOwing slot before
      → AreOwing slot after
  owing_pushed slot before after c e u a at x g =
      go before.list.items at (subst (λ y. slice_get y at ≡ Some x) e g) a
    where
      go : (xs : List (Config W)) (at : ℕ) → slice_get (xs ++ (c ∷ [])) at ≡ Some x
          → ((i : ℕ) (z : Config W) → slice_get xs i ≡ Some z → has z.owed slot ≡ true)
          → has x.owed slot ≡ true
      go [] zero g a = let same : c ≡ x = cc in subst (λ z. has z.owed slot ≡ true) same u
      go [] (suc at) g a = absurd (cc)
      go (y ∷ ys) zero g a = a 0 x g
      go (y ∷ ys) (suc at) g a = go ys at g (λ i z f. a (suc i) z f)
