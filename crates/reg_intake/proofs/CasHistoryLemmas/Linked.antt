-- The links between the events of each process, as one more event is taken in.
use Rattle.std.proofs.Common.{◌≡◌, ℕ, zero, suc, ◌+◌, ◌<◌, cond, Bool, true, false, List, [], ◌∷◌, ◌++◌}
use Rattle.std.proofs.Common.{get_or, length, slice_get, Option, Some, None, ◌⊎◌, inl, inr, refl, sym, ap}
use Rattle.std.proofs.Common.{◌∙◌, arith, eqb, option_and_then, length-append}
use Rattle.std.proofs.Math.ListN.{length-set}
use Rattle.std.proofs.lemmas.Bool.{eqb-true, eqb-false}
use Rattle.history_text.specs.declared.event.AnyEvent.{AnyEvent}
use Rattle.history_model.specs.Calls.{next_of}
use Rattle.history_model.proofs.Lists.{slice_get-push, slice_get-push_other}
use Rattle.history_model.proofs.Lists.{slice_get-set, slice_get-set_other}
use Rattle.reg_intake.specs.CasHistory.History.{any_calls}
use Rattle.reg_intake.specs.CasHistory.Kept.{link_at, linked_from}

pub is-or-not : (o : Option ℕ) (i : ℕ) → (o ≡ Some i) ⊎ (o ≡ Some i → ⊥)
is-or-not None i = inr (λ h. cc h)
is-or-not (Some j) i = go (eqb j i) refl
  where
    go : (b : Bool) → eqb j i ≡ b → (Some j ≡ Some i) ⊎ (Some j ≡ Some i → ⊥)
    go true d = inl (ap Some (eqb-true j i d))
    go false d = inr (λ h. let same : j ≡ i = cc (h) in eqb-false j i d same)

module _ (names : List (List ℕ)) (p : ℕ) (e : AnyEvent) where
  -- a next event stays the next one
  pub next-kept : (s : ℕ) (xs : List AnyEvent) (r : ℕ × AnyEvent) → next_of (any_calls names) p s xs ≡ Some r
      → next_of (any_calls names) p s (xs ++ e ∷ []) ≡ Some r
  next-kept s [] r h = absurd (cc (h))
  next-kept s (x ∷ xs) r h = go (eqb x.process p) (next-kept (suc s) xs r) h
    where
      go : (b : Bool)
          → (next_of (any_calls names) p (suc s) xs ≡ Some r
          → next_of (any_calls names) p (suc s) (xs ++ e ∷ []) ≡ Some r)
          → cond b (Some (s, x)) (next_of (any_calls names) p (suc s) xs) ≡ Some r
          → cond b (Some (s, x)) (next_of (any_calls names) p (suc s) (xs ++ e ∷ [])) ≡ Some r
      go true later h = h
      go false later h = later h

  -- if there was none, it is the new one, if that is of the process
  pub next-new : (s t : ℕ) (xs : List AnyEvent) → t ≡ s + length xs
      → next_of (any_calls names) p s xs ≡ None
      → next_of (any_calls names) p s (xs ++ e ∷ []) ≡ cond (eqb e.process p) (Some (t, e)) None
  next-new s t [] is h = let same : s ≡ t = omega (arith, is) in
      ap (λ k. cond (eqb e.process p) (Some (k, e)) None) same
  next-new s t (x ∷ xs) is h = go (eqb x.process p) (next-new (suc s) t xs (omega (arith, is))) h
    where
      go : (b : Bool)
          → (next_of (any_calls names) p (suc s) xs ≡ None
          → next_of (any_calls names) p (suc s) (xs ++ e ∷ []) ≡ cond (eqb e.process p) (Some (t, e)) None)
          → cond b (Some (s, x)) (next_of (any_calls names) p (suc s) xs) ≡ None
          → cond b (Some (s, x)) (next_of (any_calls names) p (suc s) (xs ++ e ∷ []))
          ≡ cond (eqb e.process p) (Some (t, e)) None
      go true later h = absurd (cc (h))
      go false later h = later h

-- a link, as the code reads it
pub link-read : (next : List (Option ℕ)) (i : ℕ) (d : Option ℕ) → i < length next
    → link_at next i ≡ get_or next i d
link-read [] i d l = absurd (omega (arith, l))
link-read (x ∷ next) zero d l = refl
link-read (x ∷ next) (suc i) d l = link-read next i d (omega (arith, l))

abbrev linked_to : Option (Option ℕ) → Option ℕ
linked_to o = option_and_then (λ (o : Option ℕ). o) o

module _ (next : List (Option ℕ)) (n : ℕ) (count : length next ≡ n) where
  abbrev pub relinked : Option ℕ → List (Option ℕ)
  relinked was = linked_from (next ++ None ∷ []) was n

  pub count-linked : (was : Option ℕ) → length (relinked was) ≡ n + 1
  count-linked None = omega (arith, count, length-append next (None ∷ []))
  count-linked (Some m) =
      omega (arith, count, length-set (next ++ None ∷ []) m (Some n), length-append next (None ∷ []))

  -- the new event is linked to none
  pub link-last : (was : Option ℕ) → ((m : ℕ) → was ≡ Some m → m < n) → link_at (relinked was) n ≡ None
  link-last None within =
      ap linked_to (ap (slice_get (next ++ None ∷ [])) (sym count) ∙ slice_get-push next None)
  link-last (Some m) within =
      ap linked_to (slice_get-set_other (next ++ None ∷ []) m n (Some n)
      (λ e. omega (arith, within m refl, e))
      ∙ (ap (slice_get (next ++ None ∷ [])) (sym count) ∙ slice_get-push next None))

  -- the one before it is linked to it
  pub link-new : (m : ℕ) → m < n → link_at (relinked (Some m)) m ≡ Some n
  link-new m l =
      ap linked_to (slice_get-set (next ++ None ∷ []) m (Some n)
      (omega (arith, l, count, length-append next (None ∷ []))))

  -- and all others as they were
  pub link-same : (was : Option ℕ) (i : ℕ) → i < n → (was ≡ Some i → ⊥)
      → link_at (relinked was) i ≡ link_at next i
  link-same None i l other = ap linked_to (slice_get-push_other next None i (λ e. omega (arith, e, count, l)))
  link-same (Some m) i l other =
      ap linked_to (slice_get-set_other (next ++ None ∷ []) m i (Some n) (λ e. other (ap Some (sym e)))
      ∙ slice_get-push_other next None i (λ e. omega (arith, e, count, l)))
