-- What a write to one place of a column, and one more item at its end, leave.
use Rattle.std.proofs.Common.{◌≡◌, ℕ, ◌<◌, List, [], ◌∷◌, ◌++◌, length, set, Option, Some}
use Rattle.std.proofs.Common.{None, option_and_then, inl, inr, sym, ap, ◌∙◌, arith}
use Rattle.std.proofs.lemmas.Option.{slice_get_past}
use Rattle.std.proofs.lemmas.Bool.{cases_eq}
use Rattle.reg_arena.specs.Lists.Tables.{item_at}
use Rattle.history_model.proofs.Lists.{slice_get-push, slice_get-push_other}
use Rattle.history_model.proofs.Lists.{slice_get-set, slice_get-set_other}

module _ {A : Type 0} where
  -- what a place of a list gives is what stands in the column there
  abbrev item : Option (Option A) → Option A
  item = option_and_then (λ o. o)

  pub item-set : (column : List (Option A)) (i : ℕ) (o : Option A) → i < length column
      → item_at (set column i o) i ≡ o
  item-set column i o l = ap item (slice_get-set column i o l)

  pub item-set_other : (column : List (Option A)) (i j : ℕ) (o : Option A) → (j ≡ i → ⊥)
      → item_at (set column i o) j ≡ item_at column j
  item-set_other column i j o ne = ap item (slice_get-set_other column i j o ne)

  pub item-push : (column : List (Option A)) (o : Option A) → item_at (column ++ o ∷ []) (length column) ≡ o
  item-push column o = ap item (slice_get-push column o)

  pub item-push_other : (column : List (Option A)) (o : Option A) (i : ℕ) → (i ≡ length column → ⊥)
      → item_at (column ++ o ∷ []) i ≡ item_at column i
  item-push_other column o i ne = ap item (slice_get-push_other column o i ne)

  -- an empty place at the end adds nothing
  pub item-push_none : (column : List (Option A)) (i : ℕ) → item_at (column ++ None ∷ []) i ≡ item_at column i
  item-push_none column i = elim (cases_eq i (length column)) [
    | inl e ↦ ap (item_at (column ++ None ∷ [])) e
        ∙ (item-push column None ∙ sym (ap item (slice_get_past column i (omega arith))))
    | inr ne ↦ item-push_other column None i ne
  ]

  -- one place is written, and an empty one added
  pub item-written : (column : List (Option A)) (i : ℕ) (a : A) → i < length column
      → item_at (set column i (Some a) ++ None ∷ []) i ≡ Some a
  item-written column i a l = item-push_none (set column i (Some a)) i ∙ item-set column i (Some a) l

  pub item-written_other : (column : List (Option A)) (i : ℕ) (a : A) (j : ℕ) → (j ≡ i → ⊥)
      → item_at (set column i (Some a) ++ None ∷ []) j ≡ item_at column j
  item-written_other column i a j h =
      item-push_none (set column i (Some a)) j ∙ item-set_other column i j (Some a) h
