-- Rows that are held, and how many.
use Rattle.std.proofs.Common.{◌≡◌, ℕ, zero, suc, ◌+◌, ◌<◌, ◌≤◌, List, [], ◌∷◌, length, set, slice_get}
use Rattle.std.proofs.Common.{Some, Vec, Global, refl, ap, ◌∙◌, arith}
use Rattle.history_model.proofs.Lists.{slice_get-set, slice_get-set_other}
use Rattle.std.proofs.lemmas.Option.{slice_get_within}
use Rattle.causal_order.specs.SessionClocks.Clocks.{entries_of, full_rows, held_rows, one_if_some, row_at}
use Rattle.causal_order.specs.SessionClocks.Rows.{IsHolding}
use Rattle.causal_order.specs.declared.session_clocks.clocks.Clocks.{Clocks}

pub one-some : (xs : List ℕ) → 0 < length xs → one_if_some xs ≡ 1
one-some [] l = absurd (omega arith)
one-some (x ∷ xs) l = refl

pub none-none : (xs : List ℕ) → length xs ≡ 0 → xs ≡ []
none-none [] e = refl
none-none (x ∷ xs) e = absurd (omega (arith, e))

one-most : (xs : List ℕ) → one_if_some xs ≤ 1
one-most [] = omega arith
one-most (x ∷ xs) = omega arith

pub full-few : (rows : List (Vec ℕ Global)) → full_rows rows ≤ length rows
full-few [] = omega arith
full-few (row ∷ rows) = omega (arith, full-few rows, one-most row.items)

-- how many there are after one was changed
pub full-set : (rows : List (Vec ℕ Global)) (p : ℕ) (old new : Vec ℕ Global) → slice_get rows p ≡ Some old
    → full_rows (set rows p new) + one_if_some old.items ≡ full_rows rows + one_if_some new.items
full-set [] p old new e = absurd (cc e)
full-set (row ∷ rows) zero old new e =
    let is : row ≡ old = cc e in
    let one = ap (λ (v : Vec ℕ Global). one_if_some v.items) is in
    omega (arith, one)
full-set (row ∷ rows) (suc p) old new e = omega (arith, full-set rows p old new e)

-- a row that isn't empty is one of them
pub full-one : (rows : List (Vec ℕ Global)) (p : ℕ) (row : Vec ℕ Global) → slice_get rows p ≡ Some row
    → 0 < length row.items → 1 ≤ full_rows rows
full-one [] p row e l = absurd (cc e)
full-one (first ∷ rows) zero row e l =
    let is : first ≡ row = cc e in
    let one = ap (λ (v : Vec ℕ Global). one_if_some v.items) is in
    omega (arith, one, one-some row.items l)
full-one (first ∷ rows) (suc p) row e l = omega (arith, full-one rows p row e l)

pub row-is : (clocks : Clocks) (p : ℕ) (row : Vec ℕ Global) → slice_get clocks.rows.items p ≡ Some row
    → row_at clocks p ≡ row.items
row-is clocks p row e = ap entries_of e

-- the row at p was changed, from `was`
pub holding : (old new : Clocks) (p : ℕ) (was row : Vec ℕ Global) → slice_get old.rows.items p ≡ Some was
    → new.rows.items ≡ set old.rows.items p row → new.until.items ≡ old.until.items
    → length new.rows.items ≡ length old.rows.items
    → old.held ≡ held_rows old → new.held + one_if_some was.items ≡ old.held + one_if_some row.items
    → IsHolding old new p row.items
holding old new p was row e rows until size held count = record {
  rows = size;
  until = until;
  held =
      let is = ap full_rows rows in
      let sum = full-set old.rows.items p was row e in omega (arith, is, sum, held, count);
  at =
      ap (λ xs. entries_of (slice_get xs p)) rows
      ∙ ap entries_of (slice_get-set old.rows.items p row (slice_get_within old.rows.items p was e));
  other = λ d n.
      ap (λ xs. entries_of (slice_get xs d)) rows
      ∙ ap entries_of (slice_get-set_other old.rows.items p d row n);
}
