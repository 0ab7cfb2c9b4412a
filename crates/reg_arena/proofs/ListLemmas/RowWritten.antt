-- Where one part of a row is written, the column of that part changes in one place, and the others stay.
use Rattle.std.proofs.Common.{◌≡◌, ◌++◌, ◌∷◌, [], ℕ, List, set, Option, None, map, refl, ap, ◌∙◌, get_or}
use Rattle.std.proofs.lemmas.List.{map-set}
use Rattle.std.proofs.Math.Seq.{map-set_same}
use Rattle.history_model.specs.declared.ids.EvId.{EvId}
use Rattle.history_model.specs.declared.event.Event.{Event}
use Rattle.reg_arena.specs.declared.event_lists.rows.Row.{Row}
use Rattle.reg_arena.specs.Lists.EventLists.{calls_with}
use Rattle.reg_arena.specs.Lists.Rows.{Columns, columns_of, unpacked, with_calls, with_event}
use Rattle.reg_arena.specs.Lists.Rows.{with_in_process, with_in_register, with_in_value}

abbrev pub columns : List Event → List (Option EvId) → List (Option EvId) → List (Option EvId)
    → List (Option EvId) → List (Option ℕ) → Columns
columns e k r p v n = record {
  events = e;
  calls = k;
  in_register = r;
  in_process = p;
  in_value = v;
  numbers = n;
}

same-columns : {e g : List Event} {k l r s p q v w : List (Option EvId)} {n m : List (Option ℕ)} → e ≡ g
    → k ≡ l → r ≡ s → p ≡ q → v ≡ w → n ≡ m → columns e k r p v n ≡ columns g l s q w m
same-columns e k r p v n = cc (e, k, r, p, v, n)

-- the row at a place is `old`
module _ (rows : List Row) (links : List (Option EvId)) (i : ℕ) (old : Row)
    (at : old ≡ get_or rows i old) where
  -- a column that can't tell the new row from the old one
  kept : {A : Type 0} (f : Row → A) (new : Row) → f new ≡ f old → map f (set rows i new) ≡ map f rows
  kept f new same = map-set_same f rows i new old (same ∙ ap f at)

  pub call-written : (o : Option EvId)
      → columns_of (set rows i (record old { call = o })) links ≡ with_calls (columns_of rows links)
      (set (columns_of rows links).calls i o)
  call-written o =
      let new : Row = record old { call = o } in
      same-columns (kept (λ r. unpacked r.event) new refl) (map-set (λ (r : Row). r.call) rows i new) refl
      (kept (λ r. r.in_process) new refl) (kept (λ r. r.in_value) new refl)
      (kept (λ r. r.number) new refl)

  pub process-written : (o : Option EvId)
      → columns_of (set rows i (record old { in_process = o })) links
      ≡ with_in_process (columns_of rows links) (set (columns_of rows links).in_process i o)
  process-written o =
      let new : Row = record old { in_process = o } in
      same-columns (kept (λ r. unpacked r.event) new refl) (kept (λ r. r.call) new refl) refl
      (map-set (λ (r : Row). r.in_process) rows i new) (kept (λ r. r.in_value) new refl)
      (kept (λ r. r.number) new refl)

  pub value-written : (o : Option EvId)
      → columns_of (set rows i (record old { in_value = o })) links ≡ with_in_value (columns_of rows links)
      (set (columns_of rows links).in_value i o)
  value-written o =
      let new : Row = record old { in_value = o } in
      same-columns (kept (λ r. unpacked r.event) new refl) (kept (λ r. r.call) new refl) refl
      (kept (λ r. r.in_process) new refl) (map-set (λ (r : Row). r.in_value) rows i new)
      (kept (λ r. r.number) new refl)

-- ---- an event joins its lists, one column after another, and then has a row

module _ (before register process value own : Columns)
    (r : register ≡ with_in_register before register.in_register)
    (p : process ≡ with_in_process register process.in_process)
    (v : value ≡ with_in_value process value.in_value) where
  pub events-value : value.events ≡ before.events
  events-value =
      ap (λ (k : Columns). k.events) v ∙ (ap (λ (k : Columns). k.events) p ∙ ap (λ (k : Columns). k.events) r)

  pub process-register : register.in_process ≡ before.in_process
  process-register = ap (λ (k : Columns). k.in_process) r

  pub value-process : process.in_value ≡ before.in_value
  value-process = ap (λ (k : Columns). k.in_value) p ∙ ap (λ (k : Columns). k.in_value) r

  calls-value : value.calls ≡ before.calls
  calls-value =
      ap (λ (k : Columns). k.calls) v ∙ (ap (λ (k : Columns). k.calls) p ∙ ap (λ (k : Columns). k.calls) r)

  numbers-value : value.numbers ≡ before.numbers
  numbers-value =
      ap (λ (k : Columns). k.numbers) v
      ∙ (ap (λ (k : Columns). k.numbers) p ∙ ap (λ (k : Columns). k.numbers) r)

  pub row-appended : (e : Event) (call : EvId) (kept : Option EvId) (number : Option ℕ)
      → own ≡ with_calls value own.calls → own.calls ++ kept ∷ [] ≡ calls_with value.calls e.what call
      → with_event own e kept number ≡ columns (before.events ++ e ∷ []) (calls_with before.calls e.what call)
      (register.in_register ++ None ∷ []) (process.in_process ++ None ∷ []) (value.in_value
      ++ None ∷ []) (before.numbers ++ number ∷ [])
  row-appended e call kept number o k = same-columns
      (ap (λ es. es ++ e ∷ []) (ap (λ (k : Columns). k.events) o ∙ events-value))
      (k ∙ ap (λ cs. calls_with cs e.what call) calls-value)
      (ap (λ ls. ls ++ None ∷ []) (ap (λ (k : Columns). k.in_register) o
      ∙ (ap (λ (k : Columns). k.in_register) v ∙ ap (λ (k : Columns). k.in_register) p)))
      (ap (λ ls. ls ++ None ∷ []) (ap (λ (k : Columns). k.in_process) o
      ∙ ap (λ (k : Columns). k.in_process) v))
      (ap (λ ls. ls ++ None ∷ []) (ap (λ (k : Columns). k.in_value) o))
      (ap (λ ns. ns ++ number ∷ []) (ap (λ (k : Columns). k.numbers) o ∙ numbers-value))
