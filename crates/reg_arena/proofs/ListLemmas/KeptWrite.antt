-- The write of a register and value that didn't fail, by their entry.
use Rattle.std.proofs.Common.{◌≡◌, ℕ, slice_get, Option, Some}
use Rattle.std.proofs.Common.{None, inl, inr, refl, ap, ◌∙◌, ◌||◌, Bool, true, is_some, arith}
use Rattle.std.proofs.Common.{option_and_then, option_map, sym, subst, List}
use Rattle.std.proofs.lemmas.Bool.{cases_order, false≢true}
use Rattle.history_text.specs.declared.event.Val.{Val}
use Rattle.history_model.specs.declared.event.Event.{Event}
use Rattle.history_model.specs.declared.event.What.{What}
use Rattle.history_model.specs.declared.event.What.TheVariants.{Call, Reply, Fail, Crash}
use Rattle.reg_arena.specs.declared.event_lists.list_ends.Entry.{Entry}
use Rattle.reg_arena.specs.declared.event_lists.list_ends.Write.{Write}
use Rattle.reg_arena.specs.declared.event_lists.list_ends.Write.TheVariants.{Unwritten, Written, Failed}
use Rattle.history_model.specs.Operations.{is_a_call, is_a_reply}
use Rattle.reg_arena.specs.declared.event_lists.lists.EventLists.{EventLists}
use Rattle.history_model.specs.Walking.{IsFirstOf, key_at, by_value}
use Rattle.history_model.specs.Naming.{begins_at, belongs_at}
use Rattle.history_model.specs.declared.ids.EvId.{EvId}
use Rattle.reg_arena.specs.Lists.EventLists.{AreEventLists, IsCallOf}
use Rattle.reg_arena.specs.Lists.EventLists.{IsKeptWrite, by_write}
use Rattle.reg_arena.specs.Lists.EventLists.{value_entry, write_called, write_kept}
use Rattle.reg_arena.specs.Lists.Tables.{item_at}
use Rattle.reg_arena.proofs.ListLemmas.Append.{key-along, write-call, write-value}

call-begins : (w : What) (b : Bool) → is_a_call w ≡ true → (is_a_reply w || b) ≡ b
call-begins (Call kind) b h = refl
call-begins (Reply kind) b h = absurd (false≢true h)
call-begins (Fail kind) b h = refl
call-begins Crash b h = refl

pub kept-write : (t : EventLists) → AreEventLists t → (k : ℕ × Val) (y : Entry)
    → value_entry t.pairs t.entries.items k ≡ Some y → IsKeptWrite t.rows.events k (write_kept y.write)
kept-write t a k y h = go y.write (a.entries k y h).write (a.entries k y h).kept
  where
    es : List Event
    es = t.rows.events

    -- what the column of calls says of a write's call
    begun : (id : EvId) (e : Event) (o : Option EvId) → key_at by_write es id.0 ≡ Some k
        → slice_get es id.0 ≡ Some e → item_at t.rows.calls id.0 ≡ o → begins_at es id.0 e ≡ is_some o
    begun id e o key at call =
        let is = write-call e k (sym (ap (option_and_then by_write) at) ∙ key) in
        let c = subst (IsCallOf es id.0 e) call (a.calls id.0 e at) in
        sym (call-begins e.what (begins_at es id.0 e) is) ∙ by_option o c
      where
        by_option : (o : Option EvId) → IsCallOf es id.0 e o → belongs_at es id.0 e ≡ is_some o
        by_option None c = c
        by_option (Some x) c = c.0

    go : (w : Write) → IsFirstOf by_write es k (write_called w)
        → ((id : EvId) → write_called w ≡ Some id → item_at t.rows.calls id.0 ≡ write_kept w)
        → IsKeptWrite es k (write_kept w)
    go Unwritten first kept = λ id e f at. absurd (first id.0 (omega arith) f.1)
    go (Written w) first kept = (first, λ e at. begun w e (Some w) first.1 at (kept w refl))
    go (Failed w) first kept = λ id e f at.
        let same : w.0 ≡ id.0 = elim (cases_order w.0 id.0) [
          | inl q ↦ q
          | inr c ↦ elim c [
            | inl l ↦ absurd (f.2 w.0 (omega arith) l first.1)
            | inr g ↦ absurd (first.2 id.0 (omega arith) g f.1)
          ]
        ] in
        begun id e None f.1 at (ap (item_at t.rows.calls) (sym same) ∙ kept w refl)

-- a register and value without an entry have no write
pub kept-none : (t : EventLists) → AreEventLists t → (k : ℕ × Val)
    → value_entry t.pairs t.entries.items k ≡ None → IsKeptWrite t.rows.events k None
kept-none t a k h =
    λ w e f at. absurd
    (a.values.none k (ap (option_map (λ (y : Entry). y.ends)) h) w.0
    (key-along by_write by_value t.rows.events k (λ e. write-value e k) w.0 f.1))
