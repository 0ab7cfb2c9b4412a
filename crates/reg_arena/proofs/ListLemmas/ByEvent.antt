-- The entry of an event's register and value, by the number beside the event or beside another of the same.
use Rattle.std.proofs.Common.{◌≡◌, ℕ, ◌<◌, length, slice_get, Option, Some}
use Rattle.std.proofs.Common.{None, refl, ap, ◌∙◌, arith}
use Rattle.std.proofs.Common.{option_and_then, option_map, subst}
use Rattle.history_text.specs.declared.event.Val.{Val}
use Rattle.history_model.specs.declared.event.Event.{Event}
use Rattle.reg_arena.specs.declared.event_lists.list_ends.Entry.{Entry}
use Rattle.reg_arena.specs.declared.event_lists.lists.EventLists.{EventLists}
use Rattle.history_model.specs.Walking.{key_at, by_value}
use Rattle.history_model.specs.declared.ids.EvId.{EvId}
use Rattle.reg_arena.specs.Lists.EventLists.{AreEventLists, IsAlike, IsCallOf}
use Rattle.reg_arena.specs.Lists.EventLists.{event_number}
use Rattle.reg_arena.specs.Lists.EventLists.{value_entry, value_number}
use Rattle.reg_arena.proofs.ListLemmas.Values.{number-within as within-keys, entry-is}
use Rattle.history_model.proofs.Lists.{slice_get_inside}

then_then : {A B C : Type 0} (f : A → Option B) (g : B → Option C) (o : Option A)
    → option_and_then (λ a. option_and_then g (f a)) o ≡ option_and_then g (option_and_then f o)
then_then f g None = refl
then_then f g (Some a) = refl

-- the number beside an event is that of its key
pub number-of : (t : EventLists) → AreEventLists t → (i : ℕ) (o : Option ℕ) → i < length t.rows.events
    → slice_get t.rows.numbers i ≡ Some o
    → option_and_then (value_number t.pairs) (key_at by_value t.rows.events i) ≡ o
number-of t a i o l h =
    let e = slice_get_inside t.rows.events i l in
    let at = e.1 in
    let n = a.numbers i e.0 at in
    let q : option_and_then (value_number t.pairs) (by_value e.0) ≡ o = cc (n, h) in
    ap (λ (x : Option Event). option_and_then (value_number t.pairs) (option_and_then by_value x)) at ∙ q

pub entry-of : (t : EventLists) → AreEventLists t → (i : ℕ) (o : Option ℕ) → i < length t.rows.events
    → slice_get t.rows.numbers i ≡ Some o
    → option_and_then (value_entry t.pairs t.entries.items) (key_at by_value t.rows.events i)
    ≡ option_and_then (slice_get t.entries.items) o
entry-of t a i o l h =
    then_then (value_number t.pairs) (slice_get t.entries.items) (key_at by_value t.rows.events i)
    ∙ ap (option_and_then (slice_get t.entries.items)) (number-of t a i o l h)

pub number-within : (t : EventLists) → AreEventLists t → (i n : ℕ) → i < length t.rows.events
    → slice_get t.rows.numbers i ≡ Some (Some n) → n < length t.entries.items
number-within t a i n l h = go (key_at by_value t.rows.events i) (number-of t a i (Some n) l h)
  where
    go : (k : Option (ℕ × Val)) → option_and_then (value_number t.pairs) k ≡ Some n
        → n < length t.entries.items
    go None q = absurd (cc (q))
    go (Some k) q = let w = within-keys t.pairs k n q in omega (arith, w, a.numbered)

-- where no event has the register and value of an event, they have no number
pub number-absent : (t : EventLists) → AreEventLists t → (e : Event) → IsAlike t.rows.events e None
    → None ≡ event_number t.pairs e
number-absent t a e none = go (by_value e) refl
  where
    absent : (k : ℕ × Val) → by_value e ≡ Some k → (o : Option ℕ) → value_number t.pairs k ≡ o → None ≡ o
    absent k q None h = refl
    absent k q (Some n) h =
        let w = within-keys t.pairs k n h in
        let y = slice_get_inside t.entries.items n (omega (arith, w, a.numbered)) in
        let i =
        a.values.last k y.0.ends
        (ap (option_map (λ (y : Entry). y.ends)) (entry-is t.pairs t.entries.items k n y.0 h y.1)) in
        absurd (none k q y.0.ends.last.0 i.0)

    go : (o : Option (ℕ × Val)) → by_value e ≡ o → None ≡ option_and_then (value_number t.pairs) o
    go None q = refl
    go (Some k) q = absent k q (value_number t.pairs k) refl

-- what stands in the column beside an event is the call of its operation
pub call-beside : (t : EventLists) → AreEventLists t → (i : ℕ) (e : Event) (o : Option EvId)
    → slice_get t.rows.events i ≡ Some e → slice_get t.rows.calls i ≡ Some o → IsCallOf t.rows.events i e o
call-beside t a i e o at said =
    subst (IsCallOf t.rows.events i e) (ap (option_and_then (λ (o : Option EvId). o)) said) (a.calls i e at)
