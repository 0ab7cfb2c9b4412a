-- The entries of registers and values: what a write to one and a new one leave.
use Rattle.std.proofs.Common.{◌≡◌, ℕ, ◌<◌, List, [], ◌∷◌, ◌++◌, ◌&&◌, nat_eq, length, set}
use Rattle.std.proofs.Common.{slice_get, Bool, true, false, Option, Some, None, ◌⊎◌, inl, inr}
use Rattle.std.proofs.Common.{refl, sym, ap, subst, ◌∙◌, arith, option_map, option_and_then, ℤ}
use Rattle.std.proofs.lemmas.Bool.{false≢true, eqb-true, eq-eqb, and_parts}
use Rattle.std.specs.Cmp.{int_cmp_total, tied_itself}
use Rattle.std.proofs.lemmas.Option.{slice_get_within}
use Rattle.std.proofs.Common.{Ordering}
use Rattle.std.specs.List.{position}
use Rattle.std.specs.Ordering.{int_eq, is_eq}
use Rattle.std.specs.declared.cmp.Ordering.TheVariants.{Less, Equal, Greater}
use Rattle.std.specs.Option.{option_eq}
use Rattle.std.specs.FinMap.{int_cmp-IsAntisymmetric}
use Rattle.history_text.specs.declared.event.Val.{Val}
use Rattle.history_text.specs.declared.event.Val.TheVariants.{Null, Int}
use Rattle.history_model.specs.declared.ids.EvId.{EvId}
use Rattle.history_model.specs.declared.event.Event.{Event}
use Rattle.reg_arena.specs.declared.event_lists.list_ends.Ends.{Ends}
use Rattle.reg_arena.specs.declared.event_lists.list_ends.Entry.{Entry}
use Rattle.history_model.specs.Walking.{by_value}
use Rattle.reg_arena.specs.Lists.EventLists.{IsJoined, IsEntered, whole, event_number, value_number}
use Rattle.reg_arena.specs.Lists.EventLists.{value_entry, value_ends, entry_alone, entry_with, entry_after}
use Rattle.reg_arena.specs.Lists.Pairs.{key_eq}
use Rattle.reg_arena.specs.Lists.Tables.{item_at}
use Rattle.reg_arena.proofs.ListLemmas.Keys.{place-some, position-at, position-new, position-kept}
use Rattle.reg_arena.proofs.ListLemmas.Keys.{position-absent}
use Rattle.reg_arena.proofs.ListLemmas.Columns.{item-push_none, item-written, item-written_other}
use Rattle.history_model.proofs.Lists.{slice_get-push, slice_get-push_other}
use Rattle.history_model.proofs.Lists.{slice_get-set, slice_get-set_other}

whole_one : (v w : Val) → whole v ≡ whole w → v ≡ w
whole_one Null Null h = refl
whole_one Null (Int n) h = absurd (cc (h))
whole_one (Int m) Null h = absurd (cc (h))
whole_one (Int m) (Int n) h = let e : m ≡ n = cc (h) in ap Int e

is_eq_Equal : (r : Ordering) → is_eq r ≡ true → r ≡ Equal
is_eq_Equal Less h = absurd (false≢true h)
is_eq_Equal Equal h = refl
is_eq_Equal Greater h = absurd (false≢true h)

option_same : (a b : Option ℤ) → option_eq int_eq a b ≡ true → a ≡ b
option_same None None h = refl
option_same None (Some y) h = absurd (false≢true h)
option_same (Some x) None h = absurd (false≢true h)
option_same (Some x) (Some y) h = ap Some (int_cmp-IsAntisymmetric x y (is_eq_Equal _ h))

option_itself : (a : Option ℤ) → option_eq int_eq a a ≡ true
option_itself None = refl
option_itself (Some x) = ap is_eq (tied_itself int_cmp_total x)

-- ---- keys

abbrev key_of : ℕ × Val → ℕ × Option ℤ
key_of k = (k.0, whole k.1)

pub key_same : (a b : ℕ × Option ℤ) → key_eq a b ≡ true → a ≡ b
key_same a b h =
    let w = and_parts (nat_eq a.0 b.0) (option_eq int_eq a.1 b.1) h in
    let m : a.0 ≡ b.0 = eqb-true _ _ w.0 in
    let n : a.1 ≡ b.1 = option_same _ _ w.1 in
    let pair : (a.0, a.1) ≡ (b.0, b.1) = cc in
    pair

pub key_itself : (a : ℕ × Option ℤ) → key_eq a a ≡ true
key_itself a = ap (λ b. b && option_eq int_eq a.1 a.1) (eq-eqb a.0 a.0 refl) ∙ option_itself a.1

-- equal keys are of equal registers and values
key_one : (k q : ℕ × Val) → key_of k ≡ key_of q → k ≡ q
key_one k q h =
    let a : k.0 ≡ q.0 = ap (λ (z : ℕ × Option ℤ). z.0) h in
    let b : k.1 ≡ q.1 = whole_one _ _ (ap (λ (z : ℕ × Option ℤ). z.1) h) in
    let pair : (k.0, k.1) ≡ (q.0, q.1) = cc in
    pair

-- a value is another one or not, as the keys tell
decide_key : (k q : ℕ × Val) → (q ≡ k) ⊎ ((q ≡ k → ⊥) × (key_eq (key_of q) (key_of k) ≡ false))
decide_key k q = go (key_eq (key_of q) (key_of k)) refl
  where
    go : (b : Bool) → key_eq (key_of q) (key_of k) ≡ b
        → (q ≡ k) ⊎ ((q ≡ k → ⊥) × (key_eq (key_of q) (key_of k) ≡ false))
    go true h = inl (key_one q k (key_same _ _ h))
    go false h =
        inr (
          λ e. false≢true (sym h
              ∙ subst (λ x. key_eq (key_of x) (key_of k) ≡ true) (sym e) (key_itself (key_of k))),
          h,
        )

-- ---- numbers

module _ (keys : List (ℕ × Option ℤ)) where
  -- a number is of one register and value only
  pub number-one : (q r : ℕ × Val) (n : ℕ) → value_number keys q ≡ Some n
      → value_number keys r ≡ Some n → q ≡ r
  number-one q r n h g =
      let x = position-at (key_eq (key_of q)) keys n h in
      let y = position-at (key_eq (key_of r)) keys n g in
      let at_x = x.1 in
      let at_y = y.1 in
      let same : x.0 ≡ y.0 = cc (at_x, at_y) in
      key_one q r (key_same (key_of q) x.0 x.2 ∙ (same ∙ sym (key_same (key_of r) y.0 y.2)))

  pub number-within : (q : ℕ × Val) (n : ℕ) → value_number keys q ≡ Some n → n < length keys
  number-within q n h = (place-some (key_eq (key_of q)) keys n (sym h)).1

  -- one key more
  module _ (k : ℕ × Val) where
    pub number-new : value_number keys k ≡ None
        → value_number (keys ++ (k.0, whole k.1) ∷ []) k ≡ Some (length keys)
    number-new none = position-new (key_eq (key_of k)) keys (key_of k) none (key_itself (key_of k))

    -- old numbers stay
    pub number-kept : (q : ℕ × Val) (n : ℕ) → value_number keys q ≡ Some n
        → value_number (keys ++ (k.0, whole k.1) ∷ []) q ≡ Some n
    number-kept q n h = position-kept (key_eq (key_of q)) keys (key_of k) n h

    number-apart : (q : ℕ × Val) → key_eq (key_of q) (key_of k) ≡ false
        → value_number (keys ++ (k.0, whole k.1) ∷ []) q ≡ value_number keys q
    number-apart q f = go (value_number keys q) refl
      where
        go : (o : Option ℕ) → value_number keys q ≡ o
            → value_number (keys ++ (k.0, whole k.1) ∷ []) q ≡ value_number keys q
        go None h = position-absent (key_eq (key_of q)) keys (key_of k) h f ∙ sym h
        go (Some n) h = number-kept q n h ∙ sym h

  -- the register and value of an event whose entry has a number
  pub known-key : (e : Event) (n : ℕ) → Some n ≡ event_number keys e → (k : ℕ × Val) × (by_value e ≡ Some k)
      × (value_number keys k ≡ Some n)
  known-key e n h = go (by_value e) refl h
    where
      go : (o : Option (ℕ × Val)) → by_value e ≡ o → Some n ≡ option_and_then (value_number keys) o
          → (k : ℕ × Val) × (by_value e ≡ Some k) × (value_number keys k ≡ Some n)
      go None q h = absurd (cc (h))
      go (Some k) q h = (k, q, sym h)

-- ---- entries

-- other values' entries stay where one is written
entry-set : (es : List Entry) (j : ℕ) (y : Entry) (o : Option ℕ) → (o ≡ Some j → ⊥)
    → option_and_then (slice_get (set es j y)) o ≡ option_and_then (slice_get es) o
entry-set es j y None h = refl
entry-set es j y (Some i) h = slice_get-set_other es j i y (λ e. h (ap Some e))

entry-push : (es : List Entry) (y : Entry) (o : Option ℕ) → (o ≡ Some (length es) → ⊥)
    → option_and_then (slice_get (es ++ y ∷ [])) o ≡ option_and_then (slice_get es) o
entry-push es y None h = refl
entry-push es y (Some i) h = slice_get-push_other es y i (λ e. h (ap Some e))

-- an event that enters a list joins its links
pub joined-entered : (k : ℕ × Val) (e : Event) (n call : EvId) (entry new_entry : ℕ × Val
    → Option Entry) (link new_link : ℕ → Option EvId) → IsEntered k e n call entry new_entry
    → (entry k ≡ None → (i : ℕ) → new_link i ≡ link i)
    → ((y : Entry) → entry k ≡ Some y → (new_link y.ends.last.0 ≡ Some n)
    × ((i : ℕ) → (i ≡ y.ends.last.0 → ⊥) → new_link i ≡ link i))
    → IsJoined k n link new_link (λ q. option_map (λ (y : Entry). y.ends) (entry q))
    (λ q. option_map (λ (y : Entry). y.ends) (new_entry q))
joined-entered k e n call entry new_entry link new_link t none some = record {
  fresh = λ h. by_none (entry k) refl h;
  next = λ d h. by_some (entry k) refl d h;
  others =
      λ q. elim (t.others q) [
        | inl x ↦ inl x
        | inr x ↦ inr (x.0, ap (option_map (λ (y : Entry). y.ends)) x.1)
      ];
}
  where
    by_none : (o : Option Entry) → entry k ≡ o → option_map (λ (y : Entry). y.ends) (entry k) ≡ None
        → (option_map (λ (y : Entry). y.ends) (new_entry k) ≡ Some (record { first = n; last = n }))
        × ((i : ℕ) → new_link i ≡ link i)
    by_none None q h =
        (ap (option_map (λ (y : Entry). y.ends)) (t.one ∙ ap (λ o. Some (entry_after o e n call)) q), none q)
    by_none (Some y) q h = absurd (let x = ap (option_map (λ (y : Entry). y.ends)) q in cc (x, h))

    by_some : (o : Option Entry) → entry k ≡ o → (d : Ends)
        → option_map (λ (y : Entry). y.ends) (entry k) ≡ Some d
        → (option_map (λ (y : Entry). y.ends) (new_entry k) ≡ Some (record { first = d.first; last = n }))
        × (new_link d.last.0 ≡ Some n) × ((i : ℕ) → (i ≡ d.last.0 → ⊥) → new_link i ≡ link i)
    by_some None q d h = absurd (let x = ap (option_map (λ (y : Entry). y.ends)) q in cc (x, h))
    by_some (Some y) q d h =
        let x = ap (option_map (λ (y : Entry). y.ends)) q in
        let same : y.ends ≡ d = cc (x, h) in
        let w = some y q in
        subst (λ (z : Ends).
        (option_map (λ (y : Entry). y.ends) (new_entry k) ≡ Some (record { first = z.first; last = n }))
        × (new_link z.last.0 ≡ Some n) × ((i : ℕ) → (i ≡ z.last.0 → ⊥) → new_link i ≡ link i)) same (
          ap (option_map (λ (y : Entry). y.ends)) (t.one ∙ ap (λ o. Some (entry_after o e n call)) q),
          w.0,
          w.1,
        )

-- the entry of a value is the one with its number
pub entry-is : (keys : List (ℕ × Option ℤ)) (entries : List Entry) (k : ℕ × Val) (j : ℕ) (y : Entry)
    → value_number keys k ≡ Some j → slice_get entries j ≡ Some y → value_entry keys entries k ≡ Some y
entry-is keys entries k j y h at = ap (option_and_then (slice_get entries)) h ∙ at

module _ (keys : List (ℕ × Option ℤ)) (entries : List Entry) (k : ℕ × Val) (e : Event) (n call : EvId) where
  -- a value that has an entry
  pub entered-known : (j : ℕ) (y : Entry) → value_number keys k ≡ Some j → slice_get entries j ≡ Some y
      → IsEntered k e n call (value_entry keys entries)
      (value_entry keys (set entries j (entry_with y e n call)))
  entered-known j y h at =
      let l = slice_get_within entries j _ at in
      record {
        one =
            entry-is keys (set entries j (entry_with y e n call)) k j (entry_with y e n call) h
            (slice_get-set entries j (entry_with y e n call) l)
            ∙ ap (λ o. Some (entry_after o e n call)) (sym (entry-is keys entries k j y h at));
        others =
            λ q. elim (decide_key k q) [
              | inl x ↦ inl x
              | inr d ↦ inr (
                d.0,
                entry-set entries j (entry_with y e n call) (value_number keys q)
                    (λ x. d.0 (number-one keys q k j x h)),
              )
            ];
      }

  -- a value that gets one
  pub entered-new : length keys ≡ length entries → value_number keys k ≡ None
      → IsEntered k e n call (value_entry keys entries) (value_entry (keys ++ (k.0, whole k.1) ∷ []) (entries
      ++ entry_alone e n call ∷ []))
  entered-new column none =
      let y : Entry = entry_alone e n call in
      let new_keys = keys ++ (k.0, whole k.1) ∷ [] in
      let was : value_entry keys entries k ≡ None = ap (option_and_then (slice_get entries)) none in
      record {
        one =
            entry-is new_keys (entries ++ y ∷ []) k (length entries) y (number-new keys k none
            ∙ ap Some column) (slice_get-push entries y)
            ∙ ap (λ o. Some (entry_after o e n call)) (sym was);
        others =
            λ q. elim (decide_key k q) [
              | inl x ↦ inl x
              | inr d ↦ inr (
                d.0,
                ap (option_and_then (slice_get (entries ++ y ∷ []))) (number-apart keys k q d.1)
                    ∙ entry-push entries y (value_number keys q)
                    (λ x. let w = number-within keys q (length entries) x in omega (arith, w, column)),
              )
            ];
      }

  -- the links with the event in the list
  module _ (links new_links : List (Option EvId)) where
    pub joined-known : (j : ℕ) (y : Entry) → value_number keys k ≡ Some j → slice_get entries j ≡ Some y
        → y.ends.last.0 < length links → new_links ≡ set links y.ends.last.0 (Some n) ++ None ∷ []
        → IsJoined k n (item_at links) (item_at new_links) (value_ends keys entries)
        (value_ends keys (set entries j (entry_with y e n call)))
    joined-known j y h at l items =
        let was = entry-is keys entries k j y h at in
        joined-entered k e n call (value_entry keys entries)
        (value_entry keys (set entries j (entry_with y e n call))) (item_at links) (item_at new_links)
        (entered-known j y h at)
        (λ none. absurd (cc (was, none)))
        (λ z some.
        let same : y ≡ z = cc (was, some) in
        subst (λ (z : Entry). (item_at new_links z.ends.last.0 ≡ Some n)
        × ((i : ℕ) → (i ≡ z.ends.last.0 → ⊥) → item_at new_links i ≡ item_at links i)) same (
          ap (λ (xs : List (Option EvId)). item_at xs y.ends.last.0) items
              ∙ item-written links y.ends.last.0 n l,
          λ i ne. ap (λ (xs : List (Option EvId)). item_at xs i) items
              ∙ item-written_other links y.ends.last.0 n i ne,
        ))

    pub joined-new : length keys ≡ length entries → value_number keys k ≡ None
        → new_links ≡ links ++ None ∷ []
        → IsJoined k n (item_at links) (item_at new_links) (value_ends keys entries)
        (value_ends (keys ++ (k.0, whole k.1) ∷ []) (entries ++ entry_alone e n call ∷ []))
    joined-new column none items =
        let was : value_entry keys entries k ≡ None = ap (option_and_then (slice_get entries)) none in
        joined-entered k e n call (value_entry keys entries)
        (value_entry (keys ++ (k.0, whole k.1) ∷ []) (entries ++ entry_alone e n call ∷ []))
        (item_at links) (item_at new_links) (entered-new column none)
        (λ none i. ap (λ (xs : List (Option EvId)). item_at xs i) items ∙ item-push_none links i)
        (λ z some. absurd (cc (was, some)))

-- what a look-up told
pub number-is : (keys : List (ℕ × Option ℤ)) (r : ℕ) (v : Val) (w : Option ℤ) (o : Option ℕ) → w ≡ whole v
    → o ≡ position (key_eq (r, w)) keys → value_number keys (r, v) ≡ o
number-is keys r v w o e f = ap (λ w. position (key_eq (r, w)) keys) (sym e) ∙ sym f
