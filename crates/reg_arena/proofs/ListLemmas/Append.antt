-- An append keeps the families of lists, and the key of each event before it.
use Rattle.std.proofs.Common.{◌≡◌, ℕ, ◌+◌, ◌<◌, ◌&&◌, not, cond, Bool, true, false, List, []}
use Rattle.std.proofs.Common.{◌∷◌, ◌++◌, length, slice_get, Option, Some, None, ◌⊎◌, inl}
use Rattle.std.proofs.Common.{inr, refl, sym, ap, subst, ◌∙◌, arith, option_and_then}
use Rattle.std.specs.Option.{option_or}
use Rattle.std.proofs.lemmas.Option.{slice_get_past, slice_get_within}
use Rattle.std.proofs.lemmas.Bool.{cases_eq}
use Rattle.history_text.specs.declared.event.Val.{Val}
use Rattle.history_model.specs.declared.ids.EvId.{EvId}
use Rattle.history_model.specs.declared.event.Event.{Event}
use Rattle.reg_arena.specs.declared.event_lists.list_ends.Ends.{Ends}
use Rattle.history_model.specs.Operations.{is_a_call, is_a_reply, kind_in, writes}
use Rattle.history_model.specs.Walking.{IsLeastFrom, IsFirstOf, key_at, by_value}
use Rattle.reg_arena.specs.Lists.EventLists.{IsThreaded, IsJoinedBy, by_write, by_reply, by_read}
use Rattle.reg_arena.specs.Lists.Tables.{item_at}
use Rattle.reg_arena.proofs.ListLemmas.Threading.{IsPushed, threaded-alone, threaded-joined}
use Rattle.history_model.proofs.Lists.{slice_get-push, slice_get-push_other}

-- links and ends that are the same at each place are threaded alike
threaded-same : {K : Type 0} (key : ℕ → Option K) (link new_link : ℕ → Option EvId) (ends new_ends : K
    → Option Ends) → ((i : ℕ) → new_link i ≡ link i) → ((k : K) → new_ends k ≡ ends k)
    → IsThreaded key link ends → IsThreaded key new_link new_ends
threaded-same key link new_link ends new_ends l e t = record {
  next = λ k i h. subst (IsLeastFrom (λ j. key j ≡ Some k) (i + 1)) (sym (l i)) (t.next k i h);
  alone = λ i h. l i ∙ t.alone i h;
  none = λ k h. t.none k (sym (e k) ∙ h);
  first = λ k d h. t.first k d (sym (e k) ∙ h);
  last = λ k d h. t.last k d (sym (e k) ∙ h);
}

-- an event with or without a key
threaded-by : {K : Type 0} (n : EvId) (k : Option K) (key new_key : ℕ → Option K) (link new_link : ℕ
    → Option EvId) (ends new_ends : K → Option Ends) → IsThreaded key link ends → link n.0 ≡ None
    → IsPushed n.0 k key new_key → IsJoinedBy k n link new_link ends new_ends
    → IsThreaded new_key new_link new_ends
threaded-by n None key new_key link new_link ends new_ends t none p j =
    threaded-same new_key link new_link ends new_ends j.0 j.1
    (threaded-alone n key new_key link ends t none p)
threaded-by n (Some k) key new_key link new_link ends new_ends t none p j =
    threaded-joined n key new_key link ends t none k new_link new_ends p j

-- an append to the events
pushed : {K : Type 0} (key : Event → Option K) (es : List Event) (e : Event) (n : ℕ) → n ≡ length es
    → IsPushed n (key e) (key_at key es) (key_at key (es ++ e ∷ []))
pushed key es e n q = record {
  past = λ i l. ap (option_and_then key) (slice_get_past es i (omega arith));
  same = λ i ne. ap (option_and_then key) (slice_get-push_other es e i (λ c. ne (c ∙ sym q)));
  new = ap (λ m. key_at key (es ++ e ∷ []) m) q ∙ ap (option_and_then key) (slice_get-push es e);
}

-- one family through an append
pub family : {K : Type 0} (key : Event
    → Option K) (es : List Event) (e : Event) (n : EvId) (links new_links : List (Option EvId))
    (ends new_ends : K → Option Ends)
    → n.0 ≡ length es → length links ≡ length es
    → IsThreaded (key_at key es) (item_at links) ends
    → IsJoinedBy (key e) n (item_at links) (item_at new_links) ends new_ends
    → IsThreaded (key_at key (es ++ e ∷ [])) (item_at new_links) new_ends
family key es e n links new_links ends new_ends at column t j =
    threaded-by n (key e) (key_at key es) (key_at key (es ++ e ∷ [])) (item_at links)
    (item_at new_links) ends new_ends t
    (ap (option_and_then (λ (o : Option EvId). o)) (slice_get_past links n.0 (omega arith)))
    (pushed key es e n.0 at) j

pub key-within : {K : Type 0} (key : Event → Option K) (es : List Event) (i : ℕ) (k : K)
    → key_at key es i ≡ Some k → i < length es
key-within key es i k h = go (slice_get es i) refl h
  where
    go : (o : Option Event) → slice_get es i ≡ o → option_and_then key o ≡ Some k → i < length es
    go None e h = absurd (cc (h))
    go (Some v) e h = slice_get_within es i v e

-- the last event of a list is one of the events
pub ends-within : {K : Type 0} (key : Event → Option K) (es : List Event) (link : ℕ → Option EvId) (ends : K
    → Option Ends) → IsThreaded (key_at key es) link ends → (k : K) (e : Ends) → ends k ≡ Some e
    → e.last.0 < length es
ends-within key es link ends t k e h = key-within key es e.last.0 k (t.last k e h).0

-- ---- keys after an append

pub key-keep : {K : Type 0} (key : Event → Option K) (es : List Event) (e : Event) (i : ℕ) (k : K)
    → key_at key es i ≡ Some k → key_at key (es ++ e ∷ []) i ≡ Some k
key-keep key es e i k h =
    let l =
    key-within key es i k h in
    ap (option_and_then key) (slice_get-push_other es e i (λ c. omega arith)) ∙ h

pub key-back : {K : Type 0} (key : Event → Option K) (es : List Event) (e : Event) (i : ℕ) (k : K)
    → key_at key (es ++ e ∷ []) i ≡ Some k → ((i ≡ length es) × (key e ≡ Some k)) ⊎ (key_at key es i ≡ Some k)
key-back key es e i k h = elim (cases_eq i (length es)) [
  | inl q ↦ inl (
    q,
    sym (ap (option_and_then key) (ap (slice_get (es ++ e ∷ [])) q ∙ slice_get-push es e)) ∙ h,
  )
  | inr ne ↦ inr (sym (ap (option_and_then key) (slice_get-push_other es e i ne)) ∙ h)
]

-- the first event of a key stays where the new event has another
pub first-other : {K : Type 0} (key : Event
    → Option K) (es : List Event) (e : Event) (k : K) (o : Option EvId) → (key e ≡ Some k → ⊥)
    → IsFirstOf key es k o → IsFirstOf key (es ++ e ∷ []) k o
first-other key es e k None ne h =
    λ i l q. elim (key-back key es e i k q) [ inl x ↦ ne x.1 | inr x ↦ h i l x ]
first-other key es e k (Some j) ne h = (
  h.0,
  key-keep key es e j.0 k h.1,
  λ i l lt q. elim (key-back key es e i k q) [ inl x ↦ ne x.1 | inr x ↦ h.2 i l lt x ],
)

-- it is the new one where there was none
pub first-with : {K : Type 0} (key : Event
    → Option K) (es : List Event) (e : Event) (n : EvId) (k : K) (o : Option EvId) → n.0 ≡ length es
    → key e ≡ Some k → IsFirstOf key es k o → IsFirstOf key (es ++ e ∷ []) k (option_or o (Some n))
first-with key es e n k None at q h = (
  omega arith,
  ap (key_at key (es ++ e ∷ [])) at ∙ (ap (option_and_then key) (slice_get-push es e) ∙ q),
  λ i l lt x. elim (key-back key es e i k x) [ inl y ↦ omega (arith, y.0) | inr y ↦ h i l y ],
)
first-with key es e n k (Some j) at q h =
    let w = key-within key es j.0 k h.1 in (
      h.0,
      key-keep key es e j.0 k h.1,
      λ i l lt x. elim (key-back key es e i k x) [ inl y ↦ omega (arith, y.0) | inr y ↦ h.2 i l lt y ],
    )

cond-value : {K : Type 0} (b : Bool) (o : Option K) (k : K) → cond b o None ≡ Some k
    → (b ≡ true) × (o ≡ Some k)
cond-value true o k h = (refl, h)
cond-value false o k h = absurd (cc (h))

pub write-call : (e : Event) (k : ℕ × Val) → by_write e ≡ Some k → is_a_call e.what ≡ true
write-call e k h = (cond-value (is_a_call e.what) (by_value e) k h).0

pub write-value : (e : Event) (k : ℕ × Val) → by_write e ≡ Some k → by_value e ≡ Some k
write-value e k h = (cond-value (is_a_call e.what) (by_value e) k h).1

pub reply-said : (e : Event) (k : ℕ × Val) → by_reply e ≡ Some k → is_a_reply e.what ≡ true
reply-said e k h = (cond-value (is_a_reply e.what) (by_value e) k h).0

pub reply-value : (e : Event) (k : ℕ × Val) → by_reply e ≡ Some k → by_value e ≡ Some k
reply-value e k h = (cond-value (is_a_reply e.what) (by_value e) k h).1

pub read-said : (e : Event) (k : ℕ × Val) → by_read e ≡ Some k
    → (is_a_reply e.what && not (writes (kind_in e.what))) ≡ true
read-said e k h = (cond-value (is_a_reply e.what && not (writes (kind_in e.what))) (by_value e) k h).0

pub read-value : (e : Event) (k : ℕ × Val) → by_read e ≡ Some k → by_value e ≡ Some k
read-value e k h = (cond-value (is_a_reply e.what && not (writes (kind_in e.what))) (by_value e) k h).1

pub key-along : {K : Type 0} (key other : Event → Option K) (es : List Event) (k : K)
    → ((e : Event) → key e ≡ Some k → other e ≡ Some k) → (i : ℕ) → key_at key es i ≡ Some k
    → key_at other es i ≡ Some k
key-along key other es k f i h = go (slice_get es i) h
  where
    go : (o : Option Event) → option_and_then key o ≡ Some k → option_and_then other o ≡ Some k
    go None h = absurd (cc (h))
    go (Some e) h = f e h
