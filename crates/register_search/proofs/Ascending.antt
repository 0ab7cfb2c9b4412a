-- Where an integer is found among ascending ones, and what one more does.
use Rattle.std.proofs.Common.{◌≡◌, ℕ, ◌+◌, ◌-◌, ◌<◌, ℤ, List, [], ◌∷◌, ◌++◌, length, get_or}
use Rattle.std.proofs.Common.{slice_get, cond, Bool, true, false, Option, Some, None, Result, Ok, Err}
use Rattle.std.proofs.Common.{MatchResult, IsTrue, int_lt, refl, sym, ap, subst, ◌∙◌, arith, inl, inr}
use Rattle.std.proofs.Math.ListN.{get_or-append}
use Rattle.std.proofs.Math.Seq.{get_or-append_seam}
use Rattle.std.proofs.lemmas.Bool.{cases_lt}
use Rattle.std.proofs.lemmas.Cmp.{int_cmp_total, int_eq_equiv, int_ranked}
use Rattle.std.proofs.lemmas.List.{get_or-map}
use Rattle.std.proofs.lemmas.List.Sorted.{searchable_from_sorted}
use Rattle.std.proofs.lemmas.Map.{lookup-insert, none_passes_from_lookup}
use Rattle.std.proofs.lemmas.Map.Entries.{lookup_from_place, lookup_at_gap, length-keys_of}
use Rattle.std.proofs.lemmas.Map.Keys.{IsDistinct-from_sorted, Less-from_sorted, sorted_from_all_adjacent}
use Rattle.std.proofs.lemmas.Option.{slice_get-get_or, get_or_from_slice_get, slice_get_within}
use Rattle.std.specs.declared.cmp.Ordering.TheVariants.{Less, Equal, Greater}
use Rattle.std.specs.BTreeMap.{is_at}
use Rattle.std.specs.List.{insert}
use Rattle.std.specs.List.Sorted.{IsStrictlySortedBy, IsSortedBy, IsSearchInRange, IsBinarySearchResult}
use Rattle.std.specs.Map.{keys_of, lookup}
use Rattle.std.specs.Option.{option_or}
use Rattle.std.specs.Ordering.{int_cmp, int_eq, is_lt, ordering_reverse}

-- ---- one comparison, from both sides

flip-less : (x y : ℤ) → int_cmp x y ≡ Less → int_cmp y x ≡ Greater
flip-less x y h = int_cmp_total.antisymm y x ∙ ap ordering_reverse h

flip-greater : (x y : ℤ) → int_cmp x y ≡ Greater → int_cmp y x ≡ Less
flip-greater x y h = int_cmp_total.antisymm y x ∙ ap ordering_reverse h

pub less-than : (x y : ℤ) → IsTrue (int_lt x y) → int_cmp x y ≡ Less
less-than x y t = ap (λ b. cond b Less (cond (int_lt y x) Greater Equal)) t

-- ---- where an integer is found

pub at-place : (es : List (ℤ × ℕ)) (i : ℕ) (p : ℤ × ℕ) (v : ℤ) → IsStrictlySortedBy int_cmp (keys_of es)
    → slice_get es i ≡ Some p → p.0 ≡ v → lookup (is_at (int_cmp v)) es ≡ Some p.1
at-place es i p v up e same =
    subst (λ k. lookup (is_at (int_cmp k)) es ≡ Some p.1) same
    (lookup_from_place int_eq_equiv es i p.0 p.1 (IsDistinct-from_sorted int_cmp (keys_of es) up) e)

key-at : (es : List (ℤ × ℕ)) (i : ℕ) (d : ℤ × ℕ) → i < length es
    → get_or (keys_of es) i d.0 ≡ (get_or es i d).0
key-at es i d l = get_or-map (λ (p : ℤ × ℕ). p.0) es i d d.0 l

rising : (es : List (ℤ × ℕ)) → IsStrictlySortedBy int_cmp (keys_of es)
    → IsSortedBy (λ (p q : ℤ × ℕ). is_lt (int_cmp p.0 q.0)) es
rising es up k d low l =
    let len = length-keys_of es in
    let less = Less-from_sorted int_cmp (keys_of es) k (k + 1) d.0 up (omega arith) (omega (arith, len)) in
    let one = key-at es k d (omega arith) in
    let next = key-at es (k + 1) d l in
    let here : int_cmp (get_or es k d).0 (get_or es (k + 1) d).0 ≡ Less =
    ap (λ x. int_cmp x (get_or es (k + 1) d).0) (sym one)
    ∙ (ap (int_cmp (get_or (keys_of es) k d.0)) (sym next) ∙ less) in
    ap is_lt (flip-less (get_or es k d).0 (get_or es (k + 1) d).0 here)

pub halved : (es : List (ℤ × ℕ)) (v : ℤ) (d : ℤ × ℕ) (r : Result ℕ ℕ)
    → IsStrictlySortedBy int_cmp (keys_of es)
    → IsSearchInRange r (length es) → IsBinarySearchResult (λ (p : ℤ × ℕ). int_cmp p.0 v) es r
    → MatchResult r (λ i. Some (get_or es i d).1 ≡ lookup (is_at (int_cmp v)) es)
    (λ i. None ≡ lookup (is_at (int_cmp v)) es)
halved es v d (Ok i) up within equal =
    sym (at-place es i (get_or es i d) v up (slice_get-get_or es i d within)
    (int_ranked (get_or es i d).0 v Equal (sym (equal d))))
halved es v d (Err i) up within parted =
    let rise = searchable_from_sorted int_cmp_total (λ (p : ℤ × ℕ). p.0) es v (rising es up) in
    let parts = parted rise in
    sym (lookup_at_gap int_cmp_total v es i up
    (λ j e l at. ap (λ (p : ℤ × ℕ). int_cmp v p.0) (sym (get_or_from_slice_get es j e d at))
    ∙ flip-less (get_or es j d).0 v (parts.0 j d (omega arith) l))
    (λ e at. ap (λ (p : ℤ × ℕ). int_cmp v p.0) (sym (get_or_from_slice_get es i e d at))
    ∙ flip-greater (get_or es i d).0 v (parts.1 i d (omega arith) (slice_get_within es i e at))))

-- ---- one more, above all

keys-push : (es : List (ℤ × ℕ)) (v : ℤ) (n : ℕ) → keys_of (es ++ (v, n) ∷ []) ≡ keys_of es ++ v ∷ []
keys-push [] v n = refl
keys-push (e ∷ es) v n = ap (λ ks. e.0 ∷ ks) (keys-push es v n)

length-push : (ks : List ℤ) (v : ℤ) → length (ks ++ v ∷ []) ≡ length ks + 1
length-push [] v = refl
length-push (k ∷ ks) v = let h = length-push ks v in omega arith

pub above-nothing : (v : ℤ) (n : ℕ) (es : List (ℤ × ℕ)) → None ≡ slice_get es (length es - 1)
    → IsStrictlySortedBy int_cmp (keys_of (es ++ (v, n) ∷ []))
above-nothing v n [] h = sorted_from_all_adjacent int_cmp_total (v ∷ []) v (λ k l. absurd (omega arith))
above-nothing v n (e ∷ es) h =
    absurd (let z = h ∙ slice_get-get_or (e ∷ es) (length (e ∷ es) - 1) e (omega arith) in cc (z))

pub above-last : (es : List (ℤ × ℕ)) (last : ℤ × ℕ) (v : ℤ) (n : ℕ) → IsStrictlySortedBy int_cmp (keys_of es)
    → Some last ≡ slice_get es (length es - 1) → int_cmp last.0 v ≡ Less
    → IsStrictlySortedBy int_cmp (keys_of (es ++ (v, n) ∷ []))
above-last es last v n up e less =
    subst (IsStrictlySortedBy int_cmp) (sym (keys-push es v n))
    (sorted_from_all_adjacent int_cmp_total (keys_of es ++ v ∷ []) v next)
  where
    len : length (keys_of es) ≡ length es
    len = length-keys_of es

    next : (k : ℕ) → k + 1 < length (keys_of es ++ v ∷ [])
        → int_cmp (get_or (keys_of es ++ v ∷ []) k v) (get_or (keys_of es ++ v ∷ []) (k + 1) v) ≡ Less
    next k l =
        let more = length-push (keys_of es) v in
        let one = get_or-append (keys_of es) (v ∷ []) v k (omega (arith, len, more)) in
        elim (cases_lt (k + 1) (length (keys_of es))) [
          | inl m ↦
              ap (λ x. int_cmp x (get_or (keys_of es ++ v ∷ []) (k + 1) v)) one
              ∙ (ap (int_cmp (get_or (keys_of es) k v)) (get_or-append (keys_of es) (v ∷ []) v (k + 1) m)
              ∙ Less-from_sorted int_cmp (keys_of es) k (k + 1) v up (omega arith) m)
          | inr m ↦
              let end : k + 1 ≡ length (keys_of es) = omega (arith, more) in
              let top : get_or (keys_of es ++ v ∷ []) (k + 1) v ≡ v =
              ap (λ i. get_or (keys_of es ++ v ∷ []) i v) end ∙ get_or-append_seam (keys_of es) v [] v in
              let place : length es - 1 ≡ k = omega (arith, len) in
              let there : slice_get es k ≡ Some last = ap (slice_get es) (sym place) ∙ sym e in
              let key = get_or-map (λ (p : ℤ × ℕ). p.0) es k last v (slice_get_within es k last there) in
              let is : get_or (keys_of es ++ v ∷ []) k v ≡ last.0 =
              one ∙ (key ∙ ap (λ (p : ℤ × ℕ). p.0) (get_or_from_slice_get es k last last there)) in
              ap (λ x. int_cmp x (get_or (keys_of es ++ v ∷ []) (k + 1) v)) is
              ∙ (ap (int_cmp last.0) top ∙ less)
        ]

pub pushed-or-not : (b : Bool) (es new : List (ℤ × ℕ)) (p : ℤ × ℕ) → new ≡ cond b (es ++ p ∷ []) es
    → IsStrictlySortedBy int_cmp (keys_of es) → IsStrictlySortedBy int_cmp (keys_of (es ++ p ∷ []))
    → IsStrictlySortedBy int_cmp (keys_of new)
pushed-or-not true es new p e up more = subst (λ xs. IsStrictlySortedBy int_cmp (keys_of xs)) (sym e) more
pushed-or-not false es new p e up more = subst (λ xs. IsStrictlySortedBy int_cmp (keys_of xs)) (sym e) up

-- what stands above all is not found
pub above-lost : (es : List (ℤ × ℕ)) (v : ℤ) → IsStrictlySortedBy int_cmp (keys_of es)
    → IsStrictlySortedBy int_cmp (keys_of (es ++ (v, 0) ∷ [])) → None ≡ lookup (is_at (int_cmp v)) es
above-lost es v up more =
    sym (lookup_at_gap int_cmp_total v es (length es) up
    (λ j e l at.
    let len = length-keys_of es in
    let keys = subst (IsStrictlySortedBy int_cmp) (keys-push es v 0) more in
    let less = Less-from_sorted int_cmp (keys_of es ++ v ∷ []) j (length (keys_of es)) e.0 keys
    (omega (arith, len)) (omega (arith, length-push (keys_of es) v)) in
    let here : get_or (keys_of es ++ v ∷ []) j e.0 ≡ e.0 =
    get_or-append (keys_of es) (v ∷ []) e.0 j (omega (arith, len))
    ∙ (key-at es j e l ∙ ap (λ (p : ℤ × ℕ). p.0) (get_or_from_slice_get es j e e at)) in
    let top = get_or-append_seam (keys_of es) v [] e.0 in
    flip-less e.0 v (ap (λ x. int_cmp x v) (sym here)
    ∙ (ap (int_cmp (get_or (keys_of es ++ v ∷ []) j e.0)) (sym top) ∙ less)))
    (λ e at. absurd (let l = slice_get_within es (length es) e at in omega arith)))

-- ---- what is found after one more

insert-end : (es : List (ℤ × ℕ)) (p : ℤ × ℕ) → insert es (length es) p ≡ es ++ p ∷ []
insert-end [] p = refl
insert-end (e ∷ es) p = ap (λ xs. e ∷ xs) (insert-end es p)

or-none : (a b : Option ℕ) → option_or a b ≡ None → (a ≡ None) × (b ≡ None)
or-none None b h = (refl, h)
or-none (Some x) b h = absurd (cc (h))

or-cond : (t : Bool) (n : ℕ) (a b : Option ℕ)
    → option_or (cond t (Some n) a) b ≡ cond t (Some n) (option_or a b)
or-cond true n a b = refl
or-cond false n a b = refl

pub pushed : (es : List (ℤ × ℕ)) (v : ℤ) (n : ℕ) (g : Option ℕ)
    → option_or (lookup (is_at (int_cmp v)) es) g ≡ None → (q : ℤ) (was : Option ℕ)
    → option_or (lookup (is_at (int_cmp q)) (es ++ (v, n) ∷ [])) was
    ≡ cond (int_eq v q) (Some n) (option_or (lookup (is_at (int_cmp q)) es) was)
pushed es v n g none q was =
    let lost = (or-none (lookup (is_at (int_cmp v)) es) g none).0 in
    let end = ap (lookup (is_at (int_cmp q))) (sym (insert-end es (v, n))) in
    let made = lookup-insert int_eq_equiv v n q es (length es) (none_passes_from_lookup (int_eq v) es lost) in
    ap (λ x. option_or x was) (end ∙ made) ∙ or-cond (int_eq v q) n (lookup (is_at (int_cmp q)) es) was
