-- Rows whose entries are raised.
use Rattle.std.proofs.Common.{◌≡◌, ℕ, zero, suc, ◌+◌, ◌<◌, ◌≤◌, max, List, [], ◌∷◌, length, set, get_or}
use Rattle.std.proofs.Common.{replicate}
use Rattle.std.proofs.Common.{Option, ◌⊎◌, inl, inr, refl, sym, ap, ◌∙◌, arith}
use Rattle.std.proofs.lemmas.Bool.{cases_lt}
use Rattle.std.proofs.lemmas.List.{get_or-replicate, get_or-set_other, get_or-set_same, length-replicate}
use Rattle.std.proofs.lemmas.List.{length-set}
use Rattle.std.proofs.Math.Nat.{max-eq_left, max-eq_right}
use Rattle.std.proofs.lemmas.Option.{get_or_from_slice_get, slice_get_read}
use Rattle.causal_order.specs.SessionClocks.Rows.{IsMade, IsRaised, entry_of, found_at, row_of}
use Rattle.causal_order.specs.declared.session_clocks.clocks.Clocks.{Clocks}
use Rattle.causal_order.specs.declared.session_clocks.table.SessionTable.{SessionTable}
use Rattle.causal_order.proofs.SessionClockLemmas.Ordered.{split_below}

-- what code reads within a list
pub read-within : {X : Type 0} (xs : List X) (i : ℕ) (x d : X) → i < length xs → x ≡ get_or xs i x
    → get_or xs i d ≡ x
read-within xs i x d l e = get_or_from_slice_get xs i x d (slice_get_read xs (length xs) i x refl l e)

-- past the end of a list code reads nothing
past-end : (xs : List ℕ) (q : ℕ) → length xs ≤ q → get_or xs q 0 ≡ 0
past-end [] q l = refl
past-end (x ∷ xs) zero l = absurd (omega (arith, l))
past-end (x ∷ xs) (suc q) l = past-end xs q (omega (arith, l))

-- the entries below i are raised
pub record IsRaisedBelow (old other : List ℕ) (i : ℕ) (new : List ℕ) : Type 0 where
  pub entries : length new ≡ length old
  pub below : (q : ℕ) → q < i → get_or new q 0 ≡ max (get_or old q 0) (get_or other q 0)
  pub above : (q : ℕ) → i ≤ q → get_or new q 0 ≡ get_or old q 0

pub raised-none : (old other : List ℕ) → IsRaisedBelow old other 0 old
raised-none old other = record {
  entries = refl;
  below = λ q l. absurd (omega (arith, l));
  above = λ q l. refl;
}

pub raised-more : (old other new : List ℕ) (i m : ℕ) → IsRaisedBelow old other i new → i < length new
    → m ≡ max (get_or new i 0) (get_or other i 0) → IsRaisedBelow old other (i + 1) (set new i m)
raised-more old other new i m h l e = record {
  entries = length-set new i m ∙ h.entries;
  below = λ q b. elim (split_below q i (omega (arith, b))) [
    | inr s ↦
        ap (λ k. get_or (set new i m) k 0) s
        ∙ (get_or-set_same new i m 0 l
        ∙ (e
        ∙ (ap (λ n. max n (get_or other i 0)) (h.above i (omega arith))
        ∙ ap (λ k. max (get_or old k 0) (get_or other k 0)) (sym s))))
    | inl s ↦ get_or-set_other new i q m 0 (λ k. omega (arith, k, s)) ∙ h.below q s
  ];
  above = λ q b.
      get_or-set_other new i q m 0 (λ k. omega (arith, k, b)) ∙ h.above q (omega (arith, b));
}

pub raised-all : (old other new : List ℕ) (i : ℕ) → IsRaisedBelow old other i new
    → (length old ≤ i) ⊎ (length other ≤ i) → IsRaised old other new
raised-all old other new i h end = record {
  entries = h.entries;
  each = λ q l. elim (cases_lt q i) [
    | inl b ↦ h.below q b
    | inr a ↦ elim end [
      | inl m ↦ absurd (omega (arith, l, a, m))
      | inr m ↦
          let none = past-end other q (omega (arith, a, m)) in
          let low : 0 ≤ get_or old q 0 = omega arith in
          let up : max (get_or old q 0) 0 ≡ get_or old q 0 = max-eq_left low in
          h.above q a ∙ sym (ap (max (get_or old q 0)) none ∙ up)
    ]
  ];
}

-- a row of zeros that was raised twice, and then at the session's own entry
pub made : (table : SessionTable) (clocks : Clocks) (p s : ℕ) (before source : Option ℕ)
    (none first second : List ℕ) (m : ℕ) → none ≡ replicate table.count 0
    → found_at table.previous.items p ≡ before → found_at table.sources.items p ≡ source
    → IsRaised none (row_of clocks before) first → IsRaised first (row_of clocks source) second
    → s < table.count → m ≡ max (get_or second s 0) (suc p) → IsMade table clocks p s (set second s m)
made table clocks p s before source none first second m zeros e f h i l is = record {
  entries = length-set second s m ∙ size;
  own =
      get_or-set_same second s m 0 (omega (arith, l, size))
      ∙ (is ∙ ap (λ n. max n (suc p)) (at s l ∙ same s));
  other = λ q b n. get_or-set_other second s q m 0 n ∙ (at q b ∙ same q);
}
  where
    size-none : length none ≡ table.count
    size-none = ap length zeros ∙ length-replicate table.count 0

    size : length second ≡ table.count
    size = i.entries ∙ (h.entries ∙ size-none)

    at : (q : ℕ) → q < table.count → get_or second q 0 ≡ entry_of clocks before source q
    at q b =
        let z : get_or none q 0 ≡ 0 = ap (λ xs. get_or xs q 0) zeros ∙ get_or-replicate table.count q 0 0 b in
        let one = h.each q (omega (arith, b, size-none)) in
        let two = i.each q (omega (arith, b, h.entries, size-none)) in
        let low : 0 ≤ get_or (row_of clocks before) q 0 = omega arith in
        let up : max 0 (get_or (row_of clocks before) q 0) ≡ get_or (row_of clocks before) q 0 =
        max-eq_right low in
        two
        ∙ ap (λ n. max n (get_or (row_of clocks source) q 0))
        (one ∙ (ap (λ n. max n (get_or (row_of clocks before) q 0)) z ∙ up))

    same : (q : ℕ) → entry_of clocks before source q
        ≡ entry_of clocks (found_at table.previous.items p) (found_at table.sources.items p) q
    same q = ap (λ o. entry_of clocks o source q) (sym e)
        ∙ ap (λ o. entry_of clocks (found_at table.previous.items p) o q) (sym f)
