-- Marks by their keys, and the one of least rank from each on.
use Rattle.std.proofs.Common.{◌≡◌, ℕ, zero, suc, ◌+◌, ◌<◌, ◌≤◌, List, [], ◌∷◌, ◌++◌, length}
use Rattle.std.proofs.Common.{slice_get, get_or}
use Rattle.std.proofs.Common.{Option, Some, None, Contains}
use Rattle.std.proofs.Common.{◌⊎◌, inl, inr, refl, sym, ap, subst, ◌∙◌, arith}
use Rattle.std.proofs.lemmas.Bool.{cases_lt, cases_order}
use Rattle.std.proofs.lemmas.List.Sorted.{Contains-permutation, IsPermutation-sym}
use Rattle.std.specs.List.{AllWithin}
use Rattle.std.specs.List.Sorted.{IsNonDecreasingBy, IsPermutation}
use Rattle.reg_levels.proofs.ClusterLemmas.Pushes.{length-push, get-push, get-push_cases, get-below, get-read}
use Rattle.reg_levels.specs.Counts.Marks.{AreFlat, AreLeast, HoldsMark, IsFirstAbove, HasLeastRankFrom}
use Rattle.reg_levels.specs.Counts.Marks.{IsLower}
use Rattle.reg_levels.specs.Counts.Marks.{IsRanked, mark_key}
use Rattle.reg_levels.specs.declared.counts.mark.Mark.{Mark}

-- what code reads at a place where something stands
pub read-is : {X : Type 0} (xs : List X) (i : ℕ) (d x : X) → slice_get xs i ≡ Some x → get_or xs i d ≡ x
read-is [] i d x e = absurd (cc e)
read-is (z ∷ zs) zero d x e = cc e
read-is (z ∷ zs) (suc i) d x e = read-is zs i d x e

-- ---- the marks that there are

module _ (marks : List (Option Mark)) (i : ℕ) (list : List Mark) (h : AreFlat marks i list) where
  split : (p : ℕ) → p < i + 1 → (p < i) ⊎ (p ≡ i)
  split p l = elim (cases_order p i) [
    | inl e ↦ inr e
    | inr o ↦ elim o [ inl m ↦ inl m | inr m ↦ absurd (omega arith) ]
  ]

  pub flat-none : slice_get marks i ≡ Some None → AreFlat marks (i + 1) list
  flat-none e = record {
    only = h.only;
    all = λ p m l g. elim (split p l) [
      | inl o ↦ h.all p m o g
      | inr o ↦ let bad : Some None ≡ Some (Some m) = sym e ∙ (sym (ap (slice_get marks) o)
          ∙ g) in absurd (cc bad)
    ];
  }

  pub flat-some : (n : Mark) → slice_get marks i ≡ Some (Some n) → AreFlat marks (i + 1) (list ++ n ∷ [])
  flat-some n e = record {
    only = λ m k. elim (get-push_cases list n m k.0 k.1) [
      | inl o ↦ h.only m (k.0, o)
      | inr o ↦ (i, e ∙ ap (λ x. Some (Some x)) o.1)
    ];
    all = λ p m l g. elim (split p l) [
      | inl o ↦ let r = h.all p m o g in (r.0, get-push list n m r.0 r.1)
      | inr o ↦
          let same : Some (Some n) ≡ Some (Some m) = sym e ∙ (sym (ap (slice_get marks) o) ∙ g) in
          let is : n ≡ m = cc same in
          (length list, behind list n ∙ ap Some is)
    ];
  }
    where
      behind : (xs : List Mark) (x : Mark) → slice_get (xs ++ x ∷ []) (length xs) ≡ Some x
      behind [] x = refl
      behind (z ∷ zs) x = behind zs x

-- ---- sorted

pub held : (xs : List Mark) (m : Mark) → Contains xs m → HoldsMark xs m
held xs m c = (c.0, get-read xs c.0 m c.1 ∙ ap Some c.2)

pub contained : (xs : List Mark) (m : Mark) → HoldsMark xs m → Contains xs m
contained xs m h = (h.0, get-below xs m h.0 h.1, read-is xs h.0 m m h.1)

pub flat-sorted : (marks : List (Option Mark)) (i : ℕ) (old new : List Mark) → IsPermutation old new
    → AreFlat marks i old → AreFlat marks i new
flat-sorted marks i old new p h = record {
  only = λ m k. h.only m (held old m (Contains-permutation new old m (IsPermutation-sym old new p)
      (contained new m k)));
  all = λ q m l g. held new m (Contains-permutation old new m p (contained old m (h.all q m l g)));
}

pub ranked-from : (list least : List Mark) → IsNonDecreasingBy mark_key list
    → AreLeast list (length list) least
    → IsRanked list least
ranked-from list least up h = record {
  ascending = λ i j m n l g k.
      let le = up i j m l (get-below list n j k) in
      let a = ap mark_key (read-is list i m m g) in
      let b = ap mark_key (read-is list j m n k) in
      omega (arith, le, a, b);
  least_of = h;
}

pub ranked-up : (list least : List Mark) → IsRanked list least → IsNonDecreasingBy mark_key list
ranked-up list least h i j d l k =
    h.ascending i j (get_or list i d) (get_or list j d) l (get-read list i d (omega arith)) (get-read list
    j d k)

-- ---- the least from a place on

pub least-last : (list : List Mark) (k : ℕ) (m : Mark) → k + 1 ≡ length list → slice_get list k ≡ Some m
    → HasLeastRankFrom list k m
least-last list k m e g = record {
  place = k;
  from_on = omega arith;
  there = g;
  least = λ j n l h.
      let below = get-below list n j h in
      let at : j ≡ k = omega arith in
      let same : Some m ≡ Some n = sym g ∙ (sym (ap (slice_get list) at) ∙ h) in
      let is : m ≡ n = cc same in
      let r = ap (λ (x : Mark). x.rank) is in omega arith;
}

pub least-next : (list : List Mark) (k : ℕ) (m b best : Mark) → slice_get list k ≡ Some m
    → HasLeastRankFrom list (k + 1) b → IsLower b m best → HasLeastRankFrom list k best
least-next list k m b best g h lower = elim lower.0 [
  | inl e ↦ record {
    place = h.place;
    from_on = omega (arith, h.from_on);
    there = h.there ∙ ap Some (sym e);
    least = least;
  }
  | inr e ↦ record {
    place = k;
    from_on = omega arith;
    there = g ∙ ap Some (sym e);
    least = least;
  }
]
  where
    least : (j : ℕ) (n : Mark) → k ≤ j → slice_get list j ≡ Some n → best.rank ≤ n.rank
    least j n l t = elim (cases_lt k j) [
      | inl o ↦ let r = h.least j n (omega arith) t in omega (arith, r, lower.1)
      | inr o ↦
          let at : j ≡ k = omega arith in
          let same : Some m ≡ Some n = sym g ∙ (sym (ap (slice_get list) at) ∙ t) in
          let is : m ≡ n = cc same in
          let r = ap (λ (x : Mark). x.rank) is in omega (arith, lower.2, r)
    ]

pub least-push : (list : List Mark) (i : ℕ) (least : List Mark) (best : Mark) → AreLeast list i least
    → ((k : ℕ) → k + i + 1 ≡ length list → HasLeastRankFrom list k best)
    → AreLeast list (i + 1) (least ++ best ∷ [])
least-push list i least best h is = record {
  places = omega (arith, h.places, length-push least best);
  each = λ j m g k e. elim (get-push_cases least best m j g) [
    | inl o ↦ h.each j m o k e
    | inr o ↦ subst (HasLeastRankFrom list k) o.1 (is k (omega (arith, h.places, o.0)))
  ];
}

-- ---- the first above a key

module _ (list least : List Mark) (h : IsRanked list least) (key i : ℕ)
    (low : AllWithin (λ m. m.key ≤ key) list 0 i) (high : AllWithin (λ m. key < m.key) list i (length
    list)) where
  pub above-none : length list ≤ i → IsFirstAbove list key None
  above-none l m k =
      let below = get-below list m k.0 k.1 in
      let le = low k.0 m (omega arith) (omega arith) in
      let e = ap mark_key (read-is list k.0 m m k.1) in
      omega (arith, le, e)

  pub above-some : (m : Mark) (j : ℕ) → i + j + 1 ≡ length list → slice_get least j ≡ Some m
      → IsFirstAbove list key (Some m)
  above-some m j e g =
      let r = h.least_of.each j m g i e in
      let below = get-below list m r.place r.there in
      let lt = high r.place m r.from_on (omega arith) in
      let s = ap mark_key (read-is list r.place m m r.there) in (
        (r.place, r.there),
        omega (arith, lt, s),
        λ n k l. elim (cases_lt k.0 i) [
          | inl o ↦
              let le = low k.0 n (omega arith) o in
              let t = ap mark_key (read-is list k.0 n n k.1) in
              absurd (omega (arith, le, t))
          | inr o ↦ r.least k.0 n o k.1
        ],
      )
