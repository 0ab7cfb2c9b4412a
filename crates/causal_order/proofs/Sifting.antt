-- Lists of those places of an order that pass a test.
use Rattle.std.proofs.Common.{◌≡◌, ℕ, ◌+◌, ◌<◌, Bool, true, false, cond, List, [], ◌∷◌, ◌++◌, length}
use Rattle.std.proofs.Common.{get_or, take, Some}
use Rattle.std.proofs.Common.{slice_get, refl, sym, ap, ◌∙◌, subst, append_assoc, arith, ◌⊎◌, inl, inr, set}
use Rattle.std.proofs.Common.{None, not, zero, suc, replicate}
use Rattle.std.specs.List.{filter}
use Rattle.std.proofs.lemmas.Bool.{cases_order}
use Rattle.std.proofs.lemmas.List.{append-nil, take_more, length-set, length-replicate}
use Rattle.std.proofs.lemmas.Option.{slice_get-get_or}
use Rattle.std.specs.Option.{is_none, is_some}
use Rattle.history_model.specs.declared.operation.Operation.{Operation}
use Rattle.reg_levels.proofs.OrderGraphLemmas.Places.{place-set, place-set_cases, place-set_other}
use Rattle.causal_order.specs.SessionClocks.Sessions.{HasSource}
use Rattle.causal_order.specs.declared.session_clocks.table.SessionTable.{SessionTable}
use Rattle.causal_order.specs.CausalOrders.{AreReads, is_initial_at, is_initial_of, is_listed_at}
use Rattle.causal_order.specs.CausalOrders.{is_listed_of, is_listed_op}

filter-push : (p : ℕ → Bool) (xs : List ℕ) (y : ℕ) → filter p (xs ++ y ∷ []) ≡ filter p xs ++ cond (p y)
    (y ∷ []) []
filter-push p [] y = refl
filter-push p (x ∷ xs) y = go (p x) (filter-push p xs y)
  where
    go : (b : Bool) → filter p (xs ++ y ∷ []) ≡ filter p xs ++ cond (p y) (y ∷ []) []
        → cond b (x ∷ filter p (xs ++ y ∷ [])) (filter p (xs ++ y ∷ []))
        ≡ cond b (x ∷ filter p xs) (filter p xs) ++ cond (p y) (y ∷ []) []
    go true e = ap (λ zs. x ∷ zs) e
    go false e = e

sift_next : (p : ℕ → Bool) (xs : List ℕ) (i : ℕ) → i < length xs
    → filter p (take (i + 1) xs) ≡ filter p (take i xs) ++ cond (p (get_or xs i 0)) (get_or xs i 0 ∷ []) []
sift_next p xs i l = ap (filter p) (take_more xs i 0 l) ∙ filter-push p (take i xs) (get_or xs i 0)

-- one more place, which passes or doesn't
pub sift_passed : (p : ℕ → Bool) (xs front old new : List ℕ) (i : ℕ) → i < length xs
    → p (get_or xs i 0) ≡ true
    → old ≡ front ++ filter p (take i xs) → new ≡ old ++ get_or xs i 0 ∷ []
    → new ≡ front ++ filter p (take (i + 1) xs)
sift_passed p xs front old new i l e h k =
    let y = get_or xs i 0 in
    let f : filter p (take (i + 1) xs) ≡ filter p (take i xs) ++ y ∷ [] =
    sift_next p xs i l ∙ ap (λ b. filter p (take i xs) ++ cond b (y ∷ []) []) e in
    k ∙ (ap (λ zs. zs ++ y ∷ []) h ∙ (append_assoc front (filter p (take i xs)) (y ∷ [])
    ∙ ap (λ zs. front ++ zs)
    (sym f)))

pub sift_failed : (p : ℕ → Bool) (xs front old : List ℕ) (i : ℕ) → i < length xs → p (get_or xs i 0) ≡ false
    → old ≡ front ++ filter p (take i xs) → old ≡ front ++ filter p (take (i + 1) xs)
sift_failed p xs front old i l e h =
    let f : filter p (take (i + 1) xs) ≡ filter p (take i xs) =
    sift_next p xs i l ∙ (ap (λ b. filter p (take i xs) ++ cond b (get_or xs i 0 ∷ []) []) e
    ∙ append-nil (filter p (take i xs))) in
    h ∙ ap (λ zs. front ++ zs) (sym f)

-- ---- the tests at a place

pub initial-is : (ops : List Operation) (p : ℕ) (d : Operation) → p < length ops
    → is_initial_at ops p ≡ is_none (get_or ops p d).process
initial-is ops p d l = ap is_initial_of (slice_get-get_or ops p d l)

pub listed-is : (ops : List Operation) (read : List Bool) (p : ℕ) (d : Operation) (b : Bool) → p < length ops
    → p < length read → is_listed_at ops read p ≡ is_listed_op (get_or ops p d) (get_or read p b)
listed-is ops read p d b l m =
    ap (λ o. is_listed_of o (slice_get read p)) (slice_get-get_or ops p d l)
    ∙ ap (is_listed_of (Some (get_or ops p d))) (slice_get-get_or read p b m)

-- ---- which writes are read

pub reads-none : (table : SessionTable) (read : List Bool) → length read ≡ length table.sources.items
    → ((s : ℕ) → slice_get read s ≡ Some true → ⊥) → AreReads table 0 read
reads-none table read size none = record {
  size = size;
  only = λ s h. absurd (none s h);
  all = λ p s l. absurd (omega arith);
}

apart : (t s : ℕ) → (t < s) ⊎ (s < t) → t ≡ s → ⊥
apart t s (inl l) e = omega (arith, l, e)
apart t s (inr l) e = omega (arith, l, e)

pub reads-more : (table : SessionTable) (n s : ℕ) (read : List Bool) → s < length read
    → slice_get table.sources.items n ≡ Some (Some s) → AreReads table n read
    → AreReads table (n + 1) (set read s true)
reads-more table n s read l at h = record {
  size = length-set read s true ∙ h.size;
  only = λ t e. elim (place-set_cases read s t true true e) [
    | inl same ↦ (n, at ∙ ap (λ (u : ℕ). Some (Some u)) (sym same.0))
    | inr other ↦ h.only t other.1
  ];
  all = λ p t m has. elim (cases_order t s) [
    | inl e ↦ subst (λ u. slice_get (set read s true) u ≡ Some true) (sym e) (place-set read s true l)
    | inr differ ↦
        place-set_other read s t true (apart t s differ) ∙ elim (cases_order p n) [
          | inl e ↦
              let one : Some (Some s) ≡ Some (Some t) = sym at ∙ subst (λ u. HasSource table u t) e has in
              let same : t ≡ s = cc one in absurd (apart t s differ same)
          | inr o ↦ elim o [
            | inl less ↦ h.all p t less has
            | inr more ↦ absurd (omega arith)
          ]
        ]
  ];
}

pub reads-other : (table : SessionTable) (n : ℕ) (read : List Bool)
    → slice_get table.sources.items n ≡ Some None
    → AreReads table n read → AreReads table (n + 1) read
reads-other table n read at h = record {
  size = h.size;
  only = h.only;
  all = λ p s m has. elim (cases_order p n) [
    | inl e ↦
        let one : Some None ≡ Some (Some s) = sym at ∙ subst (λ u. HasSource table u s) e has in absurd
        (cc one)
    | inr o ↦ elim o [
      | inl less ↦ h.all p s less has
      | inr more ↦ absurd (omega arith)
    ]
  ];
}

pub initial-true : (ops : List Operation) (p : ℕ) (d : Operation) → p < length ops
    → is_some (get_or ops p d).process ≡ false → is_initial_at ops p ≡ true
initial-true ops p d l e = initial-is ops p d l ∙ ap not e

pub initial-false : (ops : List Operation) (p : ℕ) (d : Operation) → p < length ops
    → is_some (get_or ops p d).process ≡ true → is_initial_at ops p ≡ false
initial-false ops p d l e = initial-is ops p d l ∙ ap not e

pub listed-by : (ops : List Operation) (read : List Bool) (p : ℕ) (d : Operation) (b c : Bool)
    → p < length ops
    → p < length read → c ≡ is_listed_op (get_or ops p d) (get_or read p b) → is_listed_at ops read p ≡ c
listed-by ops read p d b c l m e = listed-is ops read p d b l m ∙ sym e

replicate_same : (n s : ℕ) (x y : Bool) → slice_get (replicate n x) s ≡ Some y → x ≡ y
replicate_same zero s x y h = absurd (cc h)
replicate_same (suc n) zero x y h = cc h
replicate_same (suc n) (suc s) x y h = replicate_same n s x y h

pub reads-new : (table : SessionTable) (n : ℕ) (read : List Bool) → n ≡ length table.sources.items
    → read ≡ replicate n false → AreReads table 0 read
reads-new table n read size e = reads-none table read (ap length e ∙ (length-replicate n false ∙ size))
    (λ s h. let k : slice_get (replicate n false) s ≡ Some true = subst (λ
    (xs : List Bool). slice_get xs s ≡ Some true) e h in
    let w = replicate_same n s false true k in absurd (cc w))
