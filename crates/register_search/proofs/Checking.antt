-- What the passes over an order keep, and why an order that passes them all is legal.
use Rattle.std.proofs.Common.{◌≡◌, ℕ, zero, suc, ◌+◌, ◌<◌, ◌≤◌, max, Bool, true, false, List, [], ◌∷◌, ◌++◌}
use Rattle.std.proofs.Common.{length, take, drop, set, replicate, map, get_or, slice_get, Option, Some, None}
use Rattle.std.proofs.Common.{Result, Ok, Err, IfOk, IfSome, Vec, Global, ◌⊎◌, inl, inr, refl, sym, ap}
use Rattle.std.proofs.Common.{subst, ◌∙◌, add-one, append_assoc, append-nil, length-set, arith}
use Rattle.std.proofs.Math.Seq.{drop-cons, take-suc}
use Rattle.std.proofs.lemmas.Bool.{cases_Bool, false≢true}
use Rattle.history_text.specs.declared.event.Val.{Val}
use Rattle.history_text.specs.declared.event.Val.TheVariants.{Null}
use Rattle.history_model.specs.Lists.{In, Before}
use Rattle.history_model.proofs.Lists.{Before-first, Before-second, map-Before, append-In, In-left, In-right}
use Rattle.history_model.proofs.Lists.{slice_get-In, slice_get_inside, slice_get-set, slice_get-set_other}
use Rattle.history_model.specs.declared.operation.Operation.{Operation}
use Rattle.history_model.specs.Acts.{suits, left_by}
use Rattle.history_model.specs.InTurn.{Meets}
use Rattle.history_model.specs.Operations.{IsCompleted, Precedes, initial_write}
use Rattle.history_model.specs.Placed.{PlacedOperation, placed_from, placed}
use Rattle.history_model.proofs.InTurn.{in-turn}
use Rattle.history_model.proofs.Placed.{operations_of-placed, rising, after_call}
use Rattle.configurations.proofs.Lists.{same_or}
use Rattle.register_search.specs.Checked.{IsMarked, ArePoints, IsCheckedOrder}
use Rattle.register_search.specs.Timeline.{AreCalls, operations_at}
use Rattle.register_search.proofs.Linked.{Stand, stand-In, In-stand, Before-stand, place-of, one-place}

-- ---- the operations of numbers

pub past : {A : Type 0} (xs : List A) (i : ℕ) → length xs ≤ i → drop i xs ≡ []
past {A} [] i l = nothing i
  where
    nothing : (m : ℕ) → drop {A = A} m [] ≡ []
    nothing zero = refl
    nothing (suc m) = refl
past (x ∷ xs) zero l = absurd (omega arith)
past (x ∷ xs) (suc i) l = past xs i (omega arith)

cons-there : (ops : List Operation) (k : ℕ) (ks : List ℕ) (a : Operation) → slice_get ops k ≡ Some a
    → operations_at ops (k ∷ ks) ≡ a ∷ operations_at ops ks
cons-there ops k ks a e = simp e

-- the operations from place i on are the one at i and those after it
pub at-place : (ops : List Operation) (order : List ℕ) (i : ℕ) (a : Operation) → i < length order
    → slice_get ops (get_or order i 0) ≡ Some a
    → operations_at ops (drop i order) ≡ a ∷ operations_at ops (drop (i + 1) order)
at-place ops order i a l e =
    ap (operations_at ops) (drop-cons order i 0 l)
    ∙ (cons-there ops (get_or order i 0) (drop (suc i) order) a e
    ∙ ap (λ n. a ∷ operations_at ops (drop n order)) (sym (add-one i)))

pub at-end : (ops : List Operation) (order : List ℕ) (i : ℕ) → length order ≤ i
    → operations_at ops (drop i order) ≡ []
at-end ops order i l = ap (operations_at ops) (past order i l)

-- ---- one after another

pub meets-more : (ops : List Operation) (order : List ℕ) (i : ℕ) (a : Operation) (v w : Val)
    → i < length order → slice_get ops (get_or order i 0) ≡ Some a → suits a.act v ≡ true
    → w ≡ left_by a.act v → Meets w (operations_at ops (drop (i + 1) order))
    → Meets v (operations_at ops (drop i order))
meets-more ops order i a v w l e s f m =
    subst (Meets v) (sym (at-place ops order i a l e)) (
      s,
      subst (λ u. Meets u (operations_at ops (drop (i + 1) order))) f m,
    )

pub meets-end : (ops : List Operation) (order : List ℕ) (i : ℕ) (v : Val) → length order ≤ i
    → Meets v (operations_at ops (drop i order))
meets-end ops order i v l = subst (Meets v) (sym (at-end ops order i l)) tt

-- ---- points

abbrev pub points : List PlacedOperation → List ℕ
points xs = map (λ (x : PlacedOperation). x.point) xs

abbrev pub AreUnreplied : List PlacedOperation → Type 0
AreUnreplied xs = (x : PlacedOperation) → In x xs → IsCompleted x.operation → x.point < x.operation.reply

pub points-more : (ops : List Operation) (order done after all : List ℕ) (i n m : ℕ) (a : Operation)
    → i < length order → slice_get ops (get_or order i 0) ≡ Some a → m ≡ max n a.call → after ≡ done ++ m ∷ []
    → all ≡ done ++ points (placed_from n (operations_at ops (drop i order)))
    → all ≡ after ++ points (placed_from m (operations_at ops (drop (i + 1) order)))
points-more ops order done after all i n m a l e f g h =
    let rest = operations_at ops (drop (i + 1) order) in
    let one : points (placed_from n (a ∷ rest)) ≡ m ∷ points (placed_from m rest) =
    ap (λ k. k ∷ points (placed_from k rest)) (sym f) in
    let split : done ++ (m ∷ points (placed_from m rest)) ≡ (done ++ m ∷ []) ++ points (placed_from m rest) =
    sym (append_assoc done (m ∷ []) (points (placed_from m rest))) in
    h ∙ (ap (λ xs. done ++ points (placed_from n xs)) (at-place ops order i a l e)
    ∙ (ap (λ xs. done ++ xs) one ∙ (split ∙ ap (λ xs. xs ++ points (placed_from m rest)) (sym g))))

pub unreplied-more : (ops : List Operation) (order : List ℕ) (i n m : ℕ) (a : Operation) → i < length order
    → slice_get ops (get_or order i 0) ≡ Some a → m ≡ max n a.call → (IsCompleted a → m < a.reply)
    → AreUnreplied (placed_from m (operations_at ops (drop (i + 1) order)))
    → AreUnreplied (placed_from n (operations_at ops (drop i order)))
unreplied-more ops order i n m a l e f u rest =
    let tail = operations_at ops (drop (i + 1) order) in
    let both : AreUnreplied (placed_from n (a ∷ tail)) = λ x j q. elim j [
      | inl s ↦ let p = u (ap (λ (z : PlacedOperation). z.operation.completed) (sym s) ∙ q) in
          omega (
            arith,
            p,
            f,
            ap (λ (z : PlacedOperation). z.point) s,
            ap (λ (z : PlacedOperation). z.operation.reply) s,
          )
      | inr k ↦ rest x (subst (λ c. In x (placed_from c tail)) (sym f) k) q
    ] in
    subst (λ xs. AreUnreplied (placed_from n xs)) (sym (at-place ops order i a l e)) both

pub unreplied-end : (ops : List Operation) (order : List ℕ) (i n : ℕ) → length order ≤ i
    → AreUnreplied (placed_from n (operations_at ops (drop i order)))
unreplied-end ops order i n l =
    subst (λ xs. AreUnreplied (placed_from n xs)) (sym (at-end ops order i l)) (λ x j. absurd j)

pub points-end : (ops : List Operation) (order done all : List ℕ) (i n : ℕ) → length order ≤ i
    → all ≡ done ++ points (placed_from n (operations_at ops (drop i order))) → done ≡ all
points-end ops order done all i n l h =
    sym (h ∙ (ap (λ xs. done ++ points (placed_from n xs)) (at-end ops order i l) ∙ append-nil done))

-- ---- marks

-- the first i numbers of an order are marked, each once
pub record AreMarked (count : ℕ) (order : List ℕ) (marks : List Bool) : Type 0 where
  pub count_is : length marks ≡ count
  pub once : (k : ℕ) → Before k k order → ⊥
  pub within : (k : ℕ) → In k order → k < count
  pub there : (k : ℕ) → slice_get marks k ≡ Some true → In k order
  pub marked : (k : ℕ) → In k order → slice_get marks k ≡ Some true

none-marked : (count k : ℕ) → slice_get (replicate count false) k ≡ Some true → ⊥
none-marked zero k e = cc (e)
none-marked (suc n) zero e = false≢true (cc)
none-marked (suc n) (suc k) e = none-marked n k e

length-replicate : (n : ℕ) → length (replicate n false) ≡ n
length-replicate zero = refl
length-replicate (suc n) = let e = length-replicate n in omega arith

pub marks-first : (count : ℕ) (marks : List Bool) → marks ≡ replicate count false → AreMarked count [] marks
marks-first count marks e = record {
  count_is = ap length e ∙ length-replicate count;
  once = λ k b. b;
  within = λ k i. absurd i;
  there = λ k q. absurd (none-marked count k (subst (λ m. slice_get m k ≡ Some true) e q));
  marked = λ k i. absurd i;
}

Before-push : (j k n : ℕ) (xs : List ℕ) → Before j k (xs ++ n ∷ []) → Before j k xs ⊎ (In j xs × (k ≡ n))
Before-push j k n [] (inl h) = absurd h.1
Before-push j k n [] (inr h) = absurd h
Before-push j k n (x ∷ xs) (inl h) = elim (append-In k xs (n ∷ []) h.1) [
  | inl i ↦ inl (inl (h.0, i))
  | inr i ↦ inr (inl h.0, elim i [ inl e ↦ e | inr z ↦ absurd z ])
]
Before-push j k n (x ∷ xs) (inr h) =
    elim (Before-push j k n xs h) [ inl b ↦ inl (inr b) | inr b ↦ inr (inr b.0, b.1) ]

one-more : (count n : ℕ) (xs : List ℕ) (marks : List Bool) → n < length marks → slice_get marks n ≡ Some false
    → AreMarked count xs marks → AreMarked count (xs ++ n ∷ []) (set marks n true)
one-more count n xs marks l f m =
    let absent : In n xs → ⊥ =
    λ i. let t = m.marked n i in false≢true (let s : Some false ≡ Some true = sym f ∙ t in cc (s)) in
    record {
      count_is = length-set marks n true ∙ m.count_is;
      once =
          λ k b. elim (Before-push k k n xs b) [
            | inl c ↦ m.once k c
            | inr c ↦ absent (subst (λ x. In x xs) c.1 c.0)
          ];
      within =
          λ k i. elim (append-In k xs (n ∷ []) i) [
            | inl j ↦ m.within k j
            | inr j ↦ elim j [ inl e ↦ omega (arith, e, m.count_is) | inr z ↦ absurd z ]
          ];
      there = λ k q. elim (same_or k n) [
        | inl e ↦ subst (λ x. In x (xs ++ n ∷ [])) (sym e) (In-right n xs (n ∷ []) (inl refl))
        | inr d ↦ In-left k xs (n ∷ []) (m.there k (sym (slice_get-set_other marks n k true d) ∙ q))
      ];
      marked = λ k i. elim (same_or k n) [
        | inl e ↦ subst (λ x. slice_get (set marks n true) x ≡ Some true) (sym e)
            (slice_get-set marks n true l)
        | inr d ↦ slice_get-set_other marks n k true d
            ∙ m.marked k (elim (append-In k xs (n ∷ []) i) [
              | inl j ↦ j
              | inr j ↦ elim j [ inl e ↦ absurd (d e) | inr z ↦ absurd z ]
            ])
      ];
    }

pub marks-more : (count i : ℕ) (order : List ℕ) (marks after : List Bool) → i < length order
    → get_or order i 0 < length marks → slice_get marks (get_or order i 0) ≡ Some false
    → after ≡ set marks (get_or order i 0) true → AreMarked count (take i order) marks
    → AreMarked count (take (i + 1) order) after
marks-more count i order marks after l k f g m =
    subst (λ xs. AreMarked count xs after) (sym (ap (λ n. take n order) (add-one i) ∙ take-suc order i 0 l))
    (subst (AreMarked count (take i order ++ get_or order i 0 ∷ [])) (sym g)
    (one-more count (get_or order i 0) (take i order) marks k f m))

take-all : (xs : List ℕ) (i : ℕ) → length xs ≤ i → take i xs ≡ xs
take-all [] zero l = refl
take-all [] (suc i) l = refl
take-all (x ∷ xs) zero l = absurd (omega arith)
take-all (x ∷ xs) (suc i) l = ap (λ ys. x ∷ ys) (take-all xs i (omega arith))

pub marks-end : (count i : ℕ) (order : List ℕ) (marks : List Bool) → length order ≤ i
    → AreMarked count (take i order) marks → IsMarked count order marks
marks-end count i order marks l m =
    let a = subst (λ xs. AreMarked count xs marks) (take-all order i l) m in
    record { once = a.once; within = a.within; there = a.there }

-- ---- all together

stand-at : (ops : List Operation) (ks : List ℕ) → ((k : ℕ) → In k ks → k < length ops)
    → Stand ops ks (operations_at ops ks)
stand-at ops [] within = tt
stand-at ops (k ∷ ks) within =
    let a = slice_get_inside ops k (within k (inl refl)) in
    subst (Stand ops (k ∷ ks)) (sym (cons-there ops k ks a.0 a.1)) (
      a.1,
      stand-at ops ks (λ j i. within j (inr i)),
    )

module _ (r : ℕ) (ops : List Operation) (order ps : List ℕ) (marks : List Bool)
    (c : AreCalls r ops) (m : IsMarked (length ops) order marks)
    (all : (k : ℕ) (a : Operation) → slice_get ops k ≡ Some a → IsCompleted a → slice_get marks k ≡ Some true)
    (meets : Meets Null (operations_at ops order)) (p : ArePoints (operations_at ops order) ps) where
  abbrev xs : List Operation
  xs = operations_at ops order

  stand : Stand ops order xs
  stand = stand-at ops order m.within

  own : (a : Operation) → In a xs → In a ops
  own a i = let k = In-stand ops order xs a stand i in slice_get-In ops k.0 a k.2

  once : (a : Operation) → Before a a (initial_write r ∷ xs) → ⊥
  once a (inl h) = let t = c.called a (own a h.1) in omega (arith, t, ap (λ (o : Operation). o.call) h.0)
  once a (inr h) =
      let k = Before-stand ops order xs a a stand h in
      let same = one-place r ops c k.0 k.1 a k.3 k.4 in
      m.once k.0 (subst (λ j. Before k.0 j order) (sym same) k.2)

  -- where b precedes a but a stands first, b is completed, and b's point, b's reply, a's
  -- call, a's point and again b's point ascend
  keeps : (a b : Operation) → Before a b (initial_write r ∷ xs) → Precedes b a → ⊥
  keeps a b (inl h) q = omega (arith, q, ap (λ (o : Operation). o.call) h.0)
  keeps a b (inr h) q =
      let k =
      map-Before (λ (z : PlacedOperation). z.operation) a b (placed xs)
      (subst (Before a b) (sym (operations_of-placed xs)) h) in
      let from = after_call xs k.0 (Before-first k.0 k.1 (placed xs) k.2) in
      let first = own a (Before-first a b xs h) in
      let second = own b (Before-second a b xs h) in
      elim (cases_Bool b.completed) [
        | inl d ↦
            let to =
            p.unreplied k.1 (Before-second k.0 k.1 (placed xs) k.2)
            (ap (λ (o : Operation). o.completed) (sym k.4) ∙ d) in
            omega (
              arith,
              from,
              to,
              q,
              rising xs k.0 k.1 k.2,
              ap (λ (o : Operation). o.call) k.3,
              ap (λ (o : Operation). o.reply) k.4,
            )
        | inr n ↦ omega (arith, q, c.pending b a second first n)
      ]

  pub checked-order : IsCheckedOrder r ops order ps
  checked-order = record {
    within = m.within;
    legal = record {
      completion = record {
        once = once;
        only = λ a i. elim i [ inl e ↦ inl e | inr h ↦ inr (own a h) ];
        all = λ a i d. elim i [
          | inl e ↦ inl e
          | inr h ↦
              let k = place-of ops a h in
              let s = stand-In ops order xs k.0 stand (m.there k.0 (all k.0 a k.1 d)) in
              let same : s.0 ≡ a = let t = k.1 in let u = s.2 in cc (t, u) in
              inr (subst (λ x. In x xs) same s.1)
        ];
      };
      keeps = keeps;
      met = (in-turn r xs once (λ a i. c.register a (own a i))).1 meets;
    };
    points_are = p;
  }

-- the points of an order that passed the other tests, if there are any
pub points-checked : {E : Type 0} (ops : List Operation) (order : List ℕ) (marks : List Bool)
    (result : Result (Option (Vec ℕ Global)) E) → IsMarked (length ops) order marks
    → ((k : ℕ) (a : Operation) → slice_get ops k ≡ Some a → IsCompleted a → slice_get marks k ≡ Some true)
    → Meets Null (operations_at ops order)
    → IfOk result (λ o. IfSome o (λ ps. ArePoints (operations_at ops order) ps.items))
    → IfOk result (λ o. IfSome o (λ ps. (r : ℕ) → AreCalls r ops → IsCheckedOrder r ops order ps.items))
points-checked ops order marks (Ok (Some ps)) m all meets p =
    λ r c. checked-order r ops order ps.items marks c m all meets p
points-checked ops order marks (Ok None) m all meets p = p
points-checked ops order marks (Err e) m all meets p = p
