-- The lists of the writes to registers: with one place more, sorted, and what is found in them.
use Rattle.std.proofs.Math.Bool.{or-true}
use Rattle.std.proofs.Common.{◌&&◌, ◌||◌}
use Rattle.std.proofs.Common.{◌≡◌, ℕ, zero, suc, ◌+◌, ◌-◌, ◌<◌, ◌≤◌, ◌==◌, true, false, nat_lt}
use Rattle.std.proofs.Common.{List, [], ◌∷◌, ◌++◌, length, set, slice_get, get_or, Option, Some, None, Vec}
use Rattle.std.proofs.Common.{Global}
use Rattle.std.proofs.Common.{◌⊎◌, inl, inr, refl, sym, ap, subst, ◌∙◌, arith}
use Rattle.std.proofs.lemmas.Bool.{and_from, and_parts, cases_Bool, cases_lt, cases_order, eq-eqb, eqb-true}
use Rattle.std.proofs.lemmas.Bool.{false≢true}
use Rattle.std.proofs.lemmas.Bool.{lt-ltb, ltb-true}
use Rattle.std.proofs.lemmas.List.Sorted.{Contains-permutation, IsPermutation-refl, IsPermutation-sym}
use Rattle.std.proofs.lemmas.Option.{get_or_from_slice_get, slice_get-get_or, slice_get_past}
use Rattle.std.proofs.lemmas.Option.{slice_get_within}
use Rattle.std.proofs.lemmas.Fn.{always_returns_same}
use Rattle.std.specs.Cmp.{nat_cmp_is}
use Rattle.std.specs.Fn.{Called, ComputesKey}
use Rattle.std.specs.List.{AllWithin, Contains}
use Rattle.std.specs.Ordering.{is_lt, nat_cmp, ordering_then}
use Rattle.std.specs.declared.cmp.Ordering.{Ordering}
use Rattle.std.specs.declared.cmp.Ordering.TheVariants.{Less, Equal}
use Rattle.std.specs.List.Sorted.{IsPartitionedBy, IsPermutation, IsSortedByKey}
use Rattle.history_model.specs.Operations.{IsWrite}
use Rattle.history_model.specs.declared.operation.Operation.{Operation}
use Rattle.history_model.proofs.Lists.{slice_get-push, slice_get-set, slice_get-set_other}
use Rattle.reg_levels.proofs.ClusterLemmas.Places.{at-below}
use Rattle.reg_levels.proofs.ClusterLemmas.Pushes.{get-push, get-push_cases, get-read}
use Rattle.causal_order.specs.SessionClocks.Sessions.{HasSession, IsAt}
use Rattle.causal_order.specs.SessionClocks.WriteIndex.{AreAscending, AreSortedBelow, AreWritesTo}
use Rattle.causal_order.specs.SessionClocks.WriteIndex.{IsLastBelow}
use Rattle.causal_order.specs.SessionClocks.WriteIndex.{IsLastIn, IsListed, IsUpTo, IsWriteBy, IsWriteIndex}
use Rattle.causal_order.specs.SessionClocks.WriteIndex.{is_before, list_in, writes_to}
use Rattle.causal_order.specs.declared.session_clocks.table.SessionTable.{SessionTable}
use Rattle.causal_order.specs.declared.session_clocks.writes.SessionWrite.{SessionWrite}
use Rattle.causal_order.specs.declared.session_clocks.writes.WriteIndex.{WriteIndex}
use Rattle.causal_order.proofs.SessionClockLemmas.Ordered.{at-one, split_below}
use denote.Param.Members.{Mut}
use denote.Ref.{Bor}

-- whether two numbers are one
pub same-number : (m n : ℕ) → (m ≡ n) ⊎ (m ≡ n → ⊥)
same-number m n = elim (cases_order m n) [
  | inl e ↦ inl e
  | inr o ↦ elim o [ inl l ↦ inr (λ e. omega (arith, e, l)) | inr l ↦ inr (λ e. omega (arith, e, l)) ]
]

-- a list was put in the place of another
pub put-at : (old new : WriteIndex) (r : ℕ) (was list : Vec SessionWrite Global)
    → slice_get old.registers.items r ≡ Some was → new.registers.items ≡ set old.registers.items r list
    → writes_to new r ≡ list.items
put-at old new r was list there is =
    ap (λ xs. list_in (slice_get xs r)) is
    ∙ ap list_in (slice_get-set old.registers.items r list (slice_get_within old.registers.items r was there))

pub put-other : (old new : WriteIndex) (r : ℕ) (list : Vec SessionWrite Global)
    → new.registers.items ≡ set old.registers.items r list → (t : ℕ) → (t ≡ r → ⊥)
    → writes_to new t ≡ writes_to old t
put-other old new r list is t n =
    ap (λ xs. list_in (slice_get xs t)) is ∙ ap list_in (slice_get-set_other old.registers.items r t list n)

-- ---- a place more

module _ (ops : List Operation) (table : SessionTable) (i : ℕ) (old : WriteIndex)
    (h : IsListed ops table i old) where
  wider : (t : ℕ) → ((s : ℕ) → IsWriteBy ops table t s i → ⊥) → AreWritesTo ops table (i + 1) t (writes_to
      old t)
  wider t never =
      let e = h.each t in
      record {
        only = λ k w g. let r = e.only k w g in (omega (arith, r.0), r.1);
        all = λ s p l w. elim (split_below p i (omega (arith, l))) [
          | inl m ↦ e.all s p m w
          | inr m ↦ absurd (never s (subst (IsWriteBy ops table t s) m w))
        ];
      }

  pub listed-same : ((r s : ℕ) → IsWriteBy ops table r s i → ⊥) → IsListed ops table (i + 1) old
  listed-same never = record {
    registers = h.registers;
    each = λ t. wider t (never t);
  }

  module _ (new : WriteIndex) (s : ℕ) (a : Operation) (at : IsAt ops i a) (write : IsWrite a)
      (session : HasSession table i s) (was list : Vec SessionWrite Global)
      (there : slice_get old.registers.items a.register ≡ Some was)
      (pushed : list.items ≡ was.items ++ record { session = s; place = i } ∷ [])
      (is : new.registers.items ≡ set old.registers.items a.register list)
      (size : length new.registers.items ≡ length old.registers.items) where
    abbrev one : SessionWrite
    one = record { session = s; place = i }

    abbrev before : List SessionWrite
    before = writes_to old a.register

    mine : writes_to new a.register ≡ before ++ one ∷ []
    mine =
        put-at old new a.register was list there is
        ∙ (pushed ∙ ap (λ o. list_in o ++ one ∷ []) (sym there))

    here : AreWritesTo ops table (i + 1) a.register (before ++ one ∷ [])
    here =
        let e = h.each a.register in
        record {
          only = λ k w g. elim (get-push_cases before one w k g) [
            | inl m ↦ let r = e.only k w m in (omega (arith, r.0), r.1)
            | inr m ↦
                let place = ap (λ (x : SessionWrite). x.place) m.1 in (
                  omega (arith, place),
                  subst (λ (x : SessionWrite). IsWriteBy ops table a.register x.session x.place) m.1
                      (a, at, write, refl, session),
                )
          ];
          all = λ t p l v. elim (split_below p i (omega (arith, l))) [
            | inl m ↦
                let r = e.all t p m v in
                (r.0, get-push before one (record { session = t; place = p }) r.0 r.1)
            | inr m ↦
                let both : Some (Some s) ≡ Some (Some t) = sym session
                ∙ (sym (ap (slice_get table.numbers.items) m) ∙ v.4) in
                let same : s ≡ t = cc both in (
                  length before,
                  slice_get-push before one
                      ∙ ap Some (ap (λ n. record { session = n; place = i }) same
                      ∙ ap (λ n. record { session = t; place = n }) (sym m)),
                )
          ];
        }

    pub listed-more : IsListed ops table (i + 1) new
    listed-more = record {
      registers = λ p b at-b. omega (arith, h.registers p b at-b, size);
      each = λ t. elim (same-number t a.register) [
        | inl e ↦ subst (AreWritesTo ops table (i + 1) t) (sym (ap (writes_to new) e ∙ mine))
            (subst (λ n. AreWritesTo ops table (i + 1) n (before ++ one ∷ [])) (sym e) here)
        | inr n ↦ subst (AreWritesTo ops table (i + 1) t) (sym (put-other old new a.register list is t n))
            (wider t (λ u v.
            let same = at-one ops i a v.0 at v.1 in
            n (sym (ap (λ (o : Operation). o.register) same ∙ v.3))))
      ];
    }

pub listed-none : (ops : List Operation) (table : SessionTable) (index : WriteIndex)
    → ((p : ℕ) (a : Operation) → IsAt ops p a → a.register < length index.registers.items)
    → ((r : ℕ) → writes_to index r ≡ []) → IsListed ops table 0 index
listed-none ops table index registers none = record {
  registers = registers;
  each = λ r. record {
    only = λ k w g. let bad = sym (ap (λ xs. slice_get xs k) (none r)) ∙ g in absurd (cc bad);
    all = λ s p l. absurd (omega (arith, l));
  };
}

-- ---- sorted

abbrev key_cmp : ℕ × ℕ → ℕ × ℕ → Ordering
key_cmp x y = ordering_then (nat_cmp x.0 y.0) (nat_cmp x.1 y.1)

-- what a comparison of keys tells
up-to : (x y : SessionWrite) → is_lt (key_cmp (y.session, y.place) (x.session, x.place)) ≡ false → IsUpTo x y
up-to x y e = elim (cases_order x.session y.session) [
  | inl q ↦ elim (cases_lt y.place x.place) [
    | inl l ↦ absurd
        (false≢true (sym e
        ∙ ap is_lt (ap (λ o. ordering_then o (nat_cmp y.place x.place))
        (sym (nat_cmp_is y.session x.session Equal (sym q)))
        ∙ sym (nat_cmp_is y.place x.place Less l))))
    | inr l ↦ inr (q, l)
  ]
  | inr o ↦ elim o [
    | inl l ↦ inl l
    | inr l ↦ absurd
        (false≢true (sym e
        ∙ ap is_lt (ap (λ o. ordering_then o (nat_cmp y.place x.place))
        (sym (nat_cmp_is y.session x.session Less l)))))
  ]
]

up-to-trans : (x y z : SessionWrite) → IsUpTo x y → IsUpTo y z → IsUpTo x z
up-to-trans x y z (inl p) (inl q) = inl (omega (arith, p, q))
up-to-trans x y z (inl p) (inr q) = inl (omega (arith, p, q.0))
up-to-trans x y z (inr p) (inl q) = inl (omega (arith, p.0, q))
up-to-trans x y z (inr p) (inr q) = inr (p.0 ∙ q.0, omega (arith, p.1, q.1))

-- neighbours in order are all in order
far : (xs : List SessionWrite)
    → ((k : ℕ) (d : SessionWrite) → k + 1 < length xs → IsUpTo (get_or xs k d) (get_or xs (k + 1) d))
    → (i m : ℕ) (d : SessionWrite) → i + m < length xs → IsUpTo (get_or xs i d) (get_or xs (i + m) d)
far xs h i zero d l =
    let e : i ≡ i + zero = omega arith in
    subst (λ k. IsUpTo (get_or xs i d) (get_or xs k d)) e (inr (refl, omega arith))
far xs h i (suc m) d l =
    let e : i + m + 1 ≡ i + suc m = omega arith in
    subst (λ k. IsUpTo (get_or xs i d) (get_or xs k d)) e
    (up-to-trans (get_or xs i d) (get_or xs (i + m) d) (get_or xs (i + m + 1) d)
    (far xs h i m d (omega (arith, l))) (h (i + m) d (omega (arith, l))))

-- what the clause of a sort by session and place gives
pub from-sort : {F : Type 0} {g : Mut F (Bor SessionWrite × Unit {0}) (ℕ × ℕ)} {f : F}
    (new : List SessionWrite)
    → ((key : SessionWrite → ℕ × ℕ) → ComputesKey g key f → IsSortedByKey key key_cmp new)
    → ((a : Bor SessionWrite × Unit {0}) (r : ℕ × ℕ) (f' : F) → Called g f a r f'
    → (r ≡ (a.0.now.session, a.0.now.place)) × (f' ≡ f))
    → AreAscending new
from-sort {g = g} {f = f} new up calls j k v w l e h =
    let sorted =
    up (λ x. (x.session, x.place))
    (always_returns_same g (λ a r. r ≡ (a.0.now.session, a.0.now.place)) f calls) in
    let next : (n : ℕ) (d : SessionWrite) → n + 1 < length new → IsUpTo (get_or new n d)
    (get_or new (n + 1) d) =
    λ n d b. up-to (get_or new n d) (get_or new (n + 1) d) (sorted n d (omega arith) b) in
    let at : j + (k - j) ≡ k = omega (arith, l) in
    let within = slice_get_within new k w h in
    let le =
    subst (λ n. IsUpTo (get_or new j v) (get_or new n v)) at
    (far new next j (k - j) v (omega (arith, at, within))) in
    subst (λ x. IsUpTo x w) (get_or_from_slice_get new j v v e)
    (subst (IsUpTo (get_or new j v)) (get_or_from_slice_get new k w v h) le)

moved-to : (old new : List SessionWrite) → IsPermutation old new → (k : ℕ) (w : SessionWrite)
    → slice_get new k ≡ Some w → (j : ℕ) × (slice_get old j ≡ Some w)
moved-to old new p k w g =
    let c : Contains new w = (k, slice_get_within new k w g, get_or_from_slice_get new k w w g) in
    let d = Contains-permutation new old w (IsPermutation-sym old new p) c in
    (d.0, get-read old d.0 w d.1 ∙ ap Some d.2)

pub sorted-writes : (ops : List Operation) (table : SessionTable) (old new : WriteIndex)
    → IsListed ops table (length ops) old → AreSortedBelow old new (length old.registers.items)
    → IsWriteIndex ops table new
sorted-writes ops table old new h s = record {
  ordered = λ r. elim (cases_lt r (length old.registers.items)) [
    | inl l ↦ s.sorted r l
    | inr l ↦
        let none = ap list_in (slice_get_past new.registers.items r (omega (arith, l, s.registers))) in
        subst AreAscending (sym none) (λ j k v w m f. absurd (cc f))
  ];
  each = λ r. record {
    only = λ k w g.
        let j = moved-to (writes_to old r) (writes_to new r) (s.moved r) k w g in (h.each r).only j.0 w j.1;
    all = λ t p l v.
        let j = (h.each r).all t p l v in
        moved-to (writes_to new r) (writes_to old r) (IsPermutation-sym (writes_to old r) (writes_to new r)
        (s.moved r)) j.0 (record { session = t; place = p }) j.1;
  };
}

pub sorted-none : (index : WriteIndex) → AreSortedBelow index index 0
sorted-none index = record {
  registers = refl;
  sorted = λ r l. absurd (omega (arith, l));
  moved = λ r. IsPermutation-refl (writes_to index r);
  rest = λ r l. refl;
}

pub sorted-more : (first old new : WriteIndex) (i : ℕ) (was list : Vec SessionWrite Global)
    → AreSortedBelow first old i → slice_get old.registers.items i ≡ Some was
    → new.registers.items ≡ set old.registers.items i list
    → length new.registers.items ≡ length old.registers.items → IsPermutation was.items list.items
    → AreAscending list.items → AreSortedBelow first new (i + 1)
sorted-more first old new i was list h there is size moved up = record {
  registers = size ∙ h.registers;
  sorted = λ r l. elim (split_below r i (omega (arith, l))) [
    | inl m ↦ subst AreAscending (sym (other r (λ e. omega (arith, e, m)))) (h.sorted r m)
    | inr m ↦ subst AreAscending (sym (ap (writes_to new) m ∙ mine)) up
  ];
  moved = λ r. elim (same-number r i) [
    | inl e ↦ subst (λ n. IsPermutation (writes_to first n) (writes_to new n)) (sym e)
        (subst (λ xs. IsPermutation xs (writes_to new i)) (ap list_in (sym there) ∙ h.rest i (omega arith))
        (subst (IsPermutation was.items) (sym mine) moved))
    | inr n ↦ subst (IsPermutation (writes_to first r)) (sym (other r n)) (h.moved r)
  ];
  rest = λ r l. other r (λ e. omega (arith, e, l)) ∙ h.rest r (omega (arith, l));
}
  where
    mine : writes_to new i ≡ list.items
    mine = put-at old new i was list there is

    other : (r : ℕ) → (r ≡ i → ⊥) → writes_to new r ≡ writes_to old r
    other r n = put-other old new i list is r n

-- ---- found

before-is : (w : SessionWrite) (s p : ℕ) → is_before w s p ≡ true
    → (w.session < s) ⊎ ((w.session ≡ s) × (w.place < p))
before-is w s p h = elim (cases_Bool (nat_lt w.session s)) [
  | inl e ↦ inl (ltb-true w.session s e)
  | inr e ↦
      let both = sym (ap (λ b. b || (w.session == s && nat_lt w.place p)) e) ∙ h in
      let parts = and_parts (w.session == s) (nat_lt w.place p) both in
      inr (eqb-true w.session s parts.0, ltb-true w.place p parts.1)
]

is-before : (w : SessionWrite) (s p : ℕ) → (w.session < s) ⊎ ((w.session ≡ s) × (w.place < p))
    → is_before w s p ≡ true
is-before w s p (inl l) = ap (λ b. b || (w.session == s && nat_lt w.place p)) (lt-ltb w.session s l)
is-before w s p (inr h) =
    ap (λ b. nat_lt w.session s || b)
    (and_from (w.session == s) (nat_lt w.place p) (eq-eqb w.session s h.0) (lt-ltb w.place p h.1))
    ∙ or-true (nat_lt w.session s)

lower-before : (v w : SessionWrite) (s p : ℕ) → IsUpTo v w → is_before w s p ≡ true → is_before v s p ≡ true
lower-before v w s p lower b = is-before v s p (elim (before-is w s p b) [
  | inl l ↦ elim lower [
    | inl m ↦ inl (omega (arith, l, m))
    | inr m ↦ inl (omega (arith, l, m.0))
  ]
  | inr l ↦ elim lower [
    | inl m ↦ inl (omega (arith, l.0, m))
    | inr m ↦ inr (m.0 ∙ l.0, omega (arith, l.1, m.1))
  ]
])

-- what is read past the end, which never happens
abbrev pub nowhere : SessionWrite
nowhere = record { session = 0; place = 0 }

module _ (writes : List SessionWrite) (s place : ℕ) (up : AreAscending writes) where
  pub parted : IsPartitionedBy (λ w. is_before w s place) writes
  parted i j d l m b = elim (split_below i j (omega (arith, l))) [
    | inr e ↦ subst (λ n. is_before (get_or writes n d) s place ≡ true) (sym e) b
    | inl less ↦
        lower-before (get_or writes i d) (get_or writes j d) s place
        (up i j (get_or writes i d) (get_or writes j d) less (slice_get-get_or writes i d
        (omega (arith, less, m)))
        (slice_get-get_or writes j d m)) b
  ]

  module _ (passed : ℕ) (low : AllWithin (λ w. is_before w s place ≡ true) writes 0 passed)
      (high : AllWithin (λ w. is_before w s place ≡ false) writes passed (length writes)) where
    -- what comes before was passed
    passed-by : (k : ℕ) (w : SessionWrite) → slice_get writes k ≡ Some w → w.session ≡ s → w.place < place
        → k < passed
    passed-by k w g e l = elim (cases_lt k passed) [
      | inl m ↦ m
      | inr m ↦
          let no = high k w m (slice_get_within writes k w g) in
          let is = ap (λ x. is_before x s place) (get_or_from_slice_get writes k w w g) in
          absurd (false≢true (sym no ∙ (is ∙ is-before w s place (inr (e, l)))))
    ]

    pub none-in : passed ≡ 0 → IsLastIn writes s place None
    none-in e k w g same l = omega (arith, e, passed-by k w g same l)

    module _ (some : 0 < passed) (few : passed ≤ length writes) where
      abbrev pub last : SessionWrite
      last = get_or writes (passed - 1) nowhere

      at-last : slice_get writes (passed - 1) ≡ Some last
      at-last = slice_get-get_or writes (passed - 1) nowhere (omega (arith, some, few))

      before-last : (last.session < s) ⊎ ((last.session ≡ s) × (last.place < place))
      before-last = before-is last s place (low (passed - 1) nowhere (omega arith) (omega (arith, some)))

      -- what was passed is the last one or comes before it
      passed-cases : (k : ℕ) (w : SessionWrite) → slice_get writes k ≡ Some w → k < passed
          → (w ≡ last) ⊎ IsUpTo w last
      passed-cases k w g l = elim (split_below k (passed - 1) (omega (arith, l, some))) [
        | inr e ↦ let both : Some w ≡ Some last = sym g ∙ (ap (slice_get writes) e ∙ at-last) in inl (cc both)
        | inl m ↦ inr (up k (passed - 1) w last m g at-last)
      ]

      pub last-in : last.session ≡ s → IsLastIn writes s place (Some last.place)
      last-in e = (
        elim before-last [ inl l ↦ absurd (omega (arith, l, e)) | inr l ↦ l.1 ],
        (passed - 1, at-last ∙ ap (λ n. Some (record { session = n; place = last.place })) e),
        λ k w g same l.
            elim (passed-cases k w g (passed-by k w g same l)) [
              | inl is ↦ let p = ap (λ (x : SessionWrite). x.place) is in omega (arith, p)
              | inr lower ↦ elim lower [
                | inl m ↦ absurd (omega (arith, m, e, same))
                | inr m ↦ omega (arith, m.1)
              ]
            ],
      )

      pub none-of : (last.session ≡ s → ⊥) → IsLastIn writes s place None
      none-of never k w g same l = elim (passed-cases k w g (passed-by k w g same l)) [
        | inl is ↦ never (sym (ap (λ (x : SessionWrite). x.session) is) ∙ same)
        | inr lower ↦ elim before-last [
          | inr m ↦ never m.0
          | inl m ↦ elim lower [
            | inl n ↦ omega (arith, m, n, same)
            | inr n ↦ omega (arith, m, n.0, same)
          ]
        ]
      ]

pub last-below : (ops : List Operation) (table : SessionTable) (index : WriteIndex) (r s place : ℕ)
    (found : Option ℕ) → IsWriteIndex ops table index → IsLastIn (writes_to index r) s place found
    → IsLastBelow ops table r s place found
last-below ops table index r s place None y h = λ p l w.
    let k = (y.each r).all s p (at-below ops p w.0 w.1) w in
    h k.0 (record { session = s; place = p }) k.1 refl l
last-below ops table index r s place (Some last) y h = (
  h.0,
  ((y.each r).only h.1.0 (record { session = s; place = last }) h.1.1).1,
  λ p l w.
      let k = (y.each r).all s p (at-below ops p w.0 w.1) w in
      h.2 k.0 (record { session = s; place = p }) k.1 refl l,
)

-- a register past the lists has no writes
pub none-past : (index : WriteIndex) (r s place : ℕ) → length index.registers.items ≤ r
    → IsLastIn (writes_to index r) s place None
none-past index r s place l =
    let none = ap list_in (slice_get_past index.registers.items r l) in
    subst (λ xs. IsLastIn xs s place None) (sym none) (λ k w g. absurd (cc g))
