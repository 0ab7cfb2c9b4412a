-- The slots of open calls: what suits a value, and what giving a slot and taking it back leave.
use Rattle.std.proofs.Common.{◌≡◌, ℕ, suc, zero, ◌*◌, ◌<◌, ◌≤◌, ◌++◌, ◌==◌, ◌||◌, not, cond, Bool, true}
use Rattle.std.proofs.Common.{false, List, [], ◌∷◌, length, set, slice_get, get_or, get_or-set_same}
use Rattle.std.proofs.Common.{get_or-set_other, length-set, Some, inl, inr, refl, sym, ap, subst, ◌∙◌, arith}
use Rattle.std.proofs.lemmas.Bool.Decides.{nat_tests}
use Rattle.std.proofs.lemmas.Bool.{cases_eq, cases_lt, false≢true}
use Rattle.history_model.proofs.Lists.{slice_get-set, slice_get-set_other}
use Rattle.slot_sets.specs.Sets.{has}
use Rattle.slot_sets.proofs.OneSlot.{has_past}
use Rattle.configurations.specs.declared.op.Op.{Op}
use Rattle.configurations.specs.declared.op.Kind.{Kind}
use Rattle.configurations.specs.declared.op.Kind.TheVariants.{Read, Write, Cas, CasUnless, Miss}
use Rattle.configurations.specs.declared.table.Table.{Table}
use Rattle.configurations.specs.Ops.{fits_at, option_fits, kind_fits, kind_looks, kind_misses, kind_writes}
use Rattle.configurations.specs.Tables.{IsGiven, IsReleased, IsSlot, IsTable, call_at}

-- whether the value suits a kind, from the three tests that the code makes
kind_tests : (k : Kind) (a v : ℕ)
    → (cond (kind_misses k) (not (v == a)) (v == a) || kind_writes k) ≡ kind_fits k a v
kind_tests Read a v = elim (v == a) as (λ b. (b || false) ≡ b) [ true ↦ refl | false ↦ refl ]
kind_tests Write a v = elim (v == a) as (λ b. (b || true) ≡ true) [ true ↦ refl | false ↦ refl ]
kind_tests Cas a v = elim (v == a) as (λ b. (b || false) ≡ b) [ true ↦ refl | false ↦ refl ]
kind_tests CasUnless a v = elim (v == a) as (λ b. (not b || false) ≡ not b) [ true ↦ refl | false ↦ refl ]
kind_tests Miss a v = elim (v == a) as (λ b. (not b || false) ≡ not b) [ true ↦ refl | false ↦ refl ]

-- nothing is asked past the end
past_end : (xs : List (List ℕ)) (v : ℕ) → length xs ≤ v → get_or xs v [] ≡ []
past_end [] v le = refl
past_end (x ∷ xs) zero le = absurd (omega (arith, le))
past_end (x ∷ xs) (suc v) le = past_end xs v (omega (arith, le))

pub nothing_past : (xs : List (List ℕ)) (v q : ℕ) → length xs ≤ v → has (get_or xs v []) q ≡ false
nothing_past xs v q le = ap (λ x. has x q) (past_end xs v le) ∙ has_past [] q (omega arith)

-- nothing is asked for either once a set of no slots comes behind the others
pub nothing_pushed : (xs : List (List ℕ)) (w : List ℕ) → ((v q : ℕ) → has (get_or xs v []) q ≡ false)
    → ((q : ℕ) → has w q ≡ false) → (v q : ℕ) → has (get_or (xs ++ (w ∷ [])) v []) q ≡ false
nothing_pushed [] w old new zero q = new q
nothing_pushed [] w old new (suc v) q = has_past [] q (omega arith)
nothing_pushed (x ∷ xs) w old new zero q = old zero q
nothing_pushed (x ∷ xs) w old new (suc v) q = nothing_pushed xs w (λ v q. old (suc v) q) new v q

pub eq_true : (a b : ℕ) → a ≡ b → (a == b) ≡ true
eq_true a b e = grind (arith, nat_tests)

pub eq_false : (a b : ℕ) → (a ≡ b → ⊥) → (a == b) ≡ false
eq_false a b n = grind (arith, nat_tests)

-- one set of a vector was changed at one slot
same_words : (xs ys : List (List ℕ)) (at : ℕ) (w : List ℕ) (slot : ℕ) → at < length xs → ys ≡ set xs at w
    → ((q : ℕ) → (q ≡ slot → ⊥) → has w q ≡ has (get_or xs at []) q) → (v q : ℕ) → (q ≡ slot → ⊥)
    → has (get_or ys v []) q ≡ has (get_or xs v []) q
same_words xs ys at w slot lt e o v q n = elim (cases_eq v at) [
  | inl same ↦
      ap (λ x. has (get_or x v []) q) e
      ∙ (ap (λ x. has (get_or (set xs at w) x []) q) same
      ∙ (ap (λ x. has x q) (get_or-set_same xs at w [] lt)
      ∙ (o q n ∙ ap (λ x. has (get_or xs x []) q) (sym same))))
  | inr apart ↦ ap (λ x. has (get_or x v []) q) e ∙ ap (λ x. has x q) (get_or-set_other xs at v w [] apart)
]

module _ {W : ℕ} where
  -- the set of those that a value suits
  pub fitting_test : (t : Table W) (v q : ℕ) (asked : Bool) → IsTable t
      → asked ≡ has (get_or t.asks.items v []) q → has t.used q ≡ true
      → (cond (has t.misses q) (not asked) asked || has t.writes q) ≡ fits_at t.ops.items (call_at t q) v
  fitting_test t v q asked i a u =
      let s = i.each q u in
      let is : asked ≡ (v == s.op.from) =
      a
      ∙ elim (cases_lt v (length t.asks.items)) [
        | inl lt ↦ s.asks v lt
        | inr le ↦
            nothing_past t.asks.items v q le
            ∙ sym (eq_false v s.op.from (let f = s.from in λ e. omega (arith, e, f, le)))
      ] in
      ap (λ x. cond (has t.misses q) (not x) x || has t.writes q) is
      ∙ (ap (λ x. cond x (not (v == s.op.from)) (v == s.op.from) || has t.writes q) s.misses
      ∙ (ap (λ x. cond (kind_misses s.op.kind) (not (v == s.op.from)) (v == s.op.from) || x) s.writes
      ∙ (kind_tests s.op.kind s.op.from v ∙ sym (ap (λ o. option_fits o v) s.there))))

  -- ---- a slot is given

  -- what the code leaves: `o` is the operation, `w` the slots that ask for its value
  pub record IsGiving (t u : Table W) (slot number : ℕ) (o : Op) (w : List ℕ) : Type 0 where
    pub op : slice_get t.ops.items number ≡ Some o
    pub ops : u.ops.items ≡ t.ops.items
    pub unslotted : (q : ℕ) → has t.used q ≡ true → slice_get t.slot_of.items number ≡ Some q → ⊥
    pub from : o.from < length t.asks.items
    pub small : slot < 64 * W
    pub placed : slot < length t.calls.items
    pub numbered : number < length t.slot_of.items
    pub free : has t.used slot ≡ false
    pub calls : u.calls.items ≡ set t.calls.items slot number
    pub slot_of : u.slot_of.items ≡ set t.slot_of.items number slot
    pub used : has u.used slot ≡ true
    pub used_same : (q : ℕ) → (q ≡ slot → ⊥) → has u.used q ≡ has t.used q
    pub looks : has u.looks slot ≡ kind_looks o.kind
    pub looks_same : (q : ℕ) → (q ≡ slot → ⊥) → has u.looks q ≡ has t.looks q
    pub writes : has u.writes slot ≡ kind_writes o.kind
    pub writes_same : (q : ℕ) → (q ≡ slot → ⊥) → has u.writes q ≡ has t.writes q
    pub misses : has u.misses slot ≡ kind_misses o.kind
    pub misses_same : (q : ℕ) → (q ≡ slot → ⊥) → has u.misses q ≡ has t.misses q
    pub asks : u.asks.items ≡ set t.asks.items o.from w
    pub word : has w slot ≡ true
    pub word_same : (q : ℕ) → (q ≡ slot → ⊥) → has w q ≡ has (get_or t.asks.items o.from []) q

  module _ (t u : Table W) (slot number : ℕ) (o : Op) (w : List ℕ) (i : IsTable t)
      (g : IsGiving t u slot number o w) where
    mine : call_at u slot ≡ number
    mine = ap (λ x. get_or x slot 0) g.calls ∙ get_or-set_same t.calls.items slot number 0 g.placed

    asks_same : (v q : ℕ) → (q ≡ slot → ⊥)
        → has (get_or u.asks.items v []) q ≡ has (get_or t.asks.items v []) q
    asks_same = same_words t.asks.items u.asks.items o.from w slot g.from g.asks g.word_same

    long : length u.asks.items ≡ length t.asks.items
    long = ap length g.asks ∙ length-set t.asks.items o.from w

    new : IsSlot u slot
    new = record {
      op = o;
      there = ap (λ x. slice_get x (call_at u slot)) g.ops ∙ (ap (slice_get t.ops.items) mine ∙ g.op);
      back =
          ap (slice_get u.slot_of.items) mine
          ∙ (ap (λ x. slice_get x number) g.slot_of ∙ slice_get-set t.slot_of.items number slot g.numbered);
      small = g.small;
      placed =
          let len : length u.calls.items ≡ length t.calls.items =
          ap length g.calls ∙ length-set t.calls.items slot number in
          omega (arith, len, g.placed);
      looks = g.looks;
      writes = g.writes;
      misses = g.misses;
      asks = λ v lt. elim (cases_eq v o.from) [
        | inl e ↦
            ap (λ x. has (get_or x v []) slot) g.asks
            ∙ (ap (λ x. has (get_or (set t.asks.items o.from w) x []) slot) e
            ∙ (ap (λ x. has x slot) (get_or-set_same t.asks.items o.from w [] g.from)
            ∙ (g.word ∙ sym (eq_true v o.from e))))
        | inr n ↦
            ap (λ x. has (get_or x v []) slot) g.asks
            ∙ (ap (λ x. has x slot) (get_or-set_other t.asks.items o.from v w [] n)
            ∙ (i.others slot v g.free ∙ sym (eq_false v o.from n)))
      ];
      from = omega (arith, long, g.from);
    }

    old : (q : ℕ) → (q ≡ slot → ⊥) → has t.used q ≡ true → IsSlot u q
    old q n h =
        let s = i.each q h in
        let same : call_at u q ≡ call_at t q =
        ap (λ x. get_or x q 0) g.calls ∙ get_or-set_other t.calls.items slot q number 0 n in
        let apart : call_at t q ≡ number → ⊥ = λ e.
        g.unslotted q h (subst (λ x. slice_get t.slot_of.items x ≡ Some q) e s.back) in
        record {
          op = s.op;
          there = ap (λ x. slice_get x (call_at u q)) g.ops ∙ (ap (slice_get t.ops.items) same ∙ s.there);
          back =
              ap (slice_get u.slot_of.items) same
              ∙ (ap (λ x. slice_get x (call_at t q)) g.slot_of
              ∙ (slice_get-set_other t.slot_of.items number (call_at t q) slot apart ∙ s.back));
          small = s.small;
          placed =
              let len : length u.calls.items ≡ length t.calls.items =
              ap length g.calls ∙ length-set t.calls.items slot number in
              omega (arith, len, s.placed);
          looks = g.looks_same q n ∙ s.looks;
          writes = g.writes_same q n ∙ s.writes;
          misses = g.misses_same q n ∙ s.misses;
          asks = λ v lt. asks_same v q n ∙ s.asks v (omega (arith, long, lt));
          from = omega (arith, long, s.from);
        }

    pub given_table : IsTable u
    given_table = record {
      room = i.room;
      each = λ q h. elim (cases_eq q slot) [
        | inl e ↦ subst (λ x. IsSlot u x) (sym e) new
        | inr n ↦ old q n (sym (g.used_same q n) ∙ h)
      ];
      others = λ q v h.
          let apart : q ≡ slot → ⊥ = λ e. false≢true (sym h ∙ (ap (has u.used) e ∙ g.used)) in
          asks_same v q apart ∙ i.others q v (sym (g.used_same q apart) ∙ h);
    }

    pub given_is : IsGiven t u slot number
    given_is = record {
      ops = g.ops;
      free = g.free;
      used = g.used;
      call = ap (λ x. slice_get x slot) g.calls ∙ slice_get-set t.calls.items slot number g.placed;
      calls = λ q n. ap (λ x. slice_get x q) g.calls ∙ slice_get-set_other t.calls.items slot q number n;
      same = g.used_same;
    }

  -- ---- it is taken back

  pub record IsTaking (t u : Table W) (slot from : ℕ) (w : List ℕ) : Type 0 where
    pub ops : u.ops.items ≡ t.ops.items
    pub calls : u.calls.items ≡ t.calls.items
    pub slot_of : u.slot_of.items ≡ t.slot_of.items
    pub looks : u.looks ≡ t.looks
    pub writes : u.writes ≡ t.writes
    pub misses : u.misses ≡ t.misses
    pub used : has u.used slot ≡ false
    pub used_same : (q : ℕ) → (q ≡ slot → ⊥) → has u.used q ≡ has t.used q
    pub asks : u.asks.items ≡ set t.asks.items from w
    pub word : has w slot ≡ false
    pub word_same : (q : ℕ) → (q ≡ slot → ⊥) → has w q ≡ has (get_or t.asks.items from []) q

  module _ (t u : Table W) (slot : ℕ) (w : List ℕ) (i : IsTable t) (s : IsSlot t slot)
      (g : IsTaking t u slot s.op.from w) where
    still : (v q : ℕ) → (q ≡ slot → ⊥) → has (get_or u.asks.items v []) q ≡ has (get_or t.asks.items v []) q
    still = same_words t.asks.items u.asks.items s.op.from w slot s.from g.asks g.word_same

    as_long : length u.asks.items ≡ length t.asks.items
    as_long = ap length g.asks ∙ length-set t.asks.items s.op.from w

    gone : (v : ℕ) → has (get_or u.asks.items v []) slot ≡ false
    gone v = elim (cases_eq v s.op.from) [
      | inl e ↦
          ap (λ x. has (get_or x v []) slot) g.asks
          ∙ (ap (λ x. has (get_or (set t.asks.items s.op.from w) x []) slot) e
          ∙ (ap (λ x. has x slot) (get_or-set_same t.asks.items s.op.from w [] s.from) ∙ g.word))
      | inr n ↦
          ap (λ x. has (get_or x v []) slot) g.asks
          ∙ (ap (λ x. has x slot) (get_or-set_other t.asks.items s.op.from v w [] n)
          ∙ elim (cases_lt v (length t.asks.items)) [
            | inl lt ↦ s.asks v lt ∙ eq_false v s.op.from n
            | inr le ↦ nothing_past t.asks.items v slot le
          ])
    ]

    kept : (q : ℕ) → (q ≡ slot → ⊥) → IsSlot t q → IsSlot u q
    kept q n a =
        let same : call_at u q ≡ call_at t q = ap (λ x. get_or x q 0) g.calls in
        record {
          op = a.op;
          there = ap (λ x. slice_get x (call_at u q)) g.ops ∙ (ap (slice_get t.ops.items) same ∙ a.there);
          back =
              ap (slice_get u.slot_of.items) same ∙ (ap (λ x. slice_get x (call_at t q)) g.slot_of ∙ a.back);
          small = a.small;
          placed =
              let len : length u.calls.items ≡ length t.calls.items = ap length g.calls in
              omega (arith, len, a.placed);
          looks = ap (λ x. has x q) g.looks ∙ a.looks;
          writes = ap (λ x. has x q) g.writes ∙ a.writes;
          misses = ap (λ x. has x q) g.misses ∙ a.misses;
          asks = λ v lt. still v q n ∙ a.asks v (omega (arith, as_long, lt));
          from = omega (arith, as_long, a.from);
        }

    pub taken_table : IsTable u
    taken_table = record {
      room = i.room;
      each = λ q h.
          let n : q ≡ slot → ⊥ = λ e. false≢true (sym g.used ∙ subst (λ x. has u.used x ≡ true) e h) in
          kept q n (i.each q (sym (g.used_same q n) ∙ h));
      others = λ q v h. elim (cases_eq q slot) [
        | inl e ↦ ap (has (get_or u.asks.items v [])) e ∙ gone v
        | inr n ↦ still v q n ∙ i.others q v (sym (g.used_same q n) ∙ h)
      ];
    }

    pub taken_is : IsReleased t u slot
    taken_is = record { ops = g.ops; calls = g.calls; unused = g.used; same = g.used_same }
