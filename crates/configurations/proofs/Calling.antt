-- The step over a call, and slots that are given and taken back.
use Rattle.std.proofs.Common.{◌≡◌, ◌≢◌, ℕ, zero, suc, ◌+◌, ◌<◌, ◌≤◌, ◌==◌, ◌&&◌, not, Bool, true}
use Rattle.std.proofs.Common.{false, List, [], ◌∷◌, ◌⊎◌, length, slice_get, slice_set, get_or}
use Rattle.std.proofs.Common.{Some, Option, None, inl, inr, refl, sym, ap, subst, ◌∙◌, arith}
use Rattle.std.specs.Prelude.{IsTrue}
use Rattle.std.proofs.lemmas.Bool.{false≢true, cases_Bool, cases_eq, cases_lt}
use Rattle.std.proofs.lemmas.Bool.Decides.{nat_tests}
use Rattle.std.proofs.lemmas.Option.{get_or_from_slice_get, slice_get_within}
use Rattle.history_model.specs.Lists.{In}
use Rattle.history_model.proofs.Lists.{slice_get-set, slice_get-set_other}
use Rattle.slot_sets.specs.Sets.{has}
use Rattle.configurations.specs.declared.op.Op.{Op}
use Rattle.configurations.specs.declared.moment.Moment.{Moment}
use Rattle.configurations.specs.declared.moment.Moment.TheVariants.{Call, Reply}
use Rattle.configurations.specs.declared.table.Table.{Table}
use Rattle.configurations.specs.declared.config.Config.{Config}
use Rattle.configurations.specs.declared.config.Configs.{Configs}
use Rattle.configurations.specs.Ops.{fits, is_content, kind_looks}
use Rattle.configurations.specs.Runs.{AliveFree, AreInOrder, called_free, without}
use Rattle.configurations.specs.Tables.{IsGiven, IsReleased, IsTable, IsToCome, IsWithin, call_at, members}
use Rattle.configurations.specs.Configs.{AreHeld, AreOff, IsAble, IsAnyAble, IsHeld}
use Rattle.configurations.specs.Configs.{IsOver, free_of, lacking, owed_by}
use Rattle.configurations.proofs.Lists.{In-without, without-In}
use Rattle.configurations.proofs.Members.{member_of_slot, slot_of_member}
use Rattle.configurations.proofs.AsFree.{IsIdle, as_free, counted}
use Rattle.configurations.proofs.Unseen.{settled_by}
use Rattle.configurations.proofs.Standing.{looking_is_idle}
use Rattle.configurations.proofs.Replying.{same_slot}

called_run : (ops : List Op) (v k : ℕ) (p f : List ℕ) (es : List Moment) → AliveFree ops v p f (Call k ∷ es)
    → AliveFree ops v (k ∷ p) f es
called_run ops v k p f es (called_free r) = r

-- a look that a value suits changes nothing
pub content_idle : (ops : List Op) (k : ℕ) (o : Op) (v : ℕ) → slice_get ops k ≡ Some o → is_content o v ≡ true
    → IsIdle ops k
content_idle ops k o v e c = looking_is_idle ops k o e (first_part (kind_looks o.kind) (fits o v) c)
  where
    first_part : (a b : Bool) → (a && b) ≡ true → a ≡ true
    first_part true b e = refl
    first_part false b e = absurd (false≢true e)

-- a call that changes nothing may be left out
pub idle_run : (ops : List Op) (v k : ℕ) (p f : List ℕ) (es : List Moment) → IsIdle ops k
    → AliveFree ops v p f (Call k ∷ es) → AliveFree ops v p f es
idle_run ops v k p f es idle l = as_free ops es v v (k ∷ p) f p f refl (record {
  owes = λ j i. inr i;
  keeps = λ j i. elim i [ inl e ↦ inr (subst (λ x. IsIdle ops x) (sym e) idle) | inr h ↦ inl (inl h) ];
  has = λ j i. inl i;
}) (called_run ops v k p f es l)

pub word_held : (used : ℕ → Bool) (s u : List ℕ) (slot : ℕ) → used slot ≡ true
    → ((q : ℕ) → q ≢ slot → has u q ≡ has s q) → IsWithin (has s) used → IsWithin (has u) used
word_held used s u slot b same i q h = elim (cases_eq q slot) [
  | inl e ↦ subst (λ x. used x ≡ true) (sym e) b
  | inr n ↦ i q (sym (same q n) ∙ h)
]

off_set : (used : ℕ → Bool) (slot : ℕ) (s : List ℕ) → used slot ≡ false → IsWithin (has s) used
    → has s slot ≡ false
off_set used slot s free u = elim (cases_Bool (has s slot)) [
  | inl y ↦ absurd (false≢true (sym free ∙ u slot y))
  | inr n ↦ n
]

module _ {W : ℕ} where
  -- the set with one slot more
  wider : (t : Table W) (s u : List ℕ) (slot j : ℕ) → has s slot ≡ false
      → ((q : ℕ) → q ≢ slot → has u q ≡ has s q) → In j (members t.calls.items s)
      → In j (members t.calls.items u)
  wider t s u slot j lacks same h =
      let r = slot_of_member t.calls.items s j h in
      member_of_slot t.calls.items u j r.0 r.1
      (same r.0 (λ z. false≢true (sym lacks ∙ subst (λ x. has s x ≡ true) z r.2)) ∙ r.2)

  narrower : (t : Table W) (s u : List ℕ) (slot j : ℕ) → ((q : ℕ) → q ≢ slot → has u q ≡ has s q)
      → In j (members t.calls.items u) → (j ≡ call_at t slot) ⊎ In j (members t.calls.items s)
  narrower t s u slot j same i =
      let r = slot_of_member t.calls.items u j i in
      elim (cases_eq r.0 slot) [
        | inl e ↦ inl (sym (get_or_from_slice_get t.calls.items r.0 j 0 r.1) ∙ ap (call_at t) e)
        | inr n ↦ inr (member_of_slot t.calls.items s j r.0 r.1 (sym (same r.0 n) ∙ r.2))
      ]

  pub owed_able : (t : Table W) (c d : Config W) (slot : ℕ) (es : List Moment)
      → slice_get t.calls.items slot ≡ Some (call_at t slot) → has c.owed slot ≡ false
      → has d.owed slot ≡ true → ((q : ℕ) → q ≢ slot → has d.owed q ≡ has c.owed q) → d.value ≡ c.value
      → d.free ≡ c.free → IsAble t c (Call (call_at t slot) ∷ es) → IsAble t d es
  owed_able t c d slot es at lacks one same v f l =
      let k = call_at t slot in
      as_free t.ops.items es c.value d.value (k ∷ owed_by t c) (free_of t c) (owed_by t d) (free_of t d)
      (sym v) (record {
        owes = λ j i. elim (narrower t c.owed d.owed slot j same i) [ inl e ↦ inl e | inr h ↦ inr h ];
        keeps = λ j i.
            inl (inl (elim i [
              | inl e ↦ member_of_slot t.calls.items d.owed j slot (at ∙ ap Some (sym e)) one
              | inr h ↦ wider t c.owed d.owed slot j lacks same h
            ]));
        has = λ j i. inl (subst (λ s. In j (members t.calls.items s)) (sym f) i);
      }) (called_run t.ops.items c.value k (owed_by t c) (free_of t c) es l)

  pub free_able : (t : Table W) (c d : Config W) (slot : ℕ) (es : List Moment)
      → slice_get t.calls.items slot ≡ Some (call_at t slot) → has c.free slot ≡ false
      → has d.free slot ≡ true → ((q : ℕ) → q ≢ slot → has d.free q ≡ has c.free q) → d.value ≡ c.value
      → d.owed ≡ c.owed → IsAble t c (Call (call_at t slot) ∷ es) → IsAble t d es
  free_able t c d slot es at lacks one same v o l =
      let k = call_at t slot in
      as_free t.ops.items es c.value d.value (k ∷ owed_by t c) (free_of t c) (owed_by t d) (free_of t d)
      (sym v) (record {
        owes = λ j i. inr (subst (λ s. In j (members t.calls.items s)) o i);
        keeps = λ j i. inl (elim i [
          | inl e ↦ inr (member_of_slot t.calls.items d.free j slot (at ∙ ap Some (sym e)) one)
          | inr m ↦ inl (subst (λ s. In j (members t.calls.items s)) (sym o) m)
        ]);
        has = λ j i. inl (wider t c.free d.free slot j lacks same i);
      }) (called_run t.ops.items c.value k (owed_by t c) (free_of t c) es l)

  -- ---- a call is opened in each configuration

  -- the first n have been opened
  pub record IsCalledTo (t : Table W) (slot : ℕ) (before now : Configs W) (n : ℕ) : Type 0 where
    pub fresh : (at : ℕ) (d : Config W) → at < n → slice_get now.list.items at ≡ Some d
        → IsHeld (has t.used) d
    pub rest : (at : ℕ) → n ≤ at → slice_get now.list.items at ≡ slice_get before.list.items at
    pub live : (at : ℕ) (c : Config W) → at < n → slice_get before.list.items at ≡ Some c
        → (d : Config W) × (slice_get now.list.items at ≡ Some d)
        × ((es : List Moment) → IsAble t c (Call (call_at t slot) ∷ es) → IsAble t d es)

  pub with_none : (t : Table W) (slot : ℕ) (before : Configs W) → IsCalledTo t slot before before 0
  with_none t slot before = record {
    fresh = λ at d lt. absurd (omega (arith, lt));
    rest = λ at _. refl;
    live = λ at c lt. absurd (omega (arith, lt));
  }

  pub with_more : (t : Table W) (slot : ℕ) (before now after : Configs W) (n : ℕ) (c d : Config W)
      → after.list.items ≡ slice_set now.list.items n d → slice_get now.list.items n ≡ Some c
      → IsHeld (has t.used) d → ((es : List Moment) → IsAble t c (Call (call_at t slot) ∷ es) → IsAble t d es)
      → IsCalledTo t slot before now n → IsCalledTo t slot before after (n + 1)
  with_more t slot before now after n c d is e u f o =
      let there : slice_get after.list.items n ≡ Some d =
      ap (λ x. slice_get x n) is
      ∙ slice_get-set now.list.items n d (slice_get_within now.list.items n c e) in
      let other : (at : ℕ) → at ≢ n → slice_get after.list.items at ≡ slice_get now.list.items at = λ at z.
      ap (λ x. slice_get x at) is ∙ slice_get-set_other now.list.items n at d z in
      record {
        fresh = λ at x lt g. elim (cases_eq at n) [
          | inl same ↦
              let here : slice_get after.list.items n ≡ Some x =
              subst (λ y. slice_get after.list.items y ≡ Some x) same g in
              let both : d ≡ x = cc in
              subst (λ y. IsHeld (has t.used) y) both u
          | inr z ↦ o.fresh at x (omega (arith, lt, z)) (sym (other at z) ∙ g)
        ];
        rest = λ at le.
            let z : at ≢ n = λ y. omega (arith, le, y) in
            other at z ∙ o.rest at (omega (arith, le));
        live = λ at x lt g. elim (cases_eq at n) [
          | inl same ↦
              let here : slice_get now.list.items n ≡ Some x =
              o.rest n (omega arith) ∙ subst (λ y. slice_get before.list.items y ≡ Some x) same g in
              let both : c ≡ x = cc in (
                d,
                subst (λ y. slice_get after.list.items y ≡ Some d) (sym same) there,
                λ es l. f es (subst (λ y. IsAble t y (Call (call_at t slot) ∷ es)) (sym both) l),
              )
          | inr z ↦ let r = o.live at x (omega (arith, lt, z)) g in (r.0, other at z ∙ r.1, r.2)
        ];
      }

  pub with_all : (t : Table W) (slot : ℕ) (before now : Configs W) (n : ℕ) → length now.list.items ≤ n
      → IsCalledTo t slot before now n → AreHeld (has t.used) now
  with_all t slot before now n le o at d g =
      o.fresh at d (omega (arith, slice_get_within now.list.items at d g, le)) g

  pub with_any : (t : Table W) (slot : ℕ) (before now : Configs W) (n : ℕ) → length now.list.items ≤ n
      → IsCalledTo t slot before now n → (es : List Moment) → IsAnyAble t before (Call (call_at t slot) ∷ es)
      → IsAnyAble t now es
  with_any t slot before now n le o es a = elim (cases_lt a.0 n) [
    | inl lt ↦ let r = o.live a.0 a.1 lt a.2 in (a.0, r.0, r.1, r.2 es a.3)
    | inr ge ↦
        let g : slice_get now.list.items a.0 ≡ Some a.1 = o.rest a.0 ge ∙ a.2 in
        absurd (omega (arith, slice_get_within now.list.items a.0 a.1 g, ge, le))
  ]

  -- ---- slots are given and taken back

  -- the calls of a set that lacks the slot are the same in both tables
  same_members : (t u : Table W) (s : List ℕ) (slot j : ℕ)
      → ((q : ℕ) → q ≢ slot → slice_get u.calls.items q ≡ slice_get t.calls.items q) → has s slot ≡ false
      → In j (members t.calls.items s) → In j (members u.calls.items s)
  same_members t u s slot j same lacks h =
      let r = slot_of_member t.calls.items s j h in
      member_of_slot u.calls.items s j r.0
      (same r.0 (λ z. false≢true (sym lacks ∙ subst (λ x. has s x ≡ true) z r.2)) ∙ r.1) r.2

  -- configurations that lack the slot mean the same in both tables
  pub able_same : (t u : Table W) (slot : ℕ) (cs : Configs W) (es : List Moment) → u.ops.items ≡ t.ops.items
      → ((q : ℕ) → q ≢ slot → slice_get u.calls.items q ≡ slice_get t.calls.items q) → AreOff slot cs
      → IsAnyAble t cs es → IsAnyAble u cs es
  able_same t u slot cs es ops same off a =
      let c = a.1 in
      let o = off a.0 c a.2 in
      let back : (q : ℕ) → q ≢ slot → slice_get t.calls.items q ≡ slice_get u.calls.items q = λ q n.
      sym (same q n) in (
        a.0,
        c,
        a.2,
        subst (λ x. AliveFree x c.value (owed_by u c) (free_of u c) es) (sym ops)
            (as_free t.ops.items es c.value c.value (owed_by t c) (free_of t c) (owed_by u c) (free_of u c)
            refl (record {
              owes = λ j i. same_members u t c.owed slot j back o.0 i;
              keeps = λ j i. inl (inl (same_members t u c.owed slot j same o.0 i));
              has = λ j i. inl (same_members t u c.free slot j same o.1 i);
            }) a.3),
      )

  pub off_unused : (used : ℕ → Bool) (slot : ℕ) (cs : Configs W) → used slot ≡ false → AreHeld used cs
      → AreOff slot cs
  off_unused used slot cs free u at c g =
      let h = u at c g in (off_set used slot c.owed free h.0, off_set used slot c.free free h.1)

  pub held_within : (used more : ℕ → Bool) (cs : Configs W) → ((q : ℕ) → used q ≡ true → more q ≡ true)
      → AreHeld used cs → AreHeld more cs
  held_within used more cs w a at c g = let h = a at c g in (λ q b. w q (h.0 q b), λ q b. w q (h.1 q b))

  pub given_within : (t u : Table W) (slot number : ℕ) → IsGiven t u slot number → (q : ℕ)
      → has t.used q ≡ true → has u.used q ≡ true
  given_within t u slot number g q b = elim (cases_eq q slot) [
    | inl e ↦ absurd (false≢true (sym g.free ∙ subst (λ x. has t.used x ≡ true) e b))
    | inr n ↦ g.same q n ∙ b
  ]

  -- what lacks the slot is within what is used once it is taken back
  pub released_within : (t u : Table W) (slot : ℕ) → IsReleased t u slot → (q : ℕ)
      → lacking (has t.used) slot q ≡ true → has u.used q ≡ true
  released_within t u slot r q b = elim (cases_eq q slot) [
    | inl e ↦
        absurd (let test : (q == slot) ≡ true = grind (arith, nat_tests) in
        false≢true (sym (ap (λ x. not x && has t.used q) test) ∙ b))
    | inr n ↦
        r.same q n
        ∙ (let test : (q == slot) ≡ false = grind (arith, nat_tests) in
        sym (ap (λ x. not x && has t.used q) test) ∙ b)
  ]

  same_call : (t u : Table W) (q : ℕ) → slice_get u.calls.items q ≡ slice_get t.calls.items q
      → call_at u q ≡ call_at t q
  same_call t u q e = go (slice_get u.calls.items q) refl
    where
      go : (o : Option ℕ) → slice_get u.calls.items q ≡ o → call_at u q ≡ call_at t q
      go (Some j) f =
          get_or_from_slice_get u.calls.items q j 0 f
          ∙ sym (get_or_from_slice_get t.calls.items q j 0 (sym e ∙ f))
      go None f = none_at u.calls.items q f ∙ sym (none_at t.calls.items q (sym e ∙ f))
        where
          none_at : (xs : List ℕ) (i : ℕ) → slice_get xs i ≡ None → get_or xs i 0 ≡ 0
          none_at [] i e = refl
          none_at (x ∷ xs) zero e = absurd (cc)
          none_at (x ∷ xs) (suc i) e = none_at xs i e

  pub to_come_given : (t u : Table W) (slot k : ℕ) (es : List Moment) → IsGiven t u slot k
      → IsToCome t (Call k ∷ es) → IsToCome u es
  to_come_given t u slot k es g c = record {
    opened = k ∷ c.opened;
    there = λ q b. elim (cases_eq q slot) [
      | inl e ↦ inl (get_or_from_slice_get u.calls.items q k 0 (ap (slice_get u.calls.items) e ∙ g.call))
      | inr n ↦
          inr (subst (λ x. In x c.opened) (sym (same_call t u q (g.calls q n)))
          (c.there q (sym (g.same q n) ∙ b)))
    ];
    uncalled = λ q b i. elim (cases_eq q slot) [
      | inl e ↦
          c.ordered.0 (subst (λ x. In (Call x) es)
          (get_or_from_slice_get u.calls.items q k 0 (ap (slice_get u.calls.items) e ∙ g.call)) i)
      | inr n ↦
          c.uncalled q (sym (g.same q n) ∙ b)
          (inr (subst (λ x. In (Call x) es) (same_call t u q (g.calls q n)) i))
    ];
    ordered = subst (λ ops. AreInOrder ops (k ∷ c.opened) es) (sym g.ops) c.ordered.1;
  }

  -- a call without a slot
  pub to_come_called : (t : Table W) (k : ℕ) (es : List Moment) → IsToCome t (Call k ∷ es) → IsToCome t es
  to_come_called t k es c = record {
    opened = k ∷ c.opened;
    there = λ q b. inr (c.there q b);
    uncalled = λ q b i. c.uncalled q b (inr i);
    ordered = c.ordered.1;
  }

  pub to_come_released : (t u : Table W) (slot k : ℕ) (es : List Moment) → IsTable t → has t.used slot ≡ true
      → call_at t slot ≡ k → IsReleased t u slot → IsToCome t (Reply k ∷ es) → IsToCome u es
  to_come_released t u slot k es i used is r c = record {
    opened = without k c.opened;
    there = λ q b.
        let n : q ≢ slot = λ e. false≢true (sym r.unused ∙ subst (λ x. has u.used x ≡ true) e b) in
        let v : has t.used q ≡ true = sym (r.same q n) ∙ b in
        let same : call_at u q ≡ call_at t q = ap (λ xs. get_or xs q 0) r.calls in
        subst (λ x. In x (without k c.opened)) (sym same)
        (In-without k (call_at t q) c.opened (c.there q v)
        (λ e. n (same_slot t i q slot v used (e ∙ sym is))));
    uncalled = λ q b h.
        let n : q ≢ slot = λ e. false≢true (sym r.unused ∙ subst (λ x. has u.used x ≡ true) e b) in
        let same : call_at u q ≡ call_at t q = ap (λ xs. get_or xs q 0) r.calls in
        c.uncalled q (sym (r.same q n) ∙ b) (inr (subst (λ x. In (Call x) es) same h));
    ordered = subst (λ ops. AreInOrder ops (without k c.opened) es) (sym r.ops) c.ordered.1;
  }

  -- the reply of a call without a slot
  pub to_come_replied : (t : Table W) (k : ℕ) (es : List Moment)
      → ((q : ℕ) → has t.used q ≡ true → call_at t q ≡ k → ⊥) → IsToCome t (Reply k ∷ es) → IsToCome t es
  to_come_replied t k es away c = record {
    opened = without k c.opened;
    there = λ q b. In-without k (call_at t q) c.opened (c.there q b) (away q b);
    uncalled = λ q b h. c.uncalled q b (inr h);
    ordered = c.ordered.1;
  }

  -- a configuration without the call goes over its reply
  pub replied_able : (t : Table W) (c : Config W) (k : ℕ) (es : List Moment) → IsHeld (has t.used) c
      → ((q : ℕ) → has t.used q ≡ true → call_at t q ≡ k → ⊥) → IsToCome t (Reply k ∷ es)
      → IsAble t c (Reply k ∷ es) → IsAble t c es
  replied_able t c k es held away to_come l =
      elim (let n = counted t.ops.items es c.value (owed_by t c) (free_of t c) k l in
      settled_by t.ops.items es k n.0 c.value (owed_by t c) (free_of t c) (λ h. absent c.owed held.0 h)
      uncalled n.1) [
        | inl r ↦
            as_free t.ops.items es c.value c.value (owed_by t c) (without k (free_of t c)) (owed_by t c)
            (free_of t c) refl (record {
              owes = λ j h. h;
              keeps = λ j h. inl (inl h);
              has = λ j h. inl (without-In k j (free_of t c) h).0;
            }) r
        | inr r ↦ absurd (absent c.free held.1 r.0)
      ]
    where
      absent : (s : List ℕ) → IsWithin (has s) (has t.used) → In k (members t.calls.items s) → ⊥
      absent s w h =
          let r = slot_of_member t.calls.items s k h in
          away r.0 (w r.0 r.2) (get_or_from_slice_get t.calls.items r.0 k 0 r.1)

      uncalled : (x : ℕ) → In x (owed_by t c) ⊎ In x (free_of t c) → In (Call x) es → ⊥
      uncalled x h z = elim h [
        | inl a ↦
            let r = slot_of_member t.calls.items c.owed x a in
            to_come.uncalled r.0 (held.0 r.0 r.2)
            (inr (subst (λ y. In (Call y) es) (sym (get_or_from_slice_get t.calls.items r.0 x 0 r.1)) z))
        | inr a ↦
            let r = slot_of_member t.calls.items c.free x a in
            to_come.uncalled r.0 (held.1 r.0 r.2)
            (inr (subst (λ y. In (Call y) es) (sym (get_or_from_slice_get t.calls.items r.0 x 0 r.1)) z))
      ]

  -- ---- the step over a call

  -- a call that changes nothing needs no slot
  pub no_call_over : (t : Table W) (cs : Configs W) (k : ℕ) → IsTable t → AreHeld (has t.used) cs
      → IsIdle t.ops.items k → IsOver true t cs (Call k) t cs
  no_call_over t cs k i held idle = record {
    ops = refl;
    table = i;
    held = held;
    step = λ _ es c. (
      to_come_called t k es c,
      λ a. (a.0, a.1, a.2, idle_run t.ops.items a.1.value k (owed_by t a.1) (free_of t a.1) es idle a.3),
    );
  }

  -- a call has got a slot, and is open in each configuration
  pub call_over : (t u : Table W) (before after : Configs W) (slot k : ℕ) → IsTable u
      → AreHeld (has t.used) before → IsGiven t u slot k → AreHeld (has u.used) after
      → ((es : List Moment) → IsAnyAble u before (Call (call_at u slot) ∷ es) → IsAnyAble u after es)
      → IsOver true t before (Call k) u after
  call_over t u before after slot k i held g held' able =
      let same : call_at u slot ≡ k = get_or_from_slice_get u.calls.items slot k 0 g.call in
      record {
        ops = g.ops;
        table = i;
        held = held';
        step = λ _ es c. (
          to_come_given t u slot k es g c,
          λ a.
              able es
              (subst (λ x. IsAnyAble u before (Call x ∷ es)) (sym same)
              (able_same t u slot before (Call k ∷ es) g.ops g.calls
              (off_unused (has t.used) slot before g.free held) a)),
        );
      }

  -- ---- the step over a reply

  -- a call without a slot took effect at once
  pub no_reply_over : (t : Table W) (cs : Configs W) (k : ℕ) → IsTable t → AreHeld (has t.used) cs
      → ((q : ℕ) → has t.used q ≡ true → call_at t q ≡ k → ⊥) → IsOver true t cs (Reply k) t cs
  no_reply_over t cs k i held away = record {
    ops = refl;
    table = i;
    held = held;
    step = λ _ es c. (
      to_come_replied t k es away c,
      λ a. (a.0, a.1, a.2, replied_able t a.1 k es (held a.0 a.1 a.2) away c a.3),
    );
  }

  able_released : (t u : Table W) (c : Config W) (es : List Moment) {slot : ℕ} → IsReleased t u slot
      → IsAble t c es → IsAble u c es
  able_released t u c es r a =
      subst (λ x. AliveFree x c.value (owed_by u c) (free_of u c) es) (sym r.ops)
      (subst (λ ks. AliveFree t.ops.items c.value (members ks c.owed) (members ks c.free) es)
      (sym r.calls) a)

  pub reply_over : (whole : Bool) (t u : Table W) (before after : Configs W) (slot k : ℕ) → IsTable t
      → IsTable u → has t.used slot ≡ true → call_at t slot ≡ k → IsReleased t u slot
      → AreHeld (lacking (has t.used) slot) after
      → (IsTrue whole → (es : List Moment) → IsToCome t (Reply (call_at t slot) ∷ es)
      → IsAnyAble t before (Reply (call_at t slot) ∷ es) → IsAnyAble t after es)
      → IsOver whole t before (Reply k) u after
  reply_over whole t u before after slot k i j used is r held goes = record {
    ops = r.ops;
    table = j;
    held = held_within (lacking (has t.used) slot) (has u.used) after (released_within t u slot r) held;
    step = λ all es c. (
      to_come_released t u slot k es i used is r c,
      λ a.
          let came = subst (λ x. IsToCome t (Reply x ∷ es)) (sym is) c in
          let b = goes all es came (subst (λ x. IsAnyAble t before (Reply x ∷ es)) (sym is) a) in
          (b.0, b.1, b.2, able_released t u b.1 es r b.3),
    );
  }
