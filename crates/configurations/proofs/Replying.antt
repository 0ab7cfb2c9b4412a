-- The step over a reply, by slots.
use Rattle.std.proofs.Common.{◌≡◌, ◌≢◌, ℕ, zero, suc, ◌<◌, ◌≤◌, ◌==◌, ◌&&◌, ◌||◌, not, cond}
use Rattle.std.proofs.Common.{Bool, true, false, List, [], ◌∷◌, ◌++◌, ◌⊎◌, length, slice_get}
use Rattle.std.proofs.Common.{Some, inl, inr, refl, sym, ap, subst, ◌∙◌, arith}
use Rattle.std.proofs.lemmas.Bool.{and_from, and_parts, cases_Bool, cases_eq, false≢true, not-true}
use Rattle.std.proofs.lemmas.Bool.{or_left, or_right}
use Rattle.std.proofs.lemmas.Bool.Decides.{nat_tests}
use Rattle.std.proofs.lemmas.Option.{get_or_from_slice_get}
use Rattle.history_model.specs.Lists.{In}
use Rattle.history_model.proofs.Lists.{In-filter, filter-In, append-In, slice_get_inside}
use Rattle.slot_sets.specs.Sets.{has}
use Rattle.configurations.specs.declared.op.Op.{Op}
use Rattle.configurations.specs.declared.moment.Moment.{Moment}
use Rattle.configurations.specs.declared.moment.Moment.TheVariants.{Call, Reply}
use Rattle.configurations.specs.declared.table.Table.{Table}
use Rattle.configurations.specs.declared.config.Config.{Config}
use Rattle.configurations.specs.declared.config.Configs.{Configs}
use Rattle.configurations.specs.Ops.{asks_at, fits_at, left_at, option_writes, rank_at, writes_at}
use Rattle.configurations.specs.Runs.{AliveBy, AliveFree, without}
use Rattle.configurations.specs.Use.{IsAsked, IsOfUse, free_after, freed, kept, open_after, stays}
use Rattle.configurations.specs.Tables.{IsBefore, IsTable, IsToCome, IsWithin, call_at, members}
use Rattle.configurations.specs.Configs.{AreApart, AreKept, AreStill, GoesBy, IsAble, IsAbleBy}
use Rattle.configurations.specs.Configs.{IsAnyAble, IsAnyAbleBy, IsBegun, IsGoneOver, IsHeld}
use Rattle.configurations.specs.Configs.{IsLed, IsTried, free_of, lacking, owed_by}
use Rattle.configurations.proofs.Lists.{In-without, without-In}
use Rattle.configurations.proofs.Members.{member_at, member_of_slot, slot_of_member}
use Rattle.configurations.proofs.AsFree.{as_free, as_free_by, counted}
use Rattle.configurations.proofs.Unseen.{IsUseful, useful_step}
use Rattle.configurations.proofs.Leading.{leads, sooner, stays_false, stays_true}
use Rattle.configurations.proofs.Standing.{look_is_idle}

-- ---- who is open and free after a call

open_in : (b : Bool) (ops : List Op) (k j : ℕ) (p : List ℕ) (x : ℕ)
    → In x (cond b (kept ops k (without j p)) (without j p)) → In x p × (x ≡ j → ⊥)
open_in true ops k j p x h = let a = filter-In (stays ops k) x (without j p) h in without-In j x p a.0
open_in false ops k j p x h = without-In j x p h

in_open : (b : Bool) (ops : List Op) (k j : ℕ) (p : List ℕ) (x : ℕ) → In x p → (x ≡ j → ⊥)
    → (b ≡ true → stays ops k x ≡ true) → In x (cond b (kept ops k (without j p)) (without j p))
in_open true ops k j p x i n s = In-filter (stays ops k) x (without j p) (In-without j x p i n) (s refl)
in_open false ops k j p x i n s = In-without j x p i n

free_in : (b : Bool) (ops : List Op) (k j : ℕ) (p f : List ℕ) (x : ℕ)
    → In x (cond b (freed ops k (without j p) ++ without j f) (without j f))
    → (In x f × (x ≡ j → ⊥)) ⊎ (In x p × (x ≡ j → ⊥) × (b ≡ true) × (stays ops k x ≡ false))
free_in true ops k j p f x h = elim (append-In x (freed ops k (without j p)) (without j f) h) [
  | inl a ↦
      let r = filter-In (λ i. not (stays ops k i)) x (without j p) a in
      let w = without-In j x p r.0 in inr (w.0, w.1, refl, not-true (stays ops k x) r.1)
  | inr a ↦ inl (without-In j x f a)
]
free_in false ops k j p f x h = inl (without-In j x f h)

-- ---- tests of members

module _ {W : ℕ} (t : Table W) (i : IsTable t) where
  -- calls of two slots differ
  pub same_slot : (q r : ℕ) → has t.used q ≡ true → has t.used r ≡ true → call_at t q ≡ call_at t r → q ≡ r
  same_slot q r u v e =
      let x : slice_get t.slot_of.items (call_at t r) ≡ Some q =
      subst (λ y. slice_get t.slot_of.items y ≡ Some q) e (i.each q u).back in
      let y = (i.each r v).back in
      cc

  -- a member of a set of given slots has the slot that it is found at
  pub slot_at : (s : List ℕ) (q : ℕ) → IsWithin (has s) (has t.used) → has t.used q ≡ true
      → In (call_at t q) (members t.calls.items s) → has s q ≡ true
  slot_at s q w u h =
      let r = slot_of_member t.calls.items s (call_at t q) h in
      let same =
      same_slot r.0 q (w r.0 r.2) u (get_or_from_slice_get t.calls.items r.0 (call_at t q) 0 r.1) in
      subst (λ x. has s x ≡ true) same r.2

  -- the call of a slot that the set lacks isn't among its calls
  pub not_member : (s : List ℕ) (q : ℕ) → IsWithin (has s) (has t.used) → has t.used q ≡ true
      → has s q ≡ false → In (call_at t q) (members t.calls.items s) → ⊥
  not_member s q w u n h = false≢true (sym n ∙ slot_at s q w u h)

  pub call_member : (s : List ℕ) (q : ℕ) → has t.used q ≡ true → has s q ≡ true
      → In (call_at t q) (members t.calls.items s)
  call_member s q u b = member_at t.calls.items s q (i.each q u).placed b

  pub write_test : (q : ℕ) → has t.used q ≡ true → has t.writes q ≡ writes_at t.ops.items (call_at t q)
  write_test q u = let s = i.each q u in s.writes ∙ sym (ap option_writes s.there)

-- ---- what comes of a configuration

module _ {W : ℕ} where
  -- d is c once the call of a slot has taken effect: `moved` are free from then on
  pub record IsOffspring (t : Table W) (c d : Config W) (slot reply : ℕ) (moved : ℕ → Bool) : Type 0 where
    pub owed : (q : ℕ) → has d.owed q ≡ true → (has c.owed q ≡ true) × (q ≢ slot) × (moved q ≡ false)
    pub owed_still : (q : ℕ) → has c.owed q ≡ true → q ≢ slot
        → (has d.owed q ≡ true) ⊎ ((has d.free q ≡ true) ⊎ (has t.looks q ≡ true))
    pub free : (q : ℕ) → has d.free q ≡ true → ((has c.free q ≡ true) ⊎ (has c.owed q ≡ true)) × (q ≢ slot)
    pub free_still : (q : ℕ) → has c.free q ≡ true → q ≢ slot → has d.free q ≡ true
    pub free_new : (q : ℕ) → has c.owed q ≡ true → q ≢ slot → moved q ≡ true → has d.free q ≡ true
    pub freed : has t.writes slot ≡ true → (q : ℕ) → q ≢ reply → has t.writes q ≡ true → moved q ≡ true

  module _ (t : Table W) (i : IsTable t) (c d : Config W) (slot reply : ℕ) (moved : ℕ → Bool)
      (held : IsHeld (has t.used) c) (slot_used : has t.used slot ≡ true)
      (o : IsOffspring t c d slot reply moved) where
    pub offspring_held : IsHeld (has t.used) d
    offspring_held = (
      λ q b. held.0 q (o.owed q b).0,
      λ q b. elim (o.free q b).0 [ inl x ↦ held.1 q x | inr x ↦ held.0 q x ],
    )

    -- a call of another number has another slot
    elsewhere : (q x : ℕ) → slice_get t.calls.items q ≡ Some x → (x ≡ call_at t slot → ⊥) → q ≢ slot
    elsewhere q x e n z = n (sym (get_or_from_slice_get t.calls.items q x 0 e) ∙ ap (call_at t) z)

    differs : (q x r : ℕ) → has t.used q ≡ true → has t.used r ≡ true → slice_get t.calls.items q ≡ Some x
        → q ≢ r → x ≡ call_at t r → ⊥
    differs q x r u v e n z = n (same_slot t i q r u v (get_or_from_slice_get t.calls.items q x 0 e ∙ z))

    pub offspring_able : (v : ℕ) (es : List Moment) (n : ℕ) → d.value ≡ left_at t.ops.items (call_at t slot) v
        → AliveBy t.ops.items (call_at t reply) es n (left_at t.ops.items (call_at t slot) v)
        (open_after t.ops.items (call_at t reply) (call_at t slot) (owed_by t c))
        (free_after t.ops.items (call_at t reply) (call_at t slot) (owed_by t c) (free_of t c))
        → IsAbleBy t (call_at t reply) es n d
    offspring_able v es n e l =
        let ops = t.ops.items in
        let ks = t.calls.items in
        let j = call_at t slot in
        let k = call_at t reply in
        let p = owed_by t c in
        let f = free_of t c in
        as_free_by ops es k n (left_at ops j v) d.value (open_after ops k j p) (free_after ops k j p f)
        (owed_by t d) (free_of t d) (sym e) (record {
          owes = λ x a.
              let r = slot_of_member ks d.owed x a in
              let q = r.0 in
              let b = o.owed q r.2 in
              let same : call_at t q ≡ x = get_or_from_slice_get ks q x 0 r.1 in
              in_open (writes_at ops j) ops k j p x (member_of_slot ks c.owed x q r.1 b.0)
              (differs q x slot (held.0 q b.0) slot_used r.1 b.1) (λ write.
              stays_true ops k x (elim (cases_eq q reply) [
                | inl z ↦ inl (sym same ∙ ap (call_at t) z)
                | inr n ↦ inr (elim (cases_Bool (writes_at ops x)) [
                  | inr y ↦ y
                  | inl y ↦
                      absurd (false≢true (sym b.2
                      ∙ o.freed (write_test t i slot slot_used ∙ write) q n
                      (write_test t i q (held.0 q b.0) ∙ (ap (writes_at ops) same ∙ y))))
                ])
              ]));
          keeps = λ x a.
              let b = open_in (writes_at ops j) ops k j p x a in
              let r = slot_of_member ks c.owed x b.0 in
              let q = r.0 in
              elim (o.owed_still q r.2 (elsewhere q x r.1 b.1)) [
                | inl y ↦ inl (inl (member_of_slot ks d.owed x q r.1 y))
                | inr y ↦ elim y [
                  | inl z ↦ inl (inr (member_of_slot ks d.free x q r.1 z))
                  | inr z ↦ inr (look_is_idle t q x i (held.0 q r.2) z r.1)
                ]
              ];
          has = λ x a. inl (elim (free_in (writes_at ops j) ops k j p f x a) [
            | inl b ↦
                let r = slot_of_member ks c.free x b.0 in
                member_of_slot ks d.free x r.0 r.1 (o.free_still r.0 r.2 (elsewhere r.0 x r.1 b.1))
            | inr b ↦
                let r = slot_of_member ks c.owed x b.0 in
                let q = r.0 in
                let same : call_at t q ≡ x = get_or_from_slice_get ks q x 0 r.1 in
                let leaves = stays_false ops k x b.3 in
                let n : q ≢ reply = λ z. leaves.0 (sym same ∙ ap (call_at t) z) in
                let write : has t.writes q ≡ true =
                write_test t i q (held.0 q r.2) ∙ (ap (writes_at ops) same ∙ leaves.1) in
                member_of_slot ks d.free x q r.1
                (o.free_new q r.2 (elsewhere q x r.1 b.1)
                (o.freed (write_test t i slot slot_used ∙ b.2) q n write))
          ]);
        }) l

  -- ---- at the reply

  module _ (t : Table W) (i : IsTable t) (reply : ℕ) (reply_used : has t.used reply ≡ true) where
    -- no call of a configuration is called again
    pub ahead : (c : Config W) (es : List Moment) → IsHeld (has t.used) c
        → IsToCome t (Reply (call_at t reply) ∷ es) → (x : ℕ) → In x (owed_by t c) ⊎ In x (free_of t c)
        → In (Call x) es → ⊥
    ahead c es held to_come x h z = elim h [
      | inl a ↦ let r = slot_of_member t.calls.items c.owed x a in at r.0 (held.0 r.0 r.2) r.1
      | inr a ↦ let r = slot_of_member t.calls.items c.free x a in at r.0 (held.1 r.0 r.2) r.1
    ]
      where
        at : (q : ℕ) → has t.used q ≡ true → slice_get t.calls.items q ≡ Some x → ⊥
        at q u e =
            to_come.uncalled q u
            (inr (subst (λ y. In (Call y) es) (sym (get_or_from_slice_get t.calls.items q x 0 e)) z))

    free_rest : (c d : Config W) (x : ℕ) → ((q : ℕ) → q ≢ reply → has d.free q ≡ has c.free q)
        → In x (without (call_at t reply) (free_of t c)) → In x (free_of t d)
    free_rest c d x same a =
        let w = without-In (call_at t reply) x (free_of t c) a in
        let r = slot_of_member t.calls.items c.free x w.0 in
        let n : r.0 ≢ reply = λ z.
        w.1 (sym (get_or_from_slice_get t.calls.items r.0 x 0 r.1) ∙ ap (call_at t) z) in
        member_of_slot t.calls.items d.free x r.0 r.1 (same r.0 n ∙ r.2)

    -- the call that replies is dropped
    pub dropped_able : (c d : Config W) (es : List Moment) → d.value ≡ c.value → d.owed ≡ c.owed
        → ((q : ℕ) → q ≢ reply → has d.free q ≡ has c.free q)
        → AliveFree t.ops.items c.value (owed_by t c) (without (call_at t reply) (free_of t c)) es
        → IsAble t d es
    dropped_able c d es v o same l =
        as_free t.ops.items es c.value d.value (owed_by t c) (without (call_at t reply) (free_of t c))
        (owed_by t d) (free_of t d) (sym v) (record {
          owes = λ x a. subst (λ s. In x (members t.calls.items s)) o a;
          keeps = λ x a. inl (inl (subst (λ s. In x (members t.calls.items s)) (sym o) a));
          has = λ x a. inl (free_rest c d x same a);
        }) l

    -- it must take effect now
    pub owing_able : (c d : Config W) (es : List Moment) (n : ℕ) → d.value ≡ c.value
        → has c.owed reply ≡ false → has d.owed reply ≡ true
        → ((q : ℕ) → q ≢ reply → has d.owed q ≡ has c.owed q)
        → ((q : ℕ) → q ≢ reply → has d.free q ≡ has c.free q)
        → AliveBy t.ops.items (call_at t reply) es n c.value (call_at t reply ∷ owed_by t c)
        (without (call_at t reply) (free_of t c)) → IsAbleBy t (call_at t reply) es n d
    owing_able c d es n v none one other same l =
        as_free_by t.ops.items es (call_at t reply) n c.value d.value (call_at t reply ∷ owed_by t c)
        (without (call_at t reply) (free_of t c)) (owed_by t d) (free_of t d) (sym v) (record {
          owes = λ x a.
              let r = slot_of_member t.calls.items d.owed x a in
              elim (cases_eq r.0 reply) [
                | inl z ↦ inl (sym (get_or_from_slice_get t.calls.items r.0 x 0 r.1) ∙ ap (call_at t) z)
                | inr m ↦ inr (member_of_slot t.calls.items c.owed x r.0 r.1 (sym (other r.0 m) ∙ r.2))
              ];
          keeps = λ x a.
              inl (inl (elim a [
                | inl e ↦
                    subst (λ y. In y (owed_by t d)) (sym e) (call_member t i d.owed reply reply_used one)
                | inr h ↦
                    let r = slot_of_member t.calls.items c.owed x h in
                    member_of_slot t.calls.items d.owed x r.0 r.1
                    (other r.0 (λ z. false≢true (sym none ∙ subst (λ y. has c.owed y ≡ true) z r.2))
                    ∙ r.2)
              ]));
          has = λ x a. inl (free_rest c d x same a);
        }) l

    lacks : (used : ℕ → Bool) (s : List ℕ) (q : ℕ) → used q ≡ true → q ≢ reply → lacking used reply q ≡ true
    lacks used s q u n =
        let other : (q == reply) ≡ false = grind (arith, nat_tests) in
        and_from (not (q == reply)) (used q) (ap not other) u

    -- once its call is dropped, no slot is the one that is taken back
    pub dropped_held : (c d : Config W) → IsHeld (has t.used) c → d.owed ≡ c.owed → has c.owed reply ≡ false
        → has d.free reply ≡ false → ((q : ℕ) → q ≢ reply → has d.free q ≡ has c.free q)
        → IsHeld (lacking (has t.used) reply) d
    dropped_held c d held o none gone same = (
      λ q b.
          let b' = subst (λ s. has s q ≡ true) o b in
          lacks (has t.used) c.owed q (held.0 q b')
          (λ z. false≢true (sym none ∙ subst (λ y. has c.owed y ≡ true) z b')),
      λ q b.
          let n : q ≢ reply = λ z. false≢true (sym gone ∙ subst (λ y. has d.free y ≡ true) z b) in
          lacks (has t.used) c.free q (held.1 q (sym (same q n) ∙ b)) n,
    )

    pub owing_held : (c d : Config W) → IsHeld (has t.used) c
        → ((q : ℕ) → q ≢ reply → has d.owed q ≡ has c.owed q) → has d.free reply ≡ false
        → ((q : ℕ) → q ≢ reply → has d.free q ≡ has c.free q) → IsHeld (has t.used) d
    owing_held c d held other gone same = (
      λ q b. elim (cases_eq q reply) [
        | inl z ↦ subst (λ x. has t.used x ≡ true) (sym z) reply_used
        | inr n ↦ held.0 q (sym (other q n) ∙ b)
      ],
      λ q b. elim (cases_eq q reply) [
        | inl z ↦ subst (λ x. has t.used x ≡ true) (sym z) reply_used
        | inr n ↦ held.1 q (sym (same q n) ∙ b)
      ],
    )

  -- ---- what is of use

  module _ (t : Table W) (i : IsTable t) (c : Config W) (held : IsHeld (has t.used) c) where
    -- no open call that isn't a write may take effect at v
    pub not_asked : (v : ℕ) (opened asking : List ℕ)
        → ((q : ℕ) → has opened q ≡ (has c.owed q || has c.free q))
        → ((q : ℕ) → has t.used q ≡ true → fits_at t.ops.items (call_at t q) v ≡ true → has t.writes q ≡ false
        → has asking q ≡ true) → ((q : ℕ) → has opened q ≡ true → has asking q ≡ false)
        → IsAsked t.ops.items (owed_by t c) (free_of t c) v → ⊥
    not_asked v opened asking is asks none h = elim h.1 [
      | inl x ↦
          let r = slot_of_member t.calls.items c.owed h.0 x in
          at r.0 (held.0 r.0 r.2) r.1 (is r.0 ∙ or_left (has c.owed r.0) (has c.free r.0) r.2)
      | inr x ↦
          let r = slot_of_member t.calls.items c.free h.0 x in
          at r.0 (held.1 r.0 r.2) r.1 (is r.0 ∙ or_right (has c.owed r.0) (has c.free r.0) r.2)
    ]
      where
        at : (q : ℕ) → has t.used q ≡ true → slice_get t.calls.items q ≡ Some h.0 → has opened q ≡ true → ⊥
        at q u e b =
            let same : call_at t q ≡ h.0 = get_or_from_slice_get t.calls.items q h.0 0 e in
            let s = and_parts (not (writes_at t.ops.items h.0)) (fits_at t.ops.items h.0 v) h.2 in
            let asked =
            asks q u (ap (λ x. fits_at t.ops.items x v) same ∙ s.1)
            (write_test t i q u
            ∙ (ap (writes_at t.ops.items) same ∙ not-true (writes_at t.ops.items h.0) s.0)) in
            false≢true (sym (none q b) ∙ asked)

  -- ---- some call of use takes effect, and of those that change alike the one that replies first

  module _ (t : Table W) (i : IsTable t) (c : Config W) (held : IsHeld (has t.used) c) (reply : ℕ)
      (reply_used : has t.used reply ≡ true) (work next : Configs W) where
    abbrev pub k : ℕ
    k = call_at t reply

    abbrev pub rank : ℕ → ℕ
    rank q = rank_at t.ops.items (call_at t q)

    abbrev pub IsOpen : ℕ → Type 0
    IsOpen q = (has c.owed q ≡ true) ⊎ (has c.free q ≡ true)

    used_open : (q : ℕ) → IsOpen q → has t.used q ≡ true
    used_open q o = elim o [ inl a ↦ held.0 q a | inr a ↦ held.1 q a ]

    open_led : (q : ℕ) (l : IsLed t c q) → IsOpen l.leader
    open_led q l = elim l.opened [ inl a ↦ inl a.0 | inr a ↦ inr a.0 ]

    not_itself : (q : ℕ) → IsBefore t q q → ⊥
    not_itself q b = elim b [ inl a ↦ omega (arith, a) | inr a ↦ omega (arith, a.1) ]

    apart : (q : ℕ) → has t.used q ≡ true → (l : IsLed t c q) → call_at t l.leader ≡ call_at t q → ⊥
    apart q u l e =
        let same = same_slot t i l.leader q (used_open l.leader (open_led q l)) u e in
        not_itself q (subst (λ x. IsBefore t x q) same l.sooner)

    no_lower : (q : ℕ) (l : IsLed t c q) → rank l.leader ≤ rank q
    no_lower q l = elim l.sooner [ inl a ↦ omega (arith, a) | inr a ↦ omega (arith, a.0) ]

    module _ (es : List Moment) (by : ℕ) (to_come : IsToCome t (Reply k ∷ es)) where
      -- none goes before the call that replies
      not_reply : (q : ℕ) → has t.used q ≡ true → IsLed t c q → call_at t q ≡ k → ⊥
      not_reply q u l e = elim (to_come.ordered.0 (call_at t l.leader)
          (to_come.there l.leader (used_open l.leader (open_led q l)))) [
            | inl z ↦ apart q u l (z ∙ sym e)
            | inr z ↦
                let le = no_lower q l in
                let same : rank q ≡ rank_at t.ops.items k = ap (rank_at t.ops.items) e in
                omega (arith, z, le, same)
          ]

      abbrev Result : Type 0
      Result = IsAnyAbleBy t k es by work ⊎ IsAnyAble t next es

      abbrev CanGo : ℕ → Type 0
      CanGo q =
          AliveBy t.ops.items k es by (left_at t.ops.items (call_at t q) c.value)
          (open_after t.ops.items k (call_at t q) (owed_by t c))
          (free_after t.ops.items k (call_at t q) (owed_by t c) (free_of t c))

      -- what is known of a call that may be tried
      record Candidate (q : ℕ) : Type 0 where
        opened : IsOpen q
        fits : fits_at t.ops.items (call_at t q) c.value ≡ true
        of_use : IsOfUse t.ops.items (owed_by t c) (free_of t c) k (call_at t q) c.value
        goes : CanGo q

      leader_of_use : (q : ℕ) → has t.used q ≡ true → (l : IsLed t c q)
          → IsOfUse t.ops.items (owed_by t c) (free_of t c) k (call_at t q) c.value
          → IsOfUse t.ops.items (owed_by t c) (free_of t c) k (call_at t l.leader) c.value
      leader_of_use q u l o = elim o [
        | inl e ↦ absurd (not_reply q u l e)
        | inr v ↦ elim v [
          | inl a ↦ inr (inl (
            l.alike.write ∙ a.0,
            elim l.opened [
              | inl x ↦ call_member t i c.owed l.leader (held.0 l.leader x.0) x.0
              | inr x ↦ absurd (not_member t i c.owed q held.0 u x.2 a.1)
            ],
          ))
          | inr a ↦ inr (inr (a.0, a.1, ap (asks_at t.ops.items a.0) (l.alike.leave c.value) ∙ a.2))
        ]
      ]

      leader_goes : In k (owed_by t c) → (q : ℕ) (l : IsLed t c q) → Candidate q → Candidate l.leader
      leader_goes owes q l a =
          let u = used_open q a.opened in
          let v = used_open l.leader (open_led q l) in
          let n = apart q u l in
          record {
            opened = open_led q l;
            fits = l.alike.fit c.value ∙ a.fits;
            of_use = leader_of_use q u l a.of_use;
            goes =
                leads t.ops.items k (call_at t l.leader) (call_at t q) (owed_by t c) (free_of t c) es by
                (record {
                  apart = n;
                  there = elim a.opened [
                    | inl x ↦ inl (call_member t i c.owed q u x)
                    | inr x ↦ inr (call_member t i c.free q u x)
                  ];
                  opened = elim l.opened [
                    | inl x ↦
                        inl (
                          call_member t i c.owed l.leader v x.0,
                          not_member t i c.free l.leader held.1 v x.1,
                        )
                    | inr x ↦
                        inr (
                          call_member t i c.free l.leader v x.0,
                          not_member t i c.owed l.leader held.0 v x.1,
                          not_member t i c.owed q held.0 u x.2,
                        )
                  ];
                }) l.alike owes (not_reply q u l)
                (sooner t.ops.items (call_at t l.leader) (call_at t q) to_come.opened (Reply k ∷ es)
                (to_come.there l.leader v) n (no_lower q l) to_come.ordered)
                (to_come.uncalled l.leader v) (to_come.uncalled q u) c.value a.goes;
          }

      -- by induction over the calls of one rank, where those of lower ranks are had
      by_call : In k (owed_by t c)
          → ((q : ℕ) → IsOpen q → fits_at t.ops.items (call_at t q) c.value ≡ true
          → IsTried t c q reply work next) → (n : ℕ) → ((q : ℕ) → rank q < n → Candidate q → Result)
          → (m : ℕ) (q : ℕ) → call_at t q < m → rank q < suc n → Candidate q → Result
      by_call owes tried n lower zero q below lt a = absurd (omega (arith, below))
      by_call owes tried n lower (suc m) q below lt a = elim (tried q a.opened a.fits a.of_use) [
        | inr goes ↦ goes es by to_come a.goes
        | inl l ↦ elim l.sooner [
          | inl less ↦ lower l.leader (omega (arith, less, lt)) (leader_goes owes q l a)
          | inr same ↦
              by_call owes tried n lower m l.leader (omega (arith, same.1, below)) (omega (arith, same.0, lt))
              (leader_goes owes q l a)
        ]
      ]

      -- and over the ranks
      first_goes : In k (owed_by t c)
          → ((q : ℕ) → IsOpen q → fits_at t.ops.items (call_at t q) c.value ≡ true
          → IsTried t c q reply work next) → (n : ℕ) (q : ℕ) → rank q < n → Candidate q → Result
      first_goes owes tried zero q lt a = absurd (omega (arith, lt))
      first_goes owes tried (suc n) q lt a =
          by_call owes tried n (λ q lt a. first_goes owes tried n q lt a) (suc (call_at t q)) q (omega arith)
          lt a

    pub gone_over : In k (owed_by t c)
        → ((q : ℕ) → IsOpen q → fits_at t.ops.items (call_at t q) c.value ≡ true
        → IsTried t c q reply work next) → IsGoneOver t k work next c
    gone_over owes tried es n to_come l =
        let u = useful_step t.ops.items es k n c.value (owed_by t c) (free_of t c) owes l in
        let less : u.fewer < n = omega (arith, u.one_less) in
        let went : IsAnyAbleBy t k es u.fewer work ⊎ IsAnyAble t next es = elim u.there [
          | inl h ↦
              let r = slot_of_member t.calls.items c.owed u.j h in
              at u r.0 (inl r.2) (sym (get_or_from_slice_get t.calls.items r.0 u.j 0 r.1))
          | inr h ↦
              let r = slot_of_member t.calls.items c.free u.j h in
              at u r.0 (inr r.2) (sym (get_or_from_slice_get t.calls.items r.0 u.j 0 r.1))
        ] in
        elim went [ inl x ↦ inl (u.fewer, less, x) | inr x ↦ inr x ]
      where
        at : (u : IsUseful t.ops.items es n c.value (owed_by t c) (free_of t c) k) (q : ℕ) → IsOpen q
            → u.j ≡ call_at t q → IsAnyAbleBy t k es u.fewer work ⊎ IsAnyAble t next es
        at u q o e = first_goes es u.fewer to_come owes tried (suc (rank q)) q (omega arith) (record {
          opened = o;
          fits = subst (λ x. fits_at t.ops.items x c.value ≡ true) e u.suits;
          of_use = subst (λ x. IsOfUse t.ops.items (owed_by t c) (free_of t c) k x c.value) e u.of_use;
          goes = subst (λ x.
              AliveBy t.ops.items k es u.fewer (left_at t.ops.items x c.value)
              (open_after t.ops.items k x (owed_by t c))
              (free_after t.ops.items k x (owed_by t c) (free_of t c))) e u.rest;
        })

  -- ---- lists that keep what they can explain

  pub still_able : (t : Table W) (es : List Moment) (a b : Configs W) → AreStill a b → IsAnyAble t a es
      → IsAnyAble t b es
  still_able t es a b still x = (x.0, x.1, still x.0 x.1 x.2, x.3)

  pub still_able_by : (t : Table W) (k : ℕ) (es : List Moment) (n : ℕ) (a b : Configs W) → AreStill a b
      → IsAnyAbleBy t k es n a → IsAnyAbleBy t k es n b
  still_able_by t k es n a b still x = (x.0, x.1, still x.0 x.1 x.2, x.3)

  -- one that is at a place that was there before was there before
  pub still_back : (a b : Configs W) (at : ℕ) (x : Config W) → AreStill a b → at < length a.list.items
      → slice_get b.list.items at ≡ Some x → slice_get a.list.items at ≡ Some x
  still_back a b at x still lt e =
      let y = slice_get_inside a.list.items at lt in
      let there : slice_get b.list.items at ≡ Some y.0 = still at y.0 y.1 in
      let same : y.0 ≡ x = cc (there, e) in
      subst (λ z. slice_get a.list.items at ≡ Some z) same y.1

  pub kept_both : (a b a' b' a'' b'' : Configs W) → AreKept a b a' b' → AreKept a' b' a'' b''
      → AreKept a b a'' b''
  kept_both a b a' b' a'' b'' x y = record {
    work_kept = λ at c g. y.work_kept at c (x.work_kept at c g);
    next_kept = λ at c g. y.next_kept at c (x.next_kept at c g);
  }

  pub kept_all : (a b : Configs W) → AreKept a b a b
  kept_all a b = record { work_kept = λ at c g. g; next_kept = λ at c g. g }

  pub still_goes : (t : Table W) (k : ℕ) (work next work' next' : Configs W) (v : ℕ) (p f : List ℕ)
      → AreKept work next work' next' → GoesBy t k work next v p f → GoesBy t k work' next' v p f
  still_goes t k work next work' next' v p f kept goes es n to_come l = elim (goes es n to_come l) [
    | inl x ↦ inl (still_able_by t k es n work work' kept.work_kept x)
    | inr x ↦ inr (still_able t es next next' kept.next_kept x)
  ]

  pub still_tried : (t : Table W) (c : Config W) (q reply : ℕ) (work next work' next' : Configs W)
      → AreKept work next work' next' → IsTried t c q reply work next → IsTried t c q reply work' next'
  still_tried t c q reply work next work' next' kept tried of_use = elim (tried of_use) [
    | inl l ↦ inl l
    | inr goes ↦ inr (still_goes t (call_at t reply) work next work' next' _ _ _ kept goes)
  ]

  pub still_gone_over : (t : Table W) (k : ℕ) (c : Config W) (work next work' next' : Configs W)
      → AreKept work next work' next' → IsGoneOver t k work next c → IsGoneOver t k work' next' c
  still_gone_over t k c work next work' next' kept gone es n to_come l = elim (gone es n to_come l) [
    | inl x ↦ inl (x.0, x.1, still_able_by t k es x.0 work work' kept.work_kept x.2)
    | inr x ↦ inr (still_able t es next next' kept.next_kept x)
  ]

  -- all of `work` have been gone over, so one of `next` can explain what comes: by induction over the calls
  -- before the reply
  pub all_gone_over : (t : Table W) (k : ℕ) (work next : Configs W) (es : List Moment)
      → IsToCome t (Reply k ∷ es)
      → ((at : ℕ) (c : Config W) → slice_get work.list.items at ≡ Some c → IsGoneOver t k work next c)
      → (n : ℕ) → IsAnyAbleBy t k es n work → IsAnyAble t next es
  all_gone_over t k work next es to_come gone n x = go (suc n) n (omega arith) x
    where
      go : (most n : ℕ) → n < most → IsAnyAbleBy t k es n work → IsAnyAble t next es
      go zero n lt x = absurd (omega (arith, lt))
      go (suc most) n lt x = elim (gone x.0 x.1 x.2 es n to_come x.3) [
        | inl y ↦ go most y.0 (omega (arith, lt, y.1)) y.2
        | inr y ↦ y
      ]

  -- one before the reply, once each of them goes over it
  pub begun_able : (t : Table W) (now : Configs W) (slot : ℕ) (work next : Configs W) (es : List Moment)
      → IsBegun t now slot work next → IsToCome t (Reply (call_at t slot) ∷ es)
      → IsAnyAble t now (Reply (call_at t slot) ∷ es)
      → ((n : ℕ) × IsAnyAbleBy t (call_at t slot) es n work) ⊎ IsAnyAble t next es
  begun_able t now slot work next es begun to_come a =
      let l = counted t.ops.items es a.1.value (owed_by t a.1) (free_of t a.1) (call_at t slot) a.3 in
      elim (begun a.0 a.1 a.2 es l.0 to_come l.1) [ inl x ↦ inl (l.0, x) | inr x ↦ inr x ]

  -- two empty lists
  pub none_apart : (t : Table W) (slot : ℕ) (work next : Configs W) → work.list.items ≡ []
      → next.list.items ≡ [] → AreApart t slot work next
  none_apart t slot work next none none' = record {
    work_held = λ at c e. absurd (nobody at c (subst (λ x. slice_get x at ≡ Some c) none e));
    work_owe = λ at c e. absurd (nobody at c (subst (λ x. slice_get x at ≡ Some c) none e));
    next_held = λ at c e. absurd (nobody at c (subst (λ x. slice_get x at ≡ Some c) none' e));
  }
    where
      nobody : (at : ℕ) (c : Config W) → slice_get [] at ≡ Some c → ⊥
      nobody at c e = absurd (cc)
