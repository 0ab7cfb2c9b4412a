-- A walk that lists the operations of a register by call.
use Rattle.std.proofs.Common.{◌≡◌, ℕ, ◌+◌, ◌-◌, ◌<◌, ◌≤◌, ◌++◌, ◌∷◌, [], ◌⊎◌, true, false, cond, List}
use Rattle.std.proofs.Common.{Option, Some, None, inl, inr, refl, sym, ap, subst, ◌∙◌, arith}
use Rattle.std.proofs.lemmas.Bool.{cases_Bool, and_parts, eqb-true, false≢true}
use Rattle.history_model.specs.declared.event.Event.{Event}
use Rattle.history_model.specs.declared.ids.EvId.{EvId}
use Rattle.history_model.specs.Lists.{In, Before}
use Rattle.history_model.specs.History.{History}
use Rattle.history_model.specs.Operations.{of_register, operations, is_write, initial_write, value_of}
use Rattle.history_model.specs.declared.operation.Operation.{Operation}
use Rattle.history_model.specs.Walking.{IsFirstOf, IsNextOf, by_register, key_at}
use Rattle.reg_zones.specs.declared.entry.Entry.{Entry}
use Rattle.reg_zones.specs.Clusters.{low_end}
use Rattle.reg_zones.specs.Order.{IsListed, IsSooner}
use Rattle.reg_zones.proofs.Known.{IsKnown}
use Rattle.reg_zones.specs.Entries.{turn, entry_of, same_place, ComesFirst, IsListing, IsListedAt}
use Rattle.reg_zones.proofs.Complete.{listed-in, listed-member}
use Rattle.reg_zones.proofs.LowEnds.{low_apart}
use Rattle.reg_zones.proofs.Exists.{sooner_total}
use Rattle.history_model.proofs.Indexes.{In-push, In-push_cases, Before-push_cases, pairs_from_Before}
use Rattle.reg_zones.proofs.Registers.{cases_process, event-key}
use Rattle.reg_zones.proofs.Walks.{IsWalk, walk-start, walk-more, walk-end}
use Rattle.history_model.proofs.Recorded.{of_register-In}

-- the entries so far: of the initial write, and of each listed operation that is called behind the walk
pub record IsListingSoFar (events : List Event) (r : ℕ) (ops : List Operation) (entries : List Entry)
    (next : Option EvId) : Type 0 where
  pub walk : IsWalk events r (λ i. (a : Operation) → IsListed ops a → a.call ≡ i + 2
      → In (entry_of ops a) entries) next
  pub initial : In (entry_of ops (initial_write r)) entries
  pub only : (x : Entry) → In x entries → (a : Operation) × IsListed ops a × (x ≡ entry_of ops a)
      × ((id : EvId) → next ≡ Some id → a.call < id.0 + 2)
  pub apart : (x y : Entry) → Before x y entries → same_place x y ≡ false

turn-write : (a : Operation) → is_write a ≡ true → turn a ≡ 0
turn-write a w = ap (λ b. cond b 0 a.call) w

turn-read : (a : Operation) → is_write a ≡ false → turn a ≡ a.call
turn-read a w = ap (λ b. cond b 0 a.call) w

module _ (h : History) (r : ℕ) (y : IsKnown h r) where
  abbrev ops : List Operation
  ops = of_register r (operations h)

  -- the initial write, or called after it
  cases_called : (a : Operation) → In a ops
      → (a ≡ initial_write r) ⊎ ((p : ℕ) × (a.process ≡ Some p) × (2 ≤ a.call))
  cases_called a i = elim (cases_process a.process) [
    | inl n ↦ inl (y.history.initial a i n ∙ ap initial_write (of_register-In r (operations h) a i).1)
    | inr p ↦ inr (p.0, p.1, y.history.called a p.0 i p.1)
  ]

  read-late : (a : Operation) → In a ops → is_write a ≡ false → 2 ≤ a.call
  read-late a i w =
      elim (cases_called a i) [
        | inl e ↦ absurd (false≢true (sym w ∙ ap (λ (o : Operation). is_write o) e))
        | inr p ↦ p.2
      ]

  -- what comes sooner has an entry that comes first
  pub sooner-first : (a b : Operation) → IsListed ops a → IsListed ops b → IsSooner ops a b
      → ComesFirst (entry_of ops a) (entry_of ops b)
  sooner-first a b la lb (inl l) = inl l
  sooner-first a b la lb (inr s) = inr (
    s.0,
    elim s.1 [
      | inl p ↦ omega (arith, turn-write a p.0, turn-read b p.1, read-late b (listed-in ops b lb) p.1)
      | inr p ↦ elim (cases_Bool (is_write a)) [
        | inr w ↦ omega (arith, turn-read a w, turn-read b (sym p.0 ∙ w), p.1)
        | inl w ↦
            let v =
            low_apart ops y.history (value_of a) (value_of b) a b (listed-member ops a la)
            (listed-member ops b lb) s.0 in
            let e = y.history.values a b (listed-in ops a la) (listed-in ops b lb) w (sym p.0 ∙ w) v in
            absurd (omega (arith, p.1, ap (λ (o : Operation). o.call) e))
      ]
    ],
  )

  -- two listed operations have two places
  place-one : (a b : Operation) → IsListed ops a → IsListed ops b
      → same_place (entry_of ops a) (entry_of ops b) ≡ true → a ≡ b
  place-one a b la lb e =
      let p = and_parts _ _ e in
      let l = eqb-true _ _ p.0 in
      let t = eqb-true _ _ p.1 in
      let no : (c d : Operation) → IsListed ops c → IsListed ops d
      → low_end ops (value_of c) ≡ low_end ops (value_of d)
      → turn c ≡ turn d → IsSooner ops c d → ⊥ =
      λ c d lc ld x z s. elim (sooner-first c d lc ld s) [
        | inl q ↦ omega (arith, x)
        | inr q ↦ omega (arith, z, q.1)
      ] in
      elim (sooner_total ops y.history a b la lb) [
        | inl q ↦ q
        | inr q ↦ elim q [
          | inl s ↦ absurd (no a b la lb l t s)
          | inr s ↦ absurd (no b a lb la (sym l) (sym t) s)
        ]
      ]

  initial-listed : IsListed ops (initial_write r)
  initial-listed = inl (record { within = y.initial; write = refl; kept = inl refl })

  abbrev Q : List Entry → ℕ → Type 0
  Q entries i = (a : Operation) → IsListed ops a → a.call ≡ i + 2 → In (entry_of ops a) entries

  pub listing-start : (next : Option EvId) → IsFirstOf by_register h.events r next
      → IsListingSoFar h.events r ops (entry_of ops (initial_write r) ∷ []) next
  listing-start next f = record {
    walk = walk-start h.events r (Q (entry_of ops (initial_write r) ∷ [])) next f;
    initial = inl refl;
    only =
        λ x i. elim i [
          | inl e ↦ (initial_write r, initial-listed, e, λ id q. omega arith)
          | inr e ↦ absurd e
        ];
    apart = λ a b s. elim s [ inl e ↦ absurd e.1 | inr e ↦ absurd e ];
  }

  -- the next event comes later
  later : (id : EvId) (next : Option EvId) → key_at by_register h.events id.0 ≡ Some r
      → IsNextOf by_register h.events id.0 next → (j : EvId) → next ≡ Some j → id.0 < j.0
  later id None k n j e = absurd (cc e)
  later id (Some m) k n j e =
      let q : m ≡ j = cc e in let f = n r k in omega (arith, f.0, ap (λ (x : EvId). x.0) q)

  pub listing-skip : (entries : List Entry) (id : EvId) (next : Option EvId) → IsListedAt ops (id.0 + 2) None
      → IsListingSoFar h.events r ops entries (Some id) → IsNextOf by_register h.events id.0 next
      → IsListingSoFar h.events r ops entries next
  listing-skip entries id next none l n =
      let k = l.walk.here id refl in
      record {
        walk = walk-more h.events r (Q entries) id next l.walk (λ a q e. absurd (none a q e)) n;
        initial = l.initial;
        only =
            λ x i. let o =
            l.only x i in (o.0, o.1, o.2, λ j e. omega (arith, o.3 id refl, later id next k n j e));
        apart = l.apart;
      }

  pub listing-push : (entries : List Entry) (entry : Entry) (id : EvId) (next : Option EvId)
      → IsListedAt ops (id.0 + 2) (Some entry) → IsListingSoFar h.events r ops entries (Some id)
      → IsNextOf by_register h.events id.0 next → IsListingSoFar h.events r ops (entries ++ entry ∷ []) next
  listing-push entries entry id next f l n =
      let k = l.walk.here id refl in
      let wider : IsWalk h.events r (Q (entries ++ entry ∷ [])) (Some id) = record {
        here = l.walk.here;
        behind = λ i e p a q c. In-push entries entry (entry_of ops a) (inl (l.walk.behind i e p a q c));
      } in
      record {
        walk = walk-more h.events r (Q (entries ++ entry ∷ [])) id next wider (λ a q e.
            let same = y.history.calls a f.0 (listed-in ops a q) (listed-in ops f.0 f.1) (e ∙ sym f.2) in
            In-push entries entry (entry_of ops a) (inr (ap (entry_of ops) same ∙ sym f.3))) n;
        initial = In-push entries entry _ (inl l.initial);
        only = λ x i. elim (In-push_cases entries entry x i) [
          | inl j ↦ let o = l.only x j in
              (o.0, o.1, o.2, λ j e. omega (arith, o.3 id refl, later id next k n j e))
          | inr e ↦ (f.0, f.1, e ∙ f.3, λ j q. omega (arith, f.2, later id next k n j q))
        ];
        apart = λ u v s. elim (Before-push_cases entries entry u v s) [
          | inl b ↦ l.apart u v b
          | inr b ↦
              let o = l.only u b.0 in
              let at : same_place u v ≡ same_place (entry_of ops o.0) (entry_of ops f.0) =
              ap (λ (z : Entry). same_place z v) o.2
              ∙ ap (λ (z : Entry). same_place (entry_of ops o.0) z) (b.1 ∙ f.3) in
              elim (cases_Bool (same_place (entry_of ops o.0) (entry_of ops f.0))) [
                | inr d ↦ at ∙ d
                | inl d ↦ let e = place-one o.0 f.0 o.1 f.1 d in
                    absurd (omega (arith, o.3 id refl, f.2, ap (λ (z : Operation). z.call) e))
              ]
        ];
      }

  pub listing-end : (entries : List Entry) → IsListingSoFar h.events r ops entries None
      → IsListing ops entries
  listing-end entries l = record {
    only = λ x i. let o = l.only x i in (o.0, o.1, o.2);
    all = λ a q. elim (cases_called a (listed-in ops a q)) [
      | inl e ↦ subst (λ (o : Operation). In (entry_of ops o) entries) (sym e) l.initial
      | inr p ↦
          let b = p.2 in
          walk-end h.events r (Q entries) l.walk (a.call - 2)
          (event-key h r y (a.call - 2) a (listed-in ops a q) (inl (omega arith))) a q (omega arith)
    ];
    apart = pairs_from_Before (λ u v. same_place u v ≡ false) entries l.apart;
  }
