-- What an operation knows: what it learns of at once, and what that knows.
use Rattle.std.proofs.Common.{◌≡◌, ℕ, suc, ◌<◌, List, [], ◌∷◌, slice_get, Option, Some, None}
use Rattle.std.proofs.Common.{◌⊎◌, inl, inr, refl, sym, ap, subst, ◌∙◌, arith}
use Rattle.std.proofs.lemmas.Bool.{false≢true}
use Rattle.history_model.specs.Lists.{In}
use Rattle.history_model.specs.Operations.{is_write}
use Rattle.history_model.specs.declared.operation.Operation.{Operation}
use Rattle.history_model.proofs.Lists.{slice_get-In}
use Rattle.level_laws.specs.Causal.{IsSource, IsWay, Knows, Learns}
use Rattle.level_laws.proofs.CausalLemmas.Knowing.{knows-further, learned}
use Rattle.level_laws.proofs.CausalLemmas.Whole.{one-source, own}
use Rattle.reg_levels.proofs.ClusterLemmas.Places.{In-at}
use Rattle.causal_order.specs.SessionClocks.Clocks.{IsLearning}
use Rattle.causal_order.specs.SessionClocks.Sessions.{HasSession, IsAt, IsPrevious, IsSourceAt}
use Rattle.causal_order.specs.declared.session_clocks.table.SessionTable.{SessionTable}
use Rattle.causal_order.proofs.SessionClockLemmas.Ordered.{at-once, at-one, calls_ascend, places_ascend}
use Rattle.causal_order.proofs.SessionClockLemmas.Ordered.{split_below}

-- b learns at once of d, which is a or knows of it
pub record LearnsLast (ops : List Operation) (a b : Operation) : Type 0 where
  pub last : Operation
  pub within : In last ops
  pub learns : Learns last b
  pub knows : (a ≡ last) ⊎ Knows ops a last

module _ (ops : List Operation) where
  last-of : (a b : Operation) (way : List Operation) → IsWay ops a way b → LearnsLast ops a b
  last-of a b [] w = record { last = a; within = w.0; learns = w.2; knows = inl refl }
  last-of a b (c ∷ way) w =
      let r = last-of c b way w.2 in
      record {
        last = r.last;
        within = r.within;
        learns = r.learns;
        knows = inr (elim r.knows [
          | inl e ↦ learned ops a r.last w.0 r.within (subst (Learns a) e w.1)
          | inr k ↦ (c ∷ k.0, (w.0, w.1, k.1))
        ]);
      }

  pub learns-last : (a b : Operation) → Knows ops a b → LearnsLast ops a b
  learns-last a b k = last-of a b k.0 k.1

-- it is the operation at the place that was found, or that knows of it
abbrev pub IsKnownBy : List Operation → Option ℕ → Operation → Type 0
IsKnownBy ops found a =
    (d : ℕ) × (c : Operation) × (found ≡ Some d) × IsAt ops d c × ((a ≡ c) ⊎ Knows ops a c)

module _ (ops : List Operation) (table : SessionTable) (order : List ℕ) (y : IsLearning ops table order) where
  -- an initial write knows nothing
  pub initial-knows : (a d : Operation) → d.process ≡ None → In d ops → Knows ops a d → ⊥
  initial-knows a d n i k =
      let r = learns-last ops a d k in
      elim r.learns [
        | inl s ↦ elim s [
          | inl t ↦ let e : None ≡ Some t.0 = sym n ∙ t.2 in cc e
          | inr t ↦ let e : None ≡ Some t.1.0 = sym n ∙ t.1.1 in cc e
        ]
        | inr s ↦
            let is = (y.whole.each d.register).initial d (own ops y.whole d i) n in
            false≢true (sym s.read.read ∙ ap is_write is)
      ]

  -- who is of a session was called
  pub session-process : (p s : ℕ) (a : Operation) → IsAt ops p a → HasSession table p s → a.process ≡ None → ⊥
  session-process p s a at h n =
      let e : Some (Some s) ≡ Some None = sym h ∙ y.sessions.none p a at n in cc e

  module _ (p s : ℕ) (b : Operation) (at : IsAt ops p b) (session : HasSession table p s)
      (before source : Option ℕ) (is_before : IsPrevious ops p b before) (is_source : IsSourceAt ops b source)
    where
      in-b : In b ops
      in-b = slice_get-In ops p b at

      -- what b knows is itself, or what the two know of which it learns at once
      module _ (k q : ℕ) (a : Operation) (at_a : IsAt ops k a) (session_a : HasSession table k q) where
        in-a : In a ops
        in-a = slice_get-In ops k a at_a

        pub own-known : q ≡ s → k < suc p → (a ≡ b) ⊎ Knows ops a b
        own-known e l = elim (split_below k p l) [
          | inr m ↦ inl (at-one ops p a b (sym (ap (slice_get ops) m) ∙ at_a) at)
          | inl m ↦
              let one = (y.sessions.same p k s b a at at_a session).0
              (subst (HasSession table k) e session_a) in
              elim (named b.process refl) [
                | inl n ↦ absurd (session-process p s b at session n)
                | inr x ↦ inr
                    (learned ops a b in-a in-b
                    (inl
                    (inl
                    (x.0, sym one ∙ x.1, x.1, calls_ascend ops y.called k p x.0 a b m at_a at x.1))))
              ]
        ]
          where
            named : (o : Option ℕ) → b.process ≡ o → (b.process ≡ None) ⊎ ((x : ℕ) × (b.process ≡ Some x))
            named None h = inl h
            named (Some x) h = inr (x, h)

        further : (c : Operation) → In c ops → Learns c b → (a ≡ c) ⊎ Knows ops a c → Knows ops a b
        further c i l (inl e) = learned ops a b in-a in-b (subst (λ o. Learns o b) (sym e) l)
        further c i l (inr h) = knows-further ops a c b h in-b l

        pub before-known : IsKnownBy ops before a → Knows ops a b
        before-known h = go before refl is_before
          where
            go : (found : Option ℕ) → before ≡ found → IsPrevious ops p b found → Knows ops a b
            go None e is = let bad : None ≡ Some h.0 = sym e ∙ h.2 in absurd (cc bad)
            go (Some d) e is =
                let place : Some d ≡ Some h.0 = sym e ∙ h.2 in
                let one : d ≡ h.0 = cc place in
                let same = at-one ops d is.1 h.1 is.3 (ap (slice_get ops) one ∙ h.3) in
                let call = calls_ascend ops y.called d p is.0 is.1 b is.2 is.3 at is.4 in
                further is.1 (slice_get-In ops d is.1 is.3) (inl (inl (is.0, is.5, is.4, call)))
                (elim h.4 [ inl t ↦ inl (t ∙ sym same) | inr t ↦ inr (subst (Knows ops a) (sym same) t) ])

        pub source-known : IsKnownBy ops source a → Knows ops a b
        source-known h = go source refl is_source
          where
            go : (found : Option ℕ) → source ≡ found → IsSourceAt ops b found → Knows ops a b
            go None e is = let bad : None ≡ Some h.0 = sym e ∙ h.2 in absurd (cc bad)
            go (Some d) e is =
                let place : Some d ≡ Some h.0 = sym e ∙ h.2 in
                let one : d ≡ h.0 = cc place in
                let same = at-one ops d is.0 h.1 is.1 (ap (slice_get ops) one ∙ h.3) in
                further is.0 (slice_get-In ops d is.0 is.1) (inr is.2)
                (elim h.4 [ inl t ↦ inl (t ∙ sym same) | inr t ↦ inr (subst (Knows ops a) (sym same) t) ])

        -- a is what b learned of last, or is known of that; which came before b in its session
        by-before : (d : Operation) (x : ℕ) → In d ops → d.process ≡ Some x → b.process ≡ Some x
            → d.call < b.call → (a ≡ d) ⊎ Knows ops a d → IsKnownBy ops before a
        by-before d x i e f l h = go before refl is_before
          where
            place : (m : ℕ) × IsAt ops m d
            place = In-at ops d i

            below : place.0 < p
            below = places_ascend ops y.called place.0 p x d b place.1 at e l

            go : (found : Option ℕ) → before ≡ found → IsPrevious ops p b found → IsKnownBy ops before a
            go None t is = absurd (is place.0 x d below place.1 f e)
            go (Some j) t is =
                let name : Some is.0 ≡ Some x = sym is.4 ∙ f in
                let same : is.0 ≡ x = cc name in
                let most = is.6 place.0 d below place.1 (e ∙ ap Some (sym same)) in (
                  j,
                  is.1,
                  t,
                  is.3,
                  elim (split_below place.0 j (omega (arith, most))) [
                    | inr m ↦
                        let one = at-one ops j d is.1 (sym (ap (slice_get ops) m) ∙ place.1) is.3 in
                        elim h [ inl u ↦ inl (u ∙ one) | inr u ↦ inr (subst (Knows ops a) one u) ]
                    | inl m ↦
                        let call = calls_ascend ops y.called place.0 j is.0 d is.1 m place.1 is.3 is.5 in
                        let in-c = slice_get-In ops j is.1 is.3 in
                        let l : Learns d is.1 = inl (inl (is.0, e ∙ ap Some (sym same), is.5, call)) in
                        inr (elim h [
                          | inl u ↦ learned ops a is.1 in-a in-c (subst (λ o. Learns o is.1) (sym u) l)
                          | inr u ↦ knows-further ops a d is.1 u in-c l
                        ])
                  ],
                )

        by-source : (d : Operation) → In d ops → IsSource d b → (a ≡ d) ⊎ Knows ops a d
            → IsKnownBy ops source a
        by-source d i l h = go source refl is_source
          where
            go : (found : Option ℕ) → source ≡ found → IsSourceAt ops b found → IsKnownBy ops source a
            go None t is = absurd (is (record { read = l.read.read; completed = l.read.completed }))
            go (Some j) t is =
                let one = one-source ops y.whole d is.0 b i (slice_get-In ops j is.0 is.1) l is.2 in
                (j, is.0, t, is.1, elim h [ inl u ↦ inl (u ∙ one) | inr u ↦ inr (subst (Knows ops a) one u) ])

        pub known-own : a ≡ b → (q ≡ s) × (k < suc p)
        known-own e =
            let one = at-once ops y.called k p a at_a (at ∙ ap Some (sym e)) in
            let both : Some (Some q) ≡ Some (Some s) = sym session_a
            ∙ (ap (slice_get table.numbers.items) one ∙ session) in
            let same : q ≡ s = cc both in
            (same, omega (arith, one))

        pub known-further : Knows ops a b → IsKnownBy ops before a ⊎ IsKnownBy ops source a
        known-further h =
            let r = learns-last ops a b h in
            elim r.learns [
              | inl t ↦ elim t [
                | inl u ↦ inl (by-before r.last u.0 r.within u.1 u.2 u.3 r.knows)
                | inr u ↦ absurd (elim r.knows [
                  | inl e ↦
                      session-process k q a at_a session_a (ap (λ (o : Operation). o.process) e ∙ u.0)
                  | inr e ↦ initial-knows a r.last u.0 r.within e
                ])
              ]
              | inr t ↦ inr (by-source r.last r.within t r.knows)
            ]
