-- A register gives a guarantee exactly if it is clean for it and its kept writes have an order in which each
-- stands before those that it leads to.
use Rattle.std.proofs.Common.{◌≡◌, ◌⊎◌, ◌↔◌, List, [], ◌∷◌, inl, inr, refl, sym, ap, subst, ◌∙◌, arith}
use Rattle.std.proofs.lemmas.Bool.{cases_Bool, cases_order, false≢true}
use Rattle.history_model.specs.Lists.{In, Before}
use Rattle.history_model.specs.Operations.{IsHistory, is_write, value_of}
use Rattle.history_model.specs.declared.guarantee.Guarantee.{Guarantee}
use Rattle.history_model.specs.declared.operation.Operation.{Operation}
use Rattle.history_model.specs.Legal.{HasOrderFor, IsLegalFor}
use Rattle.reg_zones.specs.Clusters.{IsKept}
use Rattle.reg_zones.specs.Order.{IsListed}
use Rattle.history_model.proofs.Lists.{Before-first, Before-second, Before-total, Before-trans}
use Rattle.reg_zones.proofs.Complete.{listed-in}
use Rattle.reg_zones.proofs.Exists.{find_read}
use Rattle.reg_zones.proofs.Sorting.{sorted}
use Rattle.level_laws.specs.Leads.{IsCleanFor}
use Rattle.level_laws.specs.WriteOrders.{ComesSooner, IsWriteOrder}
use Rattle.level_laws.proofs.Expanded.{expansion-legal, write-of, same-write}
use Rattle.level_laws.proofs.Refuted.{clean, forward}
use Rattle.reg_zones.proofs.Standing.{kept-in}

-- ---- kept writes and listed operations among the operations

kept-or : (ops : List Operation) (a : Operation) → In a ops → IsKept ops a ⊎ (IsKept ops a → ⊥)
kept-or ops a i = elim (cases_Bool (is_write a)) [
  | inr f ↦ inr (λ k. false≢true (sym f ∙ k.write))
  | inl t ↦ elim (cases_Bool a.completed) [
    | inl d ↦ inl (record { within = i; write = t; kept = inl d })
    | inr n ↦ elim (find_read ops a) [
      | inl r ↦ inl (record { within = i; write = t; kept = inr r })
      | inr m ↦ inr (λ k. elim k.kept [
        | inl d ↦ false≢true (sym n ∙ d)
        | inr r ↦ m r.0 r.1 r.2
      ])
    ]
  ]
]

listed-or : (ops : List Operation) (a : Operation) → In a ops → IsListed ops a ⊎ (IsListed ops a → ⊥)
listed-or ops a i = elim (kept-or ops a i) [
  | inl k ↦ inl (inl k)
  | inr n ↦ elim (cases_Bool (is_write a)) [
    | inl t ↦ inr (λ l. elim l [ inl k ↦ n k | inr r ↦ false≢true (sym r.1.read ∙ t) ])
    | inr f ↦ elim (cases_Bool a.completed) [
      | inl d ↦ inl (inr (i, record { read = f; completed = d }))
      | inr m ↦ inr (λ l. elim l [ inl k ↦ n k | inr r ↦ false≢true (sym m ∙ r.1.completed) ])
    ]
  ]
]

-- those of a list that have a property, each of which is decided
those : {X : Type 0} (P : X → Type 0) (xs : List X) → ((x : X) → In x xs → P x ⊎ (P x → ⊥))
    → (ys : List X) × ((x : X) → In x ys → P x) × ((x : X) → In x xs → P x → In x ys)
those P [] d = ([], λ x i. absurd i, λ x i p. i)
those P (a ∷ xs) d =
    let r = those P xs (λ x i. d x (inr i)) in
    elim (d a (inl refl)) [
      | inl p ↦ (
        a ∷ r.0,
        λ x i. elim i [ inl e ↦ subst P (sym e) p | inr j ↦ r.1 x j ],
        λ x i q. elim i [ inl e ↦ inl e | inr j ↦ inr (r.2 x j q) ],
      )
      | inr n ↦ (
        r.0,
        r.1,
        λ x i q. elim i [ inl e ↦ absurd (n (subst P e q)) | inr j ↦ r.2 x j q ],
      )
    ]

pub kept-writes : (ops : List Operation) → (writes : List Operation)
    × ((w : Operation) → In w writes → IsKept ops w) × ((w : Operation) → IsKept ops w → In w writes)
kept-writes ops =
    let p = those (IsKept ops) ops (λ a i. kept-or ops a i) in (p.0, p.1, λ w k. p.2 w k.within k)

module _ (g : Guarantee) (ops : List Operation) (y : IsHistory ops) where
  -- ---- from an order of the operations to one of the writes

  pub writes-of : (order : List Operation) → IsLegalFor g ops order
      → (writes : List Operation) × IsWriteOrder g ops writes
  writes-of order l =
      let p = kept-writes ops in
      let s =
      sorted (IsKept ops) (λ v w. Before v w order)
      (λ v w kv kw. Before-total v w order (kept-in g ops order y l v kv) (kept-in g ops order y l w kw))
      (λ u v w _ _ _ b c. Before-trans u v w order l.completion.once b c) p.0 p.1 in (
        s.0,
        record {
          once = λ v b. l.completion.once v (s.1.ascending v v b);
          only = λ v i. p.1 v (s.1.only v i);
          all = λ v k. s.1.all v (p.2 v k);
          forward = λ v w k. go s.0 v w (s.1.all v (p.2 v k.left)) (s.1.all w (p.2 w k.right))
              s.1.ascending (forward g ops order y l v w k)
              (λ e. k.differ (ap value_of e)) l.completion.once;
        },
      )
    where
      go : (writes : List Operation) (v w : Operation) → In v writes → In w writes
          → ((a b : Operation) → Before a b writes → Before a b order) → Before v w order → (v ≡ w → ⊥)
          → ((a : Operation) → Before a a order → ⊥) → Before v w writes
      go writes v w i j up b ne once = elim (Before-total v w writes i j) [
        | inl e ↦ absurd (ne e)
        | inr s ↦ elim s [
          | inl c ↦ c
          | inr c ↦ absurd (once v (Before-trans v w v order once b (up w v c)))
        ]
      ]

  -- ---- from an order of the writes to one of the operations

  module _ (ok : IsCleanFor g ops) (writes : List Operation) (o : IsWriteOrder g ops writes) where
    total : (a b : Operation) → IsListed ops a → IsListed ops b
        → (a ≡ b) ⊎ (ComesSooner writes a b ⊎ ComesSooner writes b a)
    total a b la lb =
        let v = write-of g ops y ok a la in
        let w = write-of g ops y ok b lb in
        elim (Before-total v.0 w.0 writes (o.all v.0 v.1) (o.all w.0 w.1)) [
          | inr r ↦ inr (elim r [
            | inl s ↦ inl (inl (v.0, w.0, s, v.2, w.2))
            | inr s ↦ inr (inl (w.0, v.0, s, w.2, v.2))
          ])
          | inl e ↦ same (sym v.2 ∙ (ap value_of e ∙ w.2))
        ]
      where
        same : value_of a ≡ value_of b → (a ≡ b) ⊎ (ComesSooner writes a b ⊎ ComesSooner writes b a)
        same e = elim (cases_Bool (is_write a)) [
          | inl t ↦ elim (cases_Bool (is_write b)) [
            | inl u ↦ inl (y.values a b (listed-in ops a la) (listed-in ops b lb) t u e)
            | inr f ↦ inr (inl (inr (e, inl (t, f))))
          ]
          | inr f ↦ elim (cases_Bool (is_write b)) [
            | inl u ↦ inr (inr (inr (sym e, inl (u, f))))
            | inr h ↦ elim (cases_order a.call b.call) [
              | inl c ↦ inl (y.calls a b (listed-in ops a la) (listed-in ops b lb) c)
              | inr r ↦ inr (elim r [
                | inl lt ↦ inl (inr (e, inr (f ∙ sym h, lt)))
                | inr gt ↦ inr (inr (sym e, inr (h ∙ sym f, gt)))
              ])
            ]
          ]
        ]

    same-in : (v w : Operation) → In v writes → In w writes → value_of v ≡ value_of w → v ≡ w
    same-in v w i j e = same-write g ops y ok v w (o.only v i) (o.only w j) e

    trans : (a b c : Operation) → IsListed ops a → IsListed ops b → IsListed ops c → ComesSooner writes a b
        → ComesSooner writes b c → ComesSooner writes a c
    trans a b c la lb lc (inl p) (inl q) =
        let e =
        same-in q.0 p.1 (Before-first q.0 q.1 writes q.2) (Before-second p.0 p.1 writes p.2) (q.3
        ∙ sym p.4) in
        inl (
          p.0,
          q.1,
          Before-trans p.0 p.1 q.1 writes o.once p.2 (subst (λ x. Before x q.1 writes) e q.2),
          p.3,
          q.4,
        )
    trans a b c la lb lc (inl p) (inr q) = inl (p.0, p.1, p.2, p.3, p.4 ∙ q.0)
    trans a b c la lb lc (inr p) (inl q) = inl (q.0, q.1, q.2, q.3 ∙ sym p.0, q.4)
    trans a b c la lb lc (inr p) (inr q) = inr (
      p.0 ∙ q.0,
      elim p.1 [
        | inl s ↦ elim q.1 [ inl t ↦ absurd (false≢true (sym s.1 ∙ t.0)) | inr t ↦ inl (s.0, sym t.0 ∙ s.1) ]
        | inr s ↦ elim q.1 [
          | inl t ↦ inl (s.0 ∙ t.0, t.1)
          | inr t ↦ inr (s.0 ∙ t.0, omega (arith, s.1, t.1))
        ]
      ],
    )

    pub order-of : HasOrderFor g ops
    order-of =
        let p = those (IsListed ops) ops (λ a i. listed-or ops a i) in
        let s = sorted (IsListed ops) (ComesSooner writes) total trans p.0 p.1 in (
          s.0,
          expansion-legal g ops y ok writes o s.0 (record {
            listed = λ a i. p.1 a (s.1.only a i);
            all = λ a l. s.1.all a (p.2 a (listed-in ops a l) l);
            ascending = s.1.ascending;
          }),
        )

  pub decided : HasOrderFor g ops
      ↔ (IsCleanFor g ops × ((writes : List Operation) × IsWriteOrder g ops writes))
  decided = (
    λ h. (clean g ops h.0 y h.1, writes-of h.0 h.1),
    λ d. order-of d.0 d.1.0 d.1.1,
  )
