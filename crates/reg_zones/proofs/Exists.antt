-- A canonical order exists, so a register without a fault is atomic.
use Rattle.std.proofs.Common.{◌≡◌, List, [], ◌∷◌, ◌⊎◌, ◌↔◌, inl, inr, refl, sym, subst, ◌∙◌, arith}
use Rattle.std.proofs.lemmas.Bool.{cases_Bool, cases_order, false≢true}
use Rattle.history_model.specs.Legal.{IsAtomic}
use Rattle.history_model.specs.Lists.{In}
use Rattle.history_model.specs.Operations.{IsWrite, IsCompleted, IsCompletedRead, value_of}
use Rattle.history_model.specs.declared.operation.Operation.{Operation}
use Rattle.history_model.specs.Operations.{IsReadOf, IsHistory, is_write}
use Rattle.reg_zones.proofs.Complete.{listed-in, listed-member, legal}
use Rattle.reg_zones.proofs.LowEnds.{low_apart}
use Rattle.reg_zones.proofs.Sorting.{sorted, picked}
use Rattle.reg_zones.proofs.Sound.{sound}
use Rattle.reg_zones.proofs.Values.{cases_value}
use Rattle.reg_zones.specs.Clusters.{low_end}
use Rattle.reg_zones.specs.Faults.{HasNoFault}
use Rattle.reg_zones.specs.Order.{IsListed, IsSooner, IsCanonical}

-- a completed read of a write, or that there is none
pub find_read : (ops : List Operation) (w : Operation) → ((r : Operation) × In r ops × IsReadOf w r)
    ⊎ ((r : Operation) → In r ops → IsReadOf w r → ⊥)
find_read [] w = inr (λ r i k. elim i [ ])
find_read (a ∷ ops) w =
    let no : (IsReadOf w a → ⊥) → ((r : Operation) → In r ops → IsReadOf w r → ⊥) → (r : Operation)
    → In r (a ∷ ops) → IsReadOf w r → ⊥ =
    λ n m r i k. elim i [ inl s ↦ n (subst (IsReadOf w) s k) | inr j ↦ m r j k ] in
    elim (find_read ops w) [
      | inl r ↦ inl (r.0, inr r.1, r.2)
      | inr m ↦ elim (cases_value (value_of a) (value_of w)) [
        | inr d ↦ inr (no (λ k. d k.value) m)
        | inl e ↦ elim (cases_Bool (is_write a)) [
          | inl t ↦ inr (no (λ k. false≢true (sym k.read ∙ t)) m)
          | inr f ↦ elim (cases_Bool a.completed) [
            | inl d ↦ inl (a, inl refl, record { read = f; completed = d; value = e })
            | inr n ↦ inr (no (λ k. false≢true (sym n ∙ k.completed)) m)
          ]
        ]
      ]
    ]

-- what makes an operation of the history a listed one
Counts : List Operation → Operation → Type 0
Counts ops a = (IsWrite a × (IsCompleted a ⊎ ((r : Operation) × In r ops × IsReadOf a r))) ⊎ IsCompletedRead a

counts : (ops : List Operation) (a : Operation) → Counts ops a ⊎ (Counts ops a → ⊥)
unfolding Counts
counts ops a = elim (cases_Bool (is_write a)) [
  | inl t ↦ elim (cases_Bool a.completed) [
    | inl d ↦ inl (inl (t, inl d))
    | inr n ↦ elim (find_read ops a) [
      | inl r ↦ inl (inl (t, inr r))
      | inr m ↦ inr (λ q. elim q [
        | inl k ↦ elim k.1 [ inl d ↦ false≢true (sym n ∙ d) | inr r ↦ m r.0 r.1 r.2 ]
        | inr k ↦ false≢true (sym k.read ∙ t)
      ])
    ]
  ]
  | inr f ↦ elim (cases_Bool a.completed) [
    | inl d ↦ inl (inr (record { read = f; completed = d }))
    | inr n ↦ inr (λ q. elim q [
      | inl k ↦ false≢true (sym f ∙ k.0)
      | inr k ↦ false≢true (sym n ∙ k.completed)
    ])
  ]
]

listed-from : (ops : List Operation) (a : Operation) → In a ops → Counts ops a → IsListed ops a
unfolding Counts
listed-from ops a i (inl k) = inl (record { within = i; write = k.0; kept = k.1 })
listed-from ops a i (inr r) = inr (i, r)

listed-counts : (ops : List Operation) (a : Operation) → IsListed ops a → Counts ops a
unfolding Counts
listed-counts ops a (inl k) = inl (k.write, k.kept)
listed-counts ops a (inr r) = inr r.1

module _ (ops : List Operation) (y : IsHistory ops) where
  pub sooner_total : (a b : Operation) → IsListed ops a → IsListed ops b
      → (a ≡ b) ⊎ (IsSooner ops a b ⊎ IsSooner ops b a)
  sooner_total a b la lb = elim (cases_order (low_end ops (value_of a)) (low_end ops (value_of b))) [
    | inr r ↦ inr (elim r [ inl lt ↦ inl (inl lt) | inr gt ↦ inr (inl gt) ])
    | inl e ↦
        let v =
        low_apart ops y (value_of a) (value_of b) a b (listed-member ops a la) (listed-member ops b lb) e in
        elim (cases_Bool (is_write a)) [
          | inl t ↦ elim (cases_Bool (is_write b)) [
            | inl u ↦ inl (y.values a b (listed-in ops a la) (listed-in ops b lb) t u v)
            | inr g ↦ inr (inl (inr (e, inl (t, g))))
          ]
          | inr f ↦ elim (cases_Bool (is_write b)) [
            | inl u ↦ inr (inr (inr (sym e, inl (u, f))))
            | inr g ↦ elim (cases_order a.call b.call) [
              | inl c ↦ inl (y.calls a b (listed-in ops a la) (listed-in ops b lb) c)
              | inr r ↦ inr (elim r [
                | inl lt ↦ inl (inr (e, inr (f ∙ sym g, lt)))
                | inr gt ↦ inr (inr (sym e, inr (g ∙ sym f, gt)))
              ])
            ]
          ]
        ]
  ]

  sooner_trans : (a b c : Operation) → IsListed ops a → IsListed ops b → IsListed ops c → IsSooner ops a b
      → IsSooner ops b c → IsSooner ops a c
  sooner_trans a b c la lb lc (inl p) (inl q) = inl (omega arith)
  sooner_trans a b c la lb lc (inl p) (inr q) = inl (omega (arith, q.0))
  sooner_trans a b c la lb lc (inr p) (inl q) = inl (omega (arith, p.0))
  sooner_trans a b c la lb lc (inr p) (inr q) = inr (
    p.0 ∙ q.0,
    elim p.1 [
      | inl s ↦ elim q.1 [ inl t ↦ absurd (false≢true (sym s.1 ∙ t.0)) | inr t ↦ inl (s.0, sym t.0 ∙ s.1) ]
      | inr s ↦ elim q.1 [ inl t ↦ inl (s.0 ∙ t.0, t.1) | inr t ↦ inr (s.0 ∙ t.0, omega (arith, s.1, t.1)) ]
    ],
  )

  pub canonical : (order : List Operation) × IsCanonical ops order
  canonical =
      let p = picked (Counts ops) (counts ops) ops in
      let s =
      sorted (IsListed ops) (IsSooner ops) sooner_total sooner_trans p.0
      (λ a i. listed-from ops a (p.1 a i).0 (p.1 a i).1) in (
        s.0,
        record {
          listed = λ a i. let k = p.1 a (s.1.only a i) in listed-from ops a k.0 k.1;
          all = λ a l. s.1.all a (p.2 a (listed-in ops a l) (listed-counts ops a l));
          ascending = s.1.ascending;
        },
      )

  pub decides : IsAtomic ops ↔ HasNoFault ops
  decides = (λ a. sound ops a.0 y a.1, λ ok. (canonical.0, legal ops y ok canonical.0 canonical.1))
