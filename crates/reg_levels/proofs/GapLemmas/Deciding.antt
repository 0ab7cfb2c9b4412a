-- With reads that may be less than some events old, a register is atomic exactly if it is clean and no two of
-- its clusters conflict.
use Rattle.std.proofs.Common.{◌≡◌, ℕ, ◌+◌, ◌-◌, ◌<◌, ◌≤◌, ◌⊎◌, ◌↔◌, min, max, List, [], ◌∷◌, inl, inr}
use Rattle.std.proofs.Common.{sym, ap, ◌∙◌, arith}
use Rattle.std.proofs.lemmas.Bool.{cases_lt, cases_order}
use Rattle.history_model.specs.Lists.{In}
use Rattle.history_model.specs.Legal.{HasOrderFor}
use Rattle.history_model.specs.Operations.{IsHistory, value_of}
use Rattle.history_model.specs.declared.guarantee.Guarantee.TheVariants.{Sequential, Within}
use Rattle.history_model.specs.declared.operation.Operation.{Operation}
use Rattle.history_model.proofs.Lists.{Before-total, Before-trans}
use Rattle.reg_zones.specs.Clusters.{IsKept, first_reply, last_call}
use Rattle.reg_zones.proofs.Ends.{first_reply-at, first_reply-le, kept-member, last_call-at, last_call-le}
use Rattle.reg_zones.proofs.Ends.{member-is}
use Rattle.reg_zones.proofs.Sorting.{sorted}
use Rattle.reg_levels.specs.Clusters.Clean.{IsClean}
use Rattle.level_laws.specs.Leads.{IsCleanFor, LeadsTo}
use Rattle.level_laws.specs.WriteOrders.{IsWriteOrder}
use Rattle.level_laws.proofs.Decided.{kept-writes, order-of}
use Rattle.level_laws.proofs.Refuted.{clean, forward}
use Rattle.level_laws.proofs.Weaker.{clean-for, none-precedes}
use Rattle.reg_levels.specs.Gap.Conflicts.{IsConflictWithin}

-- ---- clean for reads of some age is clean

not-sequential : (age : ℕ) → Within age ≡ Sequential → ⊥
not-sequential age e = cc e

pub clean-within : (ops : List Operation) (age : ℕ) → IsClean ops → IsCleanFor (Within age) ops
clean-within ops age k = clean-for ops (Within age) k.written k.in_time

pub within-clean : (ops : List Operation) (age : ℕ) → IsCleanFor (Within age) ops → IsClean ops
within-clean ops age k = record {
  written = k.written;
  in_time = none-precedes ops (Within age) (not-sequential age) k;
}

-- an order gives two that lead to each other two places
pub conflict-refutes : (ops : List Operation) (age : ℕ) → IsHistory ops → (v w : Operation)
    → IsConflictWithin age ops v w → HasOrderFor (Within age) ops → ⊥
conflict-refutes ops age y v w k o =
    o.1.completion.once v
    (Before-trans v w v o.0 o.1.completion.once (forward (Within age) ops o.0 y o.1 v w k.one)
    (forward (Within age) ops o.0 y o.1 w v k.other))

-- a strict order of numbers between two clusters of which one leads to the other and not back
rises : (a b c d : ℕ) → a < d → b ≤ c → min (a + a + 1) (b + b) < min (c + c + 1) (d + d)
rises a b c d l m = omega arith

module _ (ops : List Operation) (y : IsHistory ops) (age : ℕ) where
  -- what must come before something of w's cluster replies below this time
  abbrev pub limit : Operation → ℕ
  limit w = max w.call (last_call ops (value_of w) - (age - 1))

  pub leads-below : (v w : Operation) → LeadsTo (Within age) ops v w
      → first_reply ops (value_of v) < limit w
  leads-below v w k =
      let f = first_reply-le ops (value_of v) k.before k.one in
      let l = last_call-le ops (value_of w) k.after k.other in
      let p = k.must.0 in
      elim k.must.1 [
        | inl t ↦
            let e : (k.after).call ≡ w.call =
            ap (λ (x : Operation). x.call)
            (y.values k.after w (k.other).within (k.right).within t (k.right).write (k.other).value) in
            omega (arith, f, l, p, e)
        | inr t ↦ omega (arith, f, l, p, t)
      ]

  pub below-leads : (v w : Operation) → IsKept ops v → IsKept ops w → (value_of v ≡ value_of w → ⊥)
      → first_reply ops (value_of v) < limit w → LeadsTo (Within age) ops v w
  below-leads v w kv kw ne l =
      let a = first_reply-at ops (value_of v) v (kept-member ops v kv) in
      let b = last_call-at ops (value_of w) w (kept-member ops w kw) in
      elim (cases_lt (first_reply ops (value_of v)) w.call) [
        | inl lt ↦ record {
          left = kv;
          right = kw;
          differ = ne;
          before = a.0;
          after = w;
          one = a.1;
          other = kept-member ops w kw;
          must = (omega (arith, a.2, lt), inl kw.write);
        }
        | inr ge ↦ record {
          left = kv;
          right = kw;
          differ = ne;
          before = a.0;
          after = b.0;
          one = a.1;
          other = b.1;
          must = (omega (arith, a.2, b.2, l, ge), inr (omega (arith, a.2, b.2, l, ge)));
        }
      ]

  -- ---- an order of the writes, if no two conflict

  key : Operation → ℕ
  key v = min (first_reply ops (value_of v) + first_reply ops (value_of v) + 1) (limit v + limit v)

  abbrev IsLower : Operation → Operation → Type 0
  IsLower v w = (key v < key w) ⊎ ((key v ≡ key w) × (v.call < w.call))

  lower-total : (v w : Operation) → IsKept ops v → IsKept ops w → (v ≡ w) ⊎ (IsLower v w ⊎ IsLower w v)
  lower-total v w kv kw = elim (cases_order (key v) (key w)) [
    | inr s ↦ inr (elim s [ inl l ↦ inl (inl l) | inr l ↦ inr (inl l) ])
    | inl e ↦ elim (cases_order v.call w.call) [
      | inl c ↦ inl (y.calls v w kv.within kw.within c)
      | inr s ↦ inr (elim s [ inl l ↦ inl (inr (e, l)) | inr l ↦ inr (inr (sym e, l)) ])
    ]
  ]

  lower-trans : (u v w : Operation) → IsKept ops u → IsKept ops v → IsKept ops w → IsLower u v → IsLower v w
      → IsLower u w
  lower-trans u v w ku kv kw (inl p) (inl q) = inl (omega (arith, p, q))
  lower-trans u v w ku kv kw (inl p) (inr q) = inl (omega (arith, p, q.0))
  lower-trans u v w ku kv kw (inr p) (inl q) = inl (omega (arith, p.0, q))
  lower-trans u v w ku kv kw (inr p) (inr q) = inr (p.0 ∙ q.0, omega (arith, p.1, q.1))

  lower-one_way : (v w : Operation) → IsLower v w → IsLower w v → ⊥
  lower-one_way v w (inl p) (inl q) = omega (arith, p, q)
  lower-one_way v w (inl p) (inr q) = omega (arith, p, q.0)
  lower-one_way v w (inr p) (inl q) = omega (arith, p.0, q)
  lower-one_way v w (inr p) (inr q) = omega (arith, p.1, q.1)

  module _ (apart : (v w : Operation) → IsConflictWithin age ops v w → ⊥) where
    leads-lower : (v w : Operation) → LeadsTo (Within age) ops v w → IsLower v w
    unfolding key
    leads-lower v w k = elim (cases_lt (first_reply ops (value_of w)) (limit v)) [
      | inl l ↦ absurd (apart v w (record {
        one = k;
        other = below-leads w v k.right k.left (λ e. k.differ (sym e)) l;
      }))
      | inr l ↦ inl (rises _ _ _ _ (leads-below v w k) l)
    ]

    write-order : (writes : List Operation) × IsWriteOrder (Within age) ops writes
    write-order =
        let p = kept-writes ops in
        let s = sorted (IsKept ops) IsLower lower-total lower-trans p.0 p.1 in
        let there : (v : Operation) → IsKept ops v → In v s.0 = λ v k. s.1.all v (p.2 v k) in (
          s.0,
          record {
            once = λ v b. let l = s.1.ascending v v b in lower-one_way v v l l;
            only = λ v i. p.1 v (s.1.only v i);
            all = there;
            forward = λ v w k. elim (Before-total v w s.0 (there v k.left) (there w k.right)) [
              | inl e ↦ absurd (k.differ (ap value_of e))
              | inr r ↦ elim r [
                | inl b ↦ b
                | inr b ↦ absurd (lower-one_way v w (leads-lower v w k) (s.1.ascending w v b))
              ]
            ];
          },
        )

    pub apart-order : IsClean ops → HasOrderFor (Within age) ops
    apart-order k =
        let o = write-order in order-of (Within age) ops y (clean-within ops age k) o.0 o.1

  pub conflicts-decide : HasOrderFor (Within age) ops
      ↔ (IsClean ops × ((v w : Operation) → IsConflictWithin age ops v w → ⊥))
  conflicts-decide = (
    λ o. (
      within-clean ops age (clean (Within age) ops o.0 y o.1),
      λ v w k. conflict-refutes ops age y v w k o,
    ),
    λ k. apart-order k.1 k.0,
  )

  -- ---- if reads may be as old as they like, writes lead to later writes alone

  module _ (k : IsClean ops) (end : (a : Operation) → In a ops → a.call ≤ age) where
    leads-later : (v w : Operation) → LeadsTo (Within age) ops v w → v.call < w.call
    leads-later v w l =
        let a = l.before in
        let b = l.after in
        let called : v.call < a.reply = elim (member-is ops y v a l.left l.one) [
          | inl e ↦ let life = y.life v (l.left).within in
              let same = ap (λ (x : Operation). x.reply) e in omega (arith, life, same)
          | inr r ↦ elim (cases_order v.call a.reply) [
            | inl e ↦ absurd (y.apart a v (l.one).within (l.left).within (sym e))
            | inr s ↦ elim s [
              | inl lt ↦ lt
              | inr gt ↦ absurd (k.in_time a v (record {
                within = (l.one).within;
                write_within = (l.left).within;
                write = (l.left).write;
                read = r;
                early = gt;
              }))
            ]
          ]
        ] in
        let p = l.must.0 in
        elim l.must.1 [
          | inl t ↦
              let e = ap (λ (x : Operation). x.call) (y.values b w (l.other).within (l.right).within t
              (l.right).write (l.other).value) in
              omega (arith, called, p, e)
          | inr t ↦
              let last = end b (l.other).within in
              let life = y.life a (l.one).within in
              absurd (omega (arith, t, last, life))
        ]

    pub end-apart : (v w : Operation) → IsConflictWithin age ops v w → ⊥
    end-apart v w c = omega (arith, leads-later v w c.one, leads-later w v c.other)

-- the last call of some operations is as late as each
pub last-called : (ops : List Operation) → (age : ℕ) × ((a : Operation) → In a ops → a.call ≤ age)
last-called [] = (0, λ a i. absurd i)
last-called (x ∷ ops) =
    let r = last-called ops in (
      max x.call r.0,
      λ a i. elim i [
        | inl e ↦ let s = ap (λ (z : Operation). z.call) e in omega (arith, s)
        | inr j ↦ let l = r.1 a j in omega (arith, l)
      ],
    )

pub clean-gap : (ops : List Operation) → IsHistory ops
    → (IsClean ops ↔ ((age : ℕ) × HasOrderFor (Within age) ops))
clean-gap ops y = (
  λ k. let n = last-called ops in (n.0, apart-order ops y n.0 (end-apart ops y n.0 k n.1) k),
  λ o. ((conflicts-decide ops y o.0).0 o.1).0,
)
