-- Two clusters never share a low end.
use Rattle.std.proofs.Common.{◌≡◌, Option, List, inl, inr, sym, ap, ◌∙◌, arith}
use Rattle.std.proofs.lemmas.Bool.{cases_Bool, cases_lt}
use Rattle.history_text.specs.declared.event.Val.{Val}
use Rattle.history_model.specs.Operations.{IsHistory, value_of}
use Rattle.history_model.specs.declared.operation.Operation.{Operation}
use Rattle.reg_zones.specs.Clusters.{IsInCluster, IsKept, first_reply, last_call, low_end}
use Rattle.reg_zones.proofs.Ends.{kept-member, first_reply-at, last_call-at}

module _ (ops : List Operation) (y : IsHistory ops) where
  -- two clusters with one low end are one
  pub low_apart : (v u : Option Val) (a b : Operation) → IsInCluster ops v a → IsInCluster ops u b
      → low_end ops v ≡ low_end ops u → v ≡ u
  low_apart v u a b m n e =
      let f = first_reply-at ops v a m in
      let s = last_call-at ops v a m in
      let g = first_reply-at ops u b n in
      let t = last_call-at ops u b n in
      elim (cases_lt (first_reply ops v) (last_call ops v)) [
        | inl p ↦ elim (cases_lt (first_reply ops u) (last_call ops u)) [
          | inl q ↦ elim (cases_Bool f.0.completed) [
            | inl d ↦ elim (cases_Bool g.0.completed) [
              | inl k ↦ sym f.1.value
                  ∙ (ap value_of
                  (y.replies f.0 g.0 f.1.within g.1.within d k (omega (arith, f.2, g.2))) ∙ g.1.value)
              | inr k ↦ absurd (omega (arith, y.pending g.0 t.0 g.1.within t.1.within k, g.2, t.2))
            ]
            | inr d ↦ absurd (omega (arith, y.pending f.0 s.0 f.1.within s.1.within d, f.2, s.2))
          ]
          | inr q ↦ absurd (y.apart f.0 t.0 f.1.within t.1.within (omega (arith, f.2, t.2)))
        ]
        | inr p ↦ elim (cases_lt (first_reply ops u) (last_call ops u)) [
          | inl q ↦ absurd (y.apart g.0 s.0 g.1.within s.1.within (omega (arith, g.2, s.2)))
          | inr q ↦ sym s.1.value
              ∙ (ap value_of
              (y.calls s.0 t.0 s.1.within t.1.within (omega (arith, s.2, t.2))) ∙ t.1.value)
        ]
      ]

  pub same_low : (u w : Operation) → IsKept ops u → IsKept ops w
      → low_end ops (value_of u) ≡ low_end ops (value_of w) → u ≡ w
  same_low u w a b e =
      y.values u w a.within b.within a.write b.write
      (low_apart (value_of u) (value_of w) u w (kept-member ops u a) (kept-member ops w b) e)
