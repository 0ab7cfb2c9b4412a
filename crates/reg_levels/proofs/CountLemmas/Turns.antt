-- Writes that come one after another, and what precedes a write in a clean register.
use Rattle.std.proofs.Common.{◌≡◌, ◌<◌, List, ◌⊎◌, inl, inr, ap, arith}
use Rattle.history_model.specs.Lists.{In}
use Rattle.history_model.specs.Operations.{IsHistory, IsWrite, Precedes, value_of}
use Rattle.history_model.specs.declared.operation.Operation.{Operation}
use Rattle.reg_zones.specs.Clusters.{IsInCluster, IsKept}
use Rattle.reg_zones.proofs.Ends.{member-is}
use Rattle.reg_levels.specs.Clusters.Clean.{IsClean}

-- no operation of a cluster precedes its write
pub none-first : (ops : List Operation) → IsHistory ops → IsClean ops → (w a : Operation) → IsKept ops w
    → IsInCluster ops (value_of w) a → Precedes a w → ⊥
none-first ops y c w a k m p = elim (member-is ops y w a k m) [
  | inl e ↦
      let life = y.life w k.within in
      let r = ap (λ (x : Operation). x.reply) e in absurd (omega arith)
  | inr r ↦ c.in_time a w (record {
    within = m.within;
    write_within = k.within;
    write = k.write;
    read = r;
    early = p;
  })
]

module _ (ops : List Operation) (y : IsHistory ops)
    (turns : (v w : Operation) → In v ops → In w ops → IsWrite v → IsWrite w
    → (v ≡ w) ⊎ (Precedes v w ⊎ Precedes w v)) where
  -- the write called first precedes the other
  pub first-precedes : (v w : Operation) → In v ops → In w ops → IsWrite v → IsWrite w → v.call < w.call
      → Precedes v w
  first-precedes v w i j k l less = elim (turns v w i j k l) [
    | inl e ↦ let c = ap (λ (x : Operation). x.call) e in absurd (omega arith)
    | inr o ↦ elim o [
      | inl p ↦ p
      | inr p ↦ let life = y.life w j in let life' = y.life v i in absurd (omega arith)
    ]
  ]
