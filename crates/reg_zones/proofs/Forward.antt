-- The first conflict is with the last forward zone.
use Rattle.std.proofs.Common.{◌≡◌, ◌<◌, List, inl, inr, ap, arith}
use Rattle.std.proofs.lemmas.Bool.{cases_lt}
use Rattle.history_model.specs.Operations.{IsHistory, value_of}
use Rattle.history_model.specs.declared.operation.Operation.{Operation}
use Rattle.reg_zones.proofs.LowEnds.{same_low}
use Rattle.reg_zones.specs.Clusters.{first_reply, last_call, low_end, IsConflict}
use Rattle.reg_zones.specs.Clusters.{IsLastForward, IsClearBelow, IsFirstConflict}

-- a zone that conflicts with an earlier one, before any other does, does so with the last forward one
pub last_forward : (ops : List Operation) (v w : Operation) → IsConflict ops v w
    → low_end ops (value_of v) < low_end ops (value_of w) → IsClearBelow ops (low_end ops (value_of w))
    → IsLastForward ops v (low_end ops (value_of w))
last_forward ops v w c lt clear =
    let one = c.one in
    let other = c.other in
    record {
      kept = c.left;
      forward =
          elim (cases_lt (first_reply ops (value_of v)) (last_call ops (value_of v))) [
            | inl p ↦ p
            | inr p ↦ absurd (omega arith)
          ];
      below = lt;
      last = λ u k p q. elim (cases_lt (low_end ops (value_of v)) (low_end ops (value_of u))) [
        | inr r ↦ r
        | inl r ↦ absurd (clear v u (record {
          left = c.left;
          right = k;
          differ = λ e. let same = ap (low_end ops) e in omega arith;
          one = omega arith;
          other = omega arith;
        }) r q)
      ];
    }

-- so there is one such pair only
pub one_conflict : (ops : List Operation) (v w a b : Operation) → IsHistory ops → IsFirstConflict ops v w
    → IsFirstConflict ops a b → (v ≡ a) × (w ≡ b)
one_conflict ops v w a b y f g =
    let lw : low_end ops (value_of w) ≡ low_end ops (value_of b) =
    elim (cases_lt (low_end ops (value_of w)) (low_end ops (value_of b))) [
      | inl p ↦ absurd (g.first v w f.conflict f.order p)
      | inr p ↦ elim (cases_lt (low_end ops (value_of b)) (low_end ops (value_of w))) [
        | inl q ↦
            absurd (f.first a b g.conflict g.order q)
        | inr q ↦ omega arith
      ]
    ] in
    let m = last_forward ops v w f.conflict f.order f.first in
    let n = last_forward ops a b g.conflict g.order g.first in
    let p = m.last a n.kept n.forward (omega (arith, n.below, lw)) in
    let q = n.last v m.kept m.forward (omega (arith, m.below, lw)) in (
      same_low ops y v a m.kept n.kept (omega (arith, p, q)),
      same_low ops y w b f.conflict.right g.conflict.right lw,
    )
