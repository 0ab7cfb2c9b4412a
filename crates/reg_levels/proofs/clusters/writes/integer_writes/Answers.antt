use Rattle.std.proofs.Common.{◌≡◌, ◌<◌, ◌+◌, ℤ, cond, get_or, length, Some, sym, subst, arith}
use Rattle.std.proofs.Common.{FitsSigned, w64, rules}
use Rattle.std.proofs.Math.Facts.{to_z-of_z}
use Rattle.std.specs.BTreeMap.{get}
use Rattle.std.specs.Ordering.{int_cmp, int_eq}
use Rattle.reg_levels.specs.Clusters.Steps.{AreIntegerWrites}
use Rattle.reg_levels.proofs.ClusterLemmas.Places.{at-get, nothing}
use Rattle.reg_levels.proofs.ClusterLemmas.Written.{integers_more, integers_same}
use Rattle.reg_levels.proofs.ClusterLemmas.Places.{plain-get}
use Rattle.reg_levels.proofs.clusters.writes.integer_writes.Goals as goal
use Rattle.reg_levels.proofs.clusters.writes.integer_writes.Goals.{in-Some+in_ok-insert, in_default}

pub loop-place-preserved : goal.loop-place-preserved
loop-place-preserved c =
    let ops = c.args.ops.now in
    let i = c.loop-place.place in
    let a = get_or ops i nothing in
    let below : i < length ops = omega arith in
    let at = at-get ops i below in
    elim c.match-integer_written.branch [
      | in-Some+in_ok-insert w ↦
          let m = w.in-Some.value in
          let fits : FitsSigned w64 m = search rules in
          let is = subst (λ k. (n : ℤ) → get int_cmp w.insert.new.self n
          ≡ cond (int_eq k n) (Some i) (get int_cmp c.loop-place.writes n)) (to_z-of_z fits)
          w.in_ok-insert.ensures.updates.0 in
          subst (AreIntegerWrites ops (i + 1)) (sym w.writes-is)
          (integers_more ops i a at c.loop-place.writes w.insert.new.self m w.in-Some.ensures is
          c.loop-place.invariant)
      | in_default w ↦
          subst (AreIntegerWrites ops (i + 1)) (sym w.writes-is)
          (integers_same ops i a at c.loop-place.writes w.in_default.ensures c.loop-place.invariant)
    ]

pub returns : goal.returns
returns c =
    let all : c.loop-place.place ≡ length c.args.ops.now = omega arith in
    subst (λ i. AreIntegerWrites c.args.ops.now i c.loop-place.writes) all c.loop-place.invariant

pub integer_written-requires : goal.integer_written-requires
integer_written-requires c = plain-get c.args.ops.now c.requires.history c.loop-place.place (omega arith)
