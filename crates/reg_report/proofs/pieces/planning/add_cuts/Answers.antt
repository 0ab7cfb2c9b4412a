use Rattle.std.proofs.Common.{◌≡◌, ℕ, Option, sym, subst, arith}
use Rattle.reg_report.specs.Pieces.Plan.{AreCuts, AreCutsOf}
use Rattle.reg_report.proofs.PieceLemmas.Numbering.{IsCutting, cutting-ends, no-cuts}
use Rattle.reg_report.proofs.pieces.planning.add_cuts.Goals as goal
use Rattle.reg_report.proofs.pieces.planning.add_cuts.Goals.{in-Some, in-None}

pub returns : goal.returns
returns c =
    let e : c.loop-from.from ≡ c.match-count.len =
    omega (arith, c.loop-from-test.false, c.loop-from.invariant.within) in
    let k =
    cutting-ends c.args.cut c.args.register.0 c.match-count.len c.args.tasks.now.items
    c.loop-from.tasks.items
    (subst (λ n. IsCutting c.args.cut c.args.register.0 c.match-count.len n c.args.tasks.now.items
    c.loop-from.tasks.items) e c.loop-from.invariant) in
    elim c.match-count.branch [
      | in-Some w ↦ (
        k.0,
        subst (λ (o : Option ℕ). AreCutsOf c.args.cut c.args.register.0 o k.0)
            (sym w.in-Some.is) (subst (λ n. AreCuts c.args.cut c.args.register.0 0 n k.0) w.len-is k.1),
        k.2,
      )
      | in-None w ↦ (
        k.0,
        subst (λ (o : Option ℕ). AreCutsOf c.args.cut c.args.register.0 o k.0)
            (sym w.in-None.is)
            (no-cuts c.args.cut c.args.register.0 k.0
            (subst (λ n. AreCuts c.args.cut c.args.register.0 0 n k.0) w.len-is k.1)),
        k.2,
      )
    ]
