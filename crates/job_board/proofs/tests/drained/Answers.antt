use Rattle.std.proofs.Common.{◌≡◌, ◌++◌, ◌<◌, [], ◌∷◌, sym, ap, subst, ◌∙◌}
use Rattle.job_board.specs.Numbers.{times}
use Rattle.job_board.proofs.Lacking.{lacking}
use Rattle.job_board.proofs.Lacking.{lacks_less, drawn_there}
use Rattle.job_board.proofs.tests.drained.Goals as goal
use Rattle.job_board.proofs.tests.drained.Goals.{then-job-eq3, else-job-eq3}

pub flag-requires-clause-drawn : goal.flag-requires-clause-drawn
flag-requires-clause-drawn c =
    subst (λ v. 0 < times c.in-Some.job v.drawn) (sym c.in-Some.ensures.some.3) (drawn_there _ _)

pub loop-job-smaller : goal.loop-job-smaller
loop-job-smaller c =
    let old = c.loop-job.seat.view in
    let job = c.in-Some.job in
    let some = c.in-Some.ensures.some in
    let less : lacking old.jobs (old.drawn ++ job ∷ []) < lacking old.jobs old.drawn =
    lacks_less old.jobs job old.drawn some.1 some.2 in
    let now = c.if-job-eq3.seat.view in
    let same : (now.jobs ≡ old.jobs) × (now.drawn ≡ old.drawn ++ job ∷ []) = elim c.if-job-eq3.branch [
      | then-job-eq3 w ↦
          let e = ap (λ h. h.view) w.seat-is ∙ w.flag.ensures.flagged in
          (ap (λ v. v.jobs) e ∙ ap (λ v. v.jobs) some.3, ap (λ v. v.drawn) e ∙ ap (λ v. v.drawn) some.3)
      | else-job-eq3 w ↦
          let e = ap (λ h. h.view) w.seat-is ∙ some.3 in
          (ap (λ v. v.jobs) e, ap (λ v. v.drawn) e)
    ] in
    subst (λ k. lacking k now.drawn < lacking old.jobs old.drawn) (sym same.0)
    (subst (λ xs. lacking old.jobs xs < lacking old.jobs old.drawn) (sym same.1) less)
