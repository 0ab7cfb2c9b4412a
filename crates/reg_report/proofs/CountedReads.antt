-- What a plan has of one register's reads.
use Rattle.std.proofs.Common.{◌≡◌, ℕ, List, ◌++◌, length, slice_get, Option, Some, None, sym, ap, subst, ◌∙◌}
use Rattle.std.proofs.lemmas.Option.{same_Some}
use Rattle.history_model.specs.History.{History}
use Rattle.history_model.specs.Lamport.{completed_reads}
use Rattle.history_model.specs.Operations.{register_of}
use Rattle.reg_lamport.specs.Counts.{IsReadCount}
use Rattle.reg_report.specs.Cuts.{HasCuts, HasCutsOf, cuts_ahead}
use Rattle.reg_report.specs.Pieces.Plan.{AreCutsOf, IsPlan, PlanShown}
use Rattle.reg_report.specs.declared.pieces.tasks.Task.{Task}

module _ (h : History) (cut r : ℕ) (plan : PlanShown) (p : IsPlan h cut plan) (o : Option ℕ)
    (at : slice_get plan.counts r ≡ Some o) where
  -- a register with a single writer has the cuts of all its completed reads
  pub read-cuts : (count : ℕ) (tasks : List Task) → o ≡ Some count → HasCutsOf r plan tasks
      → HasCuts r (length (completed_reads (register_of h r))) tasks
  read-cuts count tasks s c =
      let same : c.1 ≡ Some count = same_Some _ _ (sym c.4 ∙ at) ∙ s in
      let own : IsReadCount h r (Some count) = subst (IsReadCount h r) s (p.counts.each r o at) in
      subst (λ n. HasCuts r n tasks) own.1 (
        c.0,
        c.2,
        c.3,
        subst (λ x. AreCutsOf c.0 r x c.2) same c.5,
        c.6,
        c.7,
      )

  -- a register with several writers has no cuts
  pub none-ahead : (tasks : List Task) → o ≡ None → HasCutsOf r plan tasks → cuts_ahead tasks ≡ 0
  none-ahead tasks s c =
      let same : c.1 ≡ None = same_Some _ _ (sym c.4 ∙ at) ∙ s in
      ap cuts_ahead (c.6 ∙ ap (λ ts. ts ++ c.3) (subst (λ y. AreCutsOf c.0 r y c.2) same c.5)) ∙ c.7
