use Rattle.std.proofs.Common.{◌+◌, ◌∙◌, length, slice_get, ap, sym, inl, inr}
use Rattle.std.proofs.lemmas.List.{length_push}
use Rattle.reg_report.specs.declared.pieces.tasks.Task.TheVariants.{First}
use Rattle.reg_report.proofs.PieceLemmas.Pushed.{push-cases}
use Rattle.reg_report.proofs.pieces.planning.first_plan.Goals as goal

pub loop-number-preserved : goal.loop-number-preserved
loop-number-preserved c =
    let l = c.loop-number in
    let n = l.number in
    let new = c.in_ok-push.ensures.items in
    record {
      count =
          ap length new ∙ (length_push l.tasks.items (First (record { 0 = n }))
          ∙ ap (λ k. k + 1) l.invariant.count);
      each =
          λ r t e. elim (push-cases l.tasks.items (First (record { 0 = n })) t r
          (sym (ap (λ xs. slice_get xs r) new) ∙ e)) [
            | inl k ↦ l.invariant.each r t k
            | inr k ↦ sym k.1 ∙ ap (λ m. First (record { 0 = m })) (sym (k.0 ∙ l.invariant.count))
          ];
    }
