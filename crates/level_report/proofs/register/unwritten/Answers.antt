use Rattle.std.proofs.Common.{refl, subst, sym, ap, ◌∙◌, ℕ, List, None, Some, inl, inr, Bool, true, false}
use Rattle.history_model.specs.declared.operation.Operation.{Operation}
use Rattle.report_text.specs.declared.level.report.Freshness.{Freshness}
use Rattle.report_text.specs.declared.level.report.KeptGuarantees.{KeptGuarantees}
use Rattle.level_report.specs.Freshness.{without_counts}
use Rattle.level_report.specs.Guarantees.{AreGuarantees, IsOrderShown}
use Rattle.level_report.specs.Ordered.{no_guarantee}
use Rattle.level_report.proofs.Deciding.{line-at, unwritten-everywhere}
use Rattle.level_report.proofs.register.unwritten.Goals as goal

none-ordered : (ops : List Operation) (orders : Bool) (line : ℕ)
    → IsOrderShown ops orders false (no_guarantee line) None
none-ordered ops true line = refl
none-ordered ops false line = refl

pub returns : goal.returns
returns c = λ asked.
    let ops = c.args.ops.now in
    let r = c.requires.read.0 in
    let line = c.line_of-line.ensures ∙ line-at ops c.args.read r c.requires.read.1 in
    let fresh = c.without_counts.ensures ∙ ap (λ n. without_counts (Some n) None) line in
    record {
      freshness = inr (inl (r, c.requires.read.2, fresh));
      guarantees =
          subst (AreGuarantees ops) (sym c.none_kept.ensures)
          (unwritten-everywhere ops r c.line_of-line.result c.requires.history c.requires.read.2.fault line);
      order =
          subst (λ (f : Freshness). IsOrderShown ops asked.orders f.atomic c.none_kept.result None) (sym
          fresh)
          (subst (λ (k : KeptGuarantees). IsOrderShown ops asked.orders false k None) (sym
          c.none_kept.ensures)
          (none-ordered ops asked.orders c.line_of-line.result));
    }
