-- Orders for the strongest level, by lines.
use Rattle.std.proofs.Common.{◌≡◌, ◌∙◌, List, Option, Some, None, Bool, true, false, refl, subst, sym, ap}
use Rattle.std.specs.Prelude.{IfSome}
use Rattle.std.proofs.lemmas.Option.{same_Some}
use Rattle.history_model.specs.declared.operation.Operation.{Operation}
use Rattle.reg_levels.specs.declared.clusters.table.ClusterEnds.{ClusterEnds}
use Rattle.report_text.specs.declared.level.report.LevelName.{LevelName}
use Rattle.report_text.specs.declared.level.report.LevelName.TheVariants as level
use Rattle.report_text.specs.declared.level.report.OrderLines.{OrderLines}
use Rattle.level_report.specs.Guarantees.{IsGuaranteeOf, IsOrderFor, KeepsLevel, or_else}
use Rattle.level_report.specs.Ordered.{IsOrdered, IsOrderedBy}
use Rattle.level_report.specs.declared.guarantees.Ordered.{Ordered}

module _ (ops : List Operation) (clusters : List ClusterEnds) where
  pub lines-for : (ordered : Ordered) (shown : OrderLines) → shown.level ≡ ordered.level
      → KeepsLevel ops ordered.level shown.lines.items → (name : Option LevelName)
      → IsOrdered ops clusters name (Some ordered) → IsOrderFor ops name (Some shown)
  lines-for ordered shown same keeps None h = absurd (cc h)
  lines-for ordered shown same keeps (Some name) h =
      let is = same_Some _ _ h.1 in
      let named = ap (λ (o : Ordered). o.level) is ∙ h.2 in
      (shown, refl, same ∙ named, subst (λ n. KeepsLevel ops n shown.lines.items) named keeps)

  ordered-some : (name : Option LevelName) (found : Option Ordered) → IsOrdered ops clusters name found
      → IfSome found (IsOrderedBy ops clusters)
  ordered-some None found h = subst (λ o. IfSome o (IsOrderedBy ops clusters)) (sym h) tt
  ordered-some (Some name) found h =
      subst (λ o. IfSome o (IsOrderedBy ops clusters)) (sym h.1)
      (h.3.0, subst (λ n. IsGuaranteeOf n h.3.0) (sym h.2) h.3.1, h.3.2)

  -- what is found for a level is an order of it, whether the register is atomic or not
  pub some-ordered : (atomic : Bool) (weaker found : Option Ordered)
      → (atomic ≡ false → (name : Option LevelName) × IsOrdered ops clusters name weaker)
      → ((name : Option LevelName) → (atomic ≡ false → IsOrdered ops clusters name weaker)
      → IsOrdered ops clusters (or_else atomic level.Atomic name) found)
      → IfSome found (IsOrderedBy ops clusters)
  some-ordered true weaker found known is =
      ordered-some (Some level.Atomic) found (is None (λ e. absurd (cc e)))
  some-ordered false weaker found known is =
      let w = known refl in ordered-some w.0 found (is w.0 (λ e. w.1))
