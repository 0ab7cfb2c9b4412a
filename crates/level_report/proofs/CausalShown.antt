-- What is decided of a history by places is shown by lines.
use Rattle.std.specs.Global.{Global}
use Rattle.std.proofs.Common.{◌≡◌, ℕ, zero, suc, ◌+◌, List, [], ◌∷◌, ◌++◌, length, map, slice_get, Option}
use Rattle.std.proofs.Common.{Some}
use Rattle.std.proofs.Common.{None, Vec, inl, inr, refl, sym, ap, subst, ◌∙◌, arith}
use Rattle.std.proofs.lemmas.Bool.{cases_order}
use Rattle.std.proofs.lemmas.List.{length-append, map-append}
use Rattle.std.proofs.lemmas.Option.{slice_get_within}
use Rattle.history_model.proofs.Lists.{slice_get-push, slice_get-push_other}
use Rattle.history_model.specs.declared.operation.Operation.{Operation}
use Rattle.level_laws.specs.CausalFault.{CausalFault, Reason, Step, first_of}
use Rattle.level_laws.specs.CausalFault.CausalFault.{unwritten, cycle}
use Rattle.level_laws.specs.CausalFault.Reason.{process, read, initial, hidden}
use Rattle.causal_order.specs.Decisions.{AreAt, AreStepsOf, IsCycleOf, IsKnew, IsShown, IsWhyOf}
use Rattle.causal_order.specs.declared.decision.CausalFault.TheVariants as Fault
use Rattle.causal_order.specs.declared.decision.CausalStep.{CausalStep}
use Rattle.causal_order.specs.declared.decision.Why.{Why}
use Rattle.causal_order.specs.declared.decision.Why.TheVariants.{Process, Read, Initial, Hidden}
use Rattle.reg_levels.specs.Decisions.{operations_of_places}
use Rattle.report_text.specs.declared.level.causal.CausalFaultLines.TheVariants as Lines
use Rattle.report_text.specs.declared.level.causal.StepLines.{StepLines}
use Rattle.level_report.specs.Causal.{AreStepsShown, IsCycleShown, IsReasonShown, IsWayShown}
use Rattle.level_report.specs.Causal.{ShowsCausalFault}
use Rattle.level_report.specs.Lines.{line_of}
use Rattle.level_report.specs.Steps.{AreFirstStepLines, AreLinesIf, AreStepLines, IsReasonLines, IsStepLines}
use Rattle.level_report.specs.Steps.{lines_at}

module _ (ops : List Operation) where
  pub line-at : (p : ℕ) (a : Operation) → slice_get ops p ≡ Some a → line_of ops p ≡ a.line
  line-at p a at = rw at refl

  lines-at-are : (places : List ℕ) (way : List Operation) → AreAt ops places way
      → lines_at ops places ≡ map (λ (b : Operation). b.line) way
  lines-at-are [] [] at = refl
  lines-at-are [] (a ∷ way) at = elim at [ ]
  lines-at-are (p ∷ ps) [] at = elim at [ ]
  lines-at-are (p ∷ ps) (a ∷ way) at =
      let first = line-at p a at.0 in
      let rest = lines-at-are ps way at.1 in
      ap (λ n. n ∷ lines_at ops ps) first ∙ ap (λ ls. a.line ∷ ls) rest

  pub operations-are : (places : List ℕ) (order : List Operation) → AreAt ops places order
      → operations_of_places ops places ≡ order
  operations-are [] [] at = refl
  operations-are [] (a ∷ order) at = elim at [ ]
  operations-are (p ∷ ps) [] at = elim at [ ]
  operations-are (p ∷ ps) (a ∷ order) at =
      let found = at.0 in rw found (ap (λ rest. a ∷ rest) (operations-are ps order at.1))

  way-shown : (a r : Operation) (p q : ℕ) (knew lines : Option (Vec ℕ Global)) → slice_get ops p ≡ Some a
      → slice_get ops q ≡ Some r → IsKnew ops a p r q knew → AreLinesIf ops knew lines
      → IsWayShown ops a r lines
  way-shown a r p q None lines from to knew is = subst (IsWayShown ops a r) (sym is) tt
  way-shown a r p q (Some places) lines from to knew is =
      subst (IsWayShown ops a r) (sym is.1) (
        knew.way,
        knew.is_way,
        is.2
            ∙ ap (lines_at ops) knew.places
            ∙ ap (λ n. n ∷ lines_at ops (knew.between ++ q ∷ [])) (line-at p a from)
            ∙ ap (λ ls. a.line ∷ ls) (map-append (line_of ops) knew.between (q ∷ [])
            ∙ ap (λ ls. ls ++ line_of ops q ∷ []) (lines-at-are knew.between knew.way knew.at_way)
            ∙ ap (λ n. map (λ (b : Operation). b.line) knew.way ++ n ∷ []) (line-at q r to)
            ∙ sym (map-append (λ (b : Operation). b.line) knew.way (r ∷ []))),
      )

  reason-shown : (a : Operation) (p : ℕ) (why : Why) (reason : Reason) (lines : StepLines)
      → slice_get ops p ≡ Some a → IsWhyOf ops a p why reason → IsReasonLines ops why lines
      → IsReasonShown ops a reason lines
  reason-shown a p Process process lines at of is = is
  reason-shown a p Process read lines at of is = elim of [ ]
  reason-shown a p Process initial lines at of is = elim of [ ]
  reason-shown a p Process (hidden r) lines at of is = elim of [ ]
  reason-shown a p Read process lines at of is = elim of [ ]
  reason-shown a p Read read lines at of is = is
  reason-shown a p Read initial lines at of is = elim of [ ]
  reason-shown a p Read (hidden r) lines at of is = elim of [ ]
  reason-shown a p Initial process lines at of is = elim of [ ]
  reason-shown a p Initial read lines at of is = elim of [ ]
  reason-shown a p Initial initial lines at of is = is
  reason-shown a p Initial (hidden r) lines at of is = elim of [ ]
  reason-shown a p (Hidden q knew) process lines at of is = elim of [ ]
  reason-shown a p (Hidden q knew) read lines at of is = elim of [ ]
  reason-shown a p (Hidden q knew) initial lines at of is = elim of [ ]
  reason-shown a p (Hidden q knew) (hidden r) lines at of is =
      (is.0, is.1 ∙ ap Some (line-at q r of.0), way-shown a r p q knew lines.knew at of.0 of.1 is.2)

  steps-shown : (steps : List Step) (b : Operation) (shown : List CausalStep) (lines : List StepLines)
      → length lines ≡ length shown
      → ((i : ℕ) (step : CausalStep) (found : StepLines) → slice_get shown i ≡ Some step
      → slice_get lines i ≡ Some found → IsStepLines ops step found)
      → AreStepsOf ops shown steps b → AreStepsShown ops steps b lines
  steps-shown [] b [] [] count each of = tt
  steps-shown [] b [] (l ∷ lines) count each of = absurd (omega (arith, count))
  steps-shown [] b (x ∷ shown) lines count each of = elim of [ ]
  steps-shown (s ∷ steps) b [] lines count each of = elim of [ ]
  steps-shown (s ∷ steps) b (x ∷ shown) [] count each of = absurd (omega (arith, count))
  steps-shown (s ∷ steps) b (x ∷ shown) (l ∷ lines) count each of =
      let first = each zero x l refl refl in
      let step = of.0 in (
        first.from ∙ line-at x.from s.from step.at_from,
        first.to ∙ line-at x.to (first_of steps b) step.at_to,
        reason-shown s.from x.from x.why s.why l step.at_from step.reason first.why,
        steps-shown steps b shown lines (omega (arith, count)) (λ i. each (suc i)) of.1,
      )

  cycle-of-lines : (steps : List Step) (shown : List CausalStep) (lines : List StepLines)
      → AreStepLines ops shown lines → IsCycleOf ops shown steps → IsCycleShown ops steps lines
  cycle-of-lines [] shown lines are of = elim of [ ]
  cycle-of-lines (s ∷ steps) shown lines are of =
      steps-shown (s ∷ steps) s.from shown lines are.count are.each of

-- the lines of one step more
pub one-step-more : (ops : List Operation) (steps : List CausalStep) (n : ℕ) (lines new : List StepLines)
    (step : CausalStep) (found : StepLines) → AreFirstStepLines ops steps n lines
    → slice_get steps n ≡ Some step → IsStepLines ops step found → new ≡ lines ++ found ∷ []
    → AreFirstStepLines ops steps (n + 1) new
one-step-more ops steps n lines new step found are at is made = subst (AreFirstStepLines ops steps (n + 1))
    (sym made) (record {
      count = (let both = length-append lines (found ∷ []) in omega (arith, both, are.count));
      each = each;
    })
  where
    each : (i : ℕ) (s : CausalStep) (f : StepLines) → slice_get steps i ≡ Some s
        → slice_get (lines ++ found ∷ []) i ≡ Some f → IsStepLines ops s f
    each i s f there got = elim (cases_order i (length lines)) [
      | inl e ↦
          let k : i ≡ n = e ∙ are.count in
          let same-step : step ≡ s = let a = ap (slice_get steps) k in cc (a, at, there) in
          let last = slice_get-push lines found in
          let b = ap (slice_get (lines ++ found ∷ [])) e in
          let same-found : found ≡ f = cc (b, last, got) in
          subst (λ x. IsStepLines ops x f) same-step (subst (IsStepLines ops step) same-found is)
      | inr c ↦ elim c [
        | inl below ↦
            let other = slice_get-push_other lines found i (λ e. omega (arith, e, below)) in
            are.each i s f there (sym other ∙ got)
        | inr above ↦
            let w = slice_get_within (lines ++ found ∷ []) i f got in
            let both = length-append lines (found ∷ []) in
            absurd (omega (arith, w, both, above))
      ]
    ]

-- ---- faults

pub read-shown : (ops : List Operation) (p line : ℕ) → line ≡ line_of ops p → (evidence : CausalFault)
    → IsShown ops (Fault.Unwritten p) evidence → ShowsCausalFault ops evidence (Lines.Unwritten line)
read-shown ops p line is (unwritten r) at = is ∙ line-at ops p r at
read-shown ops p line is (cycle steps) at = elim at [ ]

pub cycle-shown : (ops : List Operation) (shown : Vec CausalStep Global) (lines : Vec StepLines Global)
    → AreStepLines ops shown.items lines.items → (evidence : CausalFault)
    → IsShown ops (Fault.Cycle shown) evidence → ShowsCausalFault ops evidence (Lines.Cycle lines)
cycle-shown ops shown lines are (unwritten r) of = elim of [ ]
cycle-shown ops shown lines are (cycle steps) of = cycle-of-lines ops steps shown.items lines.items are of
