-- What is decided of the guarantees of a register, by lines.
use Rattle.std.specs.Global.{Global}
use Rattle.std.proofs.Common.{◌≡◌, ℕ, Bool, true, false, List, [], ◌∷◌, map, Option, Some, None, Vec, cond}
use Rattle.std.proofs.Common.{◌&&◌}
use Rattle.std.proofs.Common.{unwrap_or, option_map, refl, sym, ap, ap₂, subst, ◌∙◌, inl, inr, ◌⊎◌}
use Rattle.history_model.specs.Legal.{HasOrderFor}
use Rattle.history_model.specs.Operations.{IsHistory}
use Rattle.history_model.specs.declared.guarantee.Guarantee.{Guarantee}
use Rattle.history_model.specs.declared.guarantee.Guarantee.TheVariants as guarantee
use Rattle.history_model.specs.declared.operation.Operation.{Operation}
use Rattle.reg_zones.specs.Faults.{IsUnwritten}
use Rattle.level_laws.specs.Evidence.{Evidence, IsLevelFault, Link}
use Rattle.level_laws.specs.Evidence.Evidence.{unwritten, early, cycle}
use Rattle.level_laws.proofs.Decided.{decided}
use Rattle.level_laws.proofs.Refuted.{refuted}
use Rattle.level_laws.proofs.Weaker.{session-sequential}
use Rattle.reg_levels.specs.Clusters.Places.{IsAt}
use Rattle.reg_levels.specs.declared.clusters.table.ClusterEnds.{ClusterEnds}
use Rattle.reg_levels.specs.Decisions.{AreStepsOf, IsFaultOf, writes_of}
use Rattle.reg_levels.specs.declared.decision.LevelFault.TheVariants as fault
use Rattle.reg_levels.specs.declared.decision.Step.{Step}
use Rattle.report_text.specs.declared.level.report.FaultLines.{FaultLines}
use Rattle.report_text.specs.declared.level.report.FaultLines.TheVariants.{Unwritten, Cycle}
use Rattle.report_text.specs.declared.level.report.LevelName.{LevelName}
use Rattle.report_text.specs.declared.level.report.LevelName.TheVariants as level
use Rattle.level_report.specs.Guarantees.{AreGuarantees, IsFaultShown, IsGuaranteeOf, IsVerdict}
use Rattle.level_report.specs.Guarantees.{or_else, ShowsEvidence, step_lines, strongest, write_line}
use Rattle.level_report.specs.Lines.{line_of, step_of}
use Rattle.level_report.specs.Ordered.{AreClustersFor, every_guarantee, guarantees_found, IsFound}
use Rattle.level_report.specs.Ordered.{IsOrdered, KeepsOrder, no_guarantee, ordered_or}
use Rattle.level_report.specs.declared.guarantees.Found.{Found}
use Rattle.level_report.specs.declared.guarantees.Ordered.{Ordered}

-- ---- lines

pub line-at : (ops : List Operation) (p : ℕ) (a : Operation) → IsAt ops p a → line_of ops p ≡ a.line
line-at ops p a at = ap (λ (o : Option Operation). unwrap_or (option_map (λ (b : Operation). b.line) o) 0) at

steps-shown : (ops : List Operation) (steps : List Step) (links : List Link) → AreStepsOf ops steps links
    → (map (step_of ops) steps ≡ map step_lines links)
    × (map (λ (s : Step). line_of ops s.write) steps ≡ map write_line links)
steps-shown ops [] [] h = (refl, refl)
steps-shown ops [] (l ∷ ls) h = absurd h
steps-shown ops (s ∷ ss) [] h = absurd h
steps-shown ops (s ∷ ss) (l ∷ ls) h =
    let rest = steps-shown ops ss ls h.1 in
    let before = line-at ops s.before l.before h.0.before in
    let after = line-at ops s.after l.after h.0.after in
    let write = line-at ops s.write l.write h.0.write in (
      ap₂ (λ p (ps : List (ℕ × ℕ)). p ∷ ps) (ap₂ (λ x y. (x, y)) before after) rest.0,
      ap₂ (λ n (ns : List ℕ). n ∷ ns) write rest.1,
    )

pub cycle-shown : (ops : List Operation) (steps : Vec Step Global) (pairs : Vec (ℕ × ℕ) Global)
    (writes : Vec ℕ Global) → pairs.items ≡ map (step_of ops) steps.items
    → writes.items ≡ map (λ (s : Step). line_of ops s.write) steps.items
    → (e : Evidence) → IsFaultOf ops (fault.Cycle steps) e → ShowsEvidence e (Cycle pairs writes)
cycle-shown ops steps pairs writes p w (unwritten r) h = absurd h
cycle-shown ops steps pairs writes p w (early r v) h = absurd h
cycle-shown ops steps pairs writes p w (cycle links) h =
    let shown = steps-shown ops steps.items links h in (p ∙ shown.0, w ∙ shown.1)

-- ---- what is found of one guarantee

pub order-keeps : (g : Guarantee) (ops : List Operation) (clusters : List ClusterEnds) (order : List ℕ)
    → IsHistory ops → KeepsOrder g ops clusters order → HasOrderFor g ops
order-keeps g ops clusters order y k = (decided g ops y).1 (k.clean, (writes_of ops clusters order, k.writes))

pub found-kept : (g : Guarantee) (ops : List Operation) (clusters : List ClusterEnds) (order : Vec ℕ Global)
    → IsHistory ops → KeepsOrder g ops clusters order.items
    → IsFound g ops clusters (record { kept = true; fault = None; clusters = Some order })
found-kept g ops clusters order y k = record {
  verdict = (order-keeps g ops clusters order.items y k, refl);
  order = (order, refl, k);
}

pub found-broken : (g : Guarantee) (ops : List Operation) (clusters : List ClusterEnds) (lines : FaultLines)
    (e : Evidence) → IsHistory ops → IsLevelFault g ops e → ShowsEvidence e lines
    → IsFound g ops clusters (record { kept = false; fault = Some lines; clusters = None })
found-broken g ops clusters lines e y f s = record {
  verdict = (λ o. refuted g ops e y f o, (lines, refl, (e, f, s)));
  order = refl;
}

-- ---- what is found of all

pub session-kept : (ops : List Operation) → HasOrderFor guarantee.Session ops → AreGuarantees ops
    every_guarantee
session-kept ops o = record {
  session = (o, refl, refl, refl, refl, refl);
  sequential = (session-sequential ops o, refl);
}

module _ (ops : List Operation) (clusters : List ClusterEnds) (whole own monotonic sequential : Found)
    (w : IsFound guarantee.Session ops clusters whole) (broken : whole.kept ≡ false)
    (o : IsFound guarantee.OwnWrites ops clusters own)
    (m : IsFound guarantee.Monotonic ops clusters monotonic)
    (s : IsFound guarantee.Sequential ops clusters sequential) where
  whole-broken : (HasOrderFor guarantee.Session ops → ⊥)
      × ((lines : FaultLines) × (whole.fault ≡ Some lines) × IsFaultShown guarantee.Session ops lines)
  whole-broken = subst (λ b. IsVerdict guarantee.Session ops b whole.fault) broken w.verdict

  both-kept : own.kept ≡ true → monotonic.kept ≡ true
      → cond (own.kept && monotonic.kept) whole.fault None ≡ whole.fault
  both-kept p q = ap₂ (λ a b. cond (a && b) whole.fault None) p q

  one-broken : (own.kept ≡ false) ⊎ (monotonic.kept ≡ false)
      → cond (own.kept && monotonic.kept) whole.fault None ≡ None
  one-broken (inl p) = ap (λ a. cond (a && monotonic.kept) whole.fault None) p
  one-broken (inr q) = go own.kept
    where
      go : (a : Bool) → cond (a && monotonic.kept) whole.fault None ≡ None
      go true = ap (λ b. cond b whole.fault None) q
      go false = refl

  pub without-session : AreGuarantees ops (guarantees_found whole own monotonic sequential)
  without-session = record {
    session = (
      whole-broken.0,
      record {
        own = own.kept;
        monotonic = monotonic.kept;
        own_writes = refl;
        monotonic_is = refl;
        own_verdict = o.verdict;
        monotonic_verdict = m.verdict;
        both = λ p q. (whole-broken.1.0, both-kept p q ∙ whole-broken.1.1, whole-broken.1.2);
        one = one-broken;
      },
    );
    sequential = s.verdict;
  }

  -- of a level, or of the next one
  or-next : (g : Guarantee) (name : LevelName) → IsGuaranteeOf name g → (kept : Bool)
      (found : Option (Vec ℕ Global)) → AreClustersFor g ops clusters kept found
      → (next : Option LevelName) (then : Option Ordered) → IsOrdered ops clusters next then
      → IsOrdered ops clusters (or_else kept name next) (ordered_or name found then)
  or-next g name is true found h next then rest =
      (record { level = name; clusters = h.0 }, ap (λ f. ordered_or name f then) h.1, refl, (g, is, h.2))
  or-next g name is false found h next then rest =
      subst (λ f. IsOrdered ops clusters next (ordered_or name f then)) (sym h) rest

  pub found-ordered : IsOrdered ops clusters (strongest false (guarantees_found whole own monotonic
      sequential))
      (ordered_or level.OwnWrites own.clusters (ordered_or level.Monotonic monotonic.clusters
      (ordered_or level.Sequential sequential.clusters None)))
  found-ordered =
      or-next guarantee.OwnWrites level.OwnWrites refl own.kept own.clusters o.order _ _
      (or-next guarantee.Monotonic level.Monotonic refl monotonic.kept monotonic.clusters m.order _ _
      (or-next guarantee.Sequential level.Sequential refl sequential.kept sequential.clusters s.order None
      None
      refl))

pub session-ordered : (ops : List Operation) (clusters : List ClusterEnds) (found : Found)
    → IsFound guarantee.Session ops clusters found → found.kept ≡ true
    → IsOrdered ops clusters (Some level.Session) (ordered_or level.Session found.clusters None)
session-ordered ops clusters found f kept =
    let h = subst (λ b. AreClustersFor guarantee.Session ops clusters b found.clusters) kept f.order in (
      record { level = level.Session; clusters = h.0 },
      ap (λ c. ordered_or level.Session c None) h.1,
      refl,
      (guarantee.Session, refl, h.2),
    )

-- ---- an unwritten read rules each guarantee out

pub unwritten-everywhere : (ops : List Operation) (r : Operation) (line : ℕ) → IsHistory ops → IsUnwritten
    ops r
    → line ≡ r.line → AreGuarantees ops (no_guarantee line)
unwritten-everywhere ops r line y u at = record {
  session = (
    λ o. refuted guarantee.Session ops (unwritten r) y u o,
    record {
      own = false;
      monotonic = false;
      own_writes = refl;
      monotonic_is = refl;
      own_verdict = none guarantee.OwnWrites;
      monotonic_verdict = none guarantee.Monotonic;
      both = λ p q. absurd (cc p);
      one = λ h. refl;
    },
  );
  sequential = none guarantee.Sequential;
}
  where
    none : (g : Guarantee) → IsVerdict g ops false (Some (Unwritten line))
    none g = (λ o. refuted g ops (unwritten r) y u o, (Unwritten line, refl, (unwritten r, u, at)))
