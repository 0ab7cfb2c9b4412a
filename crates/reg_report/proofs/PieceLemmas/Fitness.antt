-- A task of a plan can be done.
use Rattle.std.proofs.Common.{◌≡◌, ℕ, ◌<◌, ◌≤◌, length, slice_get, Some}
use Rattle.std.proofs.Common.{inl, inr, sym, ap, subst, ◌∙◌, arith}
use Rattle.std.proofs.lemmas.Option.{slice_get_within}
use Rattle.history_model.specs.History.{History}
use Rattle.history_model.specs.Lamport.{HasSingleWriter, completed_reads}
use Rattle.history_model.specs.declared.ids.RegId.{RegId}
use Rattle.reg_lamport.specs.Counts.{IsReadCount}
use Rattle.history_model.specs.Operations.{register_of}
use Rattle.reg_report.specs.Pieces.Plan.{IsPieceAt, IsPieceOf, IsPlan, IsSomePlan, PlanShown}
use Rattle.reg_report.specs.declared.pieces.bad_reads.BadReads.{BadReads}
use Rattle.reg_report.specs.declared.pieces.judgement.Judgement.{Judgement}
use Rattle.reg_report.specs.declared.pieces.piece.Piece.{Piece}
use Rattle.reg_report.specs.declared.pieces.piece.Piece.TheVariants as piece
use Rattle.reg_report.specs.declared.pieces.piece.Piece.TheVariants.{Judged, Skipped}
use Rattle.reg_report.specs.declared.pieces.tasks.Task.{Task}
use Rattle.reg_report.specs.declared.pieces.tasks.Task.TheVariants.{Judge, Reads, First}
use Rattle.reg_report.proofs.PieceLemmas.Numbering.{IsFit, tasks-fit}

-- a part of the completed reads of register r, which has a single writer
pub record IsOwnPart (h : History) (r from to : ℕ) : Type 0 where
  pub writer : HasSingleWriter (register_of h r)
  pub part : (from ≤ to) × (to ≤ length (completed_reads (register_of h r)))

no-judgement-skipped : (judgement : Judgement) → Judged judgement ≡ Skipped → ⊥
no-judgement-skipped judgement e = cc e

no-reads-skipped : (reads : BadReads) → piece.Reads reads ≡ Skipped → ⊥
no-reads-skipped reads e = cc e

module _ (h : History) (plan : PlanShown) (p : (cut : ℕ) × IsPlan h cut plan) (number : ℕ) (t : Task)
    (at : slice_get plan.tasks number ≡ Some t) where
  fit : IsFit 0 plan.counts t
  fit = tasks-fit p.0 0 plan.counts plan.tasks number t p.1.numbered at

  register-there : (register : RegId) → t ≡ Judge register → register.0 < length h.names
  register-there register e =
      let f = subst (IsFit 0 plan.counts) e fit in omega (arith, f.1, p.1.counts.registers)

  -- a cut is of a register with a single writer, and within its completed reads
  has-part : (register : RegId) (from to : ℕ) → t ≡ Reads register from to → IsOwnPart h register.0 from to
  has-part register from to e =
      let f = subst (IsFit 0 plan.counts) e fit in
      let n : f.0 ≡ register.0 = omega (arith, f.2) in
      let c : IsReadCount h register.0 (Some f.1) =
      p.1.counts.each register.0 (Some f.1) (ap (slice_get plan.counts) (sym n) ∙ f.3) in
      record { writer = c.0; part = (f.4, omega (arith, f.5, c.1)) }

  no-first : (register : RegId) → t ≡ First register → ⊥
  no-first register e = subst (IsFit 0 plan.counts) e fit

  pub not-skipped : (x : Piece) → IsPieceOf h t x → x ≡ Skipped → ⊥
  not-skipped x f s = go t fit f
    where
      go : (u : Task) → IsFit 0 plan.counts u → IsPieceOf h u x → ⊥
      go (Judge k) i j = absurd (no-judgement-skipped j.0 (sym j.1 ∙ s))
      go (Reads k from to) i j = absurd (no-reads-skipped j.0 (sym j.1 ∙ s))
      go (First k) i j = i

-- ---- a task of any plan

no-first-judge : (k register : RegId) → First k ≡ Judge register → ⊥
no-first-judge k register e = cc e

no-first-reads : (k register : RegId) (from to : ℕ) → First k ≡ Reads register from to → ⊥
no-first-reads k register from to e = cc e

same-register : (k register : RegId) → First k ≡ First register → k.0 ≡ register.0
same-register k register e = let same : k ≡ register = cc e in ap (λ (r : RegId). r.0) same

module _ (h : History) (plan : PlanShown) (p : IsSomePlan h plan) (number : ℕ) (t : Task)
    (at : slice_get plan.tasks number ≡ Some t) where
  -- only a whole plan judges registers
  judge-whole : (register : RegId) → t ≡ Judge register → (cut : ℕ) × IsPlan h cut plan
  judge-whole register e = elim p [
    | inl f ↦ absurd (no-first-judge (record { 0 = number }) register (sym (f.each number t at) ∙ e))
    | inr w ↦ w
  ]

  -- and only a whole plan has cuts
  reads-whole : (register : RegId) (from to : ℕ) → t ≡ Reads register from to → (cut : ℕ) × IsPlan h cut plan
  reads-whole register from to e = elim p [
    | inl f ↦ absurd (no-first-reads (record { 0 = number }) register from to (sym (f.each number t at) ∙ e))
    | inr w ↦ w
  ]

  pub judge-fits : (register : RegId) → t ≡ Judge register → register.0 < length h.names
  judge-fits register e = register-there h plan (judge-whole register e) number t at register e

  pub cut-fits : (register : RegId) (from to : ℕ) → t ≡ Reads register from to
      → IsOwnPart h register.0 from to
  cut-fits register from to e =
      has-part h plan (reads-whole register from to e) number t at register from to e

  pub first-fits : (register : RegId) → t ≡ First register → register.0 < length h.names
  first-fits register e = elim p [
    | inl f ↦ let same = same-register (record { 0 = number }) register (sym (f.each number t at) ∙ e) in
        let l = slice_get_within plan.tasks number t at in omega (arith, same, l, f.registers)
    | inr w ↦ absurd (no-first h plan w number t at register e)
  ]

  pub piece-done : (u : Task) (x : Piece) → t ≡ u → IsPieceOf h u x → IsPieceAt h plan.tasks number x
  piece-done u x e f = (t, at, subst (λ y. IsPieceOf h y x) (sym e) f)
