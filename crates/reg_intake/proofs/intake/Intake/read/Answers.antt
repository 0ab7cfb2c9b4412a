-- The whole lines are read, and their bytes are forgotten.
use Rattle.std.proofs.Common.{ℕ, List, Bool, map, ap₂, refl, subst, ◌∙◌}
use Rattle.history_text.specs.declared.lines.Span.{Span}
use Rattle.history_text.specs.Lines.{AreWhole}
use Rattle.history_text.specs.Reading.{AreReadWhole, reading_of}
use Rattle.reg_intake.proofs.WholeRead.{read-of}
use Rattle.reg_intake.proofs.intake.Intake.read.Goals as goal

pub returns-clause-read : goal.returns-clause-read
returns-clause-read g c =
    let old = c.args.self.now in
    let whole = c.in_ok-whole.whole in
    read-of old _ whole _
    (subst (λ (bytes : List ℕ). AreWhole bytes old.next_line old.pulled.is_ended whole) c.held.ensures
    (subst (λ (ended : Bool). AreWhole c.held.result.now old.next_line ended whole) c.is_ended.ensures
    c.in_ok-whole.ensures.whole))
    (subst (λ (bytes : List ℕ). AreReadWhole bytes old.next_line old.pulled.is_ended whole) c.held.ensures
    (subst (λ (ended : Bool). AreReadWhole c.held.result.now old.next_line ended whole) c.is_ended.ensures
    c.in_ok-whole.ensures.readings))
    (c.in_ok-parts.ensures
    ∙ ap₂ (λ (bytes : List ℕ) (spans : List Span). map
    (reading_of bytes) spans) c.held-2.ensures c.deref.ensures.value)
    c.forget.ensures refl refl
