-- Each turn reads on, and nothing is held when the last lines are taken in.
use Rattle.std.proofs.Common.{◌<◌, ◌≢◌, ◌++◌, List, ap, arith, flat_map, length, subst, sym, vec_len, ◌∙◌}
use Rattle.std.proofs.lemmas.Bool.{eqb-false, eqb-true, false≢true}
use Rattle.std.proofs.lemmas.List.{nil_from_length}
use Rattle.history_model.specs.Refusals.{Line, IsBuildError}
use Rattle.reg_arena.specs.Built.{IsBuilt}
use Rattle.reg_arena.specs.declared.numbering.NumberedLines.{NumberedLines}
use Rattle.reg_intake.proofs.Passing.{passed-on}
use Rattle.reg_intake.proofs.Turning.{ended-ok, first-turn, less-to-do, no-room}
use Rattle.reg_intake.proofs.Turning.{none-read, refused-behind, stopped-by-build}
use Rattle.reg_intake.specs.Refusals.{of_build}
use Rattle.reg_intake.specs.Underway.{AreNumberedBehind, IsReadOn, IsStopped, lines_in}
use Rattle.reg_intake.specs.declared.refusal.Refusal.TheVariants.{NoRoom}
use Rattle.reg_intake.proofs.arena.read_arena.Goals.{then-not-is_ended, else-not-is_ended+then-not-is_empty}
use Rattle.reg_intake.proofs.arena.read_arena.Goals as goal

pub returns-in_err-read_and_number-clause-err : goal.returns-in_err-read_and_number-clause-err
returns-in_err-read_and_number-clause-err g c =
    let old = c.args.intake.now in
    let held = c.in_ok-fill.ensures.ok in
    passed-on (IsStopped (g.S.Source.left c.args.source.now) (g.S.Source.left c.fill.new.source)
    (g.S.Source.failed c.args.source.now)
    (g.S.Source.failed c.fill.new.source) c.read_and_number.new.intake.pulled)
    NoRoom c.from_residual-in_err-read_and_number.result c.from_residual-in_err-read_and_number.ensures.1
    (no-room _ _ _ _ _ _ _ _ old c.fill.new.self c.read_and_number.new.intake
    (none-read _ _ old c.requires.held c.requires.line c.requires.pulled) held.0 held.1
    c.read_and_number.ensures.pulled)

pub loop-reader-init : goal.loop-reader-init
loop-reader-init g c =
    let old = c.args.intake.now in
    let held = c.in_ok-fill.ensures.ok in
    let ahead = sym c.from_vec-ahead.ensures.items in
    first-turn _ _ _ _ old c.fill.new.self c.read_and_number.new.intake c.new-reader.result
    c.read_and_number.new.self _ held.0
    (none-read _ _ old c.requires.held c.requires.line c.requires.pulled) held.1
    (ap (flat_map (λ part. part.items)) c.new-reader.ensures.none)
    (subst (λ (parts : List NumberedLines). IsReadOn c.fill.new.self c.read_and_number.new.intake
    c.new-reader.result c.read_and_number.new.self (lines_in parts)) ahead
    c.in_ok-read_and_number.ensures.read)
    c.in_ok-arena.ensures.built (c.in_ok-arena.ensures.names ∙ sym c.new-reader.ensures.names)
    (subst (AreNumberedBehind c.new-reader.result.numbering c.read_and_number.new.self.numbering) ahead
    c.in_ok-read_and_number.ensures.numbered)

pub returns-in_err-underway-clause-err : goal.returns-in_err-underway-clause-err
returns-in_err-underway-clause-err g c =
    let e = c.in_err-underway.field-0.0 in
    passed-on (IsStopped (g.S.Source.left c.args.source.now) (g.S.Source.left c.turn.new.source)
    (g.S.Source.failed c.args.source.now) (g.S.Source.failed c.turn.new.source) c.turn.new.intake.pulled)
    e c.from_residual-in_err-underway.result c.from_residual-in_err-underway.ensures.1
    (c.in_err-underway.ensures.err _ _ c.loop-reader.invariant)

pub loop-reader-smaller : goal.loop-reader-smaller
loop-reader-smaller g c =
    let after = c.in_ok-underway.ensures.ok _ _ c.loop-reader.invariant in
    let parts = vec_len c.loop-reader.reader.unnumbered in
    less-to-do _ _ parts _ after.so_far.given.within c.in_ok-underway.ensures.further (λ ended.
    let some : 0 < parts = elim c.if-not-is_ended.branch [
      | then-not-is_ended w ↦ absurd (false≢true (sym w.if-not-is_ended.true ∙ c.is_ended.ensures ∙ ended))
      | else-not-is_ended+then-not-is_empty w ↦
          (let some : parts ≢ 0 = eqb-false parts 0 (sym w.is_empty.ensures ∙ w.if-not-is_empty.true) in
          omega (arith, some))
    ] in
    let last = c.in_ok-underway.ensures.last (ended, c.loop-reader.invariant.so_far.end ended) in
    (some, c.turn.new.reader.unnumbered.ok.0 ∙ ap length last.1, last.0))

pub loop-reader-preserved : goal.loop-reader-preserved
loop-reader-preserved g c = c.in_ok-underway.ensures.ok _ _ c.loop-reader.invariant

pub returns-in_err-with_lines-clause-err : goal.returns-in_err-with_lines-clause-err
returns-in_err-with_lines-clause-err g c =
    let underway = c.loop-reader.invariant in
    let e = c.in_err-with_lines.field-0.0 in
    passed-on (IsStopped (g.S.Source.left c.args.source.now) (g.S.Source.left c.loop-reader.source)
    (g.S.Source.failed c.args.source.now)
    (g.S.Source.failed c.loop-reader.source) c.loop-reader.intake.pulled)
    (of_build e) c.from_residual-in_err-with_lines.result c.from_residual-in_err-with_lines.ensures.1
    (stopped-by-build _ _ _ _ underway.bytes _ c.loop-reader.intake underway.so_far e
    (refused-behind _ _ _ _ c.loop-reader.intake c.loop-reader.reader c.loop-reader.underway underway e
    (subst (λ (parts : List NumberedLines). (after : List Line)
    → IsBuildError (underway.before ++ lines_in parts ++ after) e) c.make_contiguous.ensures.value
    (c.in_err-with_lines.ensures underway.before underway.built))))

pub returns-clause-ok : goal.returns-clause-ok
returns-clause-ok g c =
    let underway = c.loop-reader.invariant in
    let parts = c.loop-reader.reader.unnumbered in
    let none =
    nil_from_length parts.items
    (sym parts.ok.0 ∙ eqb-true (vec_len parts) 0 (sym c.is_empty.ensures ∙ c.if-not-is_empty.false)) in
    ended-ok _ _ _ _ c.loop-reader.intake c.loop-reader.reader c.loop-reader.underway underway
    (sym c.is_ended.ensures ∙ c.if-not-is_ended.false)
    (ap (flat_map (λ part. part.items)) none) c.in_ok-with_lines.field-0
    (subst (λ (parts : List NumberedLines). IsBuilt
    (underway.before ++ lines_in parts) c.in_ok-with_lines.field-0) c.make_contiguous.ensures.value
    (c.in_ok-with_lines.ensures underway.before underway.built))
