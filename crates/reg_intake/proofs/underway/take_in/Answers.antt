-- One part more is taken in, or a line in it is faulty.
use Rattle.std.proofs.Common.{◌++◌, List, length, refl, subst, arith}
use Rattle.std.proofs.lemmas.Option.{slice_get_read}
use Rattle.history_model.specs.Refusals.{Line, IsBuildError}
use Rattle.reg_arena.specs.Built.{IsBuilt}
use Rattle.reg_arena.specs.declared.numbering.NumberedLines.{NumberedLines}
use Rattle.reg_intake.proofs.Growing.{IsGrowing, one-refused, one-taken, refused-grown}
use Rattle.reg_intake.specs.Underway.{lines_in}
use Rattle.reg_intake.proofs.underway.take_in.Goals as goal

pub returns-in_err-built : goal.returns-in_err-built
returns-in_err-built c =
    let e = c.in_err-built.field-0.0 in
    let part = c.index-parts-count.result in
    let at =
    slice_get_read c.args.parts.now
    (length c.args.parts.now) c.loop-count.count part refl c.loop-count-test.true c.index-parts-count.is
    in
    refused-grown c.args.arena.now c.args.parts.now e c.from_residual.result c.from_residual.ensures.1
    (one-refused c.args.arena.now c.args.parts.now c.loop-count.count c.loop-count.built
    c.loop-count.invariant part at e
    (subst (λ (parts : List NumberedLines). (before : List Line) → IsBuilt before c.loop-count.built
    → (after : List Line)
    → IsBuildError
    (before ++ lines_in parts ++ after) e) c.from_ref.ensures.value c.in_err-built.ensures))

pub loop-count-preserved : goal.loop-count-preserved
loop-count-preserved c =
    let part = c.index-parts-count.result in
    let at =
    slice_get_read c.args.parts.now
    (length c.args.parts.now) c.loop-count.count part refl c.loop-count-test.true c.index-parts-count.is
    in
    subst (λ n. IsGrowing c.args.arena.now c.args.parts.now n c.in_ok-built.built) (omega arith)
    (one-taken c.args.arena.now c.args.parts.now c.loop-count.count c.loop-count.built c.loop-count.invariant
    part at c.in_ok-built.built c.loop-count-test.true
    (subst (λ (parts : List NumberedLines). (before : List Line) → IsBuilt before c.loop-count.built
    → IsBuilt (before ++ lines_in parts) c.in_ok-built.built) c.from_ref.ensures.value
    c.in_ok-built.ensures))
