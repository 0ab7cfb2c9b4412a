-- What was pulled, what was read of it, and what taking in gave meanwhile.
use Rattle.std.proofs.Common.{◌≡◌, ◌++◌, Option, Some, List, length, drop, ℕ, []}
use Rattle.std.proofs.Common.{true, refl, sym, ap, ap₂, arith, subst, ◌∙◌}
use Rattle.reg_arena.specs.declared.numbering.NumberedLines.{NumberedLines}
use Rattle.std.specs.Prelude.{IfOk}
use Rattle.reg_intake.proofs.Passing.{passed-on}
use Rattle.reg_intake.proofs.Turning.{next-of, no-room, stopped-by-next, turn-refused, turned}
use Rattle.reg_intake.specs.Pulls.{IsFurther}
use Rattle.reg_intake.specs.Refusals.{of_build}
use Rattle.reg_intake.specs.Underway.{AreNumberedBehind, IsGrown, IsGrownWith}
use Rattle.reg_intake.specs.Underway.{IsReadOn, IsStopped, IsUnderway, lines_in}
use Rattle.reg_intake.specs.declared.pulls.Pulls.{Pulls}
use Rattle.reg_intake.specs.declared.refusal.Refusal.TheVariants.{NoRoom}
use Rattle.reg_intake.proofs.underway.Underway.turn.Goals as goal

pub returns-in_err-fill-clause-err : goal.returns-in_err-fill-clause-err
returns-in_err-fill-clause-err g c =
    let e = c.in_err-fill.field-0.0 in
    passed-on (λ refusal. (left : Option (List ℕ)) (failed : ℕ)
    → IsUnderway left (g.S.Source.left c.args.source.now) failed
    (g.S.Source.failed c.args.source.now) c.args.intake.now c.args.reader.now c.args.self
    → IsStopped left (g.S.Source.left c.fill.new.source) failed
    (g.S.Source.failed c.fill.new.source) c.fill.new.self.pulled refusal)
    e c.from_residual.result c.from_residual.ensures.1
    (λ left failed underway. stopped-by-next left _ _ failed _ _ _ _ c.args.intake.now c.fill.new.self
    underway.so_far e c.in_err-fill.ensures.err)

pub returns-in_err-numbered-clause-err : goal.returns-in_err-numbered-clause-err
returns-in_err-numbered-clause-err g c =
    let old = c.args.intake.now in
    let new = c.read_and_take_in-numbered.new.intake in
    let held = c.in_ok-fill.ensures.ok in
    passed-on (λ refusal. (left : Option (List ℕ)) (failed : ℕ)
    → IsUnderway left (g.S.Source.left c.args.source.now) failed
    (g.S.Source.failed c.args.source.now) old c.args.reader.now c.args.self
    → IsStopped left (g.S.Source.left c.fill.new.source) failed
    (g.S.Source.failed c.fill.new.source) new.pulled refusal)
    NoRoom c.from_residual-in_err-numbered.result c.from_residual-in_err-numbered.ensures.1
    (λ left failed underway. no-room left _ _ failed _ _ _ _ old c.fill.new.self new underway.so_far held.0
    held.1 c.read_and_take_in-numbered.ensures.pulled)

pub returns-in_err-left-clause-err : goal.returns-in_err-left-clause-err
returns-in_err-left-clause-err g c =
    let old = c.args.intake.now in
    let new = c.read_and_take_in-numbered.new.intake in
    let held = c.in_ok-fill.ensures.ok in
    passed-on (λ refusal. (left : Option (List ℕ)) (failed : ℕ)
    → IsUnderway left (g.S.Source.left c.args.source.now) failed
    (g.S.Source.failed c.args.source.now) old c.args.reader.now c.args.self
    → IsStopped left (g.S.Source.left c.fill.new.source) failed
    (g.S.Source.failed c.fill.new.source) new.pulled refusal)
    NoRoom c.from_residual-in_err-left.result c.from_residual-in_err-left.ensures.1
    (λ left failed underway. no-room left _ _ failed _ _ _ _ old c.fill.new.self new underway.so_far held.0
    held.1 c.read_and_take_in-numbered.ensures.pulled)

pub returns-in_err-arena-clause-err : goal.returns-in_err-arena-clause-err
returns-in_err-arena-clause-err g c =
    let e = c.in_err-arena.field-0.0 in
    let old = c.args.intake.now in
    let new = c.read_and_take_in-numbered.new.intake in
    let held = c.in_ok-fill.ensures.ok in
    let parts = c.args.self.ahead.items in
    let read =
    subst (λ r. IfOk r
    (λ parts. IsReadOn c.fill.new.self new c.args.reader.now c.read_and_take_in-numbered.new.reader
    (lines_in parts.items))) c.in_ok-numbered.was c.read_and_take_in-numbered.ensures.read in
    let grown =
    subst (λ parts. IsGrown
    (Some c.args.self.arena) parts c.read_and_take_in-numbered.result.1) c.make_contiguous.ensures.value
    c.read_and_take_in-numbered.ensures.grown in
    passed-on (λ refusal. (left : Option (List ℕ)) (failed : ℕ)
    → IsUnderway left (g.S.Source.left c.args.source.now) failed
    (g.S.Source.failed c.args.source.now) old c.args.reader.now c.args.self
    → IsStopped left (g.S.Source.left c.fill.new.source) failed
    (g.S.Source.failed c.fill.new.source) new.pulled refusal)
    (of_build e) c.from_residual-in_err-arena.result c.from_residual-in_err-arena.ensures.1
    (λ left failed underway. turn-refused left _ failed _ old c.args.reader.now c.args.self underway _ _ new
    read.later (next-of _ _ _ _ old c.fill.new.self new held.0 read.later held.1 read.read) e
    (subst (IsGrownWith underway.before parts) c.in_err-arena.was
    (grown.whole c.args.self.arena underway.before refl underway.built)))

pub returns-clause-ok : goal.returns-clause-ok
returns-clause-ok g c = λ left failed underway.
    let old = c.args.intake.now in
    let new = c.read_and_take_in-numbered.new.intake in
    let held = c.in_ok-fill.ensures.ok in
    let parts = c.args.self.ahead.items in
    let read =
    subst (λ r. IfOk r
    (λ parts. IsReadOn c.fill.new.self new c.args.reader.now c.read_and_take_in-numbered.new.reader
    (lines_in parts.items))) c.in_ok-numbered.was c.read_and_take_in-numbered.ensures.read in
    let numbered =
    subst (λ r. IfOk r
    (λ parts. AreNumberedBehind c.args.reader.now.numbering
    c.read_and_take_in-numbered.new.reader.numbering parts.items)) c.in_ok-numbered.was
    c.read_and_take_in-numbered.ensures.numbered in
    let grown =
    subst (λ parts. IsGrown
    (Some c.args.self.arena) parts c.read_and_take_in-numbered.result.1) c.make_contiguous.ensures.value
    c.read_and_take_in-numbered.ensures.grown in
    let same =
    c.make_contiguous.ensures.writes_back c.make_contiguous.result.now c.make_contiguous.ensures.len
    ∙ c.make_contiguous.ensures.value in
    turned left _ failed _ old c.args.reader.now c.args.self underway _ _ new read.later
    (next-of _ _ _ _ old c.fill.new.self new held.0 read.later held.1 read.read)
    c.in_ok-arena.field-0.count c.in_ok-numbered.numbered.items _
    (record { arena = c.in_ok-arena.field-0.arena; ahead = c.in_ok-left.left })
    (subst (IsGrownWith underway.before parts) c.in_ok-arena.was
    (grown.whole c.args.self.arena underway.before refl underway.built))
    (subst (λ (all : List NumberedLines). c.in_ok-left.left.items ≡ drop c.in_ok-arena.field-0.count all ++
    c.in_ok-numbered.numbered.items) same c.in_ok-left.ensures) read.all numbered

pub returns-clause-further : goal.returns-clause-further
returns-clause-further g c = λ not_ended.
    let held = ap length c.held-held.ensures in
    let some = c.block_size.ensures.0 in
    subst (IsFurther c.args.intake.now.pulled) (sym c.read_and_take_in-numbered.ensures.pulled)
    (c.in_ok-fill.ensures.further not_ended (omega (arith, held, some)))

pub returns-clause-last : goal.returns-clause-last
returns-clause-last g c = λ last.
    let held = c.in_ok-fill.ensures.ok in
    let behind = held.1.given.none_behind last.0 in
    let none =
    subst (λ r. IfOk r
    (λ _. c.fill.new.self.held ≡ []
    → c.read_and_take_in-numbered.new.reader.unnumbered.items ≡ [])) c.in_ok-numbered.was
    c.read_and_take_in-numbered.ensures.none in (
      subst (λ (pulled : Pulls). pulled.is_ended ≡ true)
          (sym c.read_and_take_in-numbered.ensures.pulled) behind.1,
      none (held.1.held ∙ ap₂ (λ (xs ys : List ℕ). xs ++ ys) last.1 behind.0),
    )
