use Rattle.std.proofs.Common.{◌+◌, ◌∙◌, length, sym, subst, arith}
use Rattle.reg_report.specs.declared.pieces.bad_reads.BadReads.{BadReads}
use Rattle.history_model.specs.Lamport.{completed_reads}
use Rattle.history_model.specs.Operations.{register_of}
use Rattle.reg_report.proofs.Cutting.{IsPutTogether, cut-stands, inside, together-goes-on}
use Rattle.reg_report.proofs.Cutting.{together-ends, together-starts}
use Rattle.reg_report.proofs.levels.first_bad_of.Goals as goal

pub loop-first-init : goal.loop-first-init
loop-first-init c =
    let h = c.args.arena.now in
    let tasks = c.args.plan.now.tasks in
    let reads = length (completed_reads (register_of c.args.arena.now c.args.register.0)) in
    subst (λ (f : BadReads).
    IsPutTogether h tasks c.args.register.0 reads c.args.start c.args.start f
    c.args.pieces.now) (sym c.none-first.ensures)
    (together-starts h tasks c.args.register.0 reads c.args.start c.args.pieces.now
    c.requires.cuts c.requires.done)

pub bad_reads-requires : goal.bad_reads-requires
bad_reads-requires c =
    let l = c.loop-first in
    let reads = length (completed_reads (register_of c.args.arena.now c.args.register.0)) in
    cut-stands c.args.arena.now c.args.plan.now.tasks c.args.register.0 reads c.args.start l.next
    l.first c.args.pieces.now l.invariant (sym c.is_cut.ensures ∙ c.loop-first-test.true)

pub overflow_add-next : goal.overflow_add-next
overflow_add-next c =
    let l = c.loop-first in
    let reads = length (completed_reads (register_of c.args.arena.now c.args.register.0)) in
    let at =
    inside c.args.arena.now c.args.plan.now.tasks c.args.register.0 reads c.args.start l.next
    l.first c.args.pieces.now l.invariant (sym c.is_cut.ensures ∙ c.loop-first-test.true) in
    omega (arith, at, c.requires.plan.1.few)

pub loop-first-preserved : goal.loop-first-preserved
loop-first-preserved c =
    let h = c.args.arena.now in
    let tasks = c.args.plan.now.tasks in
    let l = c.loop-first in
    let reads = length (completed_reads (register_of c.args.arena.now c.args.register.0)) in
    subst (λ (f : BadReads).
    IsPutTogether h tasks c.args.register.0 reads c.args.start
    (l.next + 1) f c.args.pieces.now) (sym c.or-first.ensures)
    (together-goes-on h tasks c.args.register.0 reads c.args.start l.next l.first
    c.args.pieces.now l.invariant (sym c.is_cut.ensures
    ∙ c.loop-first-test.true) c.bad_reads.result c.bad_reads.ensures)

pub loop-first-smaller : goal.loop-first-smaller
loop-first-smaller c =
    let l = c.loop-first in
    let reads = length (completed_reads (register_of c.args.arena.now c.args.register.0)) in
    let at =
    inside c.args.arena.now c.args.plan.now.tasks c.args.register.0 reads c.args.start l.next
    l.first c.args.pieces.now l.invariant (sym c.is_cut.ensures ∙ c.loop-first-test.true) in
    omega (arith, at)

pub returns-clause-first : goal.returns-clause-first
returns-clause-first c =
    let l = c.loop-first in
    let reads = length (completed_reads (register_of c.args.arena.now c.args.register.0)) in
    (together-ends c.args.arena.now c.args.plan.now.tasks c.args.register.0 reads c.args.start l.next l.first
    c.args.pieces.now l.invariant (sym c.is_cut.ensures ∙ c.loop-first-test.false)).0

pub returns-clause-next : goal.returns-clause-next
returns-clause-next c =
    let l = c.loop-first in
    let reads = length (completed_reads (register_of c.args.arena.now c.args.register.0)) in
    (together-ends c.args.arena.now c.args.plan.now.tasks c.args.register.0 reads c.args.start l.next l.first
    c.args.pieces.now l.invariant (sym c.is_cut.ensures ∙ c.loop-first-test.false)).1
