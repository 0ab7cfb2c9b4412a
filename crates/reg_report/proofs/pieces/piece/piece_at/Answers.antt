use Rattle.std.proofs.Common.{refl, subst, sym}
use Rattle.history_model.specs.Operations.{register_of}
use Rattle.reg_report.specs.Pieces.Judged.{IsLookedAt}
use Rattle.reg_report.specs.declared.pieces.tasks.Task.TheVariants.{Judge, Reads, First}
use Rattle.reg_report.proofs.PieceLemmas.Fitness.{cut-fits, first-fits, judge-fits, piece-done}
use Rattle.reg_report.proofs.pieces.piece.piece_at.Goals as goal

pub judge-requires : goal.judge-requires
judge-requires c =
    judge-fits c.args.arena.now c.args.plan.now c.requires.plan c.args.number c.task.result c.task.ensures
    c.in-Judge.register c.in-Judge.is

pub of_cut-requires-clause-writer : goal.of_cut-requires-clause-writer
of_cut-requires-clause-writer c =
    (cut-fits c.args.arena.now c.args.plan.now c.requires.plan c.args.number c.task.result c.task.ensures
    c.in-Reads.register c.in-Reads.from c.in-Reads.to c.in-Reads.is).writer

pub of_cut-requires-clause-part : goal.of_cut-requires-clause-part
of_cut-requires-clause-part c =
    (cut-fits c.args.arena.now c.args.plan.now c.requires.plan c.args.number c.task.result c.task.ensures
    c.in-Reads.register c.in-Reads.from c.in-Reads.to c.in-Reads.is).part

pub look_at-requires : goal.look_at-requires
look_at-requires c =
    first-fits c.args.arena.now c.args.plan.now c.requires.plan c.args.number c.task.result c.task.ensures
    c.in-First.register c.in-First.is

pub returns-in_ok-judge-in-Judge-clause-piece : goal.returns-in_ok-judge-in-Judge-clause-piece
returns-in_ok-judge-in-Judge-clause-piece c =
    piece-done c.args.arena.now c.args.plan.now c.requires.plan c.args.number c.task.result c.task.ensures
    (Judge c.in-Judge.register) _ c.in-Judge.is (
      c.in_ok-judge-in-Judge.field-0,
      refl,
      c.in_ok-judge-in-Judge.ensures,
    )

pub returns-in_ok-bad-in-Reads-clause-piece : goal.returns-in_ok-bad-in-Reads-clause-piece
returns-in_ok-bad-in-Reads-clause-piece c =
    piece-done c.args.arena.now c.args.plan.now c.requires.plan c.args.number c.task.result c.task.ensures
    (Reads c.in-Reads.register c.in-Reads.from c.in-Reads.to) _ c.in-Reads.is (
      c.in_ok-bad-in-Reads.bad,
      refl,
      c.in_ok-bad-in-Reads.ensures.bad,
    )

pub returns-in-First-clause-piece : goal.returns-in-First-clause-piece
returns-in-First-clause-piece c =
    let looked =
    subst (IsLookedAt (register_of c.args.arena.now c.in-First.register.0))
    (sym c.into_piece.ensures) c.look_at.ensures.looked in
    piece-done c.args.arena.now c.args.plan.now c.requires.plan c.args.number c.task.result c.task.ensures
    (First c.in-First.register) c.into_piece.result c.in-First.is looked
