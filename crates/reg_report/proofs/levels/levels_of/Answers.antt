use Rattle.std.proofs.Common.{◌<◌, Some, None, drop, sym, subst, arith}
use Rattle.history_model.specs.Operations.{register_of}
use Rattle.reg_lamport.specs.Counts.{IsReadCount}
use Rattle.reg_report.proofs.CountedReads.{none-ahead, read-cuts}
use Rattle.reg_report.proofs.levels.levels_of.Goals as goal

pub count-requires : goal.count-requires
count-requires c =
    subst (λ n. c.args.register.0 < n) (sym c.requires.plan.1.counts.registers) c.requires.register

pub first_bad_of-next-requires-clause-cuts : goal.first_bad_of-next-requires-clause-cuts
first_bad_of-next-requires-clause-cuts c =
    read-cuts c.args.arena.now c.requires.plan.0 c.args.register.0 c.args.plan.now c.requires.plan.1
    c.count.result c.count.ensures c.in-Some._count (drop c.args.start c.args.plan.now.tasks) c.in-Some.is
    c.requires.cuts

pub levels_by-requires-clause-writer : goal.levels_by-requires-clause-writer
levels_by-requires-clause-writer c =
    let h = c.args.arena.now in
    let own : IsReadCount h c.args.register.0 (Some c.in-Some._count) =
    subst (IsReadCount h c.args.register.0) c.in-Some.is
    (c.requires.plan.1.counts.each c.args.register.0 c.count.result c.count.ensures) in
    own.0

pub returns-in-None-clause-levels : goal.returns-in-None-clause-levels
returns-in-None-clause-levels c =
    let h = c.args.arena.now in
    let several : IsReadCount h c.args.register.0 None =
    subst (IsReadCount h c.args.register.0) c.in-None.is
    (c.requires.plan.1.counts.each c.args.register.0 c.count.result c.count.ensures) in
    c.several_writers.ensures (register_of h c.args.register.0) several

pub returns-in-None-clause-next : goal.returns-in-None-clause-next
returns-in-None-clause-next c =
    let none =
    none-ahead c.args.arena.now c.requires.plan.0 c.args.register.0 c.args.plan.now c.requires.plan.1
    c.count.result c.count.ensures (drop c.args.start c.args.plan.now.tasks) c.in-None.is
    c.requires.cuts in
    omega (arith, none)
