use Rattle.std.proofs.Common.{◌<◌, sym, subst, arith}
use Rattle.reg_report.proofs.Assembly.{inside-tasks, judged-stands, judged-there, cuts-there, next-there}
use Rattle.reg_report.proofs.Cutting.{done-behind}
use Rattle.reg_report.proofs.findings.register_pieces.Goals as goal

pub take_judged-judged-requires : goal.take_judged-judged-requires
take_judged-judged-requires c =
    judged-stands c.args.arena.now c.requires.tasks.0 c.args.register.0 c.args.start c.args.plan.now
    (subst (λ n. c.args.register.0 < n) (sym c.requires.plan.1.counts.registers) c.requires.register)
    c.requires.tasks.1 c.args.pieces.now c.requires.done

pub overflow_add-start : goal.overflow_add-start
overflow_add-start c =
    let inside =
    inside-tasks c.args.arena.now c.requires.tasks.0 c.args.register.0 c.args.start c.args.plan.now
    (subst (λ n. c.args.register.0 < n) (sym c.requires.plan.1.counts.registers) c.requires.register)
    c.requires.tasks.1 in
    omega (arith, inside, c.requires.plan.1.few)

pub levels_of-next-requires-clause-done : goal.levels_of-next-requires-clause-done
levels_of-next-requires-clause-done c =
    done-behind c.args.arena.now c.args.plan.now.tasks c.args.start c.args.pieces.now
    c.take_judged-judged.new.self c.take_judged-judged.ensures.left c.requires.done

pub levels_of-next-requires-clause-cuts : goal.levels_of-next-requires-clause-cuts
levels_of-next-requires-clause-cuts c =
    cuts-there c.args.arena.now c.requires.tasks.0 c.args.register.0 c.args.start c.args.plan.now
    (subst (λ n. c.args.register.0 < n) (sym c.requires.plan.1.counts.registers) c.requires.register)
    c.requires.tasks.1

pub returns-clause-judged : goal.returns-clause-judged
returns-clause-judged c =
    judged-there c.args.arena.now c.requires.tasks.0 c.args.register.0 c.args.start c.args.plan.now
    (subst (λ n. c.args.register.0 < n) (sym c.requires.plan.1.counts.registers) c.requires.register)
    c.requires.tasks.1 c.args.pieces.now c.take_judged-judged.result c.requires.done
    c.take_judged-judged.ensures.judgement

pub returns-clause-tasks : goal.returns-clause-tasks
returns-clause-tasks c =
    next-there c.args.arena.now c.requires.tasks.0 c.args.register.0 c.args.start c.args.plan.now
    (subst (λ n. c.args.register.0 < n) (sym c.requires.plan.1.counts.registers) c.requires.register)
    c.requires.tasks.1 c.levels_of-next.result.1 c.levels_of-next.ensures.next

pub returns-clause-done : goal.returns-clause-done
returns-clause-done c =
    let behind =
    done-behind c.args.arena.now c.args.plan.now.tasks c.args.start c.args.pieces.now
    c.take_judged-judged.new.self c.take_judged-judged.ensures.left c.requires.done in
    λ i t l at. behind i t (omega (arith, l, c.levels_of-next.ensures.next)) at
