use Rattle.std.proofs.Common.{◌≡◌, ◌+◌, None, Option, List, Result, Ok, Err, IsErrAnd, IfErr, sym, subst}
use Rattle.history_model.specs.declared.ids.Oper.{Oper}
use Rattle.history_model.specs.Operations.{of_register, operations}
use Rattle.history_model.specs.declared.operation.Operation.{Operation}
use Rattle.reg_zones.specs.declared.fault.Fault.{Fault}
use Rattle.reg_zones.specs.declared.pass.LaterFaults.{LaterFaults}
use Rattle.reg_zones.specs.Faults.{IsFault}
use Rattle.reg_zones.specs.Sweep.{IsConflictFound, IsEarlyAt, IsUnwrittenAt}
use Rattle.reg_zones.proofs.Known.{facts}
use Rattle.reg_zones.proofs.Walks.{walk-start, walk-over, met-here, met-more, met-smaller}
use Rattle.reg_zones.proofs.FirstReads.{IsEarlySoFar, all_written, first_unwritten, early-more, early-over}
use Rattle.reg_zones.proofs.Passing.{IsComparing, comparing-start, comparing-here}
use Rattle.reg_zones.proofs.Passing.{comparing-more, comparing-over}
use Rattle.reg_zones.proofs.pass.pass.Goals as goal

pub loop-ahead-init : goal.loop-ahead-init
loop-ahead-init c =
    let h = c.args.register.arena.now in
    let r = c.args.register.id.0 in
    let next = c.of-ahead.result.next in
    let first = c.of-ahead.ensures.first in
    record {
      ahead = c.of-ahead.ensures.ahead;
      walk =
          walk-start h.events r (λ i. IsUnwrittenAt (of_register r (operations h)) (i + 2) None) next first;
      early = walk-start h.events r (λ i. IsEarlyAt (of_register r (operations h)) (i + 2) None) next first;
      comparing = comparing-start h r (facts c.args.register) _ next c.initial_forward.ensures first;
    }

pub meet-met-requires-clause-event : goal.meet-met-requires-clause-event
meet-met-requires-clause-event c = c.loop-ahead.invariant.walk.here c.in-Some.id c.in-Some.is

pub meet-met-requires-clause-oper : goal.meet-met-requires-clause-oper
meet-met-requires-clause-oper c = c.loop-ahead.invariant.ahead.oper c.in-Some.id c.in-Some.is

passed_up : (ops : List Operation) (fault : Fault) (result : Result LaterFaults Fault)
    → IsErrAnd result (λ e. e ≡ fault) → IsFault ops fault → IfErr result (λ e. IsFault ops e)
passed_up ops fault (Ok found) e f = tt
passed_up ops fault (Err g) e f = subst (IsFault ops) (sym e) f

pub returns-in_err-here-clause-err : goal.returns-in_err-here-clause-err
returns-in_err-here-clause-err c =
    let h = c.args.register.arena.now in
    let r = c.args.register.id.0 in
    let ops = of_register r (operations h) in
    let f = c.in_err-here.ensures.unwritten in
    passed_up ops _ c.from_residual.result c.from_residual.ensures.1
    (subst (IsFault ops) (sym f.1)
    (first_unwritten h r (facts c.args.register) c.in-Some.id f.0
    (met-here c.loop-ahead.invariant.walk c.in-Some.is) f.2))

pub compare_at-requires-clause-so_far : goal.compare_at-requires-clause-so_far
compare_at-requires-clause-so_far c =
    let h = c.args.register.arena.now in
    let r = c.args.register.id.0 in
    comparing-here h r (facts c.args.register) c.loop-ahead.clusters c.in-Some.id
    (subst (IsComparing (of_register r (operations h)) c.loop-ahead.clusters) c.in-Some.is
    c.loop-ahead.invariant.comparing)

pub loop-ahead-smaller : goal.loop-ahead-smaller
loop-ahead-smaller c =
    met-smaller c.loop-ahead.invariant.walk c.in-Some.is _
    (c.further-further.ensures.next c.in-Some.id c.in-Some.is)

pub loop-ahead-preserved : goal.loop-ahead-preserved
loop-ahead-preserved c =
    let h = c.args.register.arena.now in
    let r = c.args.register.id.0 in
    let y = facts c.args.register in
    let id = c.in-Some.id in
    let next = c.further-further.result.next in
    let after = c.further-further.ensures.next id c.in-Some.is in
    let so_far = subst (IsEarlySoFar h r c.loop-ahead.early) c.in-Some.is c.loop-ahead.invariant.early in
    record {
      ahead = c.further-further.ensures.ahead;
      walk = met-more c.loop-ahead.invariant.walk c.in-Some.is _ c.in_ok-here.ensures.written after;
      early =
          subst (λ (o : Option (Oper × Oper)). IsEarlySoFar h r o next) (sym c.or-early.ensures)
          (early-more h r y c.loop-ahead.early c.in_ok-here.here id next so_far
          c.in_ok-here.ensures.early after);
      comparing =
          comparing-more h r y _ id next (c.loop-ahead.invariant.walk.here id c.in-Some.is)
          c.compare_at.ensures after;
    }

pub returns-clause-ok : goal.returns-clause-ok
returns-clause-ok c =
    let h = c.args.register.arena.now in
    let r = c.args.register.id.0 in
    let y = facts c.args.register in
    record {
      written = all_written h r y (walk-over c.loop-ahead.invariant.walk c.in_default.is);
      early =
          early-over h r y c.loop-ahead.early
          (subst (IsEarlySoFar h r c.loop-ahead.early) c.in_default.is c.loop-ahead.invariant.early);
      conflict =
          subst (IsConflictFound (of_register r (operations h))) (sym c.conflict-conflict.ensures)
          (comparing-over h r y c.loop-ahead.clusters
          (subst (IsComparing (of_register r (operations h)) c.loop-ahead.clusters) c.in_default.is
          c.loop-ahead.invariant.comparing));
    }
