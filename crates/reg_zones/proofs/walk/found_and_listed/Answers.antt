use Rattle.std.proofs.Common.{◌+◌, ◌++◌, ◌∷◌, [], ◌∙◌, ap, List, Vec, Global, None, Option, sym, subst}
use Rattle.history_model.specs.declared.ids.Oper.{Oper}
use Rattle.history_model.specs.Operations.{of_register, operations}
use Rattle.reg_zones.specs.Faults.{IsFault}
use Rattle.reg_zones.specs.Sweep.{IsConflictFound, IsEarlyAt, IsUnwrittenAt}
use Rattle.reg_zones.specs.declared.entry.Entry.{Entry}
use Rattle.reg_zones.proofs.Known.{facts}
use Rattle.reg_zones.proofs.Walks.{walk-start, walk-over, met-here, met-more, met-smaller}
use Rattle.reg_zones.proofs.FirstReads.{IsEarlySoFar, all_written, first_unwritten, early-more, early-over}
use Rattle.reg_zones.proofs.Listing.{IsListingSoFar, listing-start, listing-skip, listing-push, listing-end}
use Rattle.reg_zones.proofs.Passing.{IsComparing, comparing-start, comparing-here}
use Rattle.reg_zones.proofs.Passing.{comparing-more, comparing-over}
use Rattle.reg_zones.proofs.walk.found_and_listed.Goals as goal
use Rattle.reg_zones.proofs.walk.found_and_listed.Goals.{in-Some-listed_at+in_ok-push-2, in_default-listed_at}

pub loop-ahead-init : goal.loop-ahead-init
loop-ahead-init c =
    let h = c.args.register.arena.now in
    let r = c.args.register.id.0 in
    let next = c.of-ahead.result.next in
    let first = c.of-ahead.ensures.first in
    let pushed = c.in_ok-push.ensures in
    let items =
    pushed.items ∙ (ap (λ (xs : List Entry). xs
    ++ c.initial_entry.result ∷ []) c.in_ok-entries.ensures.items
    ∙ ap (λ (x : Entry). x ∷ []) c.initial_entry.ensures) in
    record {
      ahead = c.of-ahead.ensures.ahead;
      walk =
          walk-start h.events r (λ i. IsUnwrittenAt (of_register r (operations h)) (i + 2) None) next first;
      early = walk-start h.events r (λ i. IsEarlyAt (of_register r (operations h)) (i + 2) None) next first;
      comparing = comparing-start h r (facts c.args.register) _ next c.initial_forward.ensures first;
      listing =
          subst (λ (xs : List Entry). IsListingSoFar h.events r (of_register r (operations h)) xs next)
          (sym items) (listing-start h r (facts c.args.register) next first);
    }

pub meet-met-requires-clause-event : goal.meet-met-requires-clause-event
meet-met-requires-clause-event c = c.loop-ahead.invariant.walk.here c.in-Some.id c.in-Some.is

pub meet-met-requires-clause-oper : goal.meet-met-requires-clause-oper
meet-met-requires-clause-oper c = c.loop-ahead.invariant.ahead.oper c.in-Some.id c.in-Some.is

pub returns-in-Err : goal.returns-in-Err
returns-in-Err c =
    let h = c.args.register.arena.now in
    let r = c.args.register.id.0 in
    let ops = of_register r (operations h) in
    let f = c.in-Err.ensures.unwritten in
    subst (IsFault ops) (sym f.1)
    (first_unwritten h r (facts c.args.register) c.in-Some.id f.0
    (met-here c.loop-ahead.invariant.walk c.in-Some.is) f.2)

pub compare_at-requires-clause-so_far : goal.compare_at-requires-clause-so_far
compare_at-requires-clause-so_far c =
    let h = c.args.register.arena.now in
    let r = c.args.register.id.0 in
    comparing-here h r (facts c.args.register) c.loop-ahead.clusters c.in-Some.id
    (subst (IsComparing (of_register r (operations h)) c.loop-ahead.clusters) c.in-Some.is
    c.loop-ahead.invariant.comparing)

pub loop-ahead-smaller : goal.loop-ahead-smaller
loop-ahead-smaller c =
    met-smaller c.loop-ahead.invariant.walk c.in-Some.is _
    (c.further-further.ensures.next c.in-Some.id c.in-Some.is)

pub loop-ahead-preserved : goal.loop-ahead-preserved
loop-ahead-preserved c =
    let h = c.args.register.arena.now in
    let r = c.args.register.id.0 in
    let y = facts c.args.register in
    let ops = of_register r (operations h) in
    let id = c.in-Some.id in
    let next = c.further-further.result.next in
    let after = c.further-further.ensures.next id c.in-Some.is in
    let early_so_far =
    subst (IsEarlySoFar h r c.loop-ahead.early) c.in-Some.is c.loop-ahead.invariant.early in
    let entries = c.next_left.new.entries.items in
    let listed_so_far =
    subst (IsListingSoFar h.events r ops entries) c.in-Some.is
    (subst (λ (xs : List Entry). IsListingSoFar h.events r ops xs c.loop-ahead.ahead.next)
    (sym c.in_ok-left.ensures) c.loop-ahead.invariant.listing) in
    record {
      ahead = c.further-further.ensures.ahead;
      walk = met-more c.loop-ahead.invariant.walk c.in-Some.is _ c.in-Ok.ensures.written after;
      early =
          subst (λ (o : Option (Oper × Oper)). IsEarlySoFar h r o next) (sym c.or-early.ensures)
          (early-more h r y c.loop-ahead.early c.in-Ok.here id next early_so_far
          c.in-Ok.ensures.early after);
      comparing =
          comparing-more h r y _ id next (c.loop-ahead.invariant.walk.here id c.in-Some.is)
          c.compare_at.ensures after;
      listing = elim c.match-listed_at.branch [
        | in-Some-listed_at+in_ok-push-2 w ↦
            let pushed = w.in_ok-push-2.ensures in
            let items = ap (λ (v : Vec Entry Global). v.items) w.entries-is ∙ pushed.items in
            subst (λ (xs : List Entry). IsListingSoFar h.events r ops xs next) (sym items)
            (listing-push h r y entries w.in-Some-listed_at.entry id next w.in-Some-listed_at.ensures
            listed_so_far after)
        | in_default-listed_at w ↦
            subst (λ (v : Vec Entry Global). IsListingSoFar h.events r ops v.items next) (sym w.entries-is)
            (listing-skip h r y entries id next w.in_default-listed_at.ensures listed_so_far after)
      ];
    }

pub returns : goal.returns
returns c =
    let h = c.args.register.arena.now in
    let r = c.args.register.id.0 in
    let y = facts c.args.register in
    let ops = of_register r (operations h) in (
      record {
        written = all_written h r y (walk-over c.loop-ahead.invariant.walk c.in_default.is);
        early =
            early-over h r y c.loop-ahead.early
            (subst (IsEarlySoFar h r c.loop-ahead.early) c.in_default.is c.loop-ahead.invariant.early);
        conflict =
            subst (IsConflictFound ops) (sym c.conflict-conflict.ensures)
            (comparing-over h r y c.loop-ahead.clusters
            (subst (IsComparing ops c.loop-ahead.clusters) c.in_default.is
            c.loop-ahead.invariant.comparing));
      },
      listing-end h r y c.loop-ahead.entries.items
          (subst (IsListingSoFar h.events r ops c.loop-ahead.entries.items) c.in_default.is
          c.loop-ahead.invariant.listing),
    )
