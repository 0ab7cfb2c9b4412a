use Rattle.std.specs.Global.{Global}
use Rattle.std.specs.Prelude.{Vec}
use Rattle.std.proofs.Common.{false, arith, ◌≤◌, ◌<◌, ◌+◌, ◌++◌, ◌∷◌, [], subst, sym, ◌∙◌}
use Rattle.std.proofs.Common.{ap, length, true}
use Rattle.history_model.specs.declared.operation.Operation.{Operation}
use Rattle.history_model.specs.Naming.{op_shown}
use Rattle.history_model.specs.Walking.{IsOnWalk, walk_left}
use Rattle.history_model.proofs.Walking.{event-at, walk-within, walk-ends, named-is-called}
use Rattle.history_text.specs.declared.limits.TheConstants.{MAX_EVENTS}
use Rattle.level_report.specs.Shown.{AreReady, operation_shown}
use Rattle.level_report.proofs.Ready.{ready}
use Rattle.level_report.proofs.Listing.{IsListing, called-again, initial-again, listing-begins, listing-ends}
use Rattle.level_report.proofs.Listing.{listing-goes}
use Rattle.level_report.proofs.operations.operations_of.Goals.{then-begins+in_ok-push-2, else-begins}
use Rattle.level_report.proofs.operations.operations_of.Goals as goal

pub begins-requires : goal.begins-requires
begins-requires c =
    walk-within c.args.register.0 c.args.arena.now.events c.in-Some.id
    (subst (IsOnWalk c.args.arena.now.events c.args.register.0) c.in-Some.is c.loop-next.invariant.on)

pub next_in_register-next-requires : goal.next_in_register-next-requires
next_in_register-next-requires c =
    walk-within c.args.register.0 c.args.arena.now.events c.in-Some.id
    (subst (IsOnWalk c.args.arena.now.events c.args.register.0) c.in-Some.is c.loop-next.invariant.on)

pub loop-next-smaller : goal.loop-next-smaller
loop-next-smaller c =
    let es = c.args.arena.now.events in
    let on = subst (IsOnWalk es c.args.register.0) c.in-Some.is c.loop-next.invariant.on in
    subst (λ o. walk_left es c.next_in_register-next.result < walk_left es o) (sym c.in-Some.is)
    (walk-ends c.args.register.0 es c.in-Some.id c.next_in_register-next.result on
    c.next_in_register-next.ensures.next)

pub loop-next-init : goal.loop-next-init
loop-next-init c =
    let h = c.args.arena.now in
    let r = c.args.register.0 in
    subst (λ xs. IsListing h r xs c.first_of_register-next.result)
    (sym (c.in_ok-push.ensures.items
    ∙ ap (λ xs. xs ++ c.operation_of.result ∷ []) c.new-ops.ensures.items
    ∙ ap (λ x. x ∷ []) (c.operation_of.ensures
    ∙ initial-again h c.args.register (c.event_count-end.result + 2) c.op.ensures.0 c.op.result
    c.requires c.op.ensures.1 c.op.ensures.2)))
    (listing-begins h c.event_count-end.ensures.recorded r c.first_of_register-next.result c.requires
    c.first_of_register-next.ensures)

pub loop-next-preserved : goal.loop-next-preserved
loop-next-preserved c =
    let h = c.args.arena.now in
    let r = c.args.register.0 in
    let listed = c.loop-next.ops.items in
    let next = c.next_in_register-next.result in
    let before = subst (IsListing h r listed) c.in-Some.is c.loop-next.invariant in
    let x = event-at r h.events c.in-Some.id before.on in
    let begun = c.begins.ensures x.0 x.1 in
    let goes =
    listing-goes h c.event_count-end.ensures.recorded r listed c.in-Some.id x.0 next before x.1 x.2
    c.next_in_register-next.ensures.next in
    elim c.if-begins.branch [
      | then-begins+in_ok-push-2 w ↦
          let o = w.op-then-begins.ensures.0 in
          let same = named-is-called h c.in-Some.id x.0 o x.1 w.op-then-begins.ensures.1 in
          subst (λ xs. IsListing h r xs next)
          (sym (ap (λ (v : Vec Operation Global). v.items) w.ops-is
          ∙ w.in_ok-push-2.ensures.items
          ∙ ap (λ a. listed ++ a ∷ []) (w.operation_of-then-begins.ensures
          ∙ ap (operation_shown (c.event_count-end.result + 2)) w.op-then-begins.ensures.2
          ∙ ap (λ n. operation_shown (n + 2) (op_shown o)) c.event_count-end.ensures.count
          ∙ called-again h.events c.in-Some.id.0 x.0 o same ∙ same)))
          (goes true (sym begun ∙ w.if-begins.true))
      | else-begins w ↦ subst (λ (v : Vec Operation Global). IsListing h r v.items next) (sym w.ops-is)
          (goes false (sym begun ∙ w.if-begins.false))
    ]

pub returns : goal.returns
returns c =
    let h = c.args.arena.now in
    let r = c.args.register.0 in
    let ends =
    listing-ends h c.event_count-end.ensures.recorded r c.loop-next.ops.items
    (subst (IsListing h r c.loop-next.ops.items) c.in_default.is c.loop-next.invariant) in
    let few : length h.events ≤ MAX_EVENTS =
    omega (arith, c.event_count-end.ensures.count, c.event_count-end.ensures.bound) in
    record {
      all = ends;
      ready = subst AreReady (sym ends) (ready h c.event_count-end.ensures.recorded r c.requires few);
    }
