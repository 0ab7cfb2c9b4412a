use Rattle.std.proofs.Common.{◌<◌, ◌+◌, subst, sym, ◌∙◌, ap, refl}
use Rattle.std.specs.List.{AllZip}
use Rattle.history_model.specs.Walking.{IsOnWalk, walk_left}
use Rattle.history_model.specs.Lamport.{completed_reads}
use Rattle.history_model.specs.Operations.{of_register, operations}
use Rattle.history_model.proofs.Walking.{event-at, walk-within, walk-ends, named-is-called}
use Rattle.reg_lamport.specs.Gathering.{call_met}
use Rattle.reg_lamport.specs.Reads.{IsEntryOf}
use Rattle.reg_lamport.proofs.Passing.{IsGathering, gathering-begins, gathering-skips}
use Rattle.reg_lamport.proofs.Passing.{gathering-adds, gathering-ends}
use Rattle.reg_lamport.proofs.read_list.reads.Goals.{then-begins+in_ok-gathering, else-begins}
use Rattle.reg_lamport.proofs.read_list.reads.Goals as goal

pub loop-next-init : goal.loop-next-init
loop-next-init c =
    subst (λ g. IsGathering c.args.arena.now c.args.register.0 g c.first_of_register-next.result)
    (sym c.new-gathering.ensures)
    (gathering-begins c.args.arena.now c.event_count-end.ensures.recorded c.args.register.0 c.args.register
    c.first_of_register-next.result refl c.first_of_register-next.ensures)

pub begins-requires : goal.begins-requires
begins-requires c =
    walk-within c.args.register.0 c.args.arena.now.events c.in-Some.id
    (subst (IsOnWalk c.args.arena.now.events c.args.register.0) c.in-Some.is c.loop-next.invariant.on)

pub op-requires : goal.op-requires
op-requires c =
    let h = c.args.arena.now in
    let x =
    event-at c.args.register.0 h.events c.in-Some.id
    (subst (IsOnWalk h.events c.args.register.0) c.in-Some.is c.loop-next.invariant.on) in
    (x.0, x.1, sym (c.begins.ensures x.0 x.1) ∙ c.if-begins.true)

pub next_in_register-next-requires : goal.next_in_register-next-requires
next_in_register-next-requires c =
    walk-within c.args.register.0 c.args.arena.now.events c.in-Some.id
    (subst (IsOnWalk c.args.arena.now.events c.args.register.0) c.in-Some.is c.loop-next.invariant.on)

pub loop-next-smaller : goal.loop-next-smaller
loop-next-smaller c =
    let es = c.args.arena.now.events in
    let on = subst (IsOnWalk es c.args.register.0) c.in-Some.is c.loop-next.invariant.on in
    subst (λ o. walk_left es c.next_in_register-next.result < walk_left es o) (sym c.in-Some.is)
    (walk-ends c.args.register.0 es c.in-Some.id c.next_in_register-next.result on
    c.next_in_register-next.ensures.next)

pub loop-next-preserved : goal.loop-next-preserved
loop-next-preserved c =
    let h = c.args.arena.now in
    let r = c.args.register.0 in
    let before = subst (IsGathering h r c.loop-next.gathering) c.in-Some.is c.loop-next.invariant in
    let x = event-at r h.events c.in-Some.id before.on in
    let begun = c.begins.ensures x.0 x.1 in
    elim c.if-begins.branch [
      | then-begins+in_ok-gathering w ↦
          let o = w.op.ensures.0 in
          let end = c.event_count-end.result + 2 in
          subst (λ g. IsGathering h r g c.next_in_register-next.result)
          (sym (w.gathering-is
          ∙ (w.in_ok-gathering.ensures
          ∙ ap (call_met end c.loop-next.gathering c.in-Some.id) w.op.ensures.2)))
          (gathering-adds h c.event_count-end.ensures.recorded r c.loop-next.gathering c.in-Some.id x.0
          c.next_in_register-next.result before x.1 x.2 c.next_in_register-next.ensures.next
          o (sym begun ∙ w.if-begins.true) w.op.ensures.1
          (named-is-called h c.in-Some.id x.0 o x.1 w.op.ensures.1) end
          (ap (λ n. n + 2) c.event_count-end.ensures.count))
      | else-begins w ↦ subst (λ g. IsGathering h r g c.next_in_register-next.result) (sym w.gathering-is)
          (gathering-skips h c.event_count-end.ensures.recorded r c.loop-next.gathering c.in-Some.id x.0
          c.next_in_register-next.result before x.1 x.2 c.next_in_register-next.ensures.next (sym begun
          ∙ w.if-begins.false))
    ]

pub returns : goal.returns
returns c =
    let h = c.args.arena.now in
    let r = c.args.register.0 in
    let ended =
    gathering-ends h c.event_count-end.ensures.recorded r c.loop-next.gathering
    (subst (IsGathering h r c.loop-next.gathering) c.in_default.is c.loop-next.invariant) in (
      refl,
      record {
        recorded = c.event_count-end.ensures.recorded;
        entries =
            subst (λ xs. AllZip (IsEntryOf h r) xs (completed_reads (of_register r (operations h))))
            (sym c.into_entries.ensures) ended;
      },
    )
