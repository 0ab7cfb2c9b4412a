use Rattle.std.proofs.Common.{◌<◌, ◌∙◌, refl, sym, subst}
use Rattle.std.proofs.lemmas.Bool.{false≢true}
use Rattle.history_model.specs.Walking.{IsOnWalk, walk_left}
use Rattle.history_model.proofs.Walking.{walk-within, walk-ends}
use Rattle.reg_lamport.proofs.Writers.{IsWriterSoFar, writer-begins, writer-stays}
use Rattle.reg_lamport.proofs.Writers.{writer-goes, not-single, writer-ends}
use Rattle.reg_lamport.proofs.writer.single_writer.Goals.{then-begins_write+else-is_another}
use Rattle.reg_lamport.proofs.writer.single_writer.Goals.{else-begins_write}
use Rattle.reg_lamport.proofs.writer.single_writer.Goals as goal

pub loop-next-init : goal.loop-next-init
loop-next-init c =
    writer-begins c.args.arena.now c.event_count-count.ensures.recorded c.args.register.0
    c.first_of_register-next.result c.first_of_register-next.ensures

pub event-event-requires : goal.event-event-requires
event-event-requires c =
    walk-within c.args.register.0 c.args.arena.now.events c.in-Some.id
    (subst (IsOnWalk c.args.arena.now.events c.args.register.0) c.in-Some.is c.loop-next.invariant.on)

pub next_in_register-next-requires : goal.next_in_register-next-requires
next_in_register-next-requires c =
    walk-within c.args.register.0 c.args.arena.now.events c.in-Some.id
    (subst (IsOnWalk c.args.arena.now.events c.args.register.0) c.in-Some.is c.loop-next.invariant.on)

pub loop-next-smaller : goal.loop-next-smaller
loop-next-smaller c =
    let es = c.args.arena.now.events in
    let on = subst (IsOnWalk es c.args.register.0) c.in-Some.is c.loop-next.invariant.on in
    subst (λ o. walk_left es c.next_in_register-next.result < walk_left es o) (sym c.in-Some.is)
    (walk-ends c.args.register.0 es c.in-Some.id c.next_in_register-next.result on
    c.next_in_register-next.ensures.next)

pub loop-next-preserved : goal.loop-next-preserved
loop-next-preserved c =
    let h = c.args.arena.now in
    let r = c.args.register.0 in
    let before = subst (IsWriterSoFar h r c.loop-next.writer) c.in-Some.is c.loop-next.invariant in
    elim c.if-begins_write.branch [
      | then-begins_write+else-is_another w ↦
          subst (λ k. IsWriterSoFar h r k c.next_in_register-next.result) (sym w.writer-is)
          (writer-goes h c.event_count-count.ensures.recorded r c.loop-next.writer c.in-Some.id
          c.event-event.result before c.event-event.ensures.at c.next_in_register-next.result
          c.next_in_register-next.ensures.next (sym c.begins_write.ensures
          ∙ w.if-begins_write.true) (sym w.is_another.ensures ∙ w.if-is_another.false))
      | else-begins_write w ↦
          subst (λ k. IsWriterSoFar h r k c.next_in_register-next.result) (sym w.writer-is)
          (writer-stays h c.event_count-count.ensures.recorded r c.loop-next.writer c.in-Some.id
          c.event-event.result before c.event-event.ensures.at c.next_in_register-next.result
          c.next_in_register-next.ensures.next (sym c.begins_write.ensures ∙ w.if-begins_write.false))
    ]

pub returns-then-is_another : goal.returns-then-is_another
returns-then-is_another c =
    let h = c.args.arena.now in
    let r = c.args.register.0 in
    let before = subst (IsWriterSoFar h r c.loop-next.writer) c.in-Some.is c.loop-next.invariant in (
      λ q. absurd (false≢true q),
      λ single. absurd
          (not-single h c.event_count-count.ensures.recorded r c.loop-next.writer c.in-Some.id
          c.event-event.result before c.event-event.ensures.at (sym c.begins_write.ensures
          ∙ c.if-begins_write.true) (sym c.is_another.ensures ∙ c.if-is_another.true) single),
    )

pub returns : goal.returns
returns c = (
  λ _. writer-ends c.args.arena.now c.args.register.0 c.loop-next.writer
      (subst (IsWriterSoFar c.args.arena.now c.args.register.0 c.loop-next.writer) c.in_default.is
      c.loop-next.invariant),
  λ _. refl,
)
