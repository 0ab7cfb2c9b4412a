use Rattle.std.proofs.Common.{sym, subst, ap, ◌∙◌, cond}
use Rattle.history_model.specs.Operations.{writes}
use Rattle.history_model.specs.Walking.{IsReplyOf}
use Rattle.reg_arena.proofs.ByCall.{call-valued, pending, replied}
use Rattle.reg_arena.proofs.arena.Arena.called.Goals as goal
use Rattle.reg_arena.proofs.arena.Arena.called.Goals.{in-None, in-Some+in-ReadOp, in-Some+in-WriteOp}
use Rattle.history_model.proofs.Lists.{slice_get_inside}

pub event-requires : goal.event-requires
event-requires c = c.reply_to.ensures.within c.in-Some.reply c.in-Some.is

pub returns : goal.returns
returns c =
    let valued =
    call-valued c.args.self.now c.event-event.ensures.recorded c.args.id.0
    c.event-event.result c.event-event.ensures.at c.requires in elim c.match-reply_to.branch [
      | in-None w ↦ rw (
        w.reply-is,
        c.time-2.ensures,
        c.kind_of-kind.ensures,
      )
          (pending c.args.self.now c.args.id c.event-event.result c.event-event.ensures.at c.requires
          c.unwrap_or.result c.unwrap_or.ensures valued
          (subst (IsReplyOf c.args.self.now.events c.args.id.0) w.in-None.is c.reply_to.ensures.reply))
      | in-Some+in-ReadOp w ↦
          rw (
            w.reply-is,
            w.time.ensures,
            c.time-2.ensures,
            c.kind_of-kind.ensures,
          )
          (replied c.args.self.now c.args.id c.event-event.result c.event-event.ensures.at c.requires
          c.unwrap_or.result c.unwrap_or.ensures valued w.in-Some.reply w.event.result w.event.result.value
          (subst (IsReplyOf c.args.self.now.events c.args.id.0) w.in-Some.is c.reply_to.ensures.reply)
          w.event.ensures.at
          (ap (λ k. cond (writes k) c.event-event.result.value w.event.result.value)
          (sym (sym c.kind_of-kind.ensures ∙ w.in-ReadOp.is))))
      | in-Some+in-WriteOp w ↦
          let r =
          slice_get_inside c.args.self.now.events w.in-Some.reply.0
          (c.reply_to.ensures.within w.in-Some.reply w.in-Some.is) in
          rw (
            w.reply-is,
            w.time-in-WriteOp.ensures,
            c.time-2.ensures,
            c.kind_of-kind.ensures,
          )
          (replied c.args.self.now c.args.id c.event-event.result c.event-event.ensures.at c.requires
          c.unwrap_or.result c.unwrap_or.ensures valued w.in-Some.reply r.0 c.event-event.result.value
          (subst (IsReplyOf c.args.self.now.events c.args.id.0) w.in-Some.is c.reply_to.ensures.reply) r.1
          (ap (λ k. cond (writes k) c.event-event.result.value r.0.value)
          (sym (sym c.kind_of-kind.ensures ∙ w.in-WriteOp.is))))
    ]
