-- The reply of a call is the next event of its process, if that is a reply.
use Rattle.std.proofs.lemmas.Option.{slice_get_within}
use Rattle.history_model.specs.declared.ids.EvId.{EvId}
use Rattle.std.proofs.Common.{◌≡◌, ◌<◌, length, sym, ap, subst, option_and_then}
use Rattle.history_model.specs.Walking.{IsNextOf, by_process, IsReplyOf}
use Rattle.reg_arena.proofs.ListLemmas.Append.{key-within}
use Rattle.reg_arena.proofs.ByCall.{reply-none, reply-some, reply-other}
use Rattle.reg_arena.proofs.arena.Arena.reply_to.Goals as goal
use Rattle.history_model.proofs.Lists.{slice_get_inside}

pub returns-in_err-next-clause-reply : goal.returns-in_err-next-clause-reply
returns-in_err-next-clause-reply c =
    subst (IsReplyOf c.args.self.now.events c.args.id.0) (sym c.from_residual.ensures)
    (reply-none c.args.self.now.events c.args.id.0
    (subst (IsNextOf by_process c.args.self.now.events c.args.id.0) c.in_err-next.was
    c.next_in_process.ensures))

pub event-requires : goal.event-requires
event-requires c =
    let e = slice_get_inside c.args.self.now.events c.args.id.0 c.requires in
    let n =
    subst (IsNextOf by_process c.args.self.now.events c.args.id.0) c.in_ok-next.was
    c.next_in_process.ensures in
    key-within by_process c.args.self.now.events c.in_ok-next.next.0 e.0.process
    (n e.0.process (ap (option_and_then by_process) e.1)).1

pub returns-then-is_reply-clause-reply : goal.returns-then-is_reply-clause-reply
returns-then-is_reply-clause-reply c =
    reply-some c.args.self.now.events c.args.id.0 c.in_ok-next.next c.event.result
    (subst (IsNextOf by_process c.args.self.now.events c.args.id.0) c.in_ok-next.was
    c.next_in_process.ensures) c.event.ensures.at (sym c.if-is_reply.ensures)

pub returns-else-is_reply-clause-reply : goal.returns-else-is_reply-clause-reply
returns-else-is_reply-clause-reply c =
    reply-other c.args.self.now.events c.args.id.0 c.in_ok-next.next c.event.result
    (subst (IsNextOf by_process c.args.self.now.events c.args.id.0) c.in_ok-next.was
    c.next_in_process.ensures) c.event.ensures.at (sym c.if-is_reply.ensures)

pub returns-then-is_reply-clause-within : goal.returns-then-is_reply-clause-within
returns-then-is_reply-clause-within c = λ j q.
    let same : c.in_ok-next.next ≡ j = cc (q) in
    let l = slice_get_within c.args.self.now.events c.in_ok-next.next.0 c.event.result c.event.ensures.at in
    subst (λ (v : EvId). v.0 < length c.args.self.now.events) same l
