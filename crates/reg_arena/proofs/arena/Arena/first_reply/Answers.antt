use Rattle.std.proofs.Common.{◌≡◌, ◌<◌, ◌∙◌, ℕ, List, Option, None, ap, arith, length, sym, subst}
use Rattle.reg_arena.specs.Lists.EventLists.{events_in}
use Rattle.history_model.specs.History.{History, IsRecorded}
use Rattle.history_model.specs.OfValue.{IsFirstReply}
use Rattle.history_text.specs.declared.event.Val.{Val}
use Rattle.reg_arena.specs.Lists.EventLists.{AreEventLists, entry_in}
use Rattle.reg_arena.specs.ValueTimes.{reply_time}
use Rattle.reg_arena.specs.declared.event_lists.lists.EventLists.{EventLists}
use Rattle.reg_arena.proofs.Times.{has-times, first-time}
use Rattle.reg_arena.proofs.arena.Arena.first_reply.Goals as goal

module _ (names : List (List ℕ)) (t : EventLists) (a : AreEventLists t)
    (rec : IsRecorded (record { names = names; events = events_in t })) where
  -- the time by the entry of a register and value is the answer
  by-entry : (h : History) → record { names = names; events = events_in t } ≡ h → (k : ℕ × Val)
      → k.0 < length h.names → (r : Option ℕ) → r ≡ reply_time k.1 (entry_in t k)
      → IsFirstReply h k.0 k.1 r
  by-entry h viewed k known r is =
      let l = ap (λ (h : History). length h.names) viewed in
      subst (λ (h : History). IsFirstReply h k.0 k.1 r) viewed
      (subst (IsFirstReply _ k.0 k.1) (sym is) (first-time names t a rec k (omega (arith, known, l))))

pub reply_time-requires-in-Int : goal.reply_time-requires-in-Int
reply_time-requires-in-Int c =
    λ y q. has-times c.self.inside.lists c.self.invariant.0 (
      c.args.register.0,
      c.args.value,
    ) y (sym c.entry.ensures ∙ q)

pub returns-in-Null : goal.returns-in-Null
returns-in-Null c =
    let t = c.self.inside.lists in
    let k : ℕ × Val = (c.args.register.0, c.args.value) in
    let initial =
    ap (λ v. reply_time v None) c.in-Null.is
    ∙ sym (ap (λ v. reply_time v (entry_in t k)) c.in-Null.is) in
    by-entry c.self.inside.names t c.self.invariant.0 c.self.invariant.2 c.args.self.now c.self.view_is k
    c.requires c.reply_time.result (c.reply_time.ensures ∙ initial)

pub returns-in-Int : goal.returns-in-Int
returns-in-Int c =
    let k : ℕ × Val = (c.args.register.0, c.args.value) in
    by-entry c.self.inside.names c.self.inside.lists c.self.invariant.0 c.self.invariant.2 c.args.self.now
    c.self.view_is k c.requires c.reply_time-in-Int.result (c.reply_time-in-Int.ensures
    ∙ ap (reply_time c.args.value) c.entry.ensures)
