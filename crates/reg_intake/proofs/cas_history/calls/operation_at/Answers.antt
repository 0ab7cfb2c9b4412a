-- The call didn't fail, and the next event of its process is its reply, or none.
use Rattle.std.proofs.Common.{◌≡◌, ℕ, Option, Some, None, option_map, is_some, unwrap_or, refl, sym, ap, ◌∙◌}
use Rattle.std.specs.Borrow.{Bor}
use Rattle.history_text.specs.declared.event.AnyEvent.{AnyEvent}
use Rattle.reg_intake.specs.CasHistory.Events.{Called}
use Rattle.reg_intake.specs.CasHistory.History.{act_of, number_of}
use Rattle.reg_intake.proofs.CasHistoryLemmas.Begun.{begun}
use Rattle.reg_intake.proofs.cas_history.calls.operation_at.Goals as goal

-- an event with its time, as contracts see it
abbrev seen : Option (ℕ × Bor AnyEvent) → Option (ℕ × AnyEvent)
seen o = option_map (λ (next : ℕ × Bor AnyEvent). (next.0, next.1.now)) o

time : (o : Option (ℕ × Bor AnyEvent)) → option_map (λ (next : ℕ × Bor AnyEvent). next.0) o
    ≡ option_map (λ (next : ℕ × AnyEvent). next.0) (seen o)
time None = refl
time (Some x) = refl

there : (o : Option (ℕ × Bor AnyEvent)) → is_some o ≡ is_some (seen o)
there None = refl
there (Some x) = refl

event : (o : Option (ℕ × Bor AnyEvent)) → option_map (λ (next : ℕ × Bor AnyEvent). next.1.now) o
    ≡ option_map (λ (next : ℕ × AnyEvent). next.1) (seen o)
event None = refl
event (Some x) = refl

pub returns-clause-operation : goal.returns-clause-operation
returns-clause-operation c = λ names number.
    let reply = c.reply_in-reply.result in
    let call : Called = record { register = c.in-Some._name.now; asked = c.in-Some.asked } in
    begun names c.args.after_all c.args.time c.args.event.now call (sym c.in-Some.ensures)
    (seen c.args.next) (seen reply) (sym (c.has_failed.ensures names) ∙ c.if-has_failed.false)
    (c.reply_in-reply.ensures names) c.time_of.result c.is_some.result c.args.register c.act_of.result
    (c.time_of.ensures ∙ ap (λ o. unwrap_or o c.args.after_all) (time reply))
    (c.is_some.ensures ∙ there reply) (number ∙ ap (number_of names) (sym c.in-Some.ensures))
    (c.act_of.ensures c.in-Some._name.now ∙ ap (act_of (Some call)) (event reply))
