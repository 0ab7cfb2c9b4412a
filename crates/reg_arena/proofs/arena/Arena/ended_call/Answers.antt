use Rattle.std.proofs.Common.{Some, sym, ap, subst, ◌∙◌}
use Rattle.history_model.specs.History.{History}
use Rattle.reg_arena.specs.Step.{IsStanding}
use Rattle.reg_arena.specs.declared.process_standing.Standing.TheVariants.{Crashed, Free}
use Rattle.reg_arena.proofs.Refused.{end-closed, end-crashed}
use Rattle.reg_arena.proofs.arena.Arena.ended_call.Goals as goal

pub returns-in-Crashed-clause-err : goal.returns-in-Crashed-clause-err
returns-in-Crashed-clause-err c = λ es acc q.
    end-crashed es c.args.event.now acc c.requires.0 c.requires.1 c.in-Crashed.crash
    (subst (λ (h : History). IsStanding h.events c.args.event.now.process (Crashed c.in-Crashed.crash)) q
    c.in-Crashed.ensures)
    ∙ sym (c.crash_refusal.ensures es acc q)

pub returns-in-Free-clause-err : goal.returns-in-Free-clause-err
returns-in-Free-clause-err c = λ es acc q.
    end-closed es c.args.event.now acc c.requires.0 c.requires.1
    (subst (λ (h : History). IsStanding h.events c.args.event.now.process Free) q c.in-Free.ensures)
    ∙ ap Some (sym c.refused.ensures)
