-- Every list of events keeps the facts.
use Rattle.std.proofs.Common.{◌≡◌, ℕ, ◌+◌, ◌≤◌, ltb, if◌then◌else◌, true, false}
use Rattle.std.proofs.Common.{List, [], ◌∷◌, set, sym, ◌∙◌, subst, lt_of_not-le}
use Rattle.std.proofs.lemmas.Bool.{lt-ltb, le-ltb}
use native.Mathlib.Decide.{dec_le}
use Rattle.atomic_table.proofs.Lists.{set_else}
use Rattle.job_board.specs.declared.limits.TheConstants.{MAX_JOBS}
use Rattle.job_board.specs.Seats.{View, with_drawn, with_exhausted, joint_view}
use Rattle.job_board.specs.Facts.{IsConsistent}
use Rattle.job_board.specs.Events.{State, state_of, opening_state, Event, draw, flag, look}
use Rattle.job_board.specs.Events.{split, join, IsSeatAt, view_after_draw, Leads, LeadTo}
use Rattle.job_board.proofs.Opening.{opening_keeps}
use Rattle.job_board.proofs.Drawing.{draw_keeps, telling_keeps}
use Rattle.job_board.proofs.Flagging.{flag_keeps}
use Rattle.job_board.proofs.Looking.{look_keeps}
use Rattle.job_board.proofs.Splitting.{split_keeps}
use Rattle.job_board.proofs.Joining.{join_keeps}

-- the facts, of a state
abbrev IsGood : ℕ → State → Type 0
IsGood jobs c = IsConsistent jobs c.next c.least c.seats

-- a draw, whatever it finds
draw_leads : (jobs : ℕ) (c : State) (id : ℕ) (v : View) → IsGood jobs c → IsSeatAt c id v
    → v.exhausted ≡ false → Dec (jobs ≤ c.next)
    → IsGood jobs (state_of (c.next + 1) c.least (set c.seats id (view_after_draw jobs v c.next)))
draw_leads jobs c id v h at drawing (yes le) =
    let e : ltb c.next jobs ≡ false = le-ltb c.next jobs le in
    subst (λ b. IsGood jobs
    (state_of (c.next + 1) c.least (set c.seats id (if b then with_drawn v c.next
    else with_exhausted v)))) (sym e)
    (telling_keeps jobs c.next c.least c.seats id v h at.0 at.1 drawing le)
draw_leads jobs c id v h at drawing (no gt) =
    let lt = lt_of_not-le gt in
    let e : ltb c.next jobs ≡ true = lt-ltb c.next jobs lt in
    subst (λ b. IsGood jobs
    (state_of (c.next + 1) c.least (set c.seats id (if b then with_drawn v c.next
    else with_exhausted v)))) (sym e) (draw_keeps jobs c.next c.least c.seats id v h at.0 at.1 lt)

-- one event
event_keeps : (jobs : ℕ) (e : Event) (c d : State) → IsGood jobs c → Leads jobs e c d → IsGood jobs d
event_keeps jobs (draw id) c d h t =
    subst (IsGood jobs) (sym t.3) (draw_leads jobs c id t.0 h t.1 t.2 (dec_le jobs c.next))
event_keeps jobs (flag id j) c d h t =
    subst (IsGood jobs) (sym t.3) (flag_keeps jobs c.next c.least c.seats id t.0 j h t.1.0 t.1.1 t.2)
event_keeps jobs (look id) c d h t =
    subst (IsGood jobs) (sym t.2) (look_keeps jobs c.next c.least c.seats id t.0 h t.1.0 t.1.1)
event_keeps jobs (split id part) c d h t =
    subst (IsGood jobs) (sym t.4) (split_keeps jobs c.next c.least part c.seats id t.0 h t.1.0 t.2 t.3)
event_keeps jobs (join id other) c d h t = subst (IsGood jobs) (sym t.5)
    (join_keeps jobs c.next c.least c.seats id other t.0 t.1 h t.2.0 t.4
    (set_else c.seats id other (joint_view t.0 t.1) t.4 ∙ t.3.0) t.2.1 t.3.1)

-- one after another
each_keeps : (jobs : ℕ) (es : List Event) (c d : State) → IsGood jobs c → LeadTo jobs es c d → IsGood jobs d
each_keeps jobs [] c d h e = subst (IsGood jobs) e h
each_keeps jobs (e ∷ es) c d h r = each_keeps jobs es r.0 d (event_keeps jobs e c r.0 h r.1) r.2

-- from the opening state on
pub events_keep : (jobs : ℕ) → jobs ≤ MAX_JOBS → (es : List Event) (state : State)
    → LeadTo jobs es (opening_state jobs) state → IsConsistent jobs state.next state.least state.seats
events_keep jobs le es d r = each_keeps jobs es (opening_state jobs) d (opening_keeps jobs le) r
