use Rattle.std.proofs.Common.{◌<◌, ◌≤◌, ◌⊎◌, length, max, get_or, inl, inr, sym, ap, ◌∙◌, arith}
use Rattle.std.proofs.lemmas.Bool.{cases_lt}
use Rattle.causal_order.proofs.SessionClockLemmas.Raised.{raised-all, raised-more, raised-none, read-within}
use Rattle.causal_order.proofs.session_clocks.clocks.raise.Goals as goal

pub loop-session-init : goal.loop-session-init
loop-session-init c = raised-none c.args.row.now.items c.args.other.now

pub loop-session-preserved : goal.loop-session-preserved
loop-session-preserved c =
    let row = c.loop-session.row.items in
    let other = c.args.other.now in
    let i = c.loop-session.session in
    let below : i < length row =
    omega (
      arith,
      c.loop-session-test.true,
      c.min-session-end.ensures,
      c.len.ensures,
      c.loop-session.invariant.entries,
      c.args.row.now.ok.0,
    ) in
    raised-more c.args.row.now.items other row i c.max.result c.loop-session.invariant below
    (c.max.ensures
    ∙ ap (λ n. max n (get_or other i 0)) (sym (read-within row i c.index.result.now 0 below c.index.ensures)))

pub returns : goal.returns
returns c =
    let end : (length c.args.row.now.items ≤ c.loop-session.session)
    ⊎ (length c.args.other.now ≤ c.loop-session.session) =
    elim (cases_lt (length c.args.row.now.items) (length c.args.other.now)) [
      | inl l ↦ inl
          (omega (
            arith,
            l,
            c.loop-session-test.false,
            c.min-session-end.ensures,
            c.len.ensures,
            c.args.row.now.ok.0,
          ))
      | inr l ↦ inr
          (omega (
            arith,
            l,
            c.loop-session-test.false,
            c.min-session-end.ensures,
            c.len.ensures,
            c.args.row.now.ok.0,
          ))
    ] in
    raised-all c.args.row.now.items c.args.other.now c.loop-session.row.items c.loop-session.session
    c.loop-session.invariant end
