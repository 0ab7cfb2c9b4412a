use Rattle.std.specs.Global.{Global}
use Rattle.std.specs.Prelude.{Vec}
use Rattle.std.proofs.Common.{◌++◌, ◌+◌, ◌∷◌, ◌∙◌, [], length, drop, ap, arith, sym, true, false}
use Rattle.history_model.specs.Naming.{op_shown}
use Rattle.history_model.specs.Operations.{calls_from}
use Rattle.history_model.specs.declared.operation.Operation.{Operation}
use Rattle.history_model.proofs.Lists.{slice_get_inside}
use Rattle.history_model.proofs.Walking.{named-is-called}
use Rattle.level_report.specs.Shown.{operation_shown}
use Rattle.level_report.proofs.AllListed.{call-more}
use Rattle.level_report.proofs.Listing.{called-again}
use Rattle.level_report.proofs.operations.push_calls.Goals.{then-begins+in_ok-push, else-begins}
use Rattle.level_report.proofs.operations.push_calls.Goals as goal

pub op-requires : goal.op-requires
op-requires c =
    let es = c.args.arena.now.events in
    let x = slice_get_inside es c.loop-number.number
    (omega (arith, c.loop-number-test.true, c.event_count-count.ensures.count)) in
    (x.0, x.1, sym (c.begins.ensures x.0 x.1) ∙ c.if-begins.true)

pub loop-number-preserved : goal.loop-number-preserved
loop-number-preserved c =
    let h = c.args.arena.now in
    let i = c.loop-number.number in
    let listed = c.loop-number.ops.items in
    let x = slice_get_inside h.events i
    (omega (arith, c.loop-number-test.true, c.event_count-count.ensures.count)) in
    let begun = c.begins.ensures x.0 x.1 in
    let rest = calls_from (length h.events + 2) (i + 1 + 2) (drop (i + 1) h.events) in
    elim c.if-begins.branch [
      | then-begins+in_ok-push w ↦
          let o = w.op.ensures.0 in
          let same = named-is-called h (record { 0 = i }) x.0 o x.1 w.op.ensures.1 in
          ap (λ (v : Vec Operation Global). v.items ++ rest) w.ops-is
          ∙ ap (λ xs. xs ++ rest) (w.in_ok-push.ensures.items
          ∙ ap (λ (a : Operation). listed ++ a ∷ []) (w.operation_of.ensures
          ∙ ap (operation_shown (c.event_count-count.result + 2)) w.op.ensures.2
          ∙ ap (λ n. operation_shown (n + 2) (op_shown o)) c.event_count-count.ensures.count
          ∙ called-again h.events i x.0 o same ∙ same))
          ∙ call-more h.events i x.0 listed true x.1 (sym begun ∙ w.if-begins.true)
          ∙ c.loop-number.invariant
      | else-begins w ↦
          ap (λ (v : Vec Operation Global). v.items ++ rest) w.ops-is
          ∙ call-more h.events i x.0 listed false x.1 (sym begun ∙ w.if-begins.false)
          ∙ c.loop-number.invariant
    ]
