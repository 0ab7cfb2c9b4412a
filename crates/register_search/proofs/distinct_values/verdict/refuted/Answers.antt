use Rattle.std.proofs.Common.{◌≡◌, ℕ, IfSome, subst, ◌∙◌, rules}
use Rattle.register_search.specs.Timeline.{AreCalls, AreTimes}
use Rattle.register_search.specs.Verdicts.{RepliesAt}
use Rattle.register_search.specs.DistinctValues.Hopeless.{IsHopelessAt}
use Rattle.register_search.specs.DistinctValues.SomeOperations.{is_among, kept_of, null_or}
use Rattle.register_search.proofs.DistinctValueLemmas.Verdicts.{part-refutes}
use Rattle.register_search.proofs.distinct_values.verdict.refuted.Goals as goal

pub returns : goal.returns
returns c =
    let ops = c.args.ops.now in
    let fault = c.args.fault in
    let shown = fault.shown in
    let part = c.deref.result.now in
    let is : part ≡ kept_of (null_or shown.one shown.other) (is_among shown.calls.items) ops =
    c.deref.ensures.value ∙ c.in_ok-part.ensures in
    let hopeless =
    subst (λ o. IfSome o (λ t. (r : ℕ) → AreCalls r part → AreTimes part → IsHopelessAt r part t))
    c.in-Some.is c.in_ok-time.ensures in
    let replies : RepliesAt ops fault.reply c.in-Some.time = search rules in
    part-refutes shown.one shown.other (is_among shown.calls.items) ops part fault.reply c.in-Some.time
    c.in_ok-before.before c.requires is hopeless replies c.in_ok-before.ensures
