use Rattle.std.proofs.Common.{subst, sym}
use Rattle.register_search.specs.Timeline.{IsTimeline}
use Rattle.search_report.proofs.Told.{are-calls, are-times, told-of}
use Rattle.search_report.proofs.register.searched.Goals as goal

pub returns : goal.returns
returns c =
    let ops = c.args.ops.now in
    told-of c.args.lines.now ops c.in_ok-verdict.verdict c.atomicity_by_lines.result
    c.atomicity_by_lines.ensures (λ r timed. c.in_ok-verdict.ensures r
    (subst (IsTimeline r ops) (sym c.deref.ensures.value)
    (c.in_ok-moments.ensures r (are-calls r ops timed) (are-times r ops timed))))
