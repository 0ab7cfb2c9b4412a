use Rattle.std.proofs.Common.{sym, ◌∙◌}
use Rattle.register_search.proofs.DistinctValueLemmas.WrittenOnce.{one-other}
use Rattle.register_search.proofs.distinct_values.distinct.add_written.Goals as goal

pub returns-in-Read : goal.returns-in-Read
returns-in-Read c =
    λ _ ops h. one-other ops c.args.op.now c.args.written.now
    (λ v e. let q = sym c.in-Read.is ∙ e in cc (q)) h

pub returns-in-Cas : goal.returns-in-Cas
returns-in-Cas c =
    λ _ ops h. one-other ops c.args.op.now c.args.written.now
    (λ v e. let q = sym c.in-Cas.is ∙ e in cc (q)) h

pub returns-in-CasUnless : goal.returns-in-CasUnless
returns-in-CasUnless c =
    λ _ ops h. one-other ops c.args.op.now c.args.written.now
    (λ v e. let q = sym c.in-CasUnless.is ∙ e in cc (q)) h

pub returns-in-Miss : goal.returns-in-Miss
returns-in-Miss c =
    λ _ ops h. one-other ops c.args.op.now c.args.written.now
    (λ v e. let q = sym c.in-Miss.is ∙ e in cc (q)) h
