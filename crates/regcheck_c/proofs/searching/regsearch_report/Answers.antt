use Rattle.std.proofs.Common.{inl, subst, sym}
use Rattle.regcheck_c.specs.Searching.{IsReported}
use Rattle.regcheck_c.proofs.searching.regsearch_report.Goals as goal

pub returns-in-Ok-clause-answered : goal.returns-in-Ok-clause-answered
returns-in-Ok-clause-answered c = inl (
  c.as_slice.result.now,
  c.in-Ok.status,
  subst (λ b. IsReported c.args.input.now b c.in-Ok.status) (sym c.as_slice.ensures.value) c.in-Ok.ensures.ok,
  c.put_report.ensures,
)
