use Rattle.std.proofs.Common.{false, subst, sym, ◌∙◌}
use Rattle.level_laws.proofs.Weaker.{atomic-session}
use Rattle.level_report.specs.Guarantees.{AreGuarantees, IsVerdict, strongest}
use Rattle.history_model.specs.declared.guarantee.Guarantee.TheVariants as guarantee
use Rattle.level_report.specs.Ordered.{IsOrdered, every_guarantee, guarantees_found}
use Rattle.level_report.proofs.Deciding.{found-ordered, session-kept, session-ordered, without-session}
use Rattle.level_report.proofs.guarantees.guarantees_of.Goals as goal

pub returns-then-atomic-clause-kept : goal.returns-then-atomic-clause-kept
returns-then-atomic-clause-kept c =
    subst (AreGuarantees c.args.ops.now) (sym c.all_kept.ensures.kept)
    (session-kept c.args.ops.now (atomic-session c.args.ops.now (c.requires.atomic c.if-atomic.true)))

pub returns-then-session-clause-kept : goal.returns-then-session-clause-kept
returns-then-session-clause-kept c =
    let ops = c.args.ops.now in
    let session = c.in_ok-session.session in
    let kept =
    subst (λ b. IsVerdict guarantee.Session ops b session.fault) c.if-session.true
    c.in_ok-session.ensures.verdict in
    subst (AreGuarantees ops) (sym c.all_kept-then-session.ensures.kept) (session-kept ops kept.0)

pub returns-then-session-clause-ordered : goal.returns-then-session-clause-ordered
returns-then-session-clause-ordered c = λ _.
    let ops = c.args.ops.now in
    let clusters = c.args.table.now.clusters.items in
    subst (λ k. IsOrdered ops clusters (strongest false k) c.all_kept-then-session.result.ordered)
    (sym c.all_kept-then-session.ensures.kept)
    (subst (IsOrdered ops clusters (strongest false every_guarantee))
    (sym (c.all_kept-then-session.ensures.ordered ∙ c.ordered_or.ensures))
    (session-ordered ops clusters c.in_ok-session.session c.in_ok-session.ensures c.if-session.true))

pub returns-clause-kept : goal.returns-clause-kept
returns-clause-kept c =
    let ops = c.args.ops.now in
    let clusters = c.args.table.now.clusters.items in
    subst (AreGuarantees ops) (sym c.without_session.ensures.kept)
    (without-session ops clusters c.in_ok-session.session c.in_ok-own.own c.in_ok-monotonic.monotonic
    c.in_ok-sequential.sequential c.in_ok-session.ensures c.if-session.false c.in_ok-own.ensures
    c.in_ok-monotonic.ensures c.in_ok-sequential.ensures)

pub returns-clause-ordered : goal.returns-clause-ordered
returns-clause-ordered c = λ _.
    let ops = c.args.ops.now in
    let clusters = c.args.table.now.clusters.items in
    subst (λ k. IsOrdered ops clusters (strongest false k) c.without_session.result.ordered)
    (sym c.without_session.ensures.kept)
    (subst (IsOrdered ops clusters (strongest false (guarantees_found c.in_ok-session.session c.in_ok-own.own
    c.in_ok-monotonic.monotonic c.in_ok-sequential.sequential))) (sym c.without_session.ensures.ordered)
    (found-ordered ops clusters c.in_ok-session.session c.in_ok-own.own c.in_ok-monotonic.monotonic
    c.in_ok-sequential.sequential c.in_ok-session.ensures c.if-session.false c.in_ok-own.ensures
    c.in_ok-monotonic.ensures c.in_ok-sequential.ensures))
