use Rattle.std.proofs.Common.{◌≡◌, ◌<◌, ◌^◌, Some, slice_get, length, arith, refl, sym, ap, subst, ◌∙◌}
use Rattle.std.proofs.lemmas.Option.{slice_get_read}
use Rattle.reg_levels.specs.Clusters.Places.{IsAt}
use Rattle.reg_levels.specs.LevelGraph.{Reaches}
use Rattle.reg_levels.proofs.Beginning.{begun_more, initial_at_0}
use Rattle.reg_levels.proofs.Numbering.{clusters_few}
use Rattle.reg_levels.proofs.graph.LevelGraph.add_initial.Goals as goal

pub returns-in_default-clause-reaches : goal.returns-in_default-clause-reaches
returns-in_default-clause-reaches c = λ p x a at none number y l.
    let first : p ≡ 0 = initial_at_0 c.args.ops.now c.requires.history c.requires.by_call p a at none in
    absurd (c.in_default.ensures.none x a (subst (λ n. IsAt c.args.ops.now n a) first at) none
    (subst (λ n. slice_get c.args.table.now.numbers.items n ≡ Some (Some x)) first number))

pub overflow_cast-other-end : goal.overflow_cast-other-end
overflow_cast-other-end c =
    let few = clusters_few c.args.ops.now c.args.table.now.clusters.items c.args.table.now.numbers.items
    c.requires.table in
    let small : length c.args.ops.now < 2 ^ 32 = omega (arith, c.requires.few) in
    omega (arith, few, small, c.len-other-end.ensures, c.args.table.now.clusters.ok.0)

pub loop-other-preserved : goal.loop-other-preserved
loop-other-preserved c =
    let first = c.in-Some.ensures.some in
    let clusters = c.args.table.now.clusters.items in
    let here : slice_get clusters c.loop-other.other ≡ Some c.index.result.now =
    slice_get_read clusters (length clusters) c.loop-other.other c.index.result.now refl
    (omega (arith, c.loop-other-test.true, c.len-other-end.ensures, c.args.table.now.clusters.ok.0))
    c.index.ensures in
    begun_more c.args.ops.now c.args.table.now.clusters.items c.args.table.now.numbers.items
    c.requires.history
    c.requires.by_call c.requires.table c.in-Some.number c.loop-other.other first.0 c.index.result.now
    c.args.self.now
    c.loop-other.self c.join_if.new.self first.1 first.2 first.3 here c.in_ok-join_if.ensures
    c.loop-other.invariant

pub returns-clause-reaches : goal.returns-clause-reaches
returns-clause-reaches c = λ p x a at none number y l.
    let begun = c.in-Some.ensures.some in
    let first : p ≡ 0 = initial_at_0 c.args.ops.now c.requires.history c.requires.by_call p a at none in
    let same : Some (Some x) ≡ Some (Some c.in-Some.number) =
    sym number ∙ (ap (slice_get c.args.table.now.numbers.items) first ∙ begun.3) in
    subst (λ n. Reaches c.loop-other.self.edges.items n y) (let e : c.in-Some.number ≡ x = cc same in e)
    (c.loop-other.invariant.reaches y
    (omega (arith, l, c.loop-other-test.false, c.len-other-end.ensures, c.args.table.now.clusters.ok.0)))
