use Rattle.std.proofs.Common.{sym, ◌∙◌}
use Rattle.std.proofs.lemmas.Bool.{false≢true}
use Rattle.register_search.proofs.Needed.{found-first, found-refutes, none-more, none-left}
use Rattle.register_search.proofs.unwritten.first_unwritten.Goals as goal

pub returns-then-is_unwritten-clause-first : goal.returns-then-is_unwritten-clause-first
returns-then-is_unwritten-clause-first c = (
  found-first c.args.ops.now c.loop-place.place _ c.loop-place-test.true
      ((c.is_unwritten.ensures c.args.ops.now c.in_ok-given.ensures).0 c.if-is_unwritten.true),
  c.loop-place.invariant,
)

pub returns-then-is_unwritten-clause-no : goal.returns-then-is_unwritten-clause-no
returns-then-is_unwritten-clause-no c =
    λ r _. found-refutes r c.args.ops.now c.loop-place.place _ c.loop-place-test.true
    ((c.is_unwritten.ensures c.args.ops.now c.in_ok-given.ensures).0 c.if-is_unwritten.true)

pub loop-place-preserved : goal.loop-place-preserved
loop-place-preserved c =
    none-more c.args.ops.now c.loop-place.place _ c.loop-place-test.true c.loop-place.invariant
    (λ u. false≢true (sym c.if-is_unwritten.false
    ∙ (c.is_unwritten.ensures c.args.ops.now c.in_ok-given.ensures).1 u))

pub returns-clause-first : goal.returns-clause-first
returns-clause-first c =
    none-left c.args.ops.now c.loop-place.place c.loop-place-test.false c.loop-place.invariant
