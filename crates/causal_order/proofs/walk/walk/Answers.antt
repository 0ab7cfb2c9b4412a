use Rattle.std.proofs.Common.{◌+◌, length, slice_index_or, arith}
use Rattle.std.proofs.lemmas.Option.{MatchOption-at_none, slice_get-get_or}
use Rattle.causal_order.specs.Covering.{IsSettled, IsStale}
use Rattle.causal_order.proofs.Walking.{beyond-many, longer-more, settled-more}
use Rattle.causal_order.proofs.walk.walk.Goals as goal

pub give_up-requires-clause-sized : goal.give_up-requires-clause-sized
give_up-requires-clause-sized c =
    let at = slice_get-get_or c.args.order.now c.loop-turn.turn 0 c.loop-turn-test.true in
    (c.in_ok-write.ensures.walk c.args.order.now c.loop-turn.turn c.loop-turn.invariant.walk at).clocks.sized

pub give_up-requires-clause-within : goal.give_up-requires-clause-within
give_up-requires-clause-within c =
    c.requires.learning.turns.within c.loop-turn.turn _
    (slice_get-get_or c.args.order.now c.loop-turn.turn 0 c.loop-turn-test.true)

pub returns-then-is_beyond : goal.returns-then-is_beyond
returns-then-is_beyond c =
    let at = slice_get-get_or c.args.order.now c.loop-turn.turn 0 c.loop-turn-test.true in
    let taken = c.in_ok-write.ensures.walk c.args.order.now c.loop-turn.turn c.loop-turn.invariant.walk at in
    let passed = c.give_up.ensures c.args.ops.now c.args.order.now taken.clocks at in
    beyond-many (length c.args.ops.now) (length c.args.table.now.numbers.items) c.args.table.now.count
    (length c.take.new.self.graph.edges.items) (c.loop-turn.turn + 1)
    (omega (
      arith,
      c.loop-turn-test.true,
      c.requires.learning.turns.few,
      c.requires.learning.sessions.numbers,
    ))
    c.requires.learning.sessions.numbers
    (longer-more c.loop-turn.turn c.args.table.now.count _ _ _ c.loop-turn.invariant.longer
    c.in_ok-write.ensures.longer)
    (c.is_beyond.ensures.yes c.if-is_beyond.true passed.sized)

pub loop-turn-preserved : goal.loop-turn-preserved
loop-turn-preserved c =
    let ops = c.args.ops.now in
    let table = c.args.table.now in
    let order = c.args.order.now in
    let turn = c.loop-turn.turn in
    let edges = c.take.new.self.graph.edges.items in
    let at = slice_get-get_or order turn 0 c.loop-turn-test.true in
    let taken = c.in_ok-write.ensures.walk order turn c.loop-turn.invariant.walk at in
    let found = MatchOption-at_none (IsSettled ops table edges (slice_index_or order turn 0))
    (λ write. IsStale ops table write (slice_index_or order turn 0)) c.in_default.is
    c.in_ok-write.ensures.found in
    record {
      walk = record { index = taken.index; clocks = c.give_up.ensures ops order taken.clocks at };
      graph = λ g. c.in_ok-write.ensures.graph (c.loop-turn.invariant.graph g);
      keeps = λ a b h. c.in_ok-write.ensures.keeps a b (c.loop-turn.invariant.keeps a b h);
      settled = settled-more ops table order turn _ c.loop-turn.walk.graph.edges.items edges at
          c.in_ok-write.ensures.keeps found c.loop-turn.invariant.settled;
      longer = longer-more turn table.count _ _ _ c.loop-turn.invariant.longer c.in_ok-write.ensures.longer;
      small = c.is_beyond.ensures.no c.if-is_beyond.false;
    }

pub returns : goal.returns
returns c =
    let h = c.loop-turn.invariant in
    (h.graph, h.keeps, λ i p l. h.settled i p (omega (arith, l, c.loop-turn-test.false)), h.small)
