use Rattle.std.proofs.Common.{rules, arith, refl, sym, ap, ◌∙◌, subst, length, slice_get, ◌≡◌, Some}
use Rattle.std.proofs.lemmas.Option.{slice_get_within, slice_get_read}
use Rattle.reg_levels.specs.declared.order_graph.walk.NodeMark.TheVariants.{Open}
use Rattle.reg_levels.proofs.OrderGraphLemmas.Turning.{end_is, turn_is, ahead_edge, closed, closed_keeps}
use Rattle.reg_levels.proofs.OrderGraphLemmas.Turning.{entered_ahead}
use Rattle.reg_levels.proofs.OrderGraphLemmas.Turning.{entered_keeps}
use Rattle.reg_levels.proofs.OrderGraphLemmas.Turning.{rounds, turned_on, turned_less}
use Rattle.reg_levels.proofs.order_graph.walk.GraphWalk.turn.Goals as goal

pub index-requires-2 : goal.index-requires-2
index-requires-2 c =
    let e = end_is c.args.edges.now _ _ _ _ c.len.result c.index.result.now c.requires.walk c.requires.path
    (search rules) c.index.ensures in
    omega (arith, e.1)

pub close-requires-clause-within : goal.close-requires-clause-within
close-requires-clause-within c = λ i v a. slice_get_within _ v Open (c.requires.walk.on_path i v a)

pub returns-then-number-eq0-clause-goes : goal.returns-then-number-eq0-clause-goes
returns-then-number-eq0-clause-goes c =
    closed_keeps c.in_ok-close.ensures.0 c.args.self.now c.close.new.self c.in_ok-close.ensures.1

pub returns-then-number-eq0-clause-walk : goal.returns-then-number-eq0-clause-walk
returns-then-number-eq0-clause-walk c =
    let t = turn_is c.args.edges.now _ _ _ _ c.len.result c.index.result.now c.index-2.result.now
    c.requires.walk
    c.requires.path (search rules) c.index.ensures c.index-2.ensures in
    closed c.args.edges.now c.in_ok-close.ensures.0 c.index.result.now c.args.self.now c.close.new.self
    c.requires.walk
    c.in_ok-close.ensures.1 t.last
    (subst (λ n. slice_get c.args.self.now.ahead.items c.index.result.now ≡ Some n) c.if-number-eq0.true
    t.is_ahead)

pub bounds-edges-number : goal.bounds-edges-number
bounds-edges-number c =
    let t = turn_is c.args.edges.now _ _ _ _ c.len.result c.index.result.now c.index-2.result.now
    c.requires.walk
    c.requires.path (search rules) c.index.ensures c.index-2.ensures in
    omega (arith, t.within)

pub index-requires-3 : goal.index-requires-3
index-requires-3 c =
    let t = turn_is c.args.edges.now _ _ _ _ c.len.result c.index.result.now c.index-2.result.now
    c.requires.walk
    c.requires.path (search rules) c.index.ensures c.index-2.ensures in
    let a = ahead_edge c.args.edges.now _ _ _ _ c.index.result.now c.index-2.result.now (record {
      from = 0;
      to = 0;
    })
    c.requires.walk c.requires.among t (omega arith) in
    omega (arith, a.among)

pub returns-then-eq-clause-meets : goal.returns-then-eq-clause-meets
returns-then-eq-clause-meets c =
    let t = turn_is c.args.edges.now _ _ _ _ c.len.result c.index.result.now c.index-2.result.now
    c.requires.walk
    c.requires.path (search rules) c.index.ensures c.index-2.ensures in
    let a = ahead_edge c.args.edges.now _ _ _ _ c.index.result.now c.index-2.result.now (record {
      from = 0;
      to = 0;
    })
    c.requires.walk c.requires.among t (omega arith) in
    let is_open : c.index-3.result.now ≡ Open = search rules in (
      a.among,
      rounds c.args.edges.now c.index.result.now c.index-2.result.now _ _ _ _ _ _ c.requires.walk t a
          (slice_get_read c.args.self.now.marks.items _ _ c.index-3.result.now refl a.among
          c.index-3.ensures ∙ ap Some is_open),
    )

pub enter-requires-clause-within : goal.enter-requires-clause-within
enter-requires-clause-within c =
    let t = turn_is c.args.edges.now _ _ _ _ c.len.result c.index.result.now c.index-2.result.now
    c.requires.walk
    c.requires.path (search rules) c.index.ensures c.index-2.ensures in
    let a = ahead_edge c.args.edges.now _ _ _ _ c.index.result.now c.index-2.result.now (record {
      from = 0;
      to = 0;
    })
    c.requires.walk c.requires.among t (omega arith) in
    a.among

pub enter-requires-clause-apart : goal.enter-requires-clause-apart
enter-requires-clause-apart c =
    let t = turn_is c.args.edges.now _ _ _ _ c.len.result c.index.result.now c.index-2.result.now
    c.requires.walk
    c.requires.path (search rules) c.index.ensures c.index-2.ensures in
    let a = ahead_edge c.args.edges.now _ _ _ _ c.index.result.now c.index-2.result.now (record {
      from = 0;
      to = 0;
    })
    c.requires.walk c.requires.among t (omega arith) in
    let mark = slice_get_read c.args.self.now.marks.items _ _ c.index-3.result.now refl a.among
    c.index-3.ensures in
    λ is_open. let same : c.index-3.result.now ≡ Open = let e = sym mark ∙ is_open in cc e in search rules

pub index-requires-4 : goal.index-requires-4
index-requires-4 c =
    let t = turn_is c.args.edges.now _ _ _ _ c.len.result c.index.result.now c.index-2.result.now
    c.requires.walk
    c.requires.path (search rules) c.index.ensures c.index-2.ensures in
    omega (arith, t.within, c.requires.linked.entries)

pub index_mut-requires : goal.index_mut-requires
index_mut-requires c =
    let e = end_is c.args.edges.now _ _ _ _ c.len.result c.index.result.now c.requires.walk c.requires.path
    (search rules) c.index.ensures in
    let same = ap length (entered_ahead _ _ _ c.in_ok-enter.ensures) in
    omega (arith, e.1, same)

pub returns-clause-goes : goal.returns-clause-goes
returns-clause-goes c =
    let k = entered_keeps _ _ _ c.in_ok-enter.ensures in record { sizes = k.sizes; met = k.met }

pub returns-clause-walk : goal.returns-clause-walk
returns-clause-walk c =
    let t = turn_is c.args.edges.now _ _ _ _ c.len.result c.index.result.now c.index-2.result.now
    c.requires.walk
    c.requires.path (search rules) c.index.ensures c.index-2.ensures in
    let a = ahead_edge c.args.edges.now _ _ _ _ c.index.result.now c.index-2.result.now (record {
      from = 0;
      to = 0;
    })
    c.requires.walk c.requires.among t (omega arith) in
    turned_on c.args.edges.now c.index.result.now c.index-2.result.now c.index-4.result.now _ _
    c.args.self.now
    c.enter.new.self _ c.args.incoming.now.next.items c.requires.walk c.requires.linked c.requires.path t
    (omega arith)
    a c.index-4.ensures c.in_ok-enter.ensures

pub returns-clause-less : goal.returns-clause-less
returns-clause-less c =
    let t = turn_is c.args.edges.now _ _ _ _ c.len.result c.index.result.now c.index-2.result.now
    c.requires.walk
    c.requires.path (search rules) c.index.ensures c.index-2.ensures in
    let a = ahead_edge c.args.edges.now _ _ _ _ c.index.result.now c.index-2.result.now (record {
      from = 0;
      to = 0;
    })
    c.requires.walk c.requires.among t (omega arith) in
    turned_less c.args.edges.now c.index.result.now c.index-2.result.now c.index-4.result.now _ _
    c.args.self.now
    c.enter.new.self _ c.args.incoming.now.next.items c.requires.linked t (omega arith) a c.index-4.ensures
    c.in_ok-enter.ensures
