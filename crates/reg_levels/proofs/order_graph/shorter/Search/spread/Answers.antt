use Rattle.std.proofs.Common.{◌≡◌, ◌-◌, ◌<◌, suc, ℕ, Some, length, slice_get, get_or, arith, refl, sym}
use Rattle.std.proofs.Common.{subst, ◌∙◌}
use Rattle.std.proofs.lemmas.Option.{slice_get-get_or, slice_get_read}
use Rattle.reg_levels.specs.OrderGraph.Graph.{HasEdge}
use Rattle.reg_levels.specs.OrderGraph.Incoming.{IsNextEdge}
use Rattle.reg_levels.specs.declared.order_graph.edge.Edge.{Edge}
use Rattle.reg_levels.proofs.OrderGraphLemmas.Places.{place-inside, edge-at}
use Rattle.reg_levels.proofs.OrderGraphLemmas.Trails.{met-kept, met-noted}
use Rattle.reg_levels.proofs.order_graph.shorter.Search.spread.Goals as goal

pub loop-number-preserved : goal.loop-number-preserved
loop-number-preserved c =
    let edges = c.args.edges.now in
    let none : Edge = record { from = 0; to = 0 } in
    let k : ℕ = c.loop-number.number - 1 in
    let e : Edge = get_or edges k none in
    let h = c.loop-number.invariant in
    let within : k < length edges = omega (arith, h.ends.within, c.loop-number-test.true) in
    let at : slice_get edges k ≡ Some e = slice_get-get_or edges k none within in
    let to : e.to ≡ c.index.result.now.node =
    h.ends.ends k e (let q : c.loop-number.number ≡ suc k = omega (arith, c.loop-number-test.true) in q) at in
    let old = place-inside c.loop-number.self.met.items c.args.place (omega (
      arith,
      h.longer,
      c.requires.within,
    )) in
    let leads : HasEdge edges e.from old.0.node =
    subst (HasEdge edges e.from) (to ∙ sym (h.there old.0 old.1)) (edge-at edges k e at) in
    let next : slice_get c.args.incoming.now.next.items k ≡ Some c.index-in-loop-number.result.now =
    slice_get_read c.args.incoming.now.next.items _ k c.index-in-loop-number.result.now refl
    (omega (arith, within, c.requires.linked.entries)) c.index-in-loop-number.ensures in
    let after : IsNextEdge edges c.index.result.now.node k c.index-in-loop-number.result.now =
    subst (λ x. IsNextEdge edges x k c.index-in-loop-number.result.now) to
    (c.requires.linked.nexts k c.index-in-loop-number.result.now e next at) in
    record {
      size = c.in_ok-meet.ensures.size ∙ h.size;
      met =
          met-noted _ edges c.args.start c.loop-number.self.met.items c.meet.new.self.met.items c.args.place
          e.from
          old.0 h.met old.1 leads (c.requires.among k none within).0 c.in_ok-meet.ensures.met;
      longer = omega (arith, h.longer, c.in_ok-meet.ensures.longer);
      there =
          λ m a. h.there m
          (met-kept c.loop-number.self.met.items c.meet.new.self.met.items _ c.in_ok-meet.ensures.met
          c.args.place
          (omega (arith, h.longer, c.requires.within)) m a);
      ends = record { within = omega (arith, after.within, within); ends = after.ends };
    }
