use Rattle.std.proofs.Common.{◌≡◌, suc, ◌+◌, ◌<◌, ◌++◌, ◌∷◌, [], Some, length, set, slice_get, slice_index_or}
use Rattle.std.proofs.Common.{arith, refl, subst, sym, ap, ◌∙◌, add-one}
use Rattle.std.proofs.lemmas.List.{length_push}
use Rattle.std.proofs.lemmas.Option.{slice_get-get_or, slice_get_read}
use Rattle.reg_levels.specs.OrderGraph.Incoming.{AreLists}
use Rattle.reg_levels.specs.declared.order_graph.edge.Edge.{Edge}
use Rattle.reg_levels.proofs.OrderGraphLemmas.Listing.{lists-more}
use Rattle.reg_levels.proofs.order_graph.incoming.linked.Goals as goal

pub loop-edge-preserved : goal.loop-edge-preserved
loop-edge-preserved c =
    let none : Edge = record { from = 0; to = 0 } in
    let e = slice_index_or c.args.edges.now c.loop-edge.edge-index none in
    let at : slice_get c.args.edges.now c.loop-edge.edge-index ≡ Some e =
    slice_get-get_or c.args.edges.now c.loop-edge.edge-index none c.loop-edge-test.true in
    let within : e.to < length c.loop-edge.first.items =
    omega (
      arith,
      (c.requires.among c.loop-edge.edge-index none c.loop-edge-test.true).1,
      c.loop-edge.invariant.heads,
    ) in
    let old : slice_get c.loop-edge.first.items e.to ≡ Some c.index.result.now =
    slice_get_read c.loop-edge.first.items _ e.to c.index.result.now refl within c.index.ensures in
    let more = lists-more c.args.nodes c.args.edges.now c.loop-edge.edge-index c.loop-edge.first.items
    c.loop-edge.next.items e c.index.result.now c.loop-edge.invariant at old in
    let pushed : c.push.new.self.items ≡ c.loop-edge.next.items ++ c.index.result.now ∷ [] =
    c.in_ok-push.ensures.items in
    let count : c.len.result ≡ c.loop-edge.edge-index + 1 =
    omega (
      arith,
      c.len.ensures,
      c.push.new.self.ok.0,
      ap length pushed,
      length_push c.loop-edge.next.items c.index.result.now,
      c.loop-edge.invariant.entries,
    ) in
    subst (λ m. AreLists c.args.nodes c.args.edges.now m (set c.loop-edge.first.items e.to c.len.result)
    c.push.new.self.items) (sym (add-one c.loop-edge.edge-index))
    (subst (λ n. AreLists c.args.nodes c.args.edges.now (suc c.loop-edge.edge-index)
    (set c.loop-edge.first.items e.to n) c.push.new.self.items) (sym (count ∙ add-one c.loop-edge.edge-index))
    (subst (λ xs. AreLists c.args.nodes c.args.edges.now (suc c.loop-edge.edge-index)
    (set c.loop-edge.first.items e.to (suc c.loop-edge.edge-index)) xs) (sym pushed) more))
