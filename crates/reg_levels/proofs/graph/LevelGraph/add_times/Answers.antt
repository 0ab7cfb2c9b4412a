use Rattle.std.proofs.Common.{refl, sym, ◌∙◌}
use Rattle.reg_levels.proofs.Chaining.{times_reach}
use Rattle.reg_levels.proofs.Joining.{reaches_extends}
use Rattle.reg_levels.proofs.graph.LevelGraph.add_times.Goals as goal

pub returns-clause-reaches : goal.returns-clause-reaches
returns-clause-reaches c = λ t.
    let chain = c.in_ok-add_chain.ensures.reaches in
    let on = c.in_ok-add_entries.ensures.extends in
    times_reach c.args.clusters.now c.args.calls.now c.add_entries.new.self.edges.items c.requires.count
    (record {
      along =
          λ i l. reaches_extends c.add_chain.new.self.edges.items c.add_entries.new.self.edges.items on _ _
          (chain.along i l);
      exits =
          λ i l. reaches_extends c.add_chain.new.self.edges.items c.add_entries.new.self.edges.items on _ _
          (chain.exits i l);
    })
    c.in_ok-add_entries.ensures.reaches

pub returns-clause-graph : goal.returns-clause-graph
returns-clause-graph c = λ ops numbers before.
    let t = sym c.keeps_time.ensures ∙ c.if-not-keeps_time.false in
    c.in_ok-add_entries.ensures.graph c.args.guarantee ops numbers t
    (c.in_ok-add_chain.ensures.graph c.args.guarantee ops c.args.clusters.now numbers c.args.calls.now refl
    t before)
