use Rattle.std.proofs.Common.{◌<◌, arith, sym, subst, ◌∙◌}
use Rattle.causal_order.proofs.Meeting.{asks-found, met-kept, met-noted, reached}
use Rattle.causal_order.proofs.knew.KnewSearch.spread.Goals as goal

pub meet-requires : goal.meet-requires
meet-requires c =
    let r = reached c.args.table.now c.args.self.now.met.items c.args.at c.index.result.now c.requires.range
    c.requires.among c.requires.within c.index.ensures in
    record {
      within = λ d e. subst (λ n. d < n) (sym c.requires.stamps)
          (r.previous_asked c.index-2.result.now c.index-2.ensures d e).1;
    }

pub returns-then-branch-clause-met : goal.returns-then-branch-clause-met
returns-then-branch-clause-met c = λ read met.
    let r = reached c.args.table.now c.args.self.now.met.items c.args.at c.index.result.now c.requires.range
    c.requires.among c.requires.within c.index.ensures in
    met-noted c.args.table.now read c.args.self.now.met.items c.meet.new.self.met.items c.index-2.result.now
    c.args.at c.index.result.now met r.at (r.previous_asked c.index-2.result.now c.index-2.ensures)
    c.in_ok-meet.ensures.met

pub returns-then-branch-clause-found : goal.returns-then-branch-clause-found
returns-then-branch-clause-found c = λ yes m at.
    let r = reached c.args.table.now c.args.self.now.met.items c.args.at c.index.result.now c.requires.range
    c.requires.among c.requires.within c.index.ensures in
    asks-found c.args.table.now c.args.self.now.met.items c.meet.new.self.met.items c.index-2.result.now
    c.args.at
    c.index.result.now c.args.write r.at (r.previous_asked c.index-2.result.now c.index-2.ensures)
    c.in_ok-meet.ensures.met (c.in_ok-meet.ensures.found c.if-branch.true) m at

pub index-requires-3 : goal.index-requires-3
index-requires-3 c =
    let r = reached c.args.table.now c.args.self.now.met.items c.args.at c.index.result.now c.requires.range
    c.requires.among c.requires.within c.index.ensures in
    omega (
      arith,
      r.within,
      c.requires.range.sources,
      c.requires.range.previous,
      c.args.table.now.sources.ok.0,
    )

pub meet-requires-2 : goal.meet-requires-2
meet-requires-2 c =
    let r = reached c.args.table.now c.args.self.now.met.items c.args.at c.index.result.now c.requires.range
    c.requires.among c.requires.within c.index.ensures in
    record {
      within = λ d e. subst (λ n. d < n) (sym (c.in_ok-meet.ensures.stamps ∙ c.requires.stamps))
          (r.source_asked c.index-3.result.now c.index-3.ensures d e).1;
    }

pub returns-clause-met : goal.returns-clause-met
returns-clause-met c = λ read met.
    let r = reached c.args.table.now c.args.self.now.met.items c.args.at c.index.result.now c.requires.range
    c.requires.among c.requires.within c.index.ensures in
    let mid = met-noted c.args.table.now read c.args.self.now.met.items c.meet.new.self.met.items
    c.index-2.result.now c.args.at c.index.result.now met r.at
    (r.previous_asked c.index-2.result.now c.index-2.ensures) c.in_ok-meet.ensures.met in
    let kept = met-kept c.args.self.now.met.items c.meet.new.self.met.items c.index-2.result.now c.args.at
    c.in_ok-meet.ensures.met c.args.at c.index.result.now r.at in
    met-noted c.args.table.now read c.meet.new.self.met.items c.meet-2.new.self.met.items c.index-3.result.now
    c.args.at c.index.result.now mid kept (r.source_asked c.index-3.result.now c.index-3.ensures)
    c.in_ok-found.ensures.met

pub returns-clause-found : goal.returns-clause-found
returns-clause-found c = λ yes m at.
    let r = reached c.args.table.now c.args.self.now.met.items c.args.at c.index.result.now c.requires.range
    c.requires.among c.requires.within c.index.ensures in
    let kept = met-kept c.args.self.now.met.items c.meet.new.self.met.items c.index-2.result.now c.args.at
    c.in_ok-meet.ensures.met c.args.at c.index.result.now r.at in
    asks-found c.args.table.now c.meet.new.self.met.items c.meet-2.new.self.met.items c.index-3.result.now
    c.args.at c.index.result.now c.args.write kept (r.source_asked c.index-3.result.now c.index-3.ensures)
    c.in_ok-found.ensures.met (c.in_ok-found.ensures.found yes) m at
