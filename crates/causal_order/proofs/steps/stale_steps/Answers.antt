use Rattle.std.proofs.Common.{Some, arith, refl, ap, ◌∙◌}
use Rattle.std.proofs.lemmas.Option.{slice_get_read, slice_get_within}
use Rattle.causal_order.specs.SessionClocks.Sessions.{HasSource}
use Rattle.causal_order.proofs.Answering.{found-if, stale-cycle}
use Rattle.causal_order.proofs.Learning.{table-range}
use Rattle.causal_order.proofs.steps.stale_steps.Goals as goal

pub knew-requires-clause-range : goal.knew-requires-clause-range
knew-requires-clause-range c = let (ops, table, stale) = c.requires.stale in table-range ops
    c.args.table.now table

pub knew-requires-clause-read : goal.knew-requires-clause-read
knew-requires-clause-read c =
    let (ops, table, stale) = c.requires.stale in
    let l = slice_get_within ops c.args.read stale.read stale.at_read in
    omega (arith, l, table.is_table.previous)

pub returns : goal.returns
returns c = λ ops table stale.
    let q = c.args.read in
    let l = slice_get_within ops q stale.read stale.at_read in
    let has : HasSource c.args.table.now q c.in-Some.source =
    slice_get_read c.args.table.now.sources.items _ q c.index.result.now refl
    (omega (arith, l, table.is_table.sources)) c.index.ensures ∙ ap Some c.in-Some.is in
    stale-cycle ops c.args.table.now c.args.write q c.in-Some.source c.in_ok-knew.knew
    c.in_ok-steps.steps.items
    c.push.new.self.items c.push-2.new.self.items table stale has
    (found-if c.args.table.now c.args.write q c.in_ok-knew.knew c.in_ok-knew.ensures.found)
    c.in_ok-steps.ensures.items c.in_ok-push.ensures.items c.in_ok-push-2.ensures.items
