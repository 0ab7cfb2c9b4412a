use Rattle.std.proofs.Common.{get_or, refl, ap}
use Rattle.history_model.specs.declared.operation.Operation.{Operation}
use Rattle.reg_levels.proofs.ClusterLemmas.Places.{at-below, at-get, at-is, nothing}
use Rattle.reg_levels.specs.declared.counts.mark.Mark.{Mark}
use Rattle.reg_levels.proofs.CountLemmas.Marking.{read-marked}
use Rattle.reg_levels.proofs.counts.marks.read_mark.Goals as goal

pub bounds-ops-ends : goal.bounds-ops-ends
bounds-ops-ends c =
    let ops = c.args.ops.now in
    let h = c.in-Some.ensures (get_or ops c.args.place nothing) (at-get ops c.args.place c.requires.place) in
    at-below ops c.in-Some.ends.write h.1.0 h.1.1.at_write

pub returns-in-Some : goal.returns-in-Some
returns-in-Some c = λ a t.
    let ops = c.args.ops.now in
    let p = c.args.place in
    let ends = c.in-Some.ends in
    let m : Mark = record {
      key = (get_or ops ends.write nothing).call;
      rank = (get_or ops p nothing).reply;
      place = p;
      newer = ends.write;
    } in
    read-marked ops p a ends m (c.in-Some.ensures a t) refl
    (λ w k. ap (λ (x : Operation). x.call) (at-is ops ends.write w k))
    (ap (λ (x : Operation). x.reply) (at-is ops p a t)) refl
