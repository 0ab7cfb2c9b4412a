use Rattle.std.proofs.Common.{sym, subst, ◌∙◌}
use Rattle.std.proofs.lemmas.Bool.{false≢true}
use Rattle.history_model.specs.Operations.{IsCompletedRead}
use Rattle.reg_levels.proofs.ClusterLemmas.Places.{at-is}
use Rattle.reg_levels.proofs.CountLemmas.Marking.{read-ends}
use Rattle.reg_levels.proofs.counts.reads.read_ends.Goals as goal

pub returns-then-is_completed_read : goal.returns-then-is_completed_read
returns-then-is_completed_read c = λ a t.
    read-ends c.args.ops.now c.requires.history c.args.table.now.clusters.items
    c.args.table.now.numbers.items
    c.requires.table c.args.place a t c.ends_at.result (sym c.ends_at.ensures)
    (subst IsCompletedRead (at-is c.args.ops.now c.args.place a t)
    (c.is_completed_read.ensures.0 c.if-is_completed_read.true))

pub returns-else-is_completed_read : goal.returns-else-is_completed_read
returns-else-is_completed_read c = λ a t d.
    false≢true (sym c.if-is_completed_read.false ∙ c.is_completed_read.ensures.1
    (subst IsCompletedRead (sym (at-is c.args.ops.now c.args.place a t)) d))
