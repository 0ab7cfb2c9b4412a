use Rattle.std.proofs.Common.{◌∙◌, length, subst}
use Rattle.history_model.specs.Lamport.{completed_reads}
use Rattle.history_model.specs.Operations.{register_of}
use Rattle.reg_lamport.proofs.Cuts.{list-length}
use Rattle.reg_report.specs.Pieces.BadReads.{AreFirstBad}
use Rattle.reg_report.proofs.lone_thread.whole_levels.Goals as goal

pub levels_by-requires-clause-first : goal.levels_by-requires-clause-first
levels_by-requires-clause-first c =
    let h = c.args.arena.now in
    let list = c.in_ok-list.list in
    let first = c.among-first.result in
    let all = list-length h list c.in_ok-list.ensures.1 in
    subst (λ r. AreFirstBad h r 0 (length (completed_reads (register_of h r))) first) c.in_ok-list.ensures.0
    (subst (λ n. AreFirstBad h list.register 0 n first) (c.len.ensures ∙ all) c.among-first.ensures)
