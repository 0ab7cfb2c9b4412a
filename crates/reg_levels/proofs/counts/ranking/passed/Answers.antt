use Rattle.std.proofs.Common.{get_or, inl, inr, sym, ◌∙◌, rules}
use Rattle.std.proofs.Math.Dec.{leb}
use Rattle.std.proofs.lemmas.Bool.{cases_lt, false≢true, le-leb, leb-true}
use Rattle.std.proofs.lemmas.List.Sorted.{IsPartitionPoint-from_clause, IsPartitionedBy-leb}
use Rattle.reg_levels.specs.Counts.Marks.{mark_key}
use Rattle.reg_levels.specs.declared.counts.mark.Mark.{Mark}
use Rattle.reg_levels.proofs.counts.ranking.passed.Goals as goal

pub returns-clause-low : goal.returns-clause-low
returns-clause-low c = λ k d l h.
    let p =
    IsPartitionPoint-from_clause (λ (m : Mark). leb m.key c.args.key) c.args.marks.now
    c.partition_point.result
    c.partition_point.ensures.partitioned (IsPartitionedBy-leb mark_key c.args.marks.now c.args.key
    c.requires)
    (λ a r q k. search rules) in
    leb-true _ _ (p.0 k d l h)

pub returns-clause-high : goal.returns-clause-high
returns-clause-high c = λ k d l h.
    let p =
    IsPartitionPoint-from_clause (λ (m : Mark). leb m.key c.args.key) c.args.marks.now
    c.partition_point.result
    c.partition_point.ensures.partitioned (IsPartitionedBy-leb mark_key c.args.marks.now c.args.key
    c.requires)
    (λ a r q k. search rules) in
    elim (cases_lt c.args.key (get_or c.args.marks.now k d).key) [
      | inl less ↦ less
      | inr le ↦ absurd (false≢true (sym (p.1 k d l h) ∙ le-leb _ _ le))
    ]
