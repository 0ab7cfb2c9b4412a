-- An event joins the list of its process, known or new.
use Rattle.std.proofs.Common.{◌∷◌, ◌++◌, [], None, sym, ap, arith, ◌∙◌}
use Rattle.reg_arena.specs.Lists.Rows.{Columns}
use Rattle.reg_arena.proofs.ListLemmas.Joining.{joined-known, joined-new}
use Rattle.reg_arena.proofs.event_lists.joins.join_process.Goals as goal
use Rattle.reg_arena.proofs.event_lists.joins.join_process.Goals.{in-Some, in-None}

pub returns-clause-joined : goal.returns-clause-joined
returns-clause-joined c = elim c.match-get.branch [
  | in-Some w ↦
      let was = sym c.get.ensures ∙ w.in-Some.is in
      let l = c.requires.within w.in-Some.ends was in
      joined-known c.args.rows.now.in_process _ _ _ c.args.process c.args.id w.in-Some.ends was
      (rw w.first-is at c.in_ok-set.ensures) (omega (arith, c.requires.column))
      (ap (λ (k : Columns). k.in_process ++ None ∷ []) (w.rows-is ∙ w.link_in_process.ensures))
  | in-None w ↦
      let was = sym c.get.ensures ∙ w.in-None.is in
      joined-new c.args.rows.now.in_process _ _ _ c.args.process c.args.id was
      (rw w.first-is at c.in_ok-set.ensures) (ap (λ (k : Columns). k.in_process ++ None ∷ []) w.rows-is)
]
