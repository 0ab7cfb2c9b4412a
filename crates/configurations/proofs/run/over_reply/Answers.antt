use Rattle.std.proofs.Common.{inl, inr, sym, subst, true}
use Rattle.slot_sets.specs.Sets.{has}
use Rattle.configurations.specs.Configs.{AreHeld, IsAnyAble, lacking}
use Rattle.configurations.specs.declared.config.Configs.{Configs}
use Rattle.configurations.proofs.Calling.{no_reply_over, reply_over}
use Rattle.configurations.proofs.Replying.{begun_able, still_able}
use Rattle.configurations.proofs.run.over_reply.Goals as goal

pub returns-in_default : goal.returns-in_default
returns-in_default g c =
    no_reply_over c.args.table.now c.args.now.now c.args.number c.requires.table c.requires.held
    c.in_default.ensures

pub returns : goal.returns
returns g c =
    let t = c.args.table.now in
    let slot = c.in-Some.slot in
    let begun = c.put_down_all.new.lists in
    let next = c.pass.new.lists.next in
    let passed = c.in_ok-pass.ensures in
    let after = c.swap.ensures.x_after in
    reply_over true t c.release.new.self c.args.now.now c.swap.new.x slot c.args.number c.requires.table
    c.release.ensures.table c.in-Some.ensures.0 c.in-Some.ensures.1 c.release.ensures.released
    (subst (λ (cs : Configs g.row.W). AreHeld (lacking (has t.used) slot) cs) (sym after)
    passed.apart.next_held) (λ _ es to_come a.
    subst (λ cs. IsAnyAble t cs es) (sym after) (elim (begun_able t c.args.now.now slot begun.work
    begun.next es c.in_ok-put_down_all.ensures.goes to_come a) [
      | inl x ↦ passed.goes es x.0 to_come x.1
      | inr x ↦ still_able t es begun.next next passed.kept x
    ]))
