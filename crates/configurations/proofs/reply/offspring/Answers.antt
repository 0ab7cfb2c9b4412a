use Rattle.std.proofs.Common.{◌∙◌, ◌≡◌, ◌≢◌, ap, inl, inr, not, sym, subst, true, ℕ}
use Rattle.std.proofs.lemmas.Bool.{and_from, and_parts, cases_Bool, false≢true, not-true}
use Rattle.std.proofs.lemmas.Bool.{or_left, or_parts, or_right}
use Rattle.slot_sets.specs.Sets.{has}
use Rattle.configurations.specs.declared.config.Config.{Config}
use Rattle.configurations.proofs.Replying.{IsOffspring, offspring_able, offspring_held}
use Rattle.configurations.proofs.Standing.{either_or}
use Rattle.configurations.proofs.reply.offspring.Goals as goal

pub returns : goal.returns
returns g c =
    let t = c.args.table.now in
    let before = c.args.config.now in
    let slot = c.args.slot in
    let moved = λ (q : ℕ). has c.freeing-freed.result q in
    let after : Config g.row.W = record {
      value = c.left-value.result;
      owed = c.minus.result;
      free = c.union-2.result;
      last = before.last;
      cost = c.cost_with.result;
    } in
    let o : IsOffspring t before after slot c.args.reply moved = record {
      owed = λ q b.
          let parts =
          and_parts (has c.remove.new.self q) (not (has c.union.result q))
          (sym (c.minus.ensures q) ∙ b) in
          let n : q ≢ slot = λ z.
          false≢true
          (sym c.remove.ensures.same ∙ subst (λ x. has c.remove.new.self x ≡ true) z parts.0) in
          let none =
          or_parts (moved q) (has c.common-content.result q)
          (sym (c.union.ensures q) ∙ not-true (has c.union.result q) parts.1) in
          (sym (c.remove.ensures.others q n) ∙ parts.0, n, none.0);
      owed_still = λ q b apart.
          let here = c.remove.ensures.others q apart ∙ b in
          elim (cases_Bool (has c.union.result q)) [
            | inr n ↦
                inl (c.minus.ensures q
                ∙ and_from (has c.remove.new.self q) (not (has c.union.result q)) here (ap not n))
            | inl y ↦ inr (elim (either_or (moved q) (has c.common-content.result q)
                (sym (c.union.ensures q) ∙ y)) [
                  | inl m ↦
                      inl (c.union-2.ensures q
                      ∙ or_right (has c.remove-2.new.self q) (has c.common.result q)
                      (c.common.ensures q ∙ and_from (has c.remove.new.self q) (moved q) here m))
                  | inr l ↦
                      inr (and_parts (has c.fitting.result q) (has t.looks q)
                      (sym (c.common-content.ensures q) ∙ l)).1
                ])
          ];
      free = λ q b. elim (either_or (has c.remove-2.new.self q) (has c.common.result q)
          (sym (c.union-2.ensures q) ∙ b)) [
            | inl x ↦
                let n : q ≢ slot = λ z.
                false≢true
                (sym c.remove-2.ensures.same ∙ subst (λ y. has c.remove-2.new.self y ≡ true) z x) in
                (inl (sym (c.remove-2.ensures.others q n) ∙ x), n)
            | inr x ↦
                let parts = and_parts (has c.remove.new.self q) (moved q) (sym (c.common.ensures q) ∙ x) in
                let n : q ≢ slot = λ z.
                false≢true
                (sym c.remove.ensures.same ∙ subst (λ y. has c.remove.new.self y ≡ true) z parts.0) in
                (inr (sym (c.remove.ensures.others q n) ∙ parts.0), n)
          ];
      free_still = λ q b n.
          c.union-2.ensures q
          ∙ or_left (has c.remove-2.new.self q) (has c.common.result q) (c.remove-2.ensures.others q n ∙ b);
      free_new = λ q b n m.
          c.union-2.ensures q
          ∙ or_right (has c.remove-2.new.self q) (has c.common.result q)
          (c.common.ensures q
          ∙ and_from (has c.remove.new.self q) (moved q) (c.remove.ensures.others q n ∙ b) m);
      freed = c.freeing-freed.ensures;
    } in
    record {
      held =
          offspring_held t c.requires.table before after slot c.args.reply moved c.requires.held
          c.requires.slot o;
      able = λ es n l.
          offspring_able t c.requires.table before after slot c.args.reply moved c.requires.held
          c.requires.slot o before.value es n c.left-value.ensures l;
    }
