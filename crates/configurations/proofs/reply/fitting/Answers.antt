use Rattle.std.proofs.Common.{◌≡◌, ◌∙◌, ap, inl, inr, not, sym, true, ℕ}
use Rattle.std.proofs.lemmas.Bool.{and_from, and_parts}
use Rattle.slot_sets.specs.Sets.{has}
use Rattle.configurations.proofs.Standing.{either_or}
use Rattle.configurations.proofs.reply.fitting.Goals as goal

pub returns : goal.returns
returns g c =
    let config = c.args.config.now in
    let used : (q : ℕ) → has c.union.result q ≡ true → has c.args.table.now.used q ≡ true = λ q b.
    elim (either_or (has config.owed q) (has config.free q) (sym (c.union.ensures q) ∙ b)) [
      | inl a ↦ c.requires.held.0 q a
      | inr a ↦ c.requires.held.1 q a
    ] in
    let fits_here : (q : ℕ) → has c.minus.result q ≡ true → has c.common.result q ≡ true = λ q b.
    (and_parts (has c.common.result q) (not (has c.args.left_out.now q)) (sym (c.minus.ensures q) ∙ b)).0 in
    record {
      used = λ q b.
          used q
          (and_parts (has c.union.result q) (has c.fitting.result q)
          (sym (c.common.ensures q) ∙ fits_here q b)).0;
      all = λ q b f stays.
          let there = c.union.ensures q ∙ b in
          let fits =
          c.common.ensures q
          ∙ and_from (has c.union.result q) (has c.fitting.result q) there
          (c.fitting.ensures q (used q there) ∙ f) in
          c.minus.ensures q
          ∙ and_from (has c.common.result q) (not (has c.args.left_out.now q)) fits (ap not stays);
    }
