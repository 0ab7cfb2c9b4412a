-- The new key has its number, and the others keep theirs.
use Rattle.std.proofs.Common.{◌≡◌, ◌⊎◌, inl, inr, ℕ, ℤ, Bool, true, false}
use Rattle.std.proofs.Common.{Option, Some, refl, sym, subst, ◌∙◌}
use Rattle.std.specs.Map.{update}
use Rattle.std.proofs.lemmas.Bool.{false≢true}
use Rattle.std.proofs.lemmas.Map.{update_other, update_same}
use Rattle.reg_arena.specs.Lists.Pairs.{key_eq, in_table}
use Rattle.reg_arena.proofs.ListLemmas.Values.{key_itself, key_same}
use Rattle.reg_arena.proofs.event_lists.pairs.keep_in_table.Goals as goal

pub returns : goal.returns
returns c = record {
  one =
      c.in_ok-insert.ensures.updates.0 key
      ∙ update_same key_eq (in_table c.args.table.now) key (Some c.args.number) key (key_itself key);
  others = λ q. go q (key_eq key q) refl (c.in_ok-insert.ensures.updates.0 q);
}
  where
    key : ℕ × Option ℤ
    key = (c.args.register, c.args.value)

    go : (q : ℕ × Option ℤ) (b : Bool) → key_eq key q ≡ b
        → in_table c.insert.new.self q ≡ update key_eq (in_table c.args.table.now) key (Some c.args.number) q
        → (q ≡ key) ⊎ ((q ≡ key → ⊥) × (in_table c.insert.new.self q ≡ in_table c.args.table.now q))
    go q true e updates = inl (sym (key_same key q e))
    go q false e updates =
        inr (
          λ same. false≢true (sym e ∙ subst (λ k. key_eq key k ≡ true) (sym same) (key_itself key)),
          updates ∙ update_other key_eq (in_table c.args.table.now) key (Some c.args.number) q e,
        )
