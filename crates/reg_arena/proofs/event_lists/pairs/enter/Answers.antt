-- A pair that enters keeps what is known of all.
use Rattle.std.proofs.Common.{◌≡◌, ℕ, inl, inr, length, refl, subst, arith}
use Rattle.reg_arena.specs.Lists.Tables.{IsSetAt, item_at}
use Rattle.reg_arena.specs.Lists.Pairs.{in_table, key_of}
use Rattle.reg_arena.proofs.ListLemmas.Entering.{entered-ascending, entered-table}
use Rattle.reg_arena.proofs.event_lists.pairs.enter.Goals.{then-pair-gt0+in_ok-set_in_table}
use Rattle.reg_arena.proofs.event_lists.pairs.enter.Goals.{else-pair-gt0+in_ok-keep_in_table}
use Rattle.reg_arena.proofs.event_lists.pairs.enter.Goals as goal

pub returns-clause-pairs : goal.returns-clause-pairs
returns-clause-pairs c =
    let items = c.args.pairs.now.items in
    let top = item_at c.args.tops.now.items in
    let table = in_table c.args.table.now in
    let p = c.args.pair in
    let place : c.len-number.result ≡ length items = omega (arith, c.len-number.ensures) in
    elim c.if-pair-gt0.branch [
      | then-pair-gt0+in_ok-set_in_table w ↦ elim c.requires.fits [
        | inl f ↦
            let new_top = item_at w.set_in_table.new.table.items in
            rw (c.in_ok-push.ensures.items, w.tops-is, w.table-is)
            (entered-ascending items top new_top table table c.requires.pairs p c.requires.new f.1.0 f.1.1
            f.0 f.1.2
            (subst (λ (n : ℕ). IsSetAt p.register n top new_top) place w.in_ok-set_in_table.ensures)
            (λ k. refl))
        | inr f ↦ absurd (let deep = w.if-pair-gt0.true in let flat = f.0 in omega (arith, deep, flat))
      ]
      | else-pair-gt0+in_ok-keep_in_table w ↦ elim c.requires.fits [
        | inl f ↦ absurd (let flat = w.if-pair-gt0.false in let deep = f.0 in omega (arith, deep, flat))
        | inr f ↦
            let new_table = in_table w.keep_in_table.new.table in
            rw (c.in_ok-push.ensures.items, w.tops-is, w.table-is)
            (entered-table items top top table new_table c.requires.pairs p c.requires.new f.0 f.1 (λ r. refl)
            (subst (λ (n : ℕ). IsSetAt (key_of p) n table new_table) place w.in_ok-keep_in_table.ensures))
      ]
    ]
