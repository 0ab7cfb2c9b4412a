use Rattle.std.proofs.Common.{refl, sym, ap, subst, ◌∙◌, arith}
use Rattle.std.proofs.lemmas.Bool.{eqb-true, eqb-false}
use Rattle.std.proofs.lemmas.List.{length-set}
use Rattle.std.proofs.lemmas.Option.{slice_get_read}
use Rattle.std.specs.Vec.{vec_len, with_item}
use Rattle.causal_order.specs.SessionClocks.Clocks.{one_if_some}
use Rattle.causal_order.specs.SessionClocks.Rows.{IsHolding}
use Rattle.causal_order.proofs.SessionClockLemmas.Held.{full-few, holding, none-none, one-some}
use Rattle.causal_order.proofs.session_clocks.clocks.Clocks.hold.Goals.{then-is_empty, else-is_empty}
use Rattle.causal_order.proofs.session_clocks.clocks.Clocks.hold.Goals as goal

pub overflow_add-self : goal.overflow_add-self
overflow_add-self c =
    omega (arith, c.requires.count, c.requires.few, full-few c.args.self.now.rows.items)

pub returns : goal.returns
returns c =
    let old = c.args.self.now in
    let p = c.args.place in
    let row = c.args.row in
    let was = c.index.result.now in
    let there = slice_get_read old.rows.items _ p was refl c.requires.within c.index.ensures in
    let one = one-some row.items c.requires.some in
    elim c.if-is_empty.branch [
      | then-is_empty w ↦
          let empty = eqb-true (vec_len was) 0 (sym c.is_empty.ensures ∙ w.if-is_empty.true) in
          let none = ap one_if_some (none-none was.items (omega (arith, empty, was.ok.0))) in
          subst (λ s. IsHolding old (record {
            rows = with_item s.rows p row;
            until = s.until;
            held = s.held;
          }) p row.items) (sym w.self-is)
          (holding old _ p was row there refl refl (length-set old.rows.items p row) c.requires.count
          (omega (arith, one, none)))
      | else-is_empty w ↦
          let some = eqb-false (vec_len was) 0 (sym c.is_empty.ensures ∙ w.if-is_empty.false) in
          let full = one-some was.items (omega (arith, some, was.ok.0)) in
          subst (λ s. IsHolding old (record {
            rows = with_item s.rows p row;
            until = s.until;
            held = s.held;
          }) p row.items) (sym w.self-is)
          (holding old _ p was row there refl refl (length-set old.rows.items p row) c.requires.count
          (omega (arith, one, full)))
    ]
