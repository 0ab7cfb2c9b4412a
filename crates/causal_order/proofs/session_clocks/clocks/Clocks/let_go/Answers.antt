use Rattle.std.proofs.Common.{◌-◌, ◌<◌, length, refl, sym, ap, subst, ◌∙◌, arith}
use Rattle.std.proofs.lemmas.Bool.{eqb-true, eqb-false}
use Rattle.std.proofs.lemmas.List.{length-set}
use Rattle.std.proofs.lemmas.Option.{slice_get_read}
use Rattle.std.specs.Vec.{vec_len, with_item}
use Rattle.causal_order.specs.SessionClocks.Clocks.{one_if_some}
use Rattle.causal_order.specs.SessionClocks.Rows.{IsHolding}
use Rattle.causal_order.specs.declared.session_clocks.clocks.Clocks.{Clocks}
use Rattle.causal_order.proofs.SessionClockLemmas.Held.{full-one, holding, none-none, one-some, row-is}
use Rattle.causal_order.proofs.session_clocks.clocks.Clocks.let_go.Goals as goal

pub overflow_sub-self : goal.overflow_sub-self
overflow_sub-self c =
    let old = c.args.self.now in
    let was = c.index.result.now in
    let there = slice_get_read old.rows.items _ c.args.place was refl c.requires.within c.index.ensures in
    let some = eqb-false (vec_len was) 0 (sym c.is_empty.ensures ∙ c.if-not-is_empty.true) in
    let most = full-one old.rows.items c.args.place was there (omega (arith, some, was.ok.0)) in
    omega (arith, most, c.requires.count)

pub returns-then-not-is_empty : goal.returns-then-not-is_empty
returns-then-not-is_empty c =
    let old = c.args.self.now in
    let p = c.args.place in
    let was = c.index.result.now in
    let there = slice_get_read old.rows.items _ p was refl c.requires.within c.index.ensures in
    let some = eqb-false (vec_len was) 0 (sym c.is_empty.ensures ∙ c.if-not-is_empty.true) in
    let long : 0 < length was.items = omega (arith, some, was.ok.0) in
    let most = full-one old.rows.items p was there long in
    let full = one-some was.items long in
    let none = ap one_if_some c.new.ensures.items in
    let new : Clocks = record {
      rows = with_item old.rows p c.new.result;
      until = old.until;
      held = old.held - 1;
    } in
    subst (λ xs. IsHolding old new p xs) c.new.ensures.items
    (holding old new p was c.new.result there refl refl (length-set old.rows.items p c.new.result)
    c.requires.count (omega (arith, full, none, most, c.requires.count)))

pub returns-else-not-is_empty : goal.returns-else-not-is_empty
returns-else-not-is_empty c =
    let old = c.args.self.now in
    let p = c.args.place in
    let was = c.index.result.now in
    let there = slice_get_read old.rows.items _ p was refl c.requires.within c.index.ensures in
    let empty = eqb-true (vec_len was) 0 (sym c.is_empty.ensures ∙ c.if-not-is_empty.false) in
    record {
      rows = refl;
      until = refl;
      held = c.requires.count;
      at = row-is old p was there ∙ none-none was.items (omega (arith, empty, was.ok.0));
      other = λ d n. refl;
    }
