use Rattle.std.proofs.Common.{◌≡◌, ◌<◌, ◌++◌, ◌∷◌, [], ℕ, List, Some, length, slice_get, slice_index_or}
use Rattle.std.proofs.Common.{take, arith, refl, sym, ap, subst, ◌∙◌, rules}
use Rattle.std.proofs.lemmas.List.{take_all}
use Rattle.std.proofs.lemmas.Option.{slice_get_read}
use Rattle.history_model.specs.Legal.{IsLegalFor}
use Rattle.level_laws.proofs.InCalls.{expanded-legal}
use Rattle.level_laws.specs.WriteOrders.{expanded}
use Rattle.reg_levels.specs.Decisions.{operations_of_places, writes_of}
use Rattle.reg_levels.proofs.Ordering.{at-write}
use Rattle.reg_levels.proofs.Reading.{expanded_more, operations_push}
use Rattle.reg_levels.proofs.listing.order_of.Goals as goal

pub loop-number-preserved : goal.loop-number-preserved
loop-number-preserved c =
    let ops = c.args.ops.now in
    let clusters = c.args.table.now.clusters.items in
    let order = c.args.order.now in
    let i = c.loop-number.number-index in
    let k = slice_index_or order i 0 in
    let at : slice_get clusters k ≡ Some c.index.result.now =
    slice_get_read clusters (length clusters) k c.index.result.now refl (c.requires.within i 0
    c.loop-number-test.true)
    c.index.ensures in
    let w = c.requires.table.each k c.index.result.now at in
    let one : operations_of_places ops c.push.new.self.items ≡ operations_of_places ops
    c.loop-number.places.items ++ w.0 ∷ [] =
    ap (operations_of_places ops) c.in_ok-push.ensures.items
    ∙ operations_push ops c.loop-number.places.items c.index.result.now.write w.0 w.1.at_write in
    let two = c.in_ok-push_reads.ensures ops clusters w.0 c.in_ok-lists.ensures (
      c.index.result.now,
      at,
      w.1.at_write,
    ) in
    expanded_more ops clusters order i k w.0 c.loop-number.places.items c.push.new.self.items
    c.push_reads.new.places.items c.loop-number-test.true refl (at-write ops clusters k w.0
    c.index.result.now at w.1.at_write)
    one two c.loop-number.invariant

pub returns : goal.returns
returns c = λ g clean writes.
    let ops = c.args.ops.now in
    let clusters = c.args.table.now.clusters.items in
    let order = c.args.order.now in
    let all : writes_of ops clusters (take c.loop-number.number-index order) ≡ writes_of ops clusters order =
    ap (writes_of ops clusters) (take_all c.loop-number.number-index order c.loop-number-test.false) in
    subst (IsLegalFor g ops) (sym (c.loop-number.invariant ∙ ap (expanded ops) all))
    (expanded-legal ops c.requires.by_call g c.requires.history clean (writes_of ops clusters order) writes)
