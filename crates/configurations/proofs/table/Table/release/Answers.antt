use Rattle.std.proofs.Common.{◌≡◌, ◌∙◌, ◌<◌, [], ap, arith, get_or, length, refl, slice_get, Some, sym}
use Rattle.std.proofs.lemmas.Option.{get_or_from_slice_get, slice_get_read}
use Rattle.std.specs.Vec.{with_item}
use Rattle.slot_sets.specs.Sets.{has}
use Rattle.configurations.specs.declared.table.Table.{Table}
use Rattle.configurations.specs.Tables.{call_at}
use Rattle.configurations.proofs.Tables.{IsTaking, taken_table}
use Rattle.configurations.proofs.table.Table.release.Goals as goal

pub returns-then-from-len-clause-table : goal.returns-then-from-len-clause-table
returns-then-from-len-clause-table g c =
    let t = c.args.self.now in
    let s = c.requires.table.each c.args.slot c.requires.slot in
    let op = c.in-Some.op in
    let words = t.asks.items in
    let here : slice_get t.ops.items (call_at t c.args.slot) ≡ Some op = sym c.op.ensures ∙ c.in-Some.is in
    let there = s.there in
    let same : op ≡ s.op = cc in
    let long : op.from < length words = omega (arith, c.len.ensures, c.if-from-len.true) in
    let u : Table g.row.W = record t {
      used = c.remove.new.self;
      asks = with_item t.asks op.from c.remove-then-from-len.new.self;
    } in
    let taking : IsTaking t u c.args.slot s.op.from c.remove-then-from-len.new.self = record {
      ops = refl;
      calls = refl;
      slot_of = refl;
      looks = refl;
      writes = refl;
      misses = refl;
      used = c.remove.ensures.same;
      used_same = c.remove.ensures.others;
      asks = ap (λ o. (with_item t.asks o.from c.remove-then-from-len.new.self).items) same;
      word = c.remove-then-from-len.ensures.same;
      word_same = λ q n.
          c.remove-then-from-len.ensures.others q n
          ∙ (ap (λ x. has x q)
          (sym (get_or_from_slice_get words op.from c.index_mut.result.now []
          (slice_get_read words (length words) op.from c.index_mut.result.now refl long
          c.index_mut.ensures.value))) ∙ ap (λ o. has (get_or words o.from []) q) same);
    } in
    taken_table t u c.args.slot c.remove-then-from-len.new.self c.requires.table s taking
