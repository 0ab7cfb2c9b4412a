use Rattle.std.proofs.Common.{◌≡◌, ◌∙◌, ◌<◌, ◌*◌, [], ap, arith, length, refl, slice_get, Some, sym, false}
use Rattle.std.proofs.lemmas.Option.{get_or_from_slice_get, slice_get_read}
use Rattle.std.specs.Vec.{with_item, with_items}
use Rattle.slot_sets.specs.Sets.{has}
use Rattle.configurations.specs.declared.table.Table.{Table}
use Rattle.configurations.proofs.Tables.{IsGiving, given_is, given_table}
use Rattle.configurations.proofs.table.Table.give.Goals as goal

pub returns : goal.returns
returns g c =
    let t = c.args.self.now in
    let slot = c.in-Some-Some.slot in
    let op = c.in-Some-Some.op in
    let words = t.asks.items in
    let slots = t.slot_of.items in
    let long : op.from < length words = omega (arith, c.len-else-place-len.ensures, c.if-from-len.false) in
    let numbered : c.args.number < length slots =
    omega (arith, c.len-else-from-len.ensures, c.if-call-len.false) in
    let small : slot < 64 * g.row.W = c.in-Some-Some.ensures'.0 in
    let free : has t.used slot ≡ false = c.in-Some-Some.ensures'.1 in
    let none : slice_get slots c.args.number ≡ Some c.index.result.now =
    slice_get_read slots (length slots) c.args.number c.index.result.now refl numbered c.index.ensures in
    let u : Table g.row.W = record {
      ops = t.ops;
      calls = with_item t.calls slot c.args.number;
      slot_of = with_item t.slot_of c.args.number slot;
      used = c.insert.new.self;
      looks = c.mark.new.slots;
      writes = c.mark-2.new.slots;
      misses = c.mark-3.new.slots;
      unanswered = c.mark-4.new.slots;
      asks = with_item t.asks op.from c.insert-2.new.self;
      elders = t.elders;
      elder_slots = with_items t.elder_slots c.note_elder.new.elder_slots;
    } in
    let giving : IsGiving t u slot c.args.number op c.insert-2.new.self = record {
      op = sym c.op_of.ensures ∙ c.in-Some-Some.is-0;
      ops = refl;
      unslotted = λ q used e.
          let within = (c.requires.each q used).small in
          let same : c.index.result.now ≡ q = cc (none, e) in
          omega (arith, within, c.requires.room, same, c.if-index.false);
      from = long;
      small = small;
      placed = omega (arith, c.len.ensures, c.if-place-len.false);
      numbered = numbered;
      free = free;
      calls = refl;
      slot_of = refl;
      used = c.insert.ensures.same small;
      used_same = c.insert.ensures.others;
      looks = c.mark.ensures.same small ∙ c.looks.ensures;
      looks_same = c.mark.ensures.others;
      writes = c.mark-2.ensures.same small ∙ c.writes.ensures;
      writes_same = c.mark-2.ensures.others;
      misses = c.mark-3.ensures.same small ∙ c.misses.ensures;
      misses_same = c.mark-3.ensures.others;
      asks = refl;
      word = c.insert-2.ensures.same small;
      word_same = λ q n.
          c.insert-2.ensures.others q n
          ∙ ap (λ x. has x q)
          (sym (get_or_from_slice_get words op.from c.index_mut-3.result.now []
          (slice_get_read words (length words) op.from c.index_mut-3.result.now refl long
          c.index_mut-3.ensures.value)));
    } in (
      given_table t u slot c.args.number op c.insert-2.new.self c.requires giving,
      given_is t u slot c.args.number op c.insert-2.new.self c.requires giving,
    )
