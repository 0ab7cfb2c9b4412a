use Rattle.std.proofs.Common.{◌≡◌, ◌∙◌, ◌^◌, ◌*◌, ◌<◌, arith, ap, slice_get, Some, sym}
use Rattle.std.proofs.lemmas.Option.{get_or_from_slice_get}
use Rattle.configurations.specs.Tables.{call_at}
use Rattle.configurations.proofs.Calling.{call_over, given_within, held_within, no_call_over, off_unused}
use Rattle.configurations.proofs.Standing.{looking_is_idle, missing_is_idle}
use Rattle.slot_sets.specs.Sets.{has}
use Rattle.configurations.proofs.call.over_call.Goals as goal

pub returns-in_default : goal.returns-in_default
returns-in_default g c =
    no_call_over c.args.table.now c.args.configs.now c.args.number c.requires.table c.requires.held
    (missing_is_idle c.args.table.now.ops.items c.args.number (sym c.op_of.ensures ∙ c.in_default.is))

pub returns-then-is_content_in_all : goal.returns-then-is_content_in_all
returns-then-is_content_in_all g c =
    no_call_over c.args.table.now c.args.configs.now c.args.number c.requires.table c.requires.held
    (looking_is_idle c.args.table.now.ops.items c.args.number c.in-Some.op
    (sym c.op_of.ensures ∙ c.in-Some.is) (c.is_content_in_all.ensures c.if-is_content_in_all.true))

pub with_calls-requires : goal.with_calls-requires
with_calls-requires g c =
    let given = c.in-Some-give.ensures in
    let room : 64 * g.row.W < 2 ^ 32 = c.requires.table.room in
    let call : call_at c.give.new.self c.in-Some-give.slot ≡ c.args.number =
    get_or_from_slice_get c.give.new.self.calls.items c.in-Some-give.slot c.args.number 0 given.1.call in
    let op : slice_get c.give.new.self.ops.items (call_at c.give.new.self c.in-Some-give.slot) ≡ Some
    c.in-Some.op =
    ap (slice_get c.give.new.self.ops.items) call
    ∙ (ap (λ xs. slice_get xs c.args.number) given.1.ops ∙ (sym c.op_of.ensures ∙ c.in-Some.is)) in (
      omega (arith, room),
      (
        omega arith,
        (
          given.0,
          (
            given.1.used,
            (
              op,
              (
                held_within (has c.args.table.now.used) (has c.give.new.self.used) c.args.configs.now
                    (given_within c.args.table.now c.give.new.self c.in-Some-give.slot c.args.number given.1)
                    c.requires.held,
                off_unused (has c.args.table.now.used) c.in-Some-give.slot c.args.configs.now given.1.free
                    c.requires.held,
              ),
            ),
          ),
        ),
      ),
    )

pub returns : goal.returns
returns g c =
    let given = c.in-Some-give.ensures in
    call_over c.args.table.now c.give.new.self c.args.configs.now c.with_calls.new.configs c.in-Some-give.slot
    c.args.number given.0 c.requires.held given.1 c.with_calls.ensures.held c.with_calls.ensures.able
