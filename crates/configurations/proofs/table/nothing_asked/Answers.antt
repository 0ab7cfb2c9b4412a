use Rattle.std.proofs.Common.{◌≡◌, [], arith, false, get_or, subst, sym}
use Rattle.slot_sets.specs.Sets.{has}
use Rattle.slot_sets.proofs.OneSlot.{has_past}
use Rattle.configurations.proofs.Tables.{nothing_pushed}
use Rattle.configurations.proofs.table.nothing_asked.Goals as goal

pub loop-preserved : goal.loop-preserved
loop-preserved g c = λ v q.
    subst (λ xs. has (get_or xs v []) q ≡ false) (sym c.in_ok-push.ensures.items)
    (nothing_pushed c.loop.asks.items c.none.result c.loop.invariant c.none.ensures v q)

pub loop-init : goal.loop-init
loop-init g c = λ v q.
    subst (λ xs. has (get_or xs v []) q ≡ false) (sym c.new-asks.ensures.items) (has_past [] q (omega arith))
