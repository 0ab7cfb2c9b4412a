use Rattle.std.proofs.Common.{◌≡◌, take}
use Rattle.std.specs.List.{flat_map}
use Rattle.reg_report.proofs.merged_order.gathered.Given as goal

abbrev pub invariant-loop-order : goal.invariant-loop-order
invariant-loop-order l = l.operations.items ≡ flat_map (λ order. order) (take l.order-index l.orders)
