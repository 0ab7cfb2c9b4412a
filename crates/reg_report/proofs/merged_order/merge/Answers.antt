use Rattle.reg_report.proofs.merged_order.merge.Goals as goal

pub merge_gathered-requires : goal.merge_gathered-requires
merge_gathered-requires c = (c.args.orders.now, c.requires, c.in_ok-gathered.ensures)
