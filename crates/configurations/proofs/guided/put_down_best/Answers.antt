use Rattle.configurations.proofs.Replying.{none_apart}
use Rattle.configurations.proofs.guided.put_down_best.Goals as goal

pub loop-i-init : goal.loop-i-init
loop-i-init g c =
    none_apart c.args.table.now c.args.reply c.args.lists.now.work c.args.lists.now.next c.requires.empty.0
    c.requires.empty.1

pub loop-at-init : goal.loop-at-init
loop-at-init g c =
    none_apart c.args.table.now c.args.reply c.args.lists.now.work c.args.lists.now.next c.requires.empty.0
    c.requires.empty.1
