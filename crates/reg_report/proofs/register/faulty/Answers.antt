use Rattle.reg_report.proofs.Naming.{fault-opers}
use Rattle.reg_report.proofs.register.faulty.Goals as goal

pub fault_lines-requires : goal.fault_lines-requires
fault_lines-requires c = fault-opers c.args.arena.now c.args.register.0 c.args.fault c.requires.judged.1
