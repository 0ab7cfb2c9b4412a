use Rattle.reg_report.proofs.MergedOrder.{merged_legal}
use Rattle.reg_report.proofs.laws.merged_is_legal.Goals as goal

pub returns : goal.returns
returns c ops orders merged y l m = merged_legal ops orders merged y l m
