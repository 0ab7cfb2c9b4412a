use Rattle.std.proofs.Common.{sym, subst}
use Rattle.reg_report.specs.Meaning.{IsWholeAtomicity}
use Rattle.reg_report.specs.Registers.{AreLines}
use Rattle.reg_report.proofs.history.report_of.Goals as goal

pub returns : goal.returns
returns c =
    let h = c.args.arena.now in
    let regs = subst (AreLines h) (sym c.new.ensures) c.requires.regs in
    record {
      lines = regs.lines;
      each = regs.each;
      called = c.requires.operations;
      named = c.register_count.ensures.count;
      atomic =
          subst (λ atomic. IsWholeAtomicity h atomic c.args.order) (sym c.is_some.ensures) c.requires.order;
    }
