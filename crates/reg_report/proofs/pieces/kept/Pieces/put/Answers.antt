use Rattle.std.proofs.Common.{◌∙◌, ap, sym}
use Rattle.reg_report.specs.Pieces.Slots.{with_piece}
use Rattle.reg_report.proofs.pieces.kept.Pieces.put.Goals as goal

pub returns-in-Judged : goal.returns-in-Judged
returns-in-Judged c =
    c.put_judgement.ensures ∙ ap (with_piece c.args.self.now c.args.number) (sym c.in-Judged.is)

pub returns-in-Reads : goal.returns-in-Reads
returns-in-Reads c = c.put_reads.ensures ∙ ap (with_piece c.args.self.now c.args.number) (sym c.in-Reads.is)
