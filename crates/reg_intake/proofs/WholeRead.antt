-- What was read of the bytes that are held, and what is left of them.
use Rattle.std.proofs.Common.{◌≡◌, List, [], ◌∷◌, ◌++◌, length, map, drop, sym, ap, ap₂, ◌∙◌, arith}
use Rattle.std.proofs.Math.Seq.{drop-length}
use Rattle.std.proofs.lemmas.List.{length-drop}
use Rattle.history_text.specs.declared.lines.WholeLines.{WholeLines}
use Rattle.history_text.specs.Lines.{AreWhole, lines}
use Rattle.history_text.specs.Reading.{AreReadWhole, lines_from, reading_of}
use Rattle.history_model.specs.Refusals.{Line}
use Rattle.reg_intake.specs.Intake.{IsReadOf}
use Rattle.reg_intake.specs.declared.intake.Intake.{Intake}

-- the whole lines are read, and their bytes are forgotten
pub read-of : (old new : Intake) (whole : WholeLines) (read : List Line)
    → AreWhole old.held old.next_line old.pulled.is_ended whole
    → AreReadWhole old.held old.next_line old.pulled.is_ended whole
    → read ≡ map (reading_of old.held) whole.spans.items → new.held ≡ drop whole.byte_count old.held
    → new.next_line ≡ whole.next_line → new.pulled ≡ old.pulled → IsReadOf old new read
read-of old new whole read are are_read is left line pulled = record {
  lines = λ more may_come.
      ap₂ (λ xs ys. read ++ lines_from xs (ys ++ more)) line left
      ∙ ap (λ ls. ls ++ lines_from whole.next_line (drop whole.byte_count old.held ++ more)) is
      ∙ are_read.readings more may_come;
  one_left = ap lines left ∙ are.one_left ∙ ap (λ xs. xs ∷ []) (sym left);
  end = λ ended. left ∙ ap (λ n. drop n old.held) (are.end ended) ∙ drop-length old.held;
  room =
      (let few = are.few in let within = are.within in let shorter = ap length left in
      let rest = length-drop whole.byte_count old.held in omega (arith, line));
  pulled = pulled;
}
