-- One part more has its numbers, by the names before it.
use Rattle.std.proofs.Common.{◌++◌, [], flat_map, sym, ap, subst, ◌∙◌}
use Rattle.std.proofs.lemmas.List.{flat_map_more}
use Rattle.reg_arena.proofs.Numbered.{names-append, parts-push}
use Rattle.reg_arena.specs.Numbered.{AreNumbered, ArePartsNumbered, lines_of, names_with}
use Rattle.reg_arena.proofs.numbering.Numbering.number_parts.Goals as goal

pub loop-part-preserved : goal.loop-part-preserved
loop-part-preserved c =
    let names = c.args.self.now in
    let before = c.loop-part.self in
    let numbered = c.loop-part.numbered.items in
    let one = c.in_ok-number_lines.field-0 in
    let so_far = c.loop-part.invariant in
    let made = c.in_ok-number_lines.ensures in
    let items = c.in_ok-push.ensures.items in
    let more = ap (flat_map lines_of) items ∙ sym (flat_map_more lines_of [] numbered one) in
    let numbers =
    subst (λ ns. AreNumbered ns (lines_of one) one.numbers.items) so_far.names
    (subst (λ lines. AreNumbered before lines one.numbers.items) (sym made.lines) made.numbers) in
    record {
      lines =
          more ∙ (ap (λ lines. lines ++ lines_of one) so_far.lines
          ∙ (ap (λ lines. flat_map (λ part. part.items) c.loop-part.yielded ++ lines) made.lines
          ∙ flat_map_more (λ part. part.items) [] c.loop-part.yielded c.in-Some.part));
      numbers =
          subst (ArePartsNumbered names) (sym items) (parts-push names numbered one so_far.numbers numbers);
      names =
          made.names ∙ (ap (names_with before) (sym made.lines)
          ∙ (ap (λ ns. names_with ns (lines_of one)) so_far.names
          ∙ (sym (names-append names (flat_map lines_of numbered) (lines_of one))
          ∙ ap (names_with names) (sym more))));
    }
