-- Each line feed ends a line; if no more bytes come, the last line ends without one.
use Rattle.std.proofs.Common.{◌+◌, ℕ, List, Vec, Global, All, ap, sym, subst, ◌∙◌}
use Rattle.history_text.specs.declared.lines.Span.{Span}
use Rattle.history_text.specs.Lines.{AreWhole, IsWithin}
use Rattle.history_text.proofs.Cut.{ArePassed, inside-last, passed-more, whole-ended, whole-open}
use Rattle.history_text.proofs.Numbered.{read-whole}
use Rattle.history_text.proofs.lines.whole_lines.Goals as goal
use Rattle.history_text.proofs.lines.whole_lines.Goals.{then-is_ended+in_ok-add-2, else-is_ended}

pub loop-count-preserved : goal.loop-count-preserved
loop-count-preserved c =
    let bytes = c.args.bytes.now in
    let line = c.loop-count.line in
    let from = c.loop-count.from in
    let k = c.in-Some.count in
    subst (λ (spans : List Span). ArePassed bytes c.args.first spans (line + 1) (from + k + 1))
    (sym c.in_ok-add.ensures.spans)
    (passed-more bytes c.args.first c.loop-count.spans.items line from k c.loop-count.invariant
    c.in-Some.ensures)

pub returns-clause-whole : goal.returns-clause-whole
returns-clause-whole c =
    let bytes = c.args.bytes.now in
    let first = c.args.first in
    let found = c.loop-count.spans in
    let line = c.loop-count.line in
    let from = c.loop-count.from in
    elim c.if-is_ended.branch [
      | then-is_ended+in_ok-add-2 w ↦
          whole-ended bytes first c.args.is_ended found.items from (record {
            spans = c.if-is_ended.spans;
            next_line = line;
            byte_count = c.if-is_ended.from;
          }) c.loop-count.invariant c.in_default.ensures
          (ap (λ (v : Vec Span Global). v.items) w.spans-is
          ∙ w.in_ok-add-2.ensures.spans) w.from-is w.if-is_ended.true
      | else-is_ended w ↦
          subst (λ (spans : Vec Span Global).
          AreWhole bytes first c.args.is_ended (record {
            spans = spans;
            next_line = line;
            byte_count = c.if-is_ended.from;
          })) (sym w.spans-is)
          (subst (λ (end : ℕ).
          AreWhole bytes first c.args.is_ended (record {
            spans = found;
            next_line = line;
            byte_count = end;
          })) (sym w.from-is)
          (whole-open bytes first c.args.is_ended (record {
            spans = found;
            next_line = line;
            byte_count = from;
          }) c.loop-count.invariant c.in_default.ensures w.if-is_ended.false))
    ]

pub returns-clause-within : goal.returns-clause-within
returns-clause-within c =
    let bytes = c.args.bytes.now in
    let found = c.loop-count.spans.items in
    let so_far = c.loop-count.invariant in
    elim c.if-is_ended.branch [
      | then-is_ended+in_ok-add-2 w ↦
          subst (All (IsWithin bytes)) (sym (ap (λ (v : Vec Span Global). v.items) w.spans-is
          ∙ w.in_ok-add-2.ensures.spans))
          (inside-last bytes found c.loop-count.line c.loop-count.from so_far.inside so_far.within)
      | else-is_ended w ↦
          subst (λ (v : Vec Span Global). All (IsWithin bytes) v.items) (sym w.spans-is) so_far.inside
    ]

pub returns-clause-readings : goal.returns-clause-readings
returns-clause-readings c =
    read-whole c.args.bytes.now c.args.first c.args.is_ended (record {
      spans = c.if-is_ended.spans;
      next_line = c.loop-count.line;
      byte_count = c.if-is_ended.from;
    })
    (returns-clause-whole c) (returns-clause-within c)
