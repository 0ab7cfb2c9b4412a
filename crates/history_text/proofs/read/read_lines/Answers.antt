-- The parts, in order, are the lines of the definition.
use Rattle.std.proofs.Common.{◌≡◌, ◌++◌, [], ap, sym, subst, flat_map, map, ◌∙◌}
use Rattle.std.proofs.lemmas.List.{append_assoc, append-nil, nil_from_length}
use Rattle.history_text.specs.Reading.{IsAscending, history_lines, reading_of}
use Rattle.history_text.proofs.Ascending.{lines-ascend}
use Rattle.history_text.proofs.read.read_lines.Given as given
use Rattle.history_text.proofs.read.read_lines.Goals as goal

pub loop-part-init : goal.loop-part-init
loop-part-init g c =
    let bytes = c.args.bytes.now in
    let read =
    c.in_ok-part-items.ensures ∙ ap (map (reading_of bytes)) c.deref.ensures.value
    ∙ c.in_ok-spans.ensures.readings in
    record {
      read = rw (
        c.in_ok-lines.ensures.items,
        c.into_iter-part-iterator.ensures.into_iter_gives.0,
      ) read;
    }

pub loop-part-preserved : goal.loop-part-preserved
loop-part-preserved g c =
    let part = c.in-Some.part in
    let rest = c.next.new.self.rest.items in
    let lines = c.loop-part.lines.items in
    let e = c.in_ok-append.ensures.items in
    record {
      read = ap (λ xs. xs ++ flat_map (λ p. p.items) rest) {y = lines ++ part.items} e
          ∙ append_assoc lines part.items (flat_map (λ p. p.items) rest)
          ∙ ap (λ xs. lines ++ flat_map (λ p. p.items) xs) (sym c.in-Some.ensures.steps.0)
          ∙ c.loop-part.invariant.read;
    }

joined : (g : given.Over) (c : goal.After-drop-spans-2 g)
    → c.loop-part.lines.items ≡ history_lines c.args.bytes.now
joined g c =
    let rest = c.loop-part.part-iterator.rest in
    let none : rest.items ≡ [] = nil_from_length rest.items (sym rest.ok.0 ∙ c.in-None.ensures.steps.0) in
    sym (append-nil c.loop-part.lines.items)
    ∙ ap (λ xs. c.loop-part.lines.items ++ flat_map (λ p. p.items) xs) (sym none)
    ∙ c.loop-part.invariant.read

pub returns-clause-lines : goal.returns-clause-lines
returns-clause-lines g c = joined g c

pub returns-clause-ascending : goal.returns-clause-ascending
returns-clause-ascending g c = subst IsAscending (sym (joined g c)) (lines-ascend c.args.bytes.now)
