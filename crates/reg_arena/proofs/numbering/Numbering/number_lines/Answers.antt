-- One line more has its number, by the names before it.
use Rattle.std.proofs.Common.{◌≡◌, ◌∷◌, ◌++◌, [], suc, ◌+◌, take, refl, sym, ap, subst, ◌∙◌, arith}
use Rattle.std.proofs.lemmas.Option.{slice_get_read}
use Rattle.history_model.proofs.Accepted.{take-push}
use Rattle.reg_arena.proofs.Numbered.{names-append, numbered-push}
use Rattle.reg_arena.specs.Numbered.{AreNumbered, IsNumbered, name_called, names_with, with_name}
use Rattle.reg_arena.proofs.numbering.Numbering.number_lines.Goals as goal

pub loop-line-preserved : goal.loop-line-preserved
loop-line-preserved c =
    let names = c.args.self.now in
    let lines = c.deref-line-items.result.now in
    let n = c.loop-line.line-index in
    let line = c.line-item.result in
    let number = c.in_ok-number_line.field-0 in
    let so_far = c.loop-line.invariant in
    let at = slice_get_read lines _ n line refl c.loop-line-test.true c.line-item.is in
    let next : suc n ≡ n + 1 = omega arith in
    let more : take n lines ++ line ∷ [] ≡ take (n + 1) lines =
    sym (take-push lines n line at) ∙ ap (λ m. take m lines) next in
    let all =
    numbered-push names (take n lines) c.loop-line.numbers.items line number so_far.numbers
    (subst (λ ns. IsNumbered ns (name_called line) number) so_far.names
    c.in_ok-number_line.ensures.number) in
    record {
      numbers =
          subst (AreNumbered names (take (n + 1) lines)) (sym c.in_ok-push.ensures.items)
          (subst (λ xs. AreNumbered names xs (c.loop-line.numbers.items ++ number ∷ [])) more all);
      names =
          c.in_ok-number_line.ensures.names
          ∙ (ap (λ ns. with_name ns (name_called line)) so_far.names
          ∙ (sym (names-append names (take n lines) (line ∷ [])) ∙ ap (names_with names) more));
    }
