-- All lines are numbered by no names before them, and taken in behind none.
use Rattle.std.proofs.Common.{[], ◌++◌, sym, subst, ◌∙◌}
use Rattle.std.proofs.lemmas.List.{append-nil}
use Rattle.reg_arena.specs.Built.{IsBuilt}
use Rattle.reg_arena.specs.Numbered.{AreNumbered}
use Rattle.history_model.specs.Refusals.{IsBuildError}
use Rattle.reg_arena.proofs.Reading.{all-built, error-of-all}
use Rattle.reg_arena.proofs.arena.Arena.build.Goals as goal

pub add_lines-requires : goal.add_lines-requires
add_lines-requires c =
    let lines = c.in_ok-numbered.numbered in
    let numbered =
    subst (λ names. AreNumbered names c.args.events.items lines.numbers.items) (c.new.ensures
    ∙ sym c.in_ok-arena.ensures.names) c.in_ok-numbered.ensures.numbers in
    subst (λ xs. AreNumbered c.in_ok-arena.arena.names xs lines.numbers.items)
    (sym c.in_ok-numbered.ensures.lines) numbered

pub returns-clause-ok : goal.returns-clause-ok
returns-clause-ok c =
    let built =
    subst (λ lines. IsBuilt lines c.add_lines.new.self) c.in_ok-numbered.ensures.lines
    (c.in_ok-add_lines.ensures.built [] c.in_ok-arena.ensures.built) in
    all-built c.args.events.items c.args.events.items c.add_lines.new.self built
    (append-nil c.args.events.items)

pub returns-in_err-add_lines-clause-err : goal.returns-in_err-add_lines-clause-err
returns-in_err-add_lines-clause-err c =
    let e = c.in_err-add_lines.field-0.0 in
    let refused =
    subst (λ lines. IsBuildError (lines ++ []) e) c.in_ok-numbered.ensures.lines
    (c.in_err-add_lines.ensures.built [] c.in_ok-arena.ensures.built []) in
    error-of-all c.args.events.items c.from_residual-in_err-add_lines.result e
    c.from_residual-in_err-add_lines.ensures.1
    (subst (λ lines. IsBuildError lines e) (append-nil c.args.events.items) refused)
