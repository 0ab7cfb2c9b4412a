-- The arena is the history of the lines before and of those so far, none of which is faulty.
use Rattle.std.proofs.Common.{◌≡◌, ◌≤◌, ◌++◌, List, suc, ◌+◌, drop, length, slice_get}
use Rattle.std.proofs.Common.{Some, Ok, Err, refl, sym, ap, subst, ◌∙◌, arith}
use Rattle.std.proofs.lemmas.List.{append-nil, drop_all, take_all}
use Rattle.std.proofs.lemmas.Option.{slice_get_read, slice_get_within}
use Rattle.history_model.specs.History.{History}
use Rattle.history_model.specs.Refusals.{Line}
use Rattle.reg_arena.specs.Built.{IsBuilt}
use Rattle.reg_arena.specs.Numbered.{AreNumbered, IsNumbered, lines_of, name_called, names_with, with_name}
use Rattle.reg_arena.proofs.Numbered.{names-at, names-step, number-read, numbered-at}
use Rattle.reg_arena.proofs.Reading.{part-more, part-event-refused, part-line-refused, error-passed}
use Rattle.reg_arena.proofs.arena.Arena.add_lines.Goals as goal

pub loop-place-init : goal.loop-place-init
loop-place-init c = record {
  built = λ before built. subst (λ xs. IsBuilt xs c.args.self.now) (sym (append-nil before)) built;
  numbered = c.requires;
  names = refl;
}

pub returns-in-Err-clause-built : goal.returns-in-Err-clause-built
returns-in-Err-clause-built c = λ before built after.
    let lines = lines_of c.args.part.now in
    let n = c.loop-place.place in
    let read =
    slice_get_read c.deref-line-items.result.now _ n c.line-item.result refl c.loop-place-test.true
    c.line-item.is ∙ ap Some c.in-Err.is in
    let at =
    subst (λ (xs : List Line). slice_get xs n ≡ Some (Err c.in-Err.fault))
    c.deref-line-items.ensures.value read in
    part-line-refused before lines n c.loop-place.self (c.loop-place.invariant.built before built)
    c.in-Err.fault c.refused-refusal.result at c.refused-refusal.ensures after

pub index-requires : goal.index-requires
index-requires c =
    let n = c.loop-place.place in
    let numbers = c.args.part.now.numbers.items in
    let read =
    slice_get_read c.deref-line-items.result.now _ n c.line-item.result refl c.loop-place-test.true
    c.line-item.is ∙ ap Some c.in-Ok.is in
    let at =
    subst (λ (xs : List Line). slice_get xs n ≡ Some (Ok c.in-Ok.event))
    c.deref-line-items.ensures.value read in
    let here =
    numbered-at c.loop-place.self.names (lines_of c.args.part.now) numbers n
    (Ok c.in-Ok.event) at c.loop-place.invariant.numbered in
    omega (arith, slice_get_within numbers n here.0 here.1, c.args.part.now.numbers.ok)

pub step-requires : goal.step-requires
step-requires c =
    let n = c.loop-place.place in
    let numbers = c.args.part.now.numbers.items in
    let read =
    slice_get_read c.deref-line-items.result.now _ n c.line-item.result refl c.loop-place-test.true
    c.line-item.is ∙ ap Some c.in-Ok.is in
    let at =
    subst (λ (xs : List Line). slice_get xs n ≡ Some (Ok c.in-Ok.event))
    c.deref-line-items.ensures.value read in
    let here =
    numbered-at c.loop-place.self.names (lines_of c.args.part.now) numbers n
    (Ok c.in-Ok.event) at c.loop-place.invariant.numbered in
    subst (IsNumbered c.loop-place.self.names (name_called (Ok c.in-Ok.event)))
    (number-read numbers n here.0 c.index.result.now here.1 c.index.ensures) here.2

pub returns-in_err-step-in-Ok-clause-built : goal.returns-in_err-step-in-Ok-clause-built
returns-in_err-step-in-Ok-clause-built c = λ before built.
    let lines = lines_of c.args.part.now in
    let n = c.loop-place.place in
    let read =
    slice_get_read c.deref-line-items.result.now _ n c.line-item.result refl c.loop-place-test.true
    c.line-item.is ∙ ap Some c.in-Ok.is in
    let at =
    subst (λ (xs : List Line). slice_get xs n ≡ Some (Ok c.in-Ok.event))
    c.deref-line-items.ensures.value read in
    let so_far = c.loop-place.invariant.built before built in
    error-passed before lines c.step.new.self c.from_residual.result c.in_err-step-in-Ok.field-0.0
    c.from_residual.ensures.1
    (part-event-refused before lines n c.loop-place.self so_far c.in-Ok.event c.in_err-step-in-Ok.field-0.0 at
    (c.in_err-step-in-Ok.ensures _ so_far.accepted so_far.is))

pub loop-place-preserved : goal.loop-place-preserved
loop-place-preserved c =
    let lines = lines_of c.args.part.now in
    let n = c.loop-place.place in
    let names = c.loop-place.self.names in
    let numbers = c.args.part.now.numbers.items in
    let so_far = c.loop-place.invariant in
    let read =
    slice_get_read c.deref-line-items.result.now _ n c.line-item.result refl c.loop-place-test.true
    c.line-item.is ∙ ap Some c.in-Ok.is in
    let at =
    subst (λ (xs : List Line). slice_get xs n ≡ Some (Ok c.in-Ok.event))
    c.deref-line-items.ensures.value read in
    let next : suc n ≡ n + 1 = omega arith in
    let left = (numbered-at names lines numbers n (Ok c.in-Ok.event) at so_far.numbered).3 in
    let recorded = c.stays_recorded.ensures in
    let one_more =
    ap (λ (h : History). h.names)
    (c.in_ok-step-in-Ok.ensures recorded.events recorded.accepted recorded.is).1
    ∙ (names-step recorded.events c.in-Ok.event
    ∙ ap (λ (h : History). with_name h.names (name_called (Ok c.in-Ok.event))) (sym recorded.is)) in
    record {
      built =
          λ before built. let front =
          so_far.built before built in
          part-more before lines n c.loop-place.self front c.in-Ok.event c.step.new.self at
          (c.in_ok-step-in-Ok.ensures _ front.accepted front.is);
      numbered =
          subst (λ m. AreNumbered c.step.new.self.names (drop m lines) (drop m numbers)) next
          (subst (λ ns. AreNumbered ns (drop (suc n) lines) (drop (suc n) numbers)) (sym one_more) left);
      names =
          ap (λ m. names_with c.step.new.self.names (drop m lines)) (sym next)
          ∙ (ap (λ ns. names_with ns (drop (suc n) lines)) one_more
          ∙ (sym (names-at names lines n (Ok c.in-Ok.event) at) ∙ so_far.names));
    }

pub returns-clause-built : goal.returns-clause-built
returns-clause-built c = λ before built.
    let end =
    subst (λ (xs : List Line). length xs ≤ c.loop-place.place) c.deref-line-items.ensures.value
    c.loop-place-test.false in
    subst (λ lines. IsBuilt (before ++ lines) c.loop-place.self)
    (take_all c.loop-place.place (lines_of c.args.part.now) end)
    (c.loop-place.invariant.built before built)

pub returns-clause-names : goal.returns-clause-names
returns-clause-names c =
    let end =
    subst (λ (xs : List Line). length xs ≤ c.loop-place.place) c.deref-line-items.ensures.value
    c.loop-place-test.false in
    let none = drop_all c.loop-place.place (lines_of c.args.part.now) end in
    ap (names_with c.loop-place.self.names) (sym none) ∙ c.loop-place.invariant.names
