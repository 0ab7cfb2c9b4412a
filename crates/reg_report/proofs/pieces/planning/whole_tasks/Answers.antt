use Rattle.std.proofs.Common.{◌≡◌, ℕ, ◌+◌, ◌<◌, ◌∙◌, List, Option, length, ap, sym}
use Rattle.std.proofs.Common.{subst, arith, append_assoc, ◌++◌, ◌∷◌, [], take}
use Rattle.std.proofs.lemmas.List.{length-take-le, take_all, take_more}
use Rattle.std.proofs.lemmas.Option.{get_or_from_slice_get}
use Rattle.reg_report.specs.Pieces.Plan.{AreTasks}
use Rattle.reg_report.specs.declared.pieces.tasks.Task.{Task}
use Rattle.reg_report.specs.declared.pieces.tasks.Task.TheVariants.{Judge}
use Rattle.reg_report.proofs.PieceLemmas.Numbering.{one-register-more}
use Rattle.reg_report.proofs.pieces.planning.whole_tasks.Goals as goal

pub of-requires : goal.of-requires
of-requires c =
    omega (
      arith,
      c.loop-number-test.true,
      c.register_count-count.ensures.count,
      c.requires.counts.registers,
    )

pub loop-number-preserved : goal.loop-number-preserved
loop-number-preserved c =
    let l = c.loop-number in
    let n = l.number in
    let cut = c.args.cut in
    let counts = c.args.counts.now in
    let count = c.of.result in
    let inside : n < length counts =
    omega (
      arith,
      c.loop-number-test.true,
      c.register_count-count.ensures.count,
      c.requires.counts.registers,
    ) in
    let here : take (n + 1) counts ≡ take n counts ++ count ∷ [] =
    take_more counts n count inside
    ∙ ap (λ (x : Option ℕ). take n counts ++ x ∷ [])
    (get_or_from_slice_get counts n count count c.of.ensures) in
    let added = c.in_ok-add_cuts.ensures in
    let tasks : c.add_cuts.new.tasks.items ≡ l.tasks.items ++ Judge (record { 0 = n }) ∷ added.0 =
    added.2 ∙ (ap (λ (ts : List Task). ts ++ added.0) c.in_ok-push.ensures.items
    ∙ append_assoc l.tasks.items (Judge (record { 0 = n }) ∷ []) added.0) in
    let front = length-take-le n counts (omega (arith, inside)) in
    let cuts =
    one-register-more cut 0 n (take n counts) count l.tasks.items added.0
    (omega (arith, front)) l.invariant added.1 in
    subst (λ xs. AreTasks cut 0 xs c.add_cuts.new.tasks.items) (sym here)
    (subst (AreTasks cut 0 (take n counts ++ count ∷ [])) (sym tasks) cuts)

pub returns : goal.returns
returns c =
    let l = c.loop-number in
    let counts = c.args.counts.now in
    let whole : take l.number counts ≡ counts =
    take_all l.number counts (omega (
      arith,
      c.loop-number-test.false,
      c.register_count-count.ensures.count,
      c.requires.counts.registers,
    )) in
    subst (λ xs. AreTasks c.args.cut 0 xs l.tasks.items) whole l.invariant
