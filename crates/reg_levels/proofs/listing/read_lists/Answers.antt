use Rattle.std.proofs.Common.{◌≡◌, ◌<◌, ◌≤◌, ◌-◌, ℕ, suc, Some, length, slice_get, arith, refl, sym, ap}
use Rattle.std.proofs.Common.{subst, rules}
use Rattle.std.proofs.lemmas.Option.{slice_get_read}
use Rattle.reg_levels.specs.ReadLists.{AreReadLists}
use Rattle.reg_levels.proofs.InTime.{number_below}
use Rattle.reg_levels.proofs.Reading.{lists_other, lists_read}
use Rattle.reg_levels.proofs.listing.read_lists.Goals as goal

pub loop-place-preserved-in-Some : goal.loop-place-preserved-in-Some
loop-place-preserved-in-Some c =
    let ops = c.args.ops.now in
    let clusters = c.args.table.now.clusters.items in
    let numbers = c.args.table.now.numbers.items in
    let place : ℕ = c.loop-place.place - 1 in
    let here : c.loop-place.place ≡ suc place = omega (arith, c.loop-place-test.true) in
    let lists : AreReadLists ops clusters (suc place) c.loop-place.first.items c.loop-place.next.items =
    subst (λ n. AreReadLists ops clusters n c.loop-place.first.items c.loop-place.next.items) here
    c.loop-place.invariant in
    let read = c.in-Some.ensures.some in
    let below = number_below ops clusters numbers c.requires.table place c.in-Some.number read.operation
    read.at read.number in
    let at : slice_get c.loop-place.first.items c.in-Some.number ≡ Some c.index.result.now =
    slice_get_read c.loop-place.first.items (length c.loop-place.first.items) c.in-Some.number
    c.index.result.now refl
    (omega (arith, below, lists.heads)) c.index.ensures in
    lists_read ops clusters numbers c.requires.history c.requires.by_call c.requires.table place
    c.in-Some.number
    c.index.result.now c.loop-place.first.items c.loop-place.next.items read at lists

pub loop-place-preserved : goal.loop-place-preserved
loop-place-preserved c =
    let ops = c.args.ops.now in
    let clusters = c.args.table.now.clusters.items in
    let place : ℕ = c.loop-place.place - 1 in
    let here : c.loop-place.place ≡ suc place = omega (arith, c.loop-place-test.true) in
    lists_other ops clusters c.args.table.now.numbers.items c.requires.history c.requires.by_call
    c.requires.table place
    c.loop-place.first.items c.loop-place.next.items (omega (
      arith,
      c.loop-place-test.true,
      c.loop-place.auto.place,
    ))
    c.in_default.ensures.none
    (subst (λ n. AreReadLists ops clusters n c.loop-place.first.items c.loop-place.next.items) here
    c.loop-place.invariant)

pub returns : goal.returns
returns c =
    subst (λ n. AreReadLists c.args.ops.now c.args.table.now.clusters.items n c.loop-place.first.items
    c.loop-place.next.items)
    (let e : c.loop-place.place ≡ 0 = omega (arith, c.loop-place-test.false) in e) c.loop-place.invariant
