use Rattle.std.proofs.Common.{◌≡◌, ◌<◌, ◌≤◌, ◌-◌, ◌++◌, ◌∷◌, [], ℕ, Some, length, slice_get, arith, refl}
use Rattle.std.proofs.Common.{sym, ap, subst, rules}
use Rattle.std.proofs.lemmas.List.{drop_all}
use Rattle.std.proofs.lemmas.Option.{slice_get_read}
use Rattle.reg_levels.proofs.Reading.{IsListedTo, listed_all, listed_more, listed_none}
use Rattle.reg_levels.proofs.listing.ReadLists.push_reads.Goals as goal

pub loop-place-init : goal.loop-place-init
loop-place-init c =
    let first = c.args.self.now.first.items in
    let at : slice_get first c.args.number ≡ Some c.index.result.now =
    slice_get_read first (length first) c.args.number c.index.result.now refl c.requires.within
    c.index.ensures in
    record {
      within = c.requires.ahead.firsts c.args.number c.index.result.now at;
      listed =
          λ ops clusters w lists i. listed_none ops w c.args.places.now.items c.index.result.now
          (lists.firsts c.args.number c.index.result.now w i at);
    }

pub loop-place-smaller : goal.loop-place-smaller
loop-place-smaller c =
    let next = c.args.self.now.next.items in
    let l : c.loop-place.place < length next = omega (
      arith,
      c.loop-place-test.true,
      c.len.ensures,
      c.args.self.now.next.ok.0,
    ) in
    let at : slice_get next c.loop-place.place ≡ Some c.index-in-loop-place.result.now =
    slice_get_read next (length next) c.loop-place.place c.index-in-loop-place.result.now refl l
    c.index-in-loop-place.ensures in
    let n = c.requires.ahead.nexts c.loop-place.place c.index-in-loop-place.result.now at in
    omega (arith, n.0, n.1, l)

pub loop-place-preserved : goal.loop-place-preserved
loop-place-preserved c =
    let next = c.args.self.now.next.items in
    let place = c.loop-place.place in
    let l : place < length next = omega (
      arith,
      c.loop-place-test.true,
      c.len.ensures,
      c.args.self.now.next.ok.0,
    ) in
    let at : slice_get next place ≡ Some c.index-in-loop-place.result.now =
    slice_get_read next (length next) place c.index-in-loop-place.result.now refl l
    c.index-in-loop-place.ensures in
    record {
      within = (c.requires.ahead.nexts place c.index-in-loop-place.result.now at).1;
      listed =
          λ ops clusters w lists i.
          subst (λ xs. IsListedTo ops w c.args.places.now.items xs c.index-in-loop-place.result.now)
          (sym c.in_ok-push.ensures.items)
          (listed_more ops w c.args.places.now.items c.loop-place.places.items place
          c.index-in-loop-place.result.now
          (omega (arith, l, lists.entries)) (c.loop-place.invariant.listed ops clusters w lists i)
          (λ a there is. lists.nexts place c.index-in-loop-place.result.now c.args.number a w (omega arith)
          at there i is));
    }

pub returns : goal.returns
returns c = λ ops clusters w lists i.
    listed_all ops w c.args.places.now.items c.loop-place.places.items c.loop-place.place
    (drop_all c.loop-place.place ops
    (omega (arith, c.loop-place-test.false, c.len.ensures, c.args.self.now.next.ok.0, lists.entries)))
    (c.loop-place.invariant.listed ops clusters w lists i)
