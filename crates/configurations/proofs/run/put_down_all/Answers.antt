use Rattle.std.proofs.Common.{◌≡◌, ◌-◌, ◌<◌, ℕ, arith, inl, inr, length, refl, slice_get, Some, subst}
use Rattle.std.proofs.lemmas.Bool.{cases_eq}
use Rattle.std.proofs.lemmas.Option.{slice_get_read, slice_get_within}
use Rattle.configurations.specs.Configs.{GoesBy, free_of, owed_by}
use Rattle.configurations.specs.Tables.{call_at}
use Rattle.configurations.proofs.Replying.{none_apart, still_goes}
use Rattle.configurations.proofs.run.put_down_all.Goals as goal

pub loop-i-init : goal.loop-i-init
loop-i-init g c = record {
  apart =
      none_apart c.args.table.now c.args.reply c.args.lists.now.work c.args.lists.now.next c.requires.empty.0
      c.requires.empty.1;
  goes = λ at x le e. absurd (omega (arith, le, slice_get_within c.args.now.now.list.items at x e));
}

pub loop-i-preserved : goal.loop-i-preserved
loop-i-preserved g c =
    let t = c.args.table.now in
    let k = call_at t c.args.reply in
    let items = c.args.now.now.list.items in
    let before = c.loop-i.lists in
    let after = c.put_down.new.lists in
    let place : ℕ = c.len-len.result - 1 - c.loop-i.i in
    let below : place < length items = omega (arith, c.len-len.ensures, c.loop-i-test.true) in
    let there : slice_get items place ≡ Some c.index.result.now =
    slice_get_read items (length items) place c.index.result.now refl below c.index.ensures in
    record {
      apart = c.in_ok-put_down.ensures.apart;
      goes = λ at x le e. elim (cases_eq at place) [
        | inl same ↦
            let here : slice_get items place ≡ Some x = subst (λ y. slice_get items y ≡ Some x) same e in
            let both : c.index.result.now ≡ x = cc in
            subst (λ y. GoesBy t k after.work after.next y.value (owed_by t y) (free_of t y)) both
            c.in_ok-put_down.ensures.goes
        | inr apart ↦
            still_goes t k before.work before.next after.work after.next x.value (owed_by t x) (free_of t x)
            c.in_ok-put_down.ensures.kept
            (c.loop-i.invariant.goes at x
            (omega (arith, c.len-len.ensures, c.loop-i-test.true, le, apart)) e)
      ];
    }

pub returns-clause-goes : goal.returns-clause-goes
returns-clause-goes g c = λ at x e.
    c.loop-i.invariant.goes at x (omega (arith, c.len-len.ensures, c.loop-i-test.false)) e
