use Rattle.std.proofs.Common.{◌≡◌, ◌<◌, arith, inl, inr, length, refl, slice_get, Some, subst, sym}
use Rattle.std.proofs.lemmas.Bool.{cases_eq}
use Rattle.std.proofs.lemmas.Option.{slice_get_read, slice_get_within}
use Rattle.configurations.specs.Configs.{IsGoneOver}
use Rattle.configurations.specs.Tables.{call_at}
use Rattle.configurations.proofs.Replying.{all_gone_over, kept_all, kept_both, still_able_by}
use Rattle.configurations.proofs.Replying.{still_back, still_gone_over}
use Rattle.configurations.proofs.reply.pass.Goals as goal

pub loop-at-init : goal.loop-at-init
loop-at-init g c = record {
  apart = c.requires.apart;
  kept = kept_all c.args.lists.now.work c.args.lists.now.next;
  gone = λ at x lt e. absurd (omega (arith, lt));
}

pub returns-then-at-len-clause-goes : goal.returns-then-at-len-clause-goes
returns-then-at-len-clause-goes g c = λ es n to_come a.
    let t = c.args.table.now in
    let k = call_at t c.args.reply in
    let work = c.loop-at.lists.work in
    all_gone_over t k work c.loop-at.lists.next es to_come (λ at x e.
    c.loop-at.invariant.gone at x
    (omega (arith, slice_get_within work.list.items at x e, c.len.ensures, c.if-at-len.true)) e) n
    (still_able_by t k es n c.args.lists.now.work work c.loop-at.invariant.kept.work_kept a)

pub loop-at-preserved : goal.loop-at-preserved
loop-at-preserved g c =
    let t = c.args.table.now in
    let k = call_at t c.args.reply in
    let now = c.loop-at.lists in
    let after = c.try_all.new.lists in
    let items = now.work.list.items in
    let tried = c.in_ok-try_all.ensures in
    let below : c.loop-at.at < length items = omega (arith, c.len.ensures, c.if-at-len.false) in
    let here : slice_get items c.loop-at.at ≡ Some c.index.result.now =
    slice_get_read items (length items) c.loop-at.at c.index.result.now refl below c.index.ensures in
    record {
      apart = tried.apart;
      kept =
          kept_both c.args.lists.now.work c.args.lists.now.next now.work now.next after.work after.next
          c.loop-at.invariant.kept tried.kept;
      gone = λ at x lt e. elim (cases_eq at c.loop-at.at) [
        | inl same ↦
            let there : slice_get after.work.list.items at ≡ Some c.index.result.now =
            tried.kept.work_kept at c.index.result.now
            (subst (λ y. slice_get items y ≡ Some c.index.result.now) (sym same) here) in
            let both : c.index.result.now ≡ x = cc (there, e) in
            subst (λ y. IsGoneOver t k after.work after.next y) both tried.goes
        | inr apart ↦
            let lower : at < c.loop-at.at = omega (arith, lt, apart) in
            still_gone_over t k x now.work now.next after.work after.next tried.kept
            (c.loop-at.invariant.gone at x lower
            (still_back now.work after.work at x tried.kept.work_kept (omega (arith, lower, below))
            e))
      ];
    }
