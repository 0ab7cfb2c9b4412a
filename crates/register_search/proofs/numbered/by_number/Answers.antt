-- A cas by the numbers of what it compares with and of what it gives.
use Rattle.std.proofs.Common.{◌≡◌, Some, sym, subst}
use Rattle.register_search.specs.ByNumbers.{DoesAs, IsRank, number_in}
use Rattle.register_search.proofs.ByNumbers.{does-cas, does-unless}
use Rattle.register_search.proofs.numbered.by_number.Goals as goal

pub returns-in_ok-to-in-Cas-clause-op : goal.returns-in_ok-to-in-Cas-clause-op
returns-in_ok-to-in-Cas-clause-op c =
    let new = c.number_of-in-Cas-2.new.numbers in
    let a = c.in_ok-from-in-Cas in
    let b = c.in_ok-to-in-Cas in
    let from : number_in new c.in-Cas.from ≡ Some a.from =
    b.ensures.more.kept c.in-Cas.from a.from a.ensures.number in
    let does =
    does-cas (number_in new) c.in-Cas.from c.in-Cas.to a.from b.to c.cas.result from b.ensures.number
    c.cas.ensures.op in
    record {
      act = subst (λ act. DoesAs (number_in new) act c.cas.result) (sym c.in-Cas.is) does;
      rank = subst (λ o. IsRank o c.cas.result.rank) c.reply_time-in-Cas.ensures c.cas.ensures.rank;
    }

pub returns-in_ok-to-in-CasUnless-clause-op : goal.returns-in_ok-to-in-CasUnless-clause-op
returns-in_ok-to-in-CasUnless-clause-op c =
    let new = c.number_of-in-CasUnless-2.new.numbers in
    let a = c.in_ok-unless-in-CasUnless in
    let b = c.in_ok-to-in-CasUnless in
    let unless : number_in new c.in-CasUnless.unless ≡ Some a.unless =
    b.ensures.more.kept c.in-CasUnless.unless a.unless a.ensures.number in
    let made = c.cas_unless in
    let does =
    does-unless (number_in new) c.in-CasUnless.unless c.in-CasUnless.to a.unless b.to made.result unless
    b.ensures.number made.ensures.op in
    record {
      act = subst (λ act. DoesAs (number_in new) act made.result) (sym c.in-CasUnless.is) does;
      rank = subst (λ o. IsRank o made.result.rank) c.reply_time-in-CasUnless.ensures made.ensures.rank;
    }
