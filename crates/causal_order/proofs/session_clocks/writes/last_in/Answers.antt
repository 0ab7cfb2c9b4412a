use Rattle.std.proofs.Common.{arith, rules}
use Rattle.std.proofs.lemmas.List.Sorted.{IsPartitionPoint-from_clause}
use Rattle.causal_order.specs.SessionClocks.WriteIndex.{is_before}
use Rattle.causal_order.specs.declared.session_clocks.writes.SessionWrite.{SessionWrite}
use Rattle.causal_order.proofs.SessionClockLemmas.Indexed.{last-in, none-in, none-of, parted}
use Rattle.causal_order.proofs.session_clocks.writes.last_in.Goals as goal

pub returns-then-passed-eq0 : goal.returns-then-passed-eq0
returns-then-passed-eq0 c =
    let writes = c.args.writes.now in
    let p =
    IsPartitionPoint-from_clause (λ (w : SessionWrite). is_before w c.args.session c.args.place) writes
    c.partition_point-passed.result c.partition_point-passed.ensures.partitioned
    (parted writes c.args.session c.args.place c.requires) (λ a r q k. search rules) in
    none-in writes c.args.session c.args.place c.requires c.partition_point-passed.result p.0 p.1
    c.if-passed-eq0.true

pub returns-then-last-session : goal.returns-then-last-session
returns-then-last-session c =
    let writes = c.args.writes.now in
    let p =
    IsPartitionPoint-from_clause (λ (w : SessionWrite). is_before w c.args.session c.args.place) writes
    c.partition_point-passed.result c.partition_point-passed.ensures.partitioned
    (parted writes c.args.session c.args.place c.requires) (λ a r q k. search rules) in
    last-in writes c.args.session c.args.place c.requires c.partition_point-passed.result p.0 p.1
    (omega (arith, c.if-passed-eq0.false)) (omega (arith, c.partition_point-passed.ensures.bound))
    c.if-last-session.true

pub returns-else-last-session : goal.returns-else-last-session
returns-else-last-session c =
    let writes = c.args.writes.now in
    let p =
    IsPartitionPoint-from_clause (λ (w : SessionWrite). is_before w c.args.session c.args.place) writes
    c.partition_point-passed.result c.partition_point-passed.ensures.partitioned
    (parted writes c.args.session c.args.place c.requires) (λ a r q k. search rules) in
    none-of writes c.args.session c.args.place c.requires c.partition_point-passed.result p.0 p.1
    (omega (arith, c.if-passed-eq0.false)) (omega (arith, c.partition_point-passed.ensures.bound))
    c.if-last-session.false
