use Rattle.std.proofs.Common.{◌<◌, get_or, length, sym, ◌∙◌, arith}
use Rattle.std.proofs.lemmas.Bool.{false≢true}
use Rattle.history_text.specs.declared.event.Val.TheVariants.{Null}
use Rattle.reg_levels.proofs.ClusterLemmas.Places.{at-get, nothing}
use Rattle.reg_levels.proofs.ClusterLemmas.Written.{none_more}
use Rattle.reg_levels.proofs.ClusterLemmas.Places.{plain-get}
use Rattle.reg_levels.proofs.clusters.writes.null_write.Goals as goal

pub loop-place-preserved : goal.loop-place-preserved
loop-place-preserved c =
    let ops = c.args.ops.now in
    let i = c.loop-place.place in
    let below : i < length ops = omega arith in
    none_more ops i (get_or ops i nothing) (at-get ops i below) Null
    (λ e. false≢true (sym c.if-writes_null.false ∙ c.writes_null.ensures.1 e)) c.loop-place.invariant

pub returns : goal.returns
returns c = λ p l h. c.loop-place.invariant p (omega arith) h

pub writes_null-requires : goal.writes_null-requires
writes_null-requires c = plain-get c.args.ops.now c.requires.history c.loop-place.place (omega arith)

pub returns-then-writes_null : goal.returns-then-writes_null
returns-then-writes_null c =
    let ops = c.args.ops.now in
    let i = c.loop-place.place in
    (get_or ops i nothing, at-get ops i (omega arith), c.writes_null.ensures.0 c.if-writes_null.true)
