use Rattle.std.proofs.Common.{length, sym, ap, ◌∙◌, subst, refl}
use Rattle.history_model.specs.Operations.{is_write, value_of}
use Rattle.reg_levels.proofs.ClusterLemmas.Places.{at-is}
use Rattle.reg_levels.proofs.ClusterLemmas.Origins.{no-source, read-source, unwritten-from}
use Rattle.reg_levels.specs.Clusters.Steps.{IsWriteFound}
use Rattle.reg_levels.proofs.ClusterLemmas.Written.{write_in-found}
use Rattle.reg_levels.proofs.ClusterLemmas.Places.{plain-get}
use Rattle.reg_levels.proofs.clusters.sources.source.Goals as goal

pub returns-in-None : goal.returns-in-None
returns-in-None c = λ a t.
    let e = at-is c.args.ops.now c.args.place a t in
    no-source c.args.ops.now c.requires.history c.args.place a t
    (sym (ap is_write e) ∙ (sym c.changes.ensures ∙ c.if-changes.false))
    (sym (ap value_of e) ∙ (sym c.value.ensures ∙ c.in-None.is))

pub returns-in-Some-write_of : goal.returns-in-Some-write_of
returns-in-Some-write_of c = λ a t.
    let ops = c.args.ops.now in
    let e = at-is ops c.args.place a t in
    let found = write_in-found ops (length ops) c.args.null c.args.integers.now c.requires.null
    c.requires.integers c.in-Some.value in
    read-source ops c.requires.history c.args.place a t c.in-Some.value c.in-Some-write_of.write
    (sym (ap is_write e) ∙ (sym c.changes.ensures ∙ c.if-changes.false))
    (sym (ap value_of e) ∙ (sym c.value.ensures ∙ c.in-Some.is))
    (subst (IsWriteFound ops (length ops) c.in-Some.value) (sym c.write_of.ensures
    ∙ c.in-Some-write_of.is) found)

pub returns-in-None-write_of : goal.returns-in-None-write_of
returns-in-None-write_of c = λ a t.
    let ops = c.args.ops.now in
    let e = at-is ops c.args.place a t in
    let found = write_in-found ops (length ops) c.args.null c.args.integers.now c.requires.null
    c.requires.integers c.in-Some.value in (
      refl,
      unwritten-from ops c.requires.history c.args.place a t c.in-Some.value
          (sym (ap is_write e) ∙ (sym c.changes.ensures ∙ c.if-changes.false))
          (sym (ap value_of e) ∙ (sym c.value.ensures ∙ c.in-Some.is))
          (subst (IsWriteFound ops (length ops) c.in-Some.value) (sym c.write_of.ensures
          ∙ c.in-None-write_of.is) found),
    )

pub value-requires : goal.value-requires
value-requires c = plain-get c.args.ops.now c.requires.history c.args.place c.requires.place
