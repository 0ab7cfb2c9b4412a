-- Each part is pushed behind those before it.
use Rattle.std.proofs.Common.{◌≡◌, ◌∙◌, Result, Ok, Err, List, Vec, Global, ℕ}
use Rattle.std.proofs.Common.{ap, refl, subst, sym, arith, length, take}
use Rattle.std.proofs.Math.Seq.{take-length}
use Rattle.std.proofs.lemmas.List.{take_all}
use Rattle.std.specs.Prelude.{OnErr}
use Rattle.std.specs.Io.KnownBytes.{Appends}
use Rattle.std.proofs.KnownBytes.{Appends-kept, Appends-nil}
use Rattle.byte_ends.specs.Ends.{AppendsBeginning}
use Rattle.byte_ends.proofs.Pushing.{Appends-part, Appends-beginning, bytes-of}
use Rattle.byte_ends.proofs.delivery.deliver.Goals as goal

on_err : {T E : Type 0} (P : Type 0) (r : Result T E) → P → OnErr r P
on_err P (Ok x) p = tt
on_err P (Err e) p = p

pub loop-part-init : goal.loop-part-init
loop-part-init g c = record { out = Appends-nil (g.S.Sink.taken c.args.sink.now); failures = refl }

pub loop-part-preserved : goal.loop-part-preserved
loop-part-preserved g c =
    let before = c.loop-part.invariant in
    let part = c.as_slice.ensures.value ∙ ap (λ (v : Vec ℕ Global). v.items) c.part-item.is in
    record {
      out =
          Appends-part _ _ _ c.args.parts.now c.loop-part.part-index c.part-item.result
          (omega arith) before.out (subst (Appends _ _) part c.in_ok-push_all.ensures.ok);
      failures = c.in_ok-push_all.ensures.failures ∙ before.failures;
    }

pub returns-in_err-push_all-clause-err : goal.returns-in_err-push_all-clause-err
returns-in_err-push_all-clause-err g c =
    let part = c.as_slice.ensures.value ∙ ap (λ (v : Vec ℕ Global). v.items) c.part-item.is in
    on_err _ c.from_residual.result
    (Appends-beginning _ _ _ c.args.parts.now c.loop-part.part-index c.part-item.result
    (omega arith) c.loop-part.invariant.out
    (subst (AppendsBeginning _ _) part c.in_err-push_all.ensures.err))

pub returns-clause-err : goal.returns-clause-err
returns-clause-err g c =
    let parts = c.args.parts.now in
    let all : take c.loop-part.part-index parts ≡ parts =
    take_all c.loop-part.part-index parts (omega (
      arith,
      c.loop-part-test.false,
      c.loop-part.auto.part-index-end,
    )) in
    let out =
    subst (λ (ps : List (Vec ℕ Global)).
    Appends (g.S.Sink.taken c.args.sink.now) (g.S.Sink.taken c.loop-part.sink) (bytes-of ps)) all
    c.loop-part.invariant.out in
    let kept =
    Appends-kept (g.S.Sink.taken c.args.sink.now) (g.S.Sink.taken c.loop-part.sink)
    (g.S.Sink.taken c.flush.new.self) (bytes-of parts) out c.flush.ensures.bytes in
    on_err _ c.flush.result (
      length (bytes-of parts),
      omega arith,
      subst (Appends (g.S.Sink.taken c.args.sink.now) (g.S.Sink.taken c.flush.new.self))
          (sym (take-length (bytes-of parts))) kept,
    )
