-- One pull more, or why there is none: the bytes before it count too.
use Rattle.std.proofs.Common.{rules, ◌≡◌, refl, sym, subst}
use Rattle.reg_intake.specs.Ends.{IsAll}
use Rattle.reg_intake.specs.Refused.{IsRefusedBy}
use Rattle.reg_intake.specs.declared.refusal.Refusal.TheVariants.{NoRoom}
use Rattle.reg_intake.proofs.Passing.{passed-on}
use Rattle.reg_intake.proofs.Pulling.{no-more-after, stops-after}
use Rattle.reg_intake.proofs.Refusing.{got-no-more, refused-after-rest, stops}
use Rattle.reg_intake.proofs.bytes.all_bytes.Goals.{then-eq+in_ok-drop_rest, else-eq}
use Rattle.reg_intake.proofs.bytes.all_bytes.Goals as goal

pub returns-in_err-drop_rest-clause-err : goal.returns-in_err-drop_rest-clause-err
returns-in_err-drop_rest-clause-err g c =
    let same : c.in-Err.refusal ≡ NoRoom = search rules in
    let got =
    no-more-after _ _ _ _ _ _ _ _ _ c.loop-pulled.invariant c.pull.new.pulled NoRoom
    (rw same at c.in-Err.ensures.err) in
    let e = c.in_err-drop_rest.field-0.0 in
    passed-on (IsRefusedBy (λ _ _. ⊥) (g.S.Source.left c.args.source.now)
    (g.S.Source.failed c.args.source.now) (g.S.Source.failed c.drop_rest.new.source))
    e c.from_residual.result c.from_residual.ensures.1
    (stops _ _ _ _ _ e (stops-after _ _ _ _ _ _ _ _ got.0 got.1 e c.in_err-drop_rest.ensures.err))

pub returns-in-Err-clause-err : goal.returns-in-Err-clause-err
returns-in-Err-clause-err g c =
    let got =
    no-more-after _ _ _ _ _ _ _ _ _ c.loop-pulled.invariant c.pull.new.pulled c.in-Err.refusal
    c.in-Err.ensures.err in
    elim c.if-eq.branch [
      | then-eq+in_ok-drop_rest w ↦
          let same : c.in-Err.refusal ≡ NoRoom = search rules in
          let before = rw same at got in
          let rest = w.in_ok-drop_rest.ensures in
          rw w.source-is
          (rw same (refused-after-rest _ _ _ _ _ _ _ _ rest.ok.0 NoRoom tt before rest.ok.1 rest.end))
      | else-eq w ↦
          let other : c.in-Err.refusal ≡ NoRoom → ⊥ = search rules in
          rw w.source-is (got-no-more _ _ _ _ _ _ c.in-Err.refusal other got)
    ]

pub returns-clause-all : goal.returns-clause-all
returns-clause-all g c =
    subst (IsAll (g.S.Source.left c.args.source.now)) (sym c.into_vec.ensures)
    (c.loop-pulled.invariant.ended refl (sym c.loop-pulled-test.ensures))
