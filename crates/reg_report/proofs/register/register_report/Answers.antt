-- The fields that the line has of the order or of the fault say what
-- is said of whether the register is atomic.
use Rattle.std.proofs.Common.{rules, refl, subst, sym}
use Rattle.history_model.specs.Operations.{register_of}
use Rattle.reg_report.specs.Atomicity.{IsAtomicityShown}
use Rattle.reg_report.specs.Meaning.{IsAtomicity, IsInversionAnswer}
use Rattle.reg_report.proofs.register.register_report.Goals as goal
use Rattle.reg_report.proofs.register.register_report.Goals.{in-Yes, in-No}

pub returns : goal.returns
returns c =
    let h = c.args.arena.now in
    let ops = register_of h c.args.finding.now.register.0 in
    let regular = c.args.finding.now.levels.regular.verdict in
    let t = c.match-atomicity.atomic in
    let said : IsAtomicity h ops t.0 t.1 t.3 t.4 × IsInversionAnswer h ops t.0 regular t.2 =
    elim c.match-atomicity.branch [
      | in-Yes w ↦
          subst (λ t. IsAtomicity h ops t.0 t.1 t.3 t.4 × IsInversionAnswer h ops t.0 regular t.2)
          (sym w.atomic-is)
          (subst (IsAtomicityShown h ops regular) w.in-Yes.is c.in_ok-atomicity.ensures, refl)
      | in-No w ↦
          subst (λ t. IsAtomicity h ops t.0 t.1 t.3 t.4 × IsInversionAnswer h ops t.0 regular t.2)
          (sym w.atomic-is)
          (subst (IsAtomicityShown h ops regular) w.in-No.is c.in_ok-atomicity.ensures)
    ] in
    record {
      name = search rules;
      pending = c.requires.tally.open_calls;
      reads = c.requires.tally.read;
      writes = c.requires.tally.write;
      safe = c.requires.levels.at_safe;
      regular = c.requires.levels.at_regular;
      atomic = said.0;
      inversion = said.1;
    }
