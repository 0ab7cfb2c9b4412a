use Rattle.std.proofs.Common.{Some, refl, ap, subst, length}
use Rattle.history_model.specs.Lamport.{completed_reads}
use Rattle.history_model.specs.Operations.{register_of}
use Rattle.history_model.specs.declared.ids.Oper.TheVariants.{Called}
use Rattle.history_model.proofs.Named.{named-oper}
use Rattle.reg_lamport.specs.Levels.{IsFirstBadNamed}
use Rattle.reg_lamport.proofs.Cuts.{whole-keeps, whole-breaks}
use Rattle.reg_report.proofs.Naming.{line-own}
use Rattle.reg_report.proofs.levels.level_finding.Goals as goal

pub line-requires : goal.line-requires
line-requires c =
    let h = c.args.arena.now in
    let r = c.args.register.0 in
    let b =
    subst (IsFirstBadNamed h r c.args.level 0 (length (completed_reads (register_of h r)))) c.in-Some.is
    c.requires.first in
    named-oper h (Called c.in-Some.read) b.0 b.1

pub returns-in-Some : goal.returns-in-Some
returns-in-Some c =
    let h = c.args.arena.now in
    let r = c.args.register.0 in
    let reads = length (completed_reads (register_of h r)) in
    let b = subst (IsFirstBadNamed h r c.args.level 0 reads) c.in-Some.is c.requires.first in (
      c.requires.writer,
      (
        b.0,
        whole-breaks h r c.args.level reads b.0 b.2,
        ap Some (line-own h (Called c.in-Some.read) b.0 c.line.result b.1 c.line.ensures),
      ),
    )

pub returns-in-None : goal.returns-in-None
returns-in-None c =
    let h = c.args.arena.now in
    let r = c.args.register.0 in
    let reads = length (completed_reads (register_of h r)) in (
      c.requires.writer,
      whole-keeps h r c.args.level reads refl
          (subst (IsFirstBadNamed h r c.args.level 0 reads) c.in-None.is c.requires.first),
      refl,
    )
