use Rattle.std.proofs.Common.{refl, sym, ◌∙◌}
use Rattle.history_model.specs.Operations.{register_of}
use Rattle.reg_report.proofs.Naming.{inversion-opers, inversion-shown}
use Rattle.reg_report.proofs.register.inverted.Goals as goal

pub lines-requires : goal.lines-requires
lines-requires c =
    let h = c.args.arena.now in
    let r = c.args.register.0 in
    let law =
    c.inversions_decide.ensures.fault (register_of h r) c.args.fault
    (c.arena_laws.ensures.history r) c.requires.single c.requires.regular c.requires.fault in
    inversion-opers h r c.args.fault c.in_ok-inversion_of.field-0 law.0 law.1 law.2 law.3
    (sym c.inversion_of.ensures ∙ c.in_ok-inversion_of.was)

pub returns : goal.returns
returns c =
    let h = c.args.arena.now in
    let r = c.args.register.0 in
    let law =
    c.inversions_decide.ensures.fault (register_of h r) c.args.fault
    (c.arena_laws.ensures.history r) c.requires.single c.requires.regular c.requires.fault in
    let shown =
    inversion-shown h r c.args.fault c.in_ok-inversion_of.field-0 law.0 law.1 law.2 law.3
    (sym c.inversion_of.ensures ∙ c.in_ok-inversion_of.was) in
    (c.lines.result, shown c.requires.fault c.lines.result c.lines.ensures, refl)
