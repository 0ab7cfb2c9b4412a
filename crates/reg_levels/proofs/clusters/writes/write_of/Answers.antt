use Rattle.std.proofs.Common.{◌≡◌, FitsSigned, w64, sym, subst, ◌∙◌, rules}
use Rattle.std.proofs.Math.Facts.{to_z-of_z}
use Rattle.std.specs.BTreeMap.{get}
use Rattle.std.specs.Option.{option_copied}
use Rattle.std.specs.Ordering.{int_cmp}
use Rattle.reg_levels.specs.Clusters.Steps.{write_in}
use Rattle.reg_levels.proofs.clusters.writes.write_of.Goals as goal

pub returns-in-Int : goal.returns-in-Int
returns-in-Int c =
    let fits : FitsSigned w64 c.in-Int.value = search rules in
    subst (λ v. c.copied.result ≡ write_in c.args.null c.args.integers.now v) (sym c.in-Int.is)
    (c.copied.ensures
    ∙ subst (λ n. option_copied c.get.result ≡ get int_cmp c.args.integers.now n) (to_z-of_z fits)
    c.get.ensures.value)
