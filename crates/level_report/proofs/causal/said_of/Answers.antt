use Rattle.std.proofs.Common.{refl, subst}
use Rattle.level_laws.proofs.CausalLemmas.Refuted.{refuted}
use Rattle.causal_order.specs.Decisions.{IsDecision}
use Rattle.level_report.proofs.causal.said_of.Goals as goal

pub returns-in_ok-fault_lines-in-Broken : goal.returns-in_ok-fault_lines-in-Broken
returns-in_ok-fault_lines-in-Broken c =
    let ops = c.args.ops.now in
    let found = subst (IsDecision ops) c.in-Broken.is c.in_ok-places.ensures in (
      refuted ops found.0 c.requires.ready.whole found.2,
      refl,
      (
        c.in_ok-fault_lines-in-Broken.field-0,
        refl,
        (found.0, found.2, c.in_ok-fault_lines-in-Broken.ensures found.0 found.1),
      ),
    )
