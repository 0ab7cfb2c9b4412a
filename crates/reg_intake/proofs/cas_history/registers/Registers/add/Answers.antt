-- The operation comes after the others of its register.
use Rattle.std.proofs.Common.{refl, arith}
use Rattle.std.proofs.lemmas.Option.{slice_get_read}
use Rattle.reg_intake.proofs.CasHistoryLemmas.Listed.{listed-add}
use Rattle.reg_intake.proofs.cas_history.registers.Registers.add.Goals as goal

pub returns-clause-adds : goal.returns-clause-adds
returns-clause-adds c =
    let old = c.args.self.now.operations.items in
    let was = c.index_mut.result.now in
    let there =
    slice_get_read old _ c.args.operation.register was refl (omega arith) c.index_mut.ensures.value in
    record {
      each = listed-add old c.args.operation was c.push.new.self there c.in_ok-push.ensures.items;
      count = omega arith;
    }
