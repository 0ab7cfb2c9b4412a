use Rattle.std.proofs.Common.{subst}
use Rattle.std.specs.Result.{MatchResult}
use Rattle.level_laws.specs.CausalFault.CausalFault.{unwritten}
use Rattle.causal_order.specs.SessionClocks.Sessions.{IsFirstUnwritten, IsSessionTable}
use Rattle.causal_order.specs.declared.session_clocks.table.SessionTable.{SessionTable}
use Rattle.causal_order.proofs.deciding.decide.Goals as goal

pub returns-in-Err : goal.returns-in-Err
returns-in-Err c =
    let ops = c.args.ops.now in
    let (r, at, is, first) = subst (λ judged. MatchResult judged (λ
    (table : SessionTable). IsSessionTable ops table)
    (IsFirstUnwritten ops)) c.in-Err.is c.in_ok-read.ensures in
    (unwritten r, at, is)
