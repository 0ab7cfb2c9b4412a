use Rattle.std.proofs.Common.{◌≡◌, ℕ, ◌+◌, List, Option, ◌∙◌, sym, subst, arith}
use Rattle.std.proofs.lemmas.Bool.{false≢true}
use Rattle.history_model.specs.declared.operation.Operation.{Operation}
use Rattle.reg_zones.specs.declared.zone.Cluster.{Cluster}
use Rattle.reg_zones.specs.Register.{operations_of}
use Rattle.reg_zones.specs.Sweep.{AreCompared, AreClear}
use Rattle.reg_zones.proofs.Known.{facts}
use Rattle.reg_zones.proofs.OnePass.{step_none, step_forward, step_backward, step_found}
use Rattle.reg_zones.proofs.pass.compare_at.Goals as goal

three : (i : ℕ) (ops : List Operation) (last : Option Cluster) → AreClear ops (i + 2 + 1) last
    → AreClear ops (i + 3) last
three i ops last m = let e : i + 2 + 1 ≡ i + 3 = omega arith in subst (λ t. AreClear ops t last) e m

pub returns-in_default-low_end_at : goal.returns-in_default-low_end_at
returns-in_default-low_end_at c =
    let none = c.in_default-low_end_at.ensures in
    let met =
    subst (AreCompared (operations_of c.args.register) (c.args.id.0 + 2)) c.in-Clear.is
    c.requires.so_far in
    subst (AreCompared (operations_of c.args.register) (c.args.id.0 + 3)) (sym c.in-Clear.is)
    (three c.args.id.0 _ _
    (step_none (operations_of c.args.register) (facts c.args.register).history
    (c.args.id.0 + 2) c.in-Clear.last none met))

pub returns-in-Some-conflict_with : goal.returns-in-Some-conflict_with
returns-in-Some-conflict_with c =
    let f = c.in-Some.ensures in
    let k = c.in-Some-conflict_with.ensures in
    let met =
    subst (AreCompared (operations_of c.args.register) (c.args.id.0 + 2)) c.in-Clear.is
    c.requires.so_far in
    step_found (operations_of c.args.register) (facts c.args.register).history
    (c.args.id.0 + 2) c.in-Clear.last c.in-Some-conflict_with.first c.in-Some.cluster f met k

pub returns-then-is_forward : goal.returns-then-is_forward
returns-then-is_forward c =
    let f = c.in-Some.ensures in
    let k = c.in_default-conflict_with.ensures in
    let met =
    subst (AreCompared (operations_of c.args.register) (c.args.id.0 + 2)) c.in-Clear.is
    c.requires.so_far in
    three c.args.id.0 _ _
    (step_forward (operations_of c.args.register) (facts c.args.register).history
    (c.args.id.0 + 2) c.in-Clear.last c.in-Some.cluster f met k
    (c.is_forward.ensures.0 c.if-is_forward.true))

pub returns-else-is_forward : goal.returns-else-is_forward
returns-else-is_forward c =
    let f = c.in-Some.ensures in
    let k = c.in_default-conflict_with.ensures in
    let met =
    subst (AreCompared (operations_of c.args.register) (c.args.id.0 + 2)) c.in-Clear.is
    c.requires.so_far in
    subst (AreCompared (operations_of c.args.register) (c.args.id.0 + 3)) (sym c.in-Clear.is)
    (three c.args.id.0 _ _
    (step_backward (operations_of c.args.register) (facts c.args.register).history
    (c.args.id.0 + 2) c.in-Clear.last c.in-Some.cluster f met k
    (λ l. false≢true (sym c.if-is_forward.false ∙ c.is_forward.ensures.1 l))))
