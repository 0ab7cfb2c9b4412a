use Rattle.std.proofs.Common.{◌≡◌, Option, Bool, false, List, sym, ap, ◌∙◌, subst, refl, IsTrue, ◌↔◌}
use Rattle.std.proofs.lemmas.Bool.{false≢true}
use Rattle.history_text.specs.declared.event.Val.{Val}
use Rattle.history_model.specs.Operations.{of_register, operations, value_of}
use Rattle.history_model.specs.declared.operation.Operation.{Operation}
use Rattle.history_model.specs.Naming.{op_shown}
use Rattle.history_model.specs.declared.op.Op.{Op}
use Rattle.history_model.specs.declared.ids.Oper.TheVariants.{Called}
use Rattle.history_model.proofs.Named.{one-named, named-oper}
use Rattle.reg_lamport.specs.declared.level.Level.{Level}
use Rattle.reg_lamport.specs.declared.level.Level.TheVariants.{Safe, Regular}
use Rattle.reg_lamport.specs.Levels.{Keeps}
use Rattle.reg_lamport.proofs.Breaking.{old-keeps, safe-keeps, regular-keeps}
use Rattle.reg_lamport.proofs.breaks.keeps.Goals as goal

pub op-read-requires : goal.op-read-requires
op-read-requires c =
    let q = c.requires in named-oper c.args.arena.now (Called c.args.entry.now.read) q.operation q.entry.read

pub op-requires : goal.op-requires
op-requires c =
    let q =
    c.requires in let x =
    q.entry.old_write q.single in named-oper c.args.arena.now c.args.entry.now.old_write x.0 x.1

pub returns-then-is_same : goal.returns-then-is_same
returns-then-is_same c r named =
    let h = c.args.arena.now in
    let q = c.requires in
    let w = c.op.ensures in
    let x = c.op-read.ensures in
    let o = one-named h (Called c.args.entry.now.read) q.operation r q.entry.read named in
    let p = one-named h (Called c.args.entry.now.read) x.0 q.operation x.1 q.entry.read in
    let equal = c.is_same.ensures.0 c.if-is_same.true in
    let value =
    sym (ap (λ (y : Op). y.value) w.2)
    ∙ (equal ∙ (ap (λ (y : Op). y.value) x.2 ∙ ap value_of p)) in
    let keeps =
    old-keeps h q.recorded c.args.register.0 q.operation q.within q.read c.args.entry.now q.single q.entry
    w.0 w.1 c.args.level value in
    (λ _. subst (Keeps c.args.level (of_register c.args.register.0 (operations h))) o keeps, λ _. refl)

pub has_overlapped_value-requires : goal.has_overlapped_value-requires
has_overlapped_value-requires c =
    let q = c.requires in
    let x = c.op-read.ensures in
    let same = one-named c.args.arena.now (Called c.args.entry.now.read) x.0 q.operation x.1 q.entry.read in
    record {
      recorded = q.recorded;
      operation = q.operation;
      within = q.within;
      read = q.read;
      named = q.entry.read;
      is = x.2 ∙ ap op_shown same;
    }

-- a test that decides the level's case for one operation decides the level for another that is equal
decides : (ops : List Operation) (level at : Level) (b : Bool) (o r : Operation) → level ≡ at → o ≡ r
    → IsTrue b ↔ Keeps at ops o → IsTrue b ↔ Keeps level ops r
decides ops level at b o r p q x = (
  λ t. subst (λ l. Keeps l ops r) (sym p) (subst (Keeps at ops) q (x.0 t)),
  λ k. x.1 (subst (Keeps at ops) (sym q) (subst (λ l. Keeps l ops r) p k)),
)

-- where the values differ
other-value : (b : Bool) (v w x y : Option Val) → IsTrue b ↔ (v ≡ w) → b ≡ false → v ≡ x → w ≡ y → x ≡ y → ⊥
other-value b v w x y test fails p q e = false≢true (sym fails ∙ test.1 (p ∙ (e ∙ sym q)))

pub returns-in-Safe : goal.returns-in-Safe
returns-in-Safe c r named =
    let h = c.args.arena.now in
    let q = c.requires in
    let w = c.op.ensures in
    let x = c.op-read.ensures in
    let o = one-named h (Called c.args.entry.now.read) q.operation r q.entry.read named in
    let p = one-named h (Called c.args.entry.now.read) x.0 q.operation x.1 q.entry.read in
    let differs =
    other-value c.is_same.result c.op.result.value c.op-read.result.value (value_of w.0)
    (value_of q.operation) c.is_same.ensures c.if-is_same.false (ap (λ (y : Op). y.value) w.2)
    (ap (λ (y : Op). y.value) x.2 ∙ ap value_of p) in
    decides (of_register c.args.register.0 (operations h)) c.args.level Safe c.args.entry.now.is_overlapped
    q.operation r c.in-Safe.is o
    (safe-keeps h q.recorded c.args.register.0 q.operation q.within q.read c.args.entry.now q.single q.entry
    w.0 w.1 differs)

pub returns-in-Regular : goal.returns-in-Regular
returns-in-Regular c r named =
    let h = c.args.arena.now in
    let ops = of_register c.args.register.0 (operations h) in
    let q = c.requires in
    let w = c.op.ensures in
    let x = c.op-read.ensures in
    let o = one-named h (Called c.args.entry.now.read) q.operation r q.entry.read named in
    let p = one-named h (Called c.args.entry.now.read) x.0 q.operation x.1 q.entry.read in
    let differs =
    other-value c.is_same.result c.op.result.value c.op-read.result.value (value_of w.0)
    (value_of q.operation) c.is_same.ensures c.if-is_same.false (ap (λ (y : Op). y.value) w.2)
    (ap (λ (y : Op). y.value) x.2 ∙ ap value_of p) in
    let keeps =
    regular-keeps h q.recorded c.args.register.0 q.operation q.within q.read c.args.entry.now q.single
    q.entry w.0 w.1 differs in
    let found = c.has_overlapped_value.ensures q.operation q.entry.read in
    decides ops c.args.level Regular c.has_overlapped_value.result q.operation r c.in-Regular.is o
    (λ t. keeps.0 (found.0 t), λ k. found.1 (keeps.1 k))
