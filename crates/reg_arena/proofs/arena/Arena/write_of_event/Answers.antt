use Rattle.std.proofs.Common.{◌≡◌, Option, ◌<◌, ℕ, length, Some, None, sym, ap, subst, ◌∙◌, option_map}
use Rattle.history_text.specs.declared.event.Val.{Val}
use Rattle.history_text.specs.declared.event.Val.TheVariants.{Null}
use Rattle.history_model.specs.History.{History, IsRecorded}
use Rattle.history_model.specs.Walking.{by_value, key_at}
use Rattle.history_model.specs.OfValue.{IsWriteOf}
use Rattle.reg_arena.specs.Lists.EventLists.{IsKeptWrite}
use Rattle.history_model.specs.declared.ids.RegId.{RegId}
use Rattle.history_model.specs.declared.ids.Oper.TheVariants.{Called, Initial}
use Rattle.history_model.specs.declared.ids.EvId.{EvId}
use Rattle.reg_arena.proofs.Mapped.{named-by}
use Rattle.reg_arena.proofs.OfValue.{write-is, write-none, write-initial}
use Rattle.reg_arena.proofs.Times.{null-int, key-of, key-known, key-there}
use Rattle.reg_arena.proofs.arena.Arena.write_of_event.Goals as goal

pub returns-in_ok-event-in-Null-clause-write : goal.returns-in_ok-event-in-Null-clause-write
returns-in_ok-event-in-Null-clause-write c = λ k h.
    let rec = subst IsRecorded c.self.view_is c.self.invariant.2 in
    let same =
    key-of c.args.self.now.events c.args.id.0 c.event-event.result Null k c.event-event.ensures.at
    (c.in_ok-value.was ∙ ap Some c.in-Null.is) h in
    let register : Some c.in_ok-event-in-Null.field-0.0 ≡ Some k.0 =
    sym (ap (option_map {U = ℕ} (λ (r : RegId). r.0)) c.in_ok-event-in-Null.was) ∙ same.0 in
    let number : c.in_ok-event-in-Null.field-0.0 ≡ k.0 = cc (register) in
    let l = key-known c.args.self.now rec c.args.id.0 k h in
    subst (λ v. IsWriteOf c.args.self.now k.0 v (Some (Initial c.in_ok-event-in-Null.field-0))) same.1
    (subst (λ n. IsWriteOf c.args.self.now n Null (Some (Initial c.in_ok-event-in-Null.field-0))) number
    (write-initial c.args.self.now rec c.in_ok-event-in-Null.field-0
    (subst (λ n. n < length c.args.self.now.names) (sym number) l)))

pub returns-in_err-event-in-Null-clause-write : goal.returns-in_err-event-in-Null-clause-write
returns-in_err-event-in-Null-clause-write c = λ k h.
    let same =
    key-of c.args.self.now.events c.args.id.0 c.event-event.result Null k c.event-event.ensures.at
    (c.in_ok-value.was ∙ ap Some c.in-Null.is) h in
    absurd (let a = ap (option_map {U = ℕ} (λ (r : RegId). r.0)) c.in_err-event-in-Null.was in
    let b = same.0 in cc (a, b))

pub returns-in_ok-event-in-Null-clause-none : goal.returns-in_ok-event-in-Null-clause-none
returns-in_ok-event-in-Null-clause-none c =
    λ q. absurd (key-there c.args.self.now (subst IsRecorded c.self.view_is c.self.invariant.2) c.args.id.0
    c.event-event.result c.in_ok-value.value c.event-event.ensures.at c.in_ok-value.was q)

pub returns-in-Int-clause-none : goal.returns-in-Int-clause-none
returns-in-Int-clause-none c =
    λ q. absurd (key-there c.args.self.now (subst IsRecorded c.self.view_is c.self.invariant.2) c.args.id.0
    c.event-event.result c.in_ok-value.value c.event-event.ensures.at c.in_ok-value.was q)

pub returns-in-Int-clause-write : goal.returns-in-Int-clause-write
returns-in-Int-clause-write c = λ k h.
    let key = subst (λ (h : History). key_at by_value h.events c.args.id.0 ≡ Some k) (sym c.self.view_is) h in
    let same =
    key-of c.args.self.now.events c.args.id.0 c.event-event.result c.in_ok-value.value k
    c.event-event.ensures.at c.in_ok-value.was h in
    subst (IsWriteOf c.args.self.now k.0 k.1)
    (sym (named-by c.write_of_event.result c.map.result c.map.ensures.cases)) (go k same.1
    c.write_of_event.result
    (subst (λ (h : History). IsKeptWrite h.events (k.0, k.1) c.write_of_event.result) c.self.view_is
    (c.write_of_event.ensures k key)))
  where
    rec : IsRecorded c.args.self.now
    rec = subst IsRecorded c.self.view_is c.self.invariant.2

    go : (k : ℕ × Val) → c.in_ok-value.value ≡ k.1 → (o : Option EvId)
        → IsKeptWrite c.args.self.now.events (k.0, k.1) o
        → IsWriteOf c.args.self.now k.0 k.1 (option_map Called o)
    go k same None kept =
        write-none c.args.self.now rec k.0 k.1 (λ z. null-int _ (sym c.in-Int.is ∙ (same ∙ z))) kept
    go k same (Some id) kept = write-is c.args.self.now rec k.0 k.1 id kept
