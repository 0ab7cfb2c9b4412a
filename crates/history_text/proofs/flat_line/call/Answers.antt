-- A flat object that names a cas and its register has the call of that cas.
use Rattle.std.proofs.Common.{◌≡◌, true, Option, Some, None, Ok, refl, ap, ◌∙◌, subst, option_map}
use Rattle.std.proofs.Common.{arith, le-leb}
use Rattle.std.proofs.Common.{List, ℕ, length}
use Rattle.std.specs.Prelude.{IfSome, nat_lt, ⊤}
use Rattle.std.specs.Bool.{MatchBool}
use Rattle.std.proofs.lemmas.Bool.Decides.{nat_tests}
use Rattle.std.proofs.lemmas.Result.{IfOk-weaker}
use Rattle.serde_json.specs.Data.{Members, object, string}
use Rattle.serde_json.specs.Find.{get_member}
use Rattle.std.proofs.Common.{codes, Bor}
use Rattle.history_text.specs.declared.event.AnyKind.{AnyKind}
use Rattle.history_text.specs.declared.event.Operations.{Operations}
use Rattle.history_text.specs.declared.event.OpWord.TheVariants as op
use Rattle.history_text.specs.declared.flat_members.FlatMembers.{FlatMembers}
use Rattle.history_text.specs.Flat.{Holds, op_data}
use Rattle.history_text.specs.Limits.{IsName, MAX_NAME}
use Rattle.history_text.specs.Members.{name_form, takes}
use Rattle.history_text.specs.Reading.{cas_call, call_kind}
use Rattle.history_text.proofs.flat_line.call.Goals as goal

named : (s : List ℕ) → IsName s → name_form (Some (string s)) ≡ Some s
named s is =
    let some : nat_lt 0 (length s) ≡ true = grind (arith, nat_tests) in
    let few = le-leb (length s) MAX_NAME is.1 in
    rw (some, few) refl

cas_kind : (taken : Operations) (ms : Members) (f : FlatMembers) (text : Bor (List ℕ)) (kind : AnyKind)
    → Holds taken ms f → f.op ≡ Some op.Cas → f.register ≡ Some text → IsName text.now
    → cas_call (object ms) text.now ≡ Ok kind → call_kind taken (object ms) ≡ Ok kind
cas_kind taken ms f text kind h is register name e =
    let worded : get_member (codes "op") ms ≡ Some (op_data op.Cas) = h.op ∙ ap (option_map op_data) is in
    let takes_it : takes taken op.Cas ≡ true =
    subst (λ o. IfSome o (λ w. takes taken w ≡ true)) is h.takes in
    let registered : get_member (codes "register") ms ≡ Some (string text.now) =
    h.register ∙ ap (option_map (λ (s : Bor (List ℕ)). string s.now)) register in
    rw (worded, takes_it, registered, named text.now name) e

each : (o : Option AnyKind) (P Q : AnyKind → Type 0) → ((kind : AnyKind) → P kind → Q kind) → IfSome o P
    → IfSome o Q
each None P Q h p = tt
each (Some kind) P Q h p = h kind p

pub returns-in-Cas : goal.returns-in-Cas
returns-in-Cas c =
    let text = c.in-Some-register.text in
    let name : IsName text.now =
    subst (λ b. MatchBool b (IsName text.now) ⊤) c.if-not-is_name.false c.is_name.ensures in
    IfOk-weaker c.cas.result _ _ (λ o said. each o _ _ (λ kind e ms h.
    cas_kind c.args.operations ms c.args.found text kind h (c.in-Some.is ∙ ap (λ w. Some w) c.in-Cas.is)
    c.in-Some-register.is name (e c.args.operations ms h)) said) c.cas.ensures
