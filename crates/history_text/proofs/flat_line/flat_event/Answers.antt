-- A flat object with a process and an event has the event that its members say.
use Rattle.std.proofs.Common.{◌≡◌, ℕ, ◌≤◌, List, length, Some, option_map, codes}
use Rattle.std.proofs.Common.{Ok, refl, ap, ◌∙◌, subst, IfSome, le-leb}
use Rattle.serde_json.specs.Data.{object, Members}
use Rattle.serde_json.specs.Find.{get_member}
use Rattle.history_text.specs.declared.event.AnyKind.{AnyKind}
use Rattle.history_text.specs.declared.event.Operations.{Operations}
use Rattle.history_text.specs.declared.event.EventWord.{EventWord}
use Rattle.history_text.specs.declared.event.EventWord.TheVariants as word
use Rattle.history_text.specs.declared.flat_members.FlatMembers.{FlatMembers}
use Rattle.history_text.specs.Flat.{Holds, IsFlat, whole_data, event_data}
use Rattle.history_text.specs.Limits.{MAX_LINE, MAX_PROCESS}
use Rattle.history_text.specs.Members.{event_form}
use Rattle.history_text.specs.Reading.{kind_of, line_form}
use Rattle.history_text.proofs.Reading.{json_of-read, line_form-read}
use Rattle.history_text.proofs.flat_line.flat_event.Goals as goal

event_word : (w : EventWord) → event_form (Some (event_data w)) ≡ Some w
event_word word.Call = refl
event_word word.Reply = refl
event_word word.Fail = refl
event_word word.Crash = refl

event_made : (taken : Operations) (n p : ℕ) (w : EventWord) (kind : AnyKind)
    (bytes : List ℕ) (f : FlatMembers)
    → length bytes ≤ MAX_LINE → IsFlat taken bytes f → f.process ≡ Some p → f.event ≡ Some w
    → ((ms : Members) → Holds taken ms f → kind_of taken (object ms) w ≡ Ok kind)
    → line_form taken n bytes ≡ Ok (record { line = n; process = p; kind = kind })
event_made taken n p w kind bytes f short flat process event kinds =
    let ms = flat.1.0 in
    let h = flat.1.2 in
    let numbered : get_member (codes "process") ms ≡ Some (whole_data p) =
    h.process ∙ ap (option_map whole_data) process in
    let worded : get_member (codes "event") ms ≡ Some (event_data w) =
    h.event ∙ ap (option_map event_data) event in
    let fits : p ≤ MAX_PROCESS = subst (λ o. IfSome o (λ q. q ≤ MAX_PROCESS)) process h.limit in
    line_form-read taken n bytes (object ms) short (json_of-read bytes (object ms) flat.0 flat.1.1)
    ∙ rw (numbered, worded, le-leb p MAX_PROCESS fits, event_word w, kinds ms h)

pub returns : goal.returns
returns c =
    event_made c.args.operations c.args.line c.in-Some-process.process c.in-Some-event.event c.in-Some-2.kind
    c.args.bytes.now c.in-Some.found c.requires c.in-Some.ensures
    c.in-Some-process.is c.in-Some-event.is (rw c.in-Some-2.is at c.in_ok-kind.ensures)
