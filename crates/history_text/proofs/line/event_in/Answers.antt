-- Bytes that are read have the event of their JSON value, and bytes that are refused are no JSON.
use Rattle.std.proofs.Common.{◌≡◌, true, false, sym, subst, arith}
use Rattle.std.specs.Prelude.{Result}
use Rattle.serde_json.specs.View.{view}
use Rattle.history_text.specs.declared.event.AnyEvent.{AnyEvent}
use Rattle.history_text.specs.declared.fault.LineKind.{LineKind}
use Rattle.history_text.specs.Reading.{line_form, event_of}
use Rattle.history_text.specs.Memory.{Gives}
use Rattle.history_text.proofs.Reading.{json_of-read, json_of-refused, line_form-read, line_form-refused}
use Rattle.history_text.proofs.line.event_in.Goals as goal

pub returns-in-Ok : goal.returns-in-Ok
returns-in-Ok c =
    let ok = c.in-Ok.ensures.ok in
    let taken = c.args.operations in
    let e : line_form taken c.args.line c.args.bytes.now ≡ event_of taken c.args.line (view c.in-Ok.value) =
    line_form-read _ _ _ _ (omega arith) (json_of-read _ _ ok.0 ok.1) in
    let P : Result AnyEvent LineKind → Type 0 = λ m. Gives m c.event.result in
    subst P (sym e) c.event.ensures

pub returns-else-is_memory : goal.returns-else-is_memory
returns-else-is_memory c =
    line_form-refused _ _ _ (omega arith)
    (json_of-refused _
    (c.in-Err.ensures.err (λ memory. let no : false ≡ true = c.if-is_memory.ensures.1 memory in cc)))
