-- The one event of a line, or the lowest-numbered fault that applies to it; this project's profile. Which
-- operations are taken is an argument: `line_reading` is where reads and writes are, and no other.
use Rattle.std.specs.Prelude.{◌≡◌, ◌≢◌, ℕ, ◌<◌, ◌≤◌, ◌++◌, Bool, List, drop, length, map, codes, nat_lt}
use Rattle.std.specs.Prelude.{slice_range, if◌then◌else◌, Option, Some, None, is_some, IfSome, true, false}
use Rattle.std.specs.Prelude.{Result, Ok, Err}
use Rattle.std.specs.List.{All, AllPairs}
use Rattle.std.specs.Str.{is_utf8}
use Rattle.serde_json.specs.Data.{Data}
use Rattle.serde_json.specs.Read.{read}
use Rattle.serde_json.specs.Find.{get, as_object}
use Rattle.history_text.specs.Limits.{MAX_LINE}
use Rattle.history_text.specs.Lines.{MayCome, numbered_from, numbered_lines}
use Rattle.history_text.specs.Members.{process_form, event_form, op_form, name_form}
use Rattle.history_text.specs.Members.{written_form, value_form, has_no_value, ok_form, optional, takes}
use Rattle.history_text.specs.Members.{compared_form, told_form, is_true}
use Rattle.history_text.specs.declared.lines.Span.{Span}
use Rattle.history_text.specs.declared.lines.WholeLines.{WholeLines}
use Rattle.history_text.specs.declared.event.Operations.{Operations}
use Rattle.history_text.specs.declared.event.Operations.TheVariants.{ReadsAndWrites, WithCas}
use Rattle.history_text.specs.declared.event.OpWord.{OpWord}
use Rattle.history_text.specs.declared.event.OpWord.TheVariants as op
use Rattle.history_text.specs.declared.event.Kind.{Kind}
use Rattle.history_text.specs.declared.event.AnyKind.{AnyKind}
use Rattle.history_text.specs.declared.event.AnyKind.TheVariants.{Plain, CallOther, Telling}
use Rattle.history_text.specs.declared.event.OtherCall.{OtherCall}
use Rattle.history_text.specs.declared.event.OtherCall.TheVariants.{Cas, CasOf, Delete, Swap}
use Rattle.history_text.specs.declared.event.Compared.{Compared}
use Rattle.history_text.specs.declared.event.Compared.TheVariants.{From, Unless}
use Rattle.history_text.specs.declared.event.Told.{Told}
use Rattle.history_text.specs.declared.event.Val.{Val}
use Rattle.history_text.specs.declared.event.Val.TheVariants.{Null, Int}
use Rattle.history_text.specs.Values.{tells_nothing}
use Rattle.history_text.specs.declared.event.AnyEvent.{AnyEvent}
use Rattle.history_text.specs.declared.event.EventWord.{EventWord}
use Rattle.history_text.specs.declared.event.EventWord.TheVariants as word
use Rattle.history_text.specs.declared.event.ReplyParts.{ReplyParts}
use Rattle.history_text.specs.declared.event.Kind.TheVariants.{CallRead, CallWrite, Reply, Fail, Crash}
use Rattle.history_text.specs.declared.event.LineEvent.{LineEvent}
use Rattle.history_text.specs.declared.fault.LineFault.{LineFault}
use Rattle.history_text.specs.declared.fault.LineKind.{LineKind}
use Rattle.history_text.specs.declared.fault.LineKind.TheVariants.{TooLong, NotJson, NotObject, BadProcess}
use Rattle.history_text.specs.declared.fault.LineKind.TheVariants.{BadEvent, BadOp, BadRegister, BadValue}
use Rattle.history_text.specs.declared.fault.LineKind.TheVariants.{BadFromOrTo}

-- goes on with what has its form, or stops at the fault; faults are looked for by ascending
-- number, so the one at which a reading stops is the lowest-numbered that applies
abbrev pub or_fault : {A B : Type 0} → Option A → LineKind → (A → Result B LineKind) → Result B LineKind
or_fault None fault next = Err fault
or_fault (Some x) fault next = next x

-- the call of a cas, by its parts: what is common has a form of its own
abbrev pub cas_form : Compared → Val → Bool → OtherCall
cas_form (From v) (Int n) false = Cas v n
cas_form (From v) (Int n) true = CasOf (record { compared = From v; to = Int n; asks_old = true })
cas_form (From v) Null asks = CasOf (record { compared = From v; to = Null; asks_old = asks })
cas_form (Unless v) to asks = CasOf (record { compared = Unless v; to = to; asks_old = asks })

-- the call of a cas on a register: it names no value, and has what it asks of the value that it meets, and
-- the value `to` that it writes; it may ask for the old value
abbrev pub cas_call : Data → List ℕ → Result AnyKind LineKind
cas_call d name = if has_no_value (get (codes "value") d)
    then or_fault (compared_form (get (codes "from") d) (get (codes "unless") d)) BadFromOrTo (λ compared.
    or_fault (value_form (get (codes "to") d)) BadFromOrTo (λ to.
    Ok (CallOther name (cas_form compared to (is_true (get (codes "old") d))))))
    else Err BadValue

-- a call on a register: a read and a delete name no value, and a write and a swap name the value that they
-- write
abbrev pub call_of : Data → OpWord → List ℕ → Result AnyKind LineKind
call_of d op.Read name =
    if has_no_value (get (codes "value") d) then Ok (Plain (CallRead name)) else Err BadValue
call_of d op.Write name =
    or_fault (written_form (get (codes "value") d)) BadValue (λ v. Ok (Plain (CallWrite name v)))
call_of d op.Cas name = cas_call d name
call_of d op.Delete name =
    if has_no_value (get (codes "value") d) then Ok (CallOther name Delete) else Err BadValue
call_of d op.Swap name =
    or_fault (written_form (get (codes "value") d)) BadValue (λ v. Ok (CallOther name (Swap v)))

-- a call of the object: its operation and its register are there
abbrev pub call_kind : Operations → Data → Result AnyKind LineKind
call_kind taken d = or_fault (op_form taken (get (codes "op") d)) (BadOp taken) (λ op.
    or_fault (name_form (get (codes "register") d)) BadRegister (λ name. call_of d op name))

-- what a reply or a fail of the object says: it may leave out its operation, its register and its value
abbrev pub parts_form : Operations → Data → Result ReplyParts LineKind
parts_form taken d = or_fault (optional (op_form taken) (get (codes "op") d)) (BadOp taken) (λ op.
    or_fault (optional name_form (get (codes "register") d)) BadRegister (λ name.
    or_fault (optional value_form (get (codes "value") d)) BadValue (λ value.
    Ok (record { op = op; register = name; value = value; ok = ok_form taken (get (codes "ok") d) }))))

-- the end of a call, a reply or a fail, with what it says
abbrev pub with_parts : (ReplyParts → AnyKind) → Result ReplyParts LineKind → Result AnyKind LineKind
with_parts end (Ok parts) = Ok (end parts)
with_parts end (Err fault) = Err fault

-- a reply, with what it tells of the value that its operation met
abbrev pub telling : Told → ReplyParts → AnyKind
telling told parts = if tells_nothing told then Plain (Reply parts) else Telling parts told

abbrev pub reply_kind : Operations → Data → Result AnyKind LineKind
reply_kind taken d =
    with_parts (telling (told_form taken (get (codes "found") d) (get (codes "old") d))) (parts_form taken d)

-- what happened, by the word of the event; of a crash no other member is read
abbrev pub kind_of : Operations → Data → EventWord → Result AnyKind LineKind
kind_of taken d word.Call = call_kind taken d
kind_of taken d word.Reply = reply_kind taken d
kind_of taken d word.Fail = with_parts (λ parts. Plain (Fail parts)) (parts_form taken d)
kind_of taken d word.Crash = Ok (Plain Crash)

-- the event of a process at line `n`
abbrev pub with_kind : ℕ → ℕ → Result AnyKind LineKind → Result AnyEvent LineKind
with_kind n process (Ok kind) = Ok (record { line = n; process = process; kind = kind })
with_kind n process (Err fault) = Err fault

-- the event of a JSON value at line `n`, which has to be an object; its other members are ignored
abbrev pub event_of : Operations → ℕ → Data → Result AnyEvent LineKind
event_of taken n d = if is_some (as_object d)
    then or_fault (process_form (get (codes "process") d)) BadProcess (λ process.
    or_fault (event_form (get (codes "event") d)) BadEvent (λ event.
    with_kind n process (kind_of taken d event)))
    else Err NotObject

-- the JSON value of the bytes, where `serde_json` reads one (RFC 8259; text in UTF-8)
unfoldable pub json_of : List ℕ → Option Data
json_of bytes = if is_utf8 bytes then read bytes else None

-- the event of the bytes at line `n`, or the lowest-numbered fault that applies
abbrev pub line_form : Operations → ℕ → List ℕ → Result AnyEvent LineKind
line_form taken n bytes =
    if nat_lt MAX_LINE (length bytes) then Err TooLong
    else or_fault (json_of bytes) NotJson (event_of taken n)

-- a fault, with the number of its line
abbrev pub at_line : ℕ → Result AnyEvent LineKind → Result AnyEvent LineFault
at_line n (Ok event) = Ok event
at_line n (Err fault) = Err (record { line = n; kind = fault })

-- what line `n` means where these operations are taken: its one event, or its lowest-numbered fault
abbrev pub event_reading : Operations → ℕ → List ℕ → Result AnyEvent LineFault
event_reading taken n bytes = at_line n (line_form taken n bytes)

-- the event, where operations are reads and writes
abbrev pub plain_event : ℕ → ℕ → AnyKind → Result LineEvent LineFault
plain_event n process (Plain kind) = Ok (record { line = n; process = process; kind = kind })
plain_event n process (CallOther name call) = Err (record { line = n; kind = BadOp ReadsAndWrites })
plain_event n process (Telling parts told) = Err (record { line = n; kind = BadOp ReadsAndWrites })

abbrev pub plain_reading : Result AnyEvent LineFault → Result LineEvent LineFault
plain_reading (Ok event) = plain_event event.line event.process event.kind
plain_reading (Err fault) = Err fault

-- what line `n` means where operations are reads and writes
abbrev pub line_reading : ℕ → List ℕ → Result LineEvent LineFault
line_reading n bytes = plain_reading (event_reading ReadsAndWrites n bytes)

-- a reply or a fail that says nothing of a cas
abbrev pub NamesNoCas : ReplyParts → Type 0
NamesNoCas parts = IfSome parts.op (λ op. takes ReadsAndWrites op ≡ true) × (parts.ok ≡ None)

abbrev pub SaysNoCas : Kind → Type 0
SaysNoCas (CallRead name) = Unit {0}
SaysNoCas (CallWrite name v) = Unit {0}
SaysNoCas (Reply parts) = NamesNoCas parts
SaysNoCas (Fail parts) = NamesNoCas parts
SaysNoCas Crash = Unit {0}

-- neither the event nor the fault is one that only cas has
abbrev pub IsWithoutCas : Result LineEvent LineFault → Type 0
IsWithoutCas (Ok event) = SaysNoCas event.kind
IsWithoutCas (Err fault) = (fault.kind ≢ BadFromOrTo) × (fault.kind ≢ BadOp WithCas)

-- what the line at a span of the input means
abbrev pub reading_of : List ℕ → Span → Result LineEvent LineFault
reading_of input span = line_reading span.line (slice_range input span.from span.to)

-- what those lines of some bytes mean that are not blank, in order, where the first line has
-- number `n`: each its event or its lowest-numbered fault
abbrev pub lines_from : ℕ → List ℕ → List (Result LineEvent LineFault)
lines_from n bytes = map (λ l. line_reading l.0 l.1) (numbered_from n bytes)

-- what an input means
abbrev pub history_lines : List ℕ → List (Result LineEvent LineFault)
history_lines input = map (λ l. line_reading l.0 l.1) (numbered_lines input)

-- what is read at the spans of the whole lines, then of what is left and may come, is what all the lines mean
pub record AreReadWhole (bytes : List ℕ) (first : ℕ) (is_ended : Bool) (whole : WholeLines) : Type 0 where
  pub readings : (more : List ℕ) → MayCome is_ended more
      → map (reading_of bytes) whole.spans.items
      ++ lines_from whole.next_line (drop whole.byte_count bytes ++ more) ≡ lines_from first (bytes
      ++ more)

-- the number of the line that was read
abbrev pub line_number : Result LineEvent LineFault → ℕ
line_number (Ok event) = event.line
line_number (Err fault) = fault.line

-- the numbers of the lines are at least 1, and each is less than all later ones
abbrev pub IsAscending : List (Result LineEvent LineFault) → Type 0
IsAscending read = All (λ l. 1 ≤ line_number l) read × AllPairs (λ l m. line_number l < line_number m) read
