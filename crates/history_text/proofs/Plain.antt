-- Where operations are reads and writes, a line says nothing of a cas, and what is read has the number of
-- the line.
use Rattle.std.proofs.Common.{◌≡◌, ◌≢◌, ℕ, List, length, codes, Bool, true, false, cond, Option}
use Rattle.std.proofs.Common.{Some, None, Result, Ok, Err, refl, subst, option_map, option_and_then}
use Rattle.std.specs.Prelude.{nat_lt, is_some, IfSome}
use Rattle.serde_json.specs.Data.{Data}
use Rattle.serde_json.specs.Find.{get, as_object}
use Rattle.history_text.specs.Limits.{MAX_LINE}
use Rattle.history_text.specs.Members.{Member, process_form, event_form, word_form, op_form, name_form}
use Rattle.history_text.specs.Members.{written_form, value_form, has_no_value, optional, takes}
use Rattle.history_text.specs.Reading.{or_fault, call_of, call_kind, parts_form, with_parts, kind_of}
use Rattle.history_text.specs.Reading.{with_kind}
use Rattle.history_text.specs.Reading.{json_of, event_of, line_form, at_line, plain_event, plain_reading}
use Rattle.history_text.specs.Reading.{line_reading, line_number, NamesNoCas, SaysNoCas, IsWithoutCas}
use Rattle.history_text.specs.declared.event.Operations.TheVariants.{ReadsAndWrites, WithCas}
use Rattle.history_text.specs.declared.event.OpWord.{OpWord}
use Rattle.history_text.specs.declared.event.OpWord.TheVariants as op
use Rattle.history_text.specs.declared.event.EventWord.{EventWord}
use Rattle.history_text.specs.declared.event.EventWord.TheVariants as word
use Rattle.history_text.specs.declared.event.ReplyParts.{ReplyParts}
use Rattle.history_text.specs.declared.event.Kind.TheVariants.{CallRead, CallWrite, Reply, Fail}
use Rattle.history_text.specs.declared.event.AnyKind.{AnyKind}
use Rattle.history_text.specs.declared.event.AnyKind.TheVariants.{Plain, CallOther, Telling}
use Rattle.history_text.specs.declared.event.AnyEvent.{AnyEvent}
use Rattle.history_text.specs.declared.event.LineEvent.{LineEvent}
use Rattle.history_text.specs.declared.fault.LineFault.{LineFault}
use Rattle.history_text.specs.declared.fault.LineKind.{LineKind}
use Rattle.history_text.specs.declared.fault.LineKind.TheVariants.{TooLong, NotJson, NotObject, BadProcess}
use Rattle.history_text.specs.declared.fault.LineKind.TheVariants.{BadEvent, BadOp, BadRegister, BadValue}
use Rattle.history_text.specs.declared.fault.LineKind.TheVariants.{BadFromOrTo}

-- a fault that a line without cas may have
abbrev IsPlainFault : LineKind → Type 0
IsPlainFault fault = (fault ≢ BadFromOrTo) × (fault ≢ BadOp WithCas)

-- a part of a line of which P holds, or such a fault
abbrev Gives : {A : Type 0} → (A → Type 0) → Result A LineKind → Type 0
Gives P (Ok part) = P part
Gives P (Err fault) = IsPlainFault fault

abbrev IsPlain : AnyKind → Type 0
IsPlain (Plain kind) = SaysNoCas kind
IsPlain (CallOther name call) = ⊥
IsPlain (Telling parts told) = ⊥

-- what is read after a member
after : {A B : Type 0} (P : B → Type 0) (o : Option A) (fault : LineKind) (next : A → Result B LineKind)
    → IsPlainFault fault → ((x : A) → o ≡ Some x → Gives P (next x)) → Gives P (or_fault o fault next)
after P None fault next plain h = plain
after P (Some x) fault next plain h = h x refl

either : {A : Type 0} (P : A → Type 0) (b : Bool) (r s : Result A LineKind) → Gives P r → Gives P s
    → Gives P (cond b r s)
either P true r s h k = h
either P false r s h k = k

-- a word that was read is taken
taken_word : (o : Option OpWord) (w : OpWord)
    → option_and_then (λ op. cond (takes ReadsAndWrites op) (Some op) None) o ≡ Some w
    → takes ReadsAndWrites w ≡ true
taken_word None w e = absurd (cc (e))
taken_word (Some op.Read) w e =
    let same : op.Read ≡ w = cc (e) in subst (λ x. takes ReadsAndWrites x ≡ true) same refl
taken_word (Some op.Write) w e =
    let same : op.Write ≡ w = cc (e) in subst (λ x. takes ReadsAndWrites x ≡ true) same refl
taken_word (Some op.Cas) w e = absurd (cc (e))
taken_word (Some op.Delete) w e = absurd (cc (e))
taken_word (Some op.Swap) w e = absurd (cc (e))

abbrev IsTaken : Option OpWord → Type 0
IsTaken o = IfSome o (λ w. takes ReadsAndWrites w ≡ true)

optional_word : (m : Member) (o : Option OpWord) → optional (op_form ReadsAndWrites) m ≡ Some o → IsTaken o
optional_word None o e = let same : None ≡ o = cc (e) in subst IsTaken same tt
optional_word (Some d) o e = go (op_form ReadsAndWrites (Some d)) refl e
  where
    go : (r : Option OpWord) → op_form ReadsAndWrites (Some d) ≡ r → option_map (λ x. Some x) r ≡ Some o
        → IsTaken o
    go None q e = absurd (cc (e))
    go (Some w) q e =
        let same : Some w ≡ o = cc (e) in subst IsTaken same (taken_word (word_form (Some d)) w q)

module _ (d : Data) where
  called : (w : OpWord) (name : List ℕ) → takes ReadsAndWrites w ≡ true → Gives IsPlain (call_of d w name)
  called op.Read name t =
      either IsPlain (has_no_value (get (codes "value") d)) (Ok (Plain (CallRead name))) (Err BadValue) tt
      (λ e. cc (e), λ e. cc (e))
  called op.Write name t =
      after IsPlain (written_form (get (codes "value") d)) BadValue (λ v. Ok (Plain (CallWrite name v)))
      (λ e. cc (e), λ e. cc (e)) (λ v _. tt)
  called op.Cas name t = absurd (cc (t))
  called op.Delete name t = absurd (cc (t))
  called op.Swap name t = absurd (cc (t))

  call-plain : Gives IsPlain (call_kind ReadsAndWrites d)
  call-plain =
      after IsPlain (op_form ReadsAndWrites (get (codes "op") d)) (BadOp ReadsAndWrites) _
      (λ e. cc (e), λ e. cc (e)) (λ w e.
      after IsPlain (name_form (get (codes "register") d)) BadRegister _ (λ e. cc (e), λ e. cc (e)) (λ name _.
      called w name (taken_word (word_form (get (codes "op") d)) w e)))

  parts-plain : Gives NamesNoCas (parts_form ReadsAndWrites d)
  parts-plain =
      after NamesNoCas (optional (op_form ReadsAndWrites) (get (codes "op") d)) (BadOp ReadsAndWrites) _
      (λ e. cc (e), λ e. cc (e)) (λ op e.
      after NamesNoCas (optional name_form (get (codes "register") d)) BadRegister _
      (λ e. cc (e), λ e. cc (e)) (λ name _.
      after NamesNoCas (optional value_form (get (codes "value") d)) BadValue _
      (λ e. cc (e), λ e. cc (e)) (λ value _. (optional_word (get (codes "op") d) op e, refl))))

  end-plain : (end : ReplyParts → AnyKind) (r : Result ReplyParts LineKind)
      → ((p : ReplyParts) → NamesNoCas p → IsPlain (end p)) → Gives NamesNoCas r
      → Gives IsPlain (with_parts end r)
  end-plain end (Ok p) says h = says p h
  end-plain end (Err fault) says h = h

  kind-plain : (w : EventWord) → Gives IsPlain (kind_of ReadsAndWrites d w)
  kind-plain word.Call = call-plain
  kind-plain word.Reply =
      end-plain (λ p. Plain (Reply p)) (parts_form ReadsAndWrites d) (λ p h. h) parts-plain
  kind-plain word.Fail = end-plain (λ p. Plain (Fail p)) (parts_form ReadsAndWrites d) (λ p h. h) parts-plain
  kind-plain word.Crash = tt

module _ (n : ℕ) where
  abbrev IsOfLine : AnyEvent → Type 0
  IsOfLine e = (e.line ≡ n) × IsPlain e.kind

  with-plain : (process : ℕ) (r : Result AnyKind LineKind) → Gives IsPlain r
      → Gives IsOfLine (with_kind n process r)
  with-plain process (Ok kind) h = (refl, h)
  with-plain process (Err fault) h = h

  event-plain : (d : Data) → Gives IsOfLine (event_of ReadsAndWrites n d)
  event-plain d =
      either IsOfLine (is_some (as_object d)) _ (Err NotObject)
      (after IsOfLine (process_form (get (codes "process") d)) BadProcess _ (λ e. cc (e), λ e. cc (e))
      (λ process _.
      after IsOfLine (event_form (get (codes "event") d)) BadEvent _ (λ e. cc (e), λ e. cc (e)) (λ event _.
      with-plain process (kind_of ReadsAndWrites d event) (kind-plain d event)))) (λ e. cc (e), λ e. cc (e))

  line-plain : (bytes : List ℕ) → Gives IsOfLine (line_form ReadsAndWrites n bytes)
  line-plain bytes =
      either IsOfLine (nat_lt MAX_LINE (length bytes)) (Err TooLong) _ (λ e. cc (e), λ e. cc (e))
      (after IsOfLine (json_of bytes) NotJson (event_of ReadsAndWrites n) (λ e. cc (e), λ e. cc (e)) (λ d _.
      event-plain d))

  abbrev IsRead : Result LineEvent LineFault → Type 0
  IsRead r = (line_number r ≡ n) × IsWithoutCas r

  of-event : (process m : ℕ) (kind : AnyKind) → m ≡ n → IsPlain kind → IsRead (plain_event m process kind)
  of-event process m (Plain kind) e h = (e, h)
  of-event process m (CallOther name call) e h = absurd h
  of-event process m (Telling parts told) e h = absurd h

  reads : (r : Result AnyEvent LineKind) → Gives IsOfLine r → IsRead (plain_reading (at_line n r))
  reads (Ok e) h = of-event e.process e.line e.kind h.0 h.1
  reads (Err fault) h = (refl, h)

  -- a line that was read has its own number
  pub own-number : (bytes : List ℕ) → line_number (line_reading n bytes) ≡ n
  own-number bytes = (reads (line_form ReadsAndWrites n bytes) (line-plain bytes)).0

  pub without-cas : (bytes : List ℕ) → IsWithoutCas (line_reading n bytes)
  without-cas bytes = (reads (line_form ReadsAndWrites n bytes) (line-plain bytes)).1
