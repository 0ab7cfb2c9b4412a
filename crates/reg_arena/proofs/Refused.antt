-- The refusal of an event, by what the arena's events tell.
use Rattle.std.proofs.Common.{◌≡◌, ℕ, ◌<◌, ◌&&◌, ◌++◌, cond, Bool, true, false, not, List, [], ◌∷◌}
use Rattle.std.proofs.Common.{length, slice_get, Option, Some, None, ◌⊎◌, inl, inr, refl, sym, ap}
use Rattle.std.proofs.Common.{◌∙◌, arith, is_some, is_none, nat_le, option_map, option_and_then}
use Rattle.std.specs.Option.{option_or}
use Rattle.std.proofs.lemmas.Bool.{false≢true}
use Rattle.history_model.proofs.Lists.{option_or-none}
use Rattle.history_text.specs.declared.limits.TheConstants.{MAX_EVENTS}
use Rattle.history_text.specs.declared.event.Val.{Val}
use Rattle.history_text.specs.declared.event.OpKind.{OpKind}
use Rattle.history_text.specs.declared.event.LineEvent.{LineEvent}
use Rattle.history_text.specs.declared.event.ReplyParts.{ReplyParts}
use Rattle.history_text.specs.declared.event.Kind.{Kind}
use Rattle.history_text.specs.declared.event.Kind.TheVariants.{CallRead, CallWrite, Reply, Fail, Crash}
use Rattle.history_model.specs.Lists.{first_with}
use Rattle.history_model.specs.Events.{Asked, asked_by, replied_by, failed_by, ended_by}
use Rattle.history_model.specs.Events.{is_crash, is_crash_kind, open_call, open_asked}
use Rattle.history_model.specs.Events.{crashed_at, reply_agrees, fail_agrees}
use Rattle.history_model.specs.Refusals.{AreAccepted, event_refusal, late_refusal, refused, failing}
use Rattle.history_model.specs.Refusals.{call_while_open, end_without_call, reply_disagrees, fail_disagrees}
use Rattle.history_model.specs.Refusals.{reply_without_value, value_written, too_many, after_crash, writes_to}
use Rattle.history_model.specs.History.{history_of, events_after, register_names}
use Rattle.reg_arena.specs.Step.{IsOpenCall, IsStanding, IsNumber, IsWritten}
use Rattle.history_model.specs.declared.ids.EvId.{EvId}
use Rattle.history_model.specs.declared.event.Event.{Event}
use Rattle.reg_arena.specs.declared.process_standing.Open.{Open}
use Rattle.reg_arena.specs.declared.process_standing.Standing.{Standing}
use Rattle.reg_arena.specs.declared.process_standing.Standing.TheVariants.{Opened, Crashed, Free}
use Rattle.history_model.specs.declared.refusal.LineRefusal.{LineRefusal}
use Rattle.history_model.specs.declared.refusal.Reason.{Reason}
use Rattle.reg_arena.specs.Lists.EventLists.{by_write}
use Rattle.reg_arena.proofs.ListLemmas.Append.{key-within}
use Rattle.history_model.proofs.Accepted.{call-replies, reply-asks, reply-ends, fail-ends}
use Rattle.reg_arena.proofs.Open.{open-some, crashed-some, free-none, written-none, written-some, name-at}
use Rattle.history_model.specs.declared.refusal.Reason.TheVariants.{OpenCall, WrittenBefore}
use Rattle.history_model.specs.declared.refusal.Reason.TheVariants.{AfterCrash, NoOpenCall}
use Rattle.history_model.specs.declared.refusal.Reason.TheVariants.{Disagreement, NoValue, TooMany}

-- ---- what an event is none of

call-fails : (k : Kind) (a : Asked) → asked_by k ≡ Some a → failed_by k ≡ None
call-fails (CallRead name) a h = refl
call-fails (CallWrite name n) a h = refl
call-fails (Reply parts) a h = absurd (cc (h))
call-fails (Fail parts) a h = absurd (cc (h))
call-fails Crash a h = absurd (cc (h))

reply-fails : (k : Kind) (parts : ReplyParts) → replied_by k ≡ Some parts → failed_by k ≡ None
reply-fails (CallRead name) parts h = refl
reply-fails (CallWrite name n) parts h = refl
reply-fails (Reply p) parts h = refl
reply-fails (Fail p) parts h = absurd (cc (h))
reply-fails Crash parts h = refl

fail-replies : (k : Kind) (parts : ReplyParts) → failed_by k ≡ Some parts → replied_by k ≡ None
fail-replies (CallRead name) parts h = refl
fail-replies (CallWrite name n) parts h = refl
fail-replies (Reply p) parts h = absurd (cc (h))
fail-replies (Fail p) parts h = refl
fail-replies Crash parts h = refl

pub crash-none : (k : Kind) → is_crash_kind k ≡ true → (asked_by k ≡ None) × (replied_by k ≡ None)
    × (failed_by k ≡ None)
crash-none (CallRead name) h = absurd (false≢true h)
crash-none (CallWrite name n) h = absurd (false≢true h)
crash-none (Reply parts) h = absurd (false≢true h)
crash-none (Fail parts) h = absurd (false≢true h)
crash-none Crash h = (refl, refl, refl)

pub events-length : (b es : List LineEvent) → length (events_after b es) ≡ length es
events-length b [] = refl
events-length b (e ∷ es) = let r = events-length (b ++ e ∷ []) es in omega arith

pub full : (es : List LineEvent) (e : LineEvent)
    → too_many es e ≡ cond (nat_le MAX_EVENTS (length (history_of es).events)) (Some (refused e TooMany)) None
full es e = ap (λ n. cond (nat_le MAX_EVENTS n) (Some (refused e TooMany)) None) (sym (events-length [] es))

skip : {A : Type 0} (a b : Option A) → a ≡ None → option_or a b ≡ b
skip a b h = ap (λ o. option_or o b) h

pub written-within : (events : List Event) (number : Option ℕ) (value : Option Val) (j : EvId)
    → IsWritten events number value (Some j) → j.0 < length events
written-within events None v j h = absurd (cc (h))
written-within events (Some r) None j h = absurd (cc (h))
written-within events (Some r) (Some v) j h = key-within by_write events j.0 (r, v) h.1

abbrev asked_of : List ℕ → OpKind → Option Val → Asked
asked_of r k v = record { register = r; kind = k; value = v }

module _ (es : List LineEvent) (e : LineEvent) where
  -- ---- each reason by itself

  late : event_refusal es e
      ≡ option_or (call_while_open es e)
      (option_or (end_without_call es e)
      (option_or (reply_disagrees es e)
      (option_or (fail_disagrees es e)
      (option_or (reply_without_value es e) (option_or (value_written es e) (late_refusal es e))))))
  late =
      ap (λ o. option_or (call_while_open es e)
      (option_or (end_without_call es e)
      (option_or (reply_disagrees es e)
      (option_or (fail_disagrees es e)
      (option_or (reply_without_value es e) (option_or (value_written es e) o))))))
      (option_or-none (late_refusal es e))

  no-call : asked_by e.kind ≡ None → (call_while_open es e ≡ None) × (value_written es e ≡ None)
  no-call h = (
    ap (option_and_then (λ (_ : Asked).
        option_map (λ (call : LineEvent). refused e (OpenCall call.line)) (open_call es e.process))) h,
    ap (option_and_then (λ (call : Asked).
        option_and_then
        (λ v. option_map (λ (w : LineEvent). refused e (WrittenBefore w.line))
        (first_with (λ (w : LineEvent). writes_to call.register v w.kind) es)) call.value)) h,
  )

  no-end : ended_by e.kind ≡ None → end_without_call es e ≡ None
  no-end h =
      ap (option_and_then (λ (_ : ReplyParts).
      cond (is_none (open_call es e.process) && is_none (crashed_at es e.process))
      (Some (refused e NoOpenCall)) None)) h

  closed-call : open_call es e.process ≡ None → call_while_open es e ≡ None
  closed-call h = go (asked_by e.kind)
    where
      go : (o : Option Asked)
          → option_and_then
          (λ _. option_map (λ (call : LineEvent). refused e (OpenCall call.line)) (open_call es e.process))
          o ≡ None
      go None = refl
      go (Some a) = ap (option_map (λ (call : LineEvent). refused e (OpenCall call.line))) h

  open-end : (c : LineEvent) → open_call es e.process ≡ Some c → end_without_call es e ≡ None
  open-end c h = go (ended_by e.kind)
    where
      go : (o : Option ReplyParts)
          → option_and_then (λ _. cond (is_none (open_call es e.process) && is_none (crashed_at es e.process))
          (Some (refused e NoOpenCall)) None) o ≡ None
      go None = refl
      go (Some p) =
          ap (λ o. cond (is_none o && is_none (crashed_at es e.process)) (Some (refused e NoOpenCall)) None) h

  crashed-end : (c : LineEvent) → open_call es e.process ≡ None → crashed_at es e.process ≡ Some c
      → end_without_call es e ≡ None
  crashed-end c n h = go (ended_by e.kind)
    where
      go : (o : Option ReplyParts)
          → option_and_then (λ _. cond (is_none (open_call es e.process) && is_none (crashed_at es e.process))
          (Some (refused e NoOpenCall)) None) o ≡ None
      go None = refl
      go (Some p) =
          ap (λ o. cond (is_none o && is_none (crashed_at es e.process)) (Some (refused e NoOpenCall)) None) n
          ∙ ap (λ o. cond (true && is_none o) (Some (refused e NoOpenCall)) None) h

  unasked : (fails : Asked → ReplyParts → Bool) (reason : Reason) (said : Option ReplyParts)
      → open_asked es e.process ≡ None → failing fails reason es e said ≡ None
  unasked fails reason None h = refl
  unasked fails reason (Some p) h =
      ap (option_and_then (λ (call : Asked). cond (fails call p) (Some (refused e reason)) None)) h

  unsaid : (fails : Asked → ReplyParts → Bool) (reason : Reason) (said : Option ReplyParts) → said ≡ None
      → failing fails reason es e said ≡ None
  unsaid fails reason said h = ap (failing fails reason es e) h

  said-of : (fails : Asked → ReplyParts → Bool) (reason : Reason) (said : Option ReplyParts) (p : ReplyParts)
      (a : Asked) → said ≡ Some p → open_asked es e.process ≡ Some a
      → failing fails reason es e said ≡ cond (fails a p) (Some (refused e reason)) None
  said-of fails reason said p a h q =
      ap (failing fails reason es e) h
      ∙ ap (option_and_then (λ (call : Asked). cond (fails call p) (Some (refused e reason)) None)) q

  none-asked : open_call es e.process ≡ None → open_asked es e.process ≡ None
  none-asked h = ap (option_and_then (λ (e : LineEvent). asked_by e.kind)) h

  -- ---- a call

  module _ (acc : AreAccepted es) (a : Asked) (asks : asked_by e.kind ≡ Some a) where
    no-said : (replied_by e.kind ≡ None) × (failed_by e.kind ≡ None)
    no-said = (call-replies e.kind a asks, call-fails e.kind a asks)

    no-ended : ended_by e.kind ≡ None
    no-ended = ap (λ o. option_or o (failed_by e.kind)) no-said.0 ∙ no-said.1

    after-open : open_call es e.process ≡ None
        → event_refusal es e ≡ option_or (value_written es e) (late_refusal es e)
    after-open h =
        late ∙ (skip (call_while_open es e) _ (closed-call h)
        ∙ (skip (end_without_call es e) _ (no-end no-ended)
        ∙ (skip (reply_disagrees es e) _
        (unsaid (λ call reply. not (reply_agrees call reply)) Disagreement (replied_by e.kind) no-said.0)
        ∙ (skip (fail_disagrees es e) _
        (unsaid (λ call fail. not (fail_agrees call fail)) Disagreement (failed_by e.kind) no-said.1)
        ∙ skip (reply_without_value es e) _
        (unsaid (λ call reply. is_none call.value && is_none reply.value) NoValue
        (replied_by e.kind) no-said.0)))))

    pub call-open : (o : Open) (ev : Event) → IsOpenCall (history_of es).events e.process o
        → slice_get (history_of es).events o.call.0 ≡ Some ev
        → event_refusal es e ≡ Some (refused e (OpenCall ev.line))
    call-open o ev h at =
        let x = open-some es acc e.process o h in
        let i = x.2 in
        let first : call_while_open es e ≡ Some (refused e (OpenCall ev.line)) =
        ap (option_and_then (λ (_ : Asked).
        option_map (λ (call : LineEvent). refused e (OpenCall call.line)) (open_call es e.process))) asks
        ∙ (ap (option_map (λ (call : LineEvent). refused e (OpenCall call.line))) i.opened
        ∙ ap (λ n. Some (refused e (OpenCall n))) (sym (i.line ev at))) in
        late ∙ ap (λ o.
        option_or o (option_or (end_without_call es e)
        (option_or (reply_disagrees es e)
        (option_or (fail_disagrees es e)
        (option_or (reply_without_value es e) (option_or (value_written es e) (late_refusal es e)))))))
        first

    call-written : (number : Option ℕ) (v : Val) (j : EvId) (ev : Event) → a.value ≡ Some v
        → IsNumber (register_names es) a.register number → open_call es e.process ≡ None
        → IsWritten (history_of es).events number (Some v) (Some j)
        → slice_get (history_of es).events j.0 ≡ Some ev
        → event_refusal es e ≡ Some (refused e (WrittenBefore ev.line))
    call-written number v j ev q n h w at =
        let x = written-some es acc a.register number v j n w in
        let wrote : value_written es e ≡ Some (refused e (WrittenBefore ev.line)) =
        ap (option_and_then (λ (call : Asked).
        option_and_then
        (λ v. option_map (λ (w : LineEvent). refused e (WrittenBefore w.line))
        (first_with (λ (w : LineEvent). writes_to call.register v w.kind) es)) call.value)) asks
        ∙ (ap (option_and_then
        (λ v. option_map (λ (w : LineEvent). refused e (WrittenBefore w.line))
        (first_with (λ (w : LineEvent). writes_to a.register v w.kind) es))) q
        ∙ (ap (option_map (λ (w : LineEvent). refused e (WrittenBefore w.line))) x.1
        ∙ ap (λ n. Some (refused e (WrittenBefore n))) (sym (x.2 ev at)))) in
        after-open h ∙ ap (λ o. option_or o (late_refusal es e)) wrote

    pub call-wrote : (number : Option ℕ) (value : Option Val) (j : EvId) (ev : Event) → a.value ≡ value
        → IsNumber (register_names es) a.register number → open_call es e.process ≡ None
        → IsWritten (history_of es).events number value (Some j)
        → slice_get (history_of es).events j.0 ≡ Some ev
        → event_refusal es e ≡ Some (refused e (WrittenBefore ev.line))
    call-wrote None None j ev q n h w at = absurd (cc (w))
    call-wrote (Some r) None j ev q n h w at = absurd (cc (w))
    call-wrote number (Some v) j ev q n h w at = call-written number v j ev q n h w at

    pub call-free : (number : Option ℕ) → IsNumber (register_names es) a.register number
        → open_call es e.process ≡ None → IsWritten (history_of es).events number a.value None
        → event_refusal es e ≡ late_refusal es e
    call-free number n h w =
        after-open h ∙ skip (value_written es e) (late_refusal es e)
        (ap (option_and_then (λ (call : Asked).
        option_and_then
        (λ v. option_map (λ (w : LineEvent). refused e (WrittenBefore w.line))
        (first_with (λ (w : LineEvent). writes_to call.register v w.kind) es)) call.value)) asks
        ∙ none a.value w)
      where
        none : (o : Option Val) → IsWritten (history_of es).events number o None
            → option_and_then
            (λ v. option_map (λ (w : LineEvent). refused e (WrittenBefore w.line))
            (first_with (λ (w : LineEvent). writes_to a.register v w.kind) es)) o ≡ None
        none None w = refl
        none (Some v) w =
            ap (option_map (λ (w : LineEvent). refused e (WrittenBefore w.line)))
            (written-none es acc a.register number v n w)

  -- a process with no open call
  pub unopened : (acc : AreAccepted es) (s : Standing) → IsStanding (history_of es).events e.process s
      → ((o : Open) → s ≡ Opened o → ⊥) → open_call es e.process ≡ None
  unopened acc (Opened o) h ne = absurd (ne o refl)
  unopened acc (Crashed j) h ne = (crashed-some es acc e.process j h).2
  unopened acc Free h ne = (free-none es acc e.process h).0

  -- ---- what is left of any event

  pub late-crashed : (acc : AreAccepted es) (j : EvId) (ev : Event)
      → IsStanding (history_of es).events e.process (Crashed j)
      → slice_get (history_of es).events j.0 ≡ Some ev
      → cond (nat_le MAX_EVENTS (length (history_of es).events)) (Some (refused e TooMany)) None ≡ None
      → late_refusal es e ≡ Some (refused e (AfterCrash ev.line))
  late-crashed acc j ev h at room =
      let x = crashed-some es acc e.process j h in
      skip (too_many es e) (after_crash es e) (full es e ∙ room)
      ∙ (ap (option_map (λ (crash : LineEvent). refused e (AfterCrash crash.line))) x.1
      ∙ ap (λ n. Some (refused e (AfterCrash n))) (sym (x.3 ev at)))

  pub late-full : (r : LineRefusal)
      → cond (nat_le MAX_EVENTS (length (history_of es).events)) (Some (refused e TooMany)) None ≡ Some r
      → late_refusal es e ≡ Some r
  late-full r h = ap (λ o. option_or o (after_crash es e)) (full es e ∙ h)

  pub late-alive : crashed_at es e.process ≡ None
      → late_refusal es e ≡ cond (nat_le MAX_EVENTS (length (history_of es).events))
      (Some (refused e TooMany)) None
  late-alive h =
      ap (option_or (too_many es e))
      (ap (option_map (λ (crash : LineEvent). refused e (AfterCrash crash.line))) h)
      ∙ (option_or-none (too_many es e) ∙ full es e)

  -- ---- a crash

  pub crash-late : is_crash e ≡ true → event_refusal es e ≡ late_refusal es e
  crash-late c =
      let n = crash-none e.kind c in
      let calls = no-call n.0 in
      late ∙ (skip (call_while_open es e) _ calls.0
      ∙ (skip (end_without_call es e) _ (no-end (ap (λ o. option_or o (failed_by e.kind)) n.1 ∙ n.2))
      ∙ (skip (reply_disagrees es e) _
      (unsaid (λ call reply. not (reply_agrees call reply)) Disagreement (replied_by e.kind) n.1)
      ∙ (skip (fail_disagrees es e) _
      (unsaid (λ call fail. not (fail_agrees call fail)) Disagreement (failed_by e.kind) n.2)
      ∙ (skip (reply_without_value es e) _
      (unsaid (λ call reply. is_none call.value && is_none reply.value) NoValue (replied_by e.kind) n.1)
      ∙ skip (value_written es e) _ calls.1)))))

  -- ---- a reply or a fail without an open call

  module _ (acc : AreAccepted es) (parts : ReplyParts) (ends : ended_by e.kind ≡ Some parts) where
    pub end-closed : IsStanding (history_of es).events e.process Free
        → event_refusal es e ≡ Some (refused e NoOpenCall)
    end-closed h =
        let n = free-none es acc e.process h in
        let ten : end_without_call es e ≡ Some (refused e NoOpenCall) =
        ap (option_and_then (λ (_ : ReplyParts).
        cond (is_none (open_call es e.process) && is_none (crashed_at es e.process))
        (Some (refused e NoOpenCall)) None)) ends
        ∙ (ap (λ o. cond (is_none o && is_none (crashed_at es e.process)) (Some (refused e NoOpenCall)) None)
        n.0 ∙ ap (λ o. cond (true && is_none o) (Some (refused e NoOpenCall)) None) n.1) in
        late ∙ (skip (call_while_open es e) _ (no-call (reply-asks e.kind parts ends)).0
        ∙ ap (λ o. option_or o
        (option_or (reply_disagrees es e)
        (option_or (fail_disagrees es e)
        (option_or (reply_without_value es e) (option_or (value_written es e) (late_refusal es e))))))
        ten)

    pub end-crashed : (j : EvId) → IsStanding (history_of es).events e.process (Crashed j)
        → event_refusal es e ≡ late_refusal es e
    end-crashed j h =
        let x = crashed-some es acc e.process j h in
        let calls = no-call (reply-asks e.kind parts ends) in
        let none = none-asked x.2 in
        late ∙ (skip (call_while_open es e) _ calls.0
        ∙ (skip (end_without_call es e) _ (crashed-end x.0 x.2 x.1)
        ∙ (skip (reply_disagrees es e) _
        (unasked (λ call reply. not (reply_agrees call reply)) Disagreement (replied_by e.kind) none)
        ∙ (skip (fail_disagrees es e) _
        (unasked (λ call fail. not (fail_agrees call fail)) Disagreement (failed_by e.kind) none)
        ∙ (skip (reply_without_value es e) _
        (unasked (λ call reply. is_none call.value && is_none reply.value) NoValue
        (replied_by e.kind) none)
        ∙ skip (value_written es e) _ calls.1)))))

  -- ---- a reply or a fail of an open call

  module _ (acc : AreAccepted es) (o : Open) (name : List ℕ)
      (h : IsOpenCall (history_of es).events e.process o) (named : slice_get (register_names es) o.register.0
      ≡ Some name) where
    opened-by : (c : LineEvent) × (open_call es e.process ≡ Some c)
        × (open_asked es e.process ≡ Some (asked_of name o.kind o.value)) × (crashed_at es e.process ≡ None)
    opened-by =
        let x = open-some es acc e.process o h in
        let i = x.2 in
        let n = name-at es acc e.process o x.0 x.1 i in
        let register : x.1.register ≡ name = cc (n, named) in (
          x.0,
          i.opened,
          i.asked ∙ (ap (λ r. Some (asked_of r x.1.kind x.1.value)) register
              ∙ (ap (λ k. Some (asked_of name k x.1.value)) (sym i.kind)
              ∙ ap (λ v. Some (asked_of name o.kind v)) (sym i.value))),
          i.free,
        )

    abbrev room : Option LineRefusal
    room = cond (nat_le MAX_EVENTS (length (history_of es).events)) (Some (refused e TooMany)) None

    module _ (parts : ReplyParts) (replies : replied_by e.kind ≡ Some parts) where
      reply-open : event_refusal es e
          ≡ option_or (cond (not (reply_agrees (asked_of name o.kind o.value) parts))
          (Some (refused e Disagreement)) None)
          (option_or (cond (is_none o.value && is_none parts.value) (Some (refused e NoValue)) None) room)
      reply-open =
          let x = opened-by in
          let calls = no-call (reply-asks e.kind parts (reply-ends e.kind parts replies)) in
          late ∙ (skip (call_while_open es e) _ calls.0 ∙ (skip (end_without_call es e) _ (open-end x.0 x.1)
          ∙ (ap (λ r. option_or r
          (option_or (fail_disagrees es e)
          (option_or (reply_without_value es e) (option_or (value_written es e) (late_refusal es e)))))
          (said-of (λ call reply. not (reply_agrees call reply)) Disagreement (replied_by e.kind) parts
          (asked_of name o.kind o.value) replies x.2)
          ∙ ap (option_or
          (cond (not (reply_agrees (asked_of name o.kind o.value) parts))
          (Some (refused e Disagreement)) None))
          (skip (fail_disagrees es e) _
          (unsaid (λ call fail. not (fail_agrees call fail)) Disagreement (failed_by e.kind)
          (reply-fails e.kind parts replies))
          ∙ (ap (λ r. option_or r (option_or (value_written es e) (late_refusal es e)))
          (said-of (λ call reply. is_none call.value && is_none reply.value) NoValue
          (replied_by e.kind) parts (asked_of name o.kind o.value) replies x.2)
          ∙ ap (option_or (cond (is_none o.value && is_none parts.value) (Some (refused e NoValue)) None))
          (skip (value_written es e) _ calls.1 ∙ late-alive x.3))))))

      -- the same, by the tests of the code
      module _ (b : Bool) (test : b ≡ reply_agrees (asked_of name o.kind o.value) parts) where
        tested : (d : Bool) → b ≡ d
            → event_refusal es e ≡ option_or (cond (not d) (Some (refused e Disagreement)) None)
            (option_or (cond (is_none o.value && is_none parts.value) (Some (refused e NoValue)) None) room)
        tested d q =
            reply-open ∙ ap
            (λ d. option_or (cond (not d) (Some (refused e Disagreement)) None)
            (option_or (cond (is_none o.value && is_none parts.value) (Some (refused e NoValue)) None)
            room)) (sym test ∙ q)

        pub reply-disagreeing : b ≡ false → event_refusal es e ≡ Some (refused e Disagreement)
        reply-disagreeing q = tested false q

        pub reply-empty : b ≡ true → is_some o.value ≡ false → is_some parts.value ≡ false
            → event_refusal es e ≡ Some (refused e NoValue)
        reply-empty q v w = tested true q ∙ by_none o.value v parts.value w
          where
            by_none : (o : Option Val) → is_some o ≡ false → (p : Option Val) → is_some p ≡ false
                → option_or (cond (is_none o && is_none p) (Some (refused e NoValue)) None) room
                ≡ Some (refused e NoValue)
            by_none None x None y = refl
            by_none None x (Some p) y = absurd (false≢true (sym y))
            by_none (Some o) x p y = absurd (false≢true (sym x))

        pub reply-free : b ≡ true → (is_some o.value ≡ true) ⊎ (is_some parts.value ≡ true)
            → event_refusal es e ≡ room
        reply-free q v = tested true q ∙ by_some o.value parts.value v
          where
            by_some : (o p : Option Val) → (is_some o ≡ true) ⊎ (is_some p ≡ true)
                → option_or (cond (is_none o && is_none p) (Some (refused e NoValue)) None) room ≡ room
            by_some None None (inl x) = absurd (false≢true x)
            by_some None None (inr x) = absurd (false≢true x)
            by_some None (Some p) x = refl
            by_some (Some o) p x = refl

    module _ (parts : ReplyParts) (fails : failed_by e.kind ≡ Some parts) where
      fail-open : event_refusal es e
          ≡ option_or (cond (not (fail_agrees (asked_of name o.kind o.value) parts))
          (Some (refused e Disagreement)) None) room
      fail-open =
          let x = opened-by in
          let calls = no-call (reply-asks e.kind parts (fail-ends e.kind parts fails)) in
          let unreplied = fail-replies e.kind parts fails in
          late ∙ (skip (call_while_open es e) _ calls.0 ∙ (skip (end_without_call es e) _ (open-end x.0 x.1)
          ∙ (skip (reply_disagrees es e) _
          (unsaid (λ call reply. not (reply_agrees call reply)) Disagreement
          (replied_by e.kind) unreplied)
          ∙ (ap (λ r. option_or r
          (option_or (reply_without_value es e) (option_or (value_written es e) (late_refusal es e))))
          (said-of (λ call fail. not (fail_agrees call fail)) Disagreement (failed_by e.kind) parts
          (asked_of name o.kind o.value) fails x.2)
          ∙ ap (option_or
          (cond (not (fail_agrees (asked_of name o.kind o.value) parts))
          (Some (refused e Disagreement)) None))
          (skip (reply_without_value es e) _
          (unsaid (λ call reply. is_none call.value && is_none reply.value) NoValue
          (replied_by e.kind) unreplied) ∙ (skip (value_written es e) _ calls.1 ∙ late-alive x.3))))))

      pub fail-tested : (b d : Bool) → b ≡ fail_agrees (asked_of name o.kind o.value) parts → b ≡ d
          → event_refusal es e ≡ option_or (cond (not d) (Some (refused e Disagreement)) None) room
      fail-tested b d test q =
          fail-open ∙ ap (λ d. option_or (cond (not d) (Some (refused e Disagreement)) None) room)
          (sym test ∙ q)
