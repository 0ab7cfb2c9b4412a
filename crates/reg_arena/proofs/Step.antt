-- The history with one event more.
use Rattle.std.proofs.Common.{◌≡◌, ℕ, ◌<◌, ◌≤◌, nat_le, option_map, cond, Bool, true, false}
use Rattle.std.proofs.Common.{List, [], ◌∷◌, ◌++◌, length, take, slice_get, Option, Some}
use Rattle.std.proofs.Common.{None, inl, inr, refl, sym, ap, subst, ◌∙◌, arith, option_and_then}
use Rattle.std.proofs.Common.{unwrap_or, append_assoc, append-nil, length-append}
use Rattle.std.proofs.lemmas.Bool.{cases_order, leb-false, false≢true}
use Rattle.std.specs.Option.{option_or}
use Rattle.std.proofs.lemmas.Option.{slice_get_past}
use Rattle.std.proofs.lemmas.List.{take-append-le, take_all}
use Rattle.history_text.specs.declared.limits.TheConstants.{MAX_EVENTS}
use Rattle.history_text.specs.declared.event.Val.{Val}
use Rattle.history_text.specs.declared.event.Val.TheVariants.{Int}
use Rattle.history_text.specs.declared.event.OpKind.{OpKind}
use Rattle.history_text.specs.declared.event.OpKind.TheVariants.{ReadOp, WriteOp}
use Rattle.history_text.specs.declared.event.LineEvent.{LineEvent}
use Rattle.history_text.specs.declared.event.ReplyParts.{ReplyParts}
use Rattle.history_model.specs.Lists.{In}
use Rattle.history_model.specs.Events.{Asked, asked_by, replied_by, failed_by, ended_by}
use Rattle.history_model.specs.Events.{open_asked, is_crash, is_crash_kind}
use Rattle.history_model.specs.Refusals.{AreAccepted, event_refusal, refused}
use Rattle.history_model.specs.History.{History, IsRecorded, history_of, events_after, event_after, asked_for}
use Rattle.history_model.specs.History.{event_value, kind_asked, register_names, register_number, what_by}
use Rattle.history_model.specs.Operations.{is_a_call, is_a_fail, number_in}
use Rattle.history_model.specs.declared.ids.RegId.{RegId}
use Rattle.history_model.specs.declared.event.What.{What}
use Rattle.history_model.specs.declared.event.What.TheVariants.{Call, Reply, Fail, Crash}
use Rattle.reg_arena.specs.declared.process_standing.Open.{Open}
use Rattle.history_text.specs.declared.event.Kind.{Kind}
use Rattle.history_text.specs.declared.event.Kind.TheVariants.{CallRead, CallWrite, Reply as AReply}
use Rattle.history_text.specs.declared.event.Kind.TheVariants.{Fail as AFail, Crash as ACrash}
use Rattle.history_model.specs.Walking.{key_at, by_process, by_register, by_value}
use Rattle.reg_arena.specs.Lists.EventLists.{IsCallAt, IsAppendable, end_of}
use Rattle.std.specs.Prelude.{Result, Ok, Err, OnOk, max}
use Rattle.std.specs.declared.alloc.AllocError.{AllocError}
use Rattle.std.specs.Result.{IsErrAnd}
use Rattle.history_model.specs.declared.refusal.BuildError.{BuildError}
use Rattle.history_model.specs.declared.refusal.BuildError.TheVariants.{Memory}
use Rattle.reg_arena.specs.Step.{IsNumber, IsOpenCall, IsStep, IsTaken, OnOkAfter}
use Rattle.reg_arena.specs.Step.{name_added, names_and, step_result, with_event}
use Rattle.history_model.specs.declared.ids.EvId.{EvId}
use Rattle.history_model.specs.declared.event.Event.{Event}
use Rattle.reg_arena.proofs.ListLemmas.Append.{key-back, key-within}
use Rattle.reg_arena.proofs.ListLemmas.AppendCalls.{call-keep}
use Rattle.history_model.proofs.Numbers.{is-In, place-in, place-out, names-replied, names-known, names-new}
use Rattle.history_model.proofs.Accepted.{free-of, asked-call, asked-end, asked-value}
use Rattle.history_model.proofs.Accepted.{reply-asks, reply-ends, fail-ends}
use Rattle.history_model.proofs.Turns.{value-of-call}
use Rattle.reg_arena.proofs.Open.{open-some, number-stays}
use Rattle.history_model.proofs.Named.{event-register}
use Rattle.reg_arena.proofs.Refused.{events-length, crash-none}
use Rattle.history_model.proofs.Lists.{slice_get_inside, slice_get-push, slice_get-push_other}
use Rattle.history_model.specs.declared.refusal.Reason.TheVariants.{TooMany}

-- an event that isn't refused is accepted
pub accepted-push : (es : List LineEvent) (e : LineEvent) → AreAccepted es → event_refusal es e ≡ None
    → AreAccepted (es ++ e ∷ [])
accepted-push es e acc free i = elim (cases_order i (length es)) [
  | inl q ↦
      let whole : take i (es ++ e ∷ []) ≡ es =
      ap (λ n. take n (es ++ e ∷ [])) q
      ∙ (take-append-le (length es) es (e ∷ []) (omega arith)
      ∙ take_all (length es) es (omega arith)) in
      let at : slice_get (es ++ e ∷ []) i ≡ Some e = ap (slice_get (es ++ e ∷ [])) q ∙ slice_get-push es e in
      ap (λ xs. option_and_then (event_refusal xs) (slice_get (es ++ e ∷ []) i)) whole
      ∙ (ap (option_and_then (event_refusal es)) at ∙ free)
  | inr c ↦ elim c [
    | inl l ↦
        let front : take i (es ++ e ∷ []) ≡ take i es = take-append-le i es (e ∷ []) (omega arith) in
        let at : slice_get (es ++ e ∷ []) i ≡ slice_get es i =
        slice_get-push_other es e i (λ q. omega arith) in
        ap (λ xs. option_and_then (event_refusal xs) (slice_get (es ++ e ∷ []) i)) front
        ∙ (ap (option_and_then (event_refusal (take i es))) at ∙ acc i)
    | inr g ↦ ap (option_and_then (event_refusal (take i (es ++ e ∷ []))))
        (slice_get_past (es ++ e ∷ []) i (omega (arith, length-append es (e ∷ []))))
  ]
]

events-push : (b es : List LineEvent) (e : LineEvent) → events_after b (es ++ e ∷ []) ≡ events_after b es
    ++ event_after (b ++ es) e ∷ []
events-push b [] e = ap (λ xs. event_after xs e ∷ []) (sym (append-nil b))
events-push b (x ∷ es) e =
    ap (λ ys. event_after b x ∷ ys) (events-push (b ++ x ∷ []) es e
    ∙ ap (λ xs. events_after (b ++ x ∷ []) es ++ event_after xs e ∷ []) (append_assoc b (x ∷ []) es))

-- there is room for an event that isn't refused
room-of : (es : List LineEvent) (e : LineEvent) → event_refusal es e ≡ None
    → length (history_of es).events < MAX_EVENTS
room-of es e free = go (nat_le MAX_EVENTS (length es)) refl (free-of es e free).room
  where
    go : (b : Bool) → nat_le MAX_EVENTS (length es) ≡ b → cond b (Some (refused e TooMany)) None ≡ None
        → length (history_of es).events < MAX_EVENTS
    go true q h = absurd (cc (h))
    go false q h = omega (arith, events-length [] es, leb-false MAX_EVENTS (length es) q)

abbrev history_by : List (List ℕ) → List Event → History
history_by names events = record { names = names; events = events }

-- the history with one event more, by its names and its event
next-history : (es : List LineEvent) (e : LineEvent) (names : List (List ℕ)) (events : List Event)
    (ev : Event) → names ≡ register_names (es ++ e ∷ []) → events ≡ (history_of es).events ++ ev ∷ []
    → ev ≡ event_after es e
    → record { names = names; events = events } ≡ history_of (es ++ e ∷ [])
next-history es e names events ev n h q =
    ap (λ ns. history_by ns events) n
    ∙ ap (history_by (register_names (es ++ e ∷ []))) (h
    ∙ (ap (λ v. (history_of es).events ++ v ∷ []) q ∙ sym (events-push [] es e)))

-- the same of a history with one name more, if the event adds one
after-event : (h : History) (es : List LineEvent) (e : LineEvent) (name : Option (List ℕ)) (ev : Event)
    → h ≡ history_of es → names_and (register_names es) name ≡ register_names (es ++ e ∷ [])
    → ev ≡ event_after es e
    → with_event h name ev ≡ history_of (es ++ e ∷ [])
after-event h es e name ev q names is =
    next-history es e (names_and h.names name) (h.events
    ++ ev ∷ []) ev (ap (λ (g : History). names_and g.names name) q
    ∙ names) (ap (λ (g : History). g.events ++ ev ∷ []) q) is

-- there is room for an event that is taken
pub taken-room : (h : History) (e : LineEvent) → IsTaken h e → length h.events < MAX_EVENTS
taken-room h e t =
    let r =
    t.recorded in subst (λ (g : History). length g.events < MAX_EVENTS) (sym r.is)
    (room-of r.events e (t.free r.events r.accepted r.is))

-- the history with it is recorded
pub next-recorded : (h g : History) (e : LineEvent) → IsTaken h e → OnOkAfter h e (Ok g) → IsRecorded g
next-recorded h g e t after =
    let r = t.recorded in
    record {
      events = r.events ++ e ∷ [];
      accepted = accepted-push r.events e r.accepted (t.free r.events r.accepted r.is);
      is = after r.events r.accepted r.is;
    }

-- what is appended gives the next history, if memory is there
pub appended : (h g next : History) (e : LineEvent) (r : Result (Unit {0}) AllocError) → OnOk r (g ≡ next)
    → OnOkAfter h e (Ok next) → OnOkAfter h e (step_result g r)
appended h g next e (Ok x) is after = λ before acc q. is ∙ after before acc q
appended h g next e (Err x) is after = tt

-- the register of an event is known, or the next if a name comes with it
pub number-within : (names : List (List ℕ)) (name : Option (List ℕ)) (r : Option RegId)
    → length (names_and names name) ≡ max (length names) (end_of r) → number_in r ≤ length names
number-within names None None q = omega arith
number-within names None (Some r) q = omega (arith, q)
number-within names (Some name) None q = omega arith
number-within names (Some name) (Some r) q = omega (arith, q, length-append names (name ∷ []))

abbrev pub event_by : LineEvent → Option RegId → What → Option Val → Event
event_by e r w v = record { line = e.line; process = e.process; register = r; what = w; value = v }

abbrev pub numbered : ℕ → Option RegId
numbered n = Some (record { 0 = n })

-- an event by what its call asks for
asked-event : (es : List LineEvent) (e : LineEvent) (a : Asked) → asked_for es e ≡ Some a
    → event_by e (numbered (register_number es a.register)) (what_by a.kind e.kind) (event_value a a.kind e)
    ≡ event_after es e
asked-event es e a q =
    ap (λ (o : Option Asked).
    event_by e (option_map (λ (c : Asked). record { 0 = register_number es c.register }) o)
    (what_by (kind_asked o) e.kind) (option_and_then (λ (c : Asked). event_value c c.kind e) o)) (sym q)

what-asked : (kind : OpKind) (k : Kind) (a : Asked) → asked_by k ≡ Some a → what_by kind k ≡ Call kind
what-asked kind (CallRead name) a h = refl
what-asked kind (CallWrite name n) a h = refl
what-asked kind (AReply parts) a h = absurd (cc (h))
what-asked kind (AFail parts) a h = absurd (cc (h))
what-asked kind ACrash a h = absurd (cc (h))

what-replied : (kind : OpKind) (k : Kind) (parts : ReplyParts) → replied_by k ≡ Some parts
    → what_by kind k ≡ Reply kind
what-replied kind (CallRead name) parts h = absurd (cc (h))
what-replied kind (CallWrite name n) parts h = absurd (cc (h))
what-replied kind (AReply p) parts h = refl
what-replied kind (AFail p) parts h = absurd (cc (h))
what-replied kind ACrash parts h = absurd (cc (h))

what-failed : (kind : OpKind) (k : Kind) (parts : ReplyParts) → failed_by k ≡ Some parts
    → what_by kind k ≡ Fail kind
what-failed kind (CallRead name) parts h = absurd (cc (h))
what-failed kind (CallWrite name n) parts h = absurd (cc (h))
what-failed kind (AReply p) parts h = absurd (cc (h))
what-failed kind (AFail p) parts h = refl
what-failed kind ACrash parts h = absurd (cc (h))

-- a crash
crash-event_is : (es : List LineEvent) (e : LineEvent) → is_crash e ≡ true
    → event_by e None Crash None ≡ event_after es e
crash-event_is es e h =
    let n = crash-none e.kind h in
    let none : asked_for es e ≡ None =
    ap (λ o. option_or o
    (option_and_then (λ (_ : ReplyParts). open_asked es e.process) (ended_by e.kind))) n.0
    ∙ ap (option_and_then (λ (_ : ReplyParts). open_asked es e.process))
    (ap (λ o. option_or o (failed_by e.kind)) n.1 ∙ n.2) in
    ap (λ w. event_by e None w None) (what-crash e.kind h)
    ∙ ap (λ (o : Option Asked).
    event_by e (option_map (λ (c : Asked). record { 0 = register_number es c.register }) o)
    (what_by (kind_asked o) e.kind) (option_and_then (λ (c : Asked). event_value c c.kind e) o))
    (sym none)
  where
    what-crash : (k : Kind) → is_crash_kind k ≡ true → Crash ≡ what_by ReadOp k
    what-crash (CallRead name) h = absurd (false≢true h)
    what-crash (CallWrite name n) h = absurd (false≢true h)
    what-crash (AReply parts) h = absurd (false≢true h)
    what-crash (AFail parts) h = absurd (false≢true h)
    what-crash ACrash h = refl

-- ---- a call

module _ (es : List LineEvent) (e : LineEvent) (a : Asked) (asks : asked_by e.kind ≡ Some a)
    (number : Option ℕ) (n : IsNumber (register_names es) a.register number) where
  call-event_is : event_by e (numbered (unwrap_or number (length (register_names es)))) (Call a.kind) a.value
      ≡ event_after es e
  call-event_is =
      ap (λ r. event_by e (numbered r) (Call a.kind) a.value) (number-is number n)
      ∙ (ap (λ w. event_by e (numbered (register_number es a.register)) w a.value)
      (sym (what-asked a.kind e.kind a asks))
      ∙ (ap (event_by e (numbered (register_number es a.register)) (what_by a.kind e.kind))
      (sym (value-of-call a e asks))
      ∙ asked-event es e a (asked-call es e a asks)))
    where
      number-is : (o : Option ℕ) → IsNumber (register_names es) a.register o
          → unwrap_or o (length (register_names es)) ≡ register_number es a.register
      number-is None n = sym n
      number-is (Some r) n = sym n.0

  known-name : (r : ℕ) → IsNumber (register_names es) a.register (Some r) → In a.register (register_names es)
  known-name r n =
      elim (is-In a.register (register_names es)) [
        | inl i ↦ i
        | inr f ↦ absurd (omega (arith, n.0, n.1, place-out a.register (register_names es) f))
      ]

  names-of_known : (r : ℕ) → number ≡ Some r → register_names es ≡ register_names (es ++ e ∷ [])
  names-of_known r q =
      sym (names-known es e a asks (known-name r (subst (IsNumber (register_names es) a.register) q n)))

  names-of_new : number ≡ None → register_names es ++ a.register ∷ [] ≡ register_names (es ++ e ∷ [])
  names-of_new q =
      sym (names-new es e a asks (λ i. let p = (place-in a.register (register_names es) i).0 in
      omega (arith, p, subst (IsNumber (register_names es) a.register) q n)))

  pub names-of_call : names_and (register_names es) (name_added number a.register) ≡ register_names (es
      ++ e ∷ [])
  names-of_call = go number refl
    where
      go : (o : Option ℕ) → number ≡ o
          → names_and (register_names es) (name_added o a.register) ≡ register_names (es ++ e ∷ [])
      go None q = names-of_new q
      go (Some r) q = names-of_known r q

-- the history with a call more, by the place of its register and the name that it adds
pub call-next : (h : History) (e : LineEvent) (a : Asked) (number : Option ℕ) (name : Option (List ℕ))
    (place : ℕ) → asked_by e.kind ≡ Some a → IsNumber h.names a.register number
    → name ≡ name_added number a.register → place ≡ unwrap_or number (length h.names)
    → OnOkAfter h e (Ok (with_event h name (event_by e (numbered place) (Call a.kind) a.value)))
call-next h e a number name place asks n new at = λ es acc q.
    let m = subst (λ (g : History). IsNumber g.names a.register number) q n in
    let names = ap (names_and (register_names es)) new ∙ names-of_call es e a asks number m in
    let is =
    ap (λ p. event_by e (numbered p) (Call a.kind) a.value) (at
    ∙ ap (λ (g : History). unwrap_or number (length g.names)) q)
    ∙ call-event_is es e a asks number m in
    after-event h es e name (event_by e (numbered place) (Call a.kind) a.value) q names is

-- its register is known, or the next
pub call-registers : (names : List (List ℕ)) (name : List ℕ) (number : Option ℕ) (added : Option (List ℕ))
    (place : ℕ) → IsNumber names name number → added ≡ name_added number name
    → place ≡ unwrap_or number (length names)
    → length (names_and names added) ≡ max (length names) (end_of (numbered place))
call-registers names name None added place n new at =
    ap (λ o. length (names_and names o)) new ∙ omega (arith, at, length-append names (name ∷ []))
call-registers names name (Some r) added place n new at =
    ap (λ o. length (names_and names o)) new ∙ omega (arith, at, n.1)

-- a call is its own
pub own-call : (events : List Event) (ev : Event) (id : EvId) (kind : OpKind) → ev.what ≡ Call kind
    → length events ≡ id.0 → IsAppendable events ev id
own-call events ev id kind c at = record {
  call = λ _. subst (IsCallAt (events ++ ev ∷ []) (length events)) at (record {
    call = (ev, slice_get-push events ev, ap is_a_call c);
    process = refl;
    order = omega arith;
    between = λ j lo hi q. omega arith;
    own = λ x. refl;
  });
  same = λ f. absurd (false≢true (sym (ap is_a_fail c) ∙ f));
}

-- a crash has none
pub no-call : (events : List Event) (ev : Event) (id : EvId) → ev.what ≡ Crash → IsAppendable events ev id
no-call events ev id c = record {
  call = λ ne. absurd (ne c);
  same = λ f. absurd (false≢true (sym (ap is_a_fail c) ∙ f));
}

-- ---- a reply or a fail

-- the register of an open call has a name
pub open-named : (h : History) → IsRecorded h → (p : ℕ) (o : Open) → IsOpenCall h.events p o
    → o.register.0 < length h.names
open-named h rec p o q =
    event-register h rec o.call.0 o.register.0 (ap (option_and_then by_register) q.there
    ∙ ap (option_map {U = ℕ} (λ (r : RegId). r.0)) q.register)

-- it is one of the names that an arena keeps
pub open-name : (names : List (List ℕ)) (events : List Event) (h : History)
    → record { names = names; events = events } ≡ h → IsRecorded h → (p : ℕ) (o : Open)
    → IsOpenCall h.events p o → (name : List ℕ) × (slice_get names o.register.0 ≡ Some name)
open-name names events h viewed rec p o q =
    let l = open-named h rec p o q in
    let n = ap (λ (h : History). length h.names) viewed in
    slice_get_inside names o.register.0 (omega (arith, l, n))

module _ (es : List LineEvent) (acc : AreAccepted es) (e : LineEvent) (o : Open)
    (h : IsOpenCall (history_of es).events e.process o) where
  -- what the open call asks for, in the event's words
  open-number : (c : LineEvent) × (a : Asked) × (open_asked es e.process ≡ Some a)
      × (o.register.0 ≡ register_number es a.register) × (o.kind ≡ a.kind) × (o.value ≡ a.value)
      × (asked_by c.kind ≡ Some a)
  open-number =
      let x = open-some es acc e.process o h in
      let i = x.2 in (
        x.0,
        x.1,
        i.asked,
        i.register ∙ sym (number-stays es acc o.call.0 x.0 x.1 i.before i.asks).1,
        i.kind,
        i.value,
        i.asks,
      )

  ended-event : (parts : ReplyParts) → ended_by e.kind ≡ Some parts → (w : What) (v : Option Val)
      → ((a : Asked) → o.kind ≡ a.kind → o.value ≡ a.value → w ≡ what_by a.kind e.kind)
      → ((a : Asked) → o.kind ≡ a.kind → o.value ≡ a.value → v ≡ event_value a a.kind e)
      → event_by e (Some o.register) w v ≡ event_after es e
  ended-event parts ends w v what value =
      let x = open-number in
      ap (λ n. event_by e (numbered n) w v) x.3
      ∙ (ap (λ w. event_by e (numbered (register_number es x.1.register)) w v) (what x.1 x.4 x.5)
      ∙ (ap (event_by e (numbered (register_number es x.1.register)) (what_by x.1.kind e.kind))
      (value x.1 x.4 x.5)
      ∙ asked-event es e x.1 (asked-end es e parts x.1 ends x.2)))

  reply-event_is : (parts : ReplyParts) → replied_by e.kind ≡ Some parts → (v : Option Val)
      → (o.kind ≡ ReadOp → v ≡ parts.value) → (o.kind ≡ WriteOp → v ≡ o.value)
      → event_by e (Some o.register) (Reply o.kind) v ≡ event_after es e
  reply-event_is parts replies v read write =
      ended-event parts (reply-ends e.kind parts replies) (Reply o.kind) v
      (λ a k w. ap Reply k ∙ sym (what-replied a.kind e.kind parts replies))
      (λ a k w. value-is a k w a.kind refl)
    where
      value-is : (a : Asked) → o.kind ≡ a.kind → o.value ≡ a.value → (k : OpKind) → a.kind ≡ k
          → v ≡ event_value a k e
      value-is a kind value ReadOp q =
          read (kind ∙ q) ∙ sym (ap (option_and_then (λ (p : ReplyParts). p.value)) replies)
      value-is a kind value WriteOp q = write (kind ∙ q) ∙ value

  fail-event_is : (parts : ReplyParts) → failed_by e.kind ≡ Some parts
      → event_by e (Some o.register) (Fail o.kind) o.value ≡ event_after es e
  fail-event_is parts fails =
      let x = open-number in
      ap (λ n. event_by e (numbered n) (Fail o.kind) o.value) x.3
      ∙ (ap (λ w. event_by e (numbered (register_number es x.1.register)) w o.value) (ap Fail x.4
      ∙ sym (what-failed x.1.kind e.kind parts fails))
      ∙ (ap (event_by e (numbered (register_number es x.1.register)) (what_by x.1.kind e.kind)) (x.5
      ∙ value-is x.0 x.1 x.6 x.1.kind refl)
      ∙ asked-event es e x.1 (asked-end es e parts x.1 (fail-ends e.kind parts fails) x.2)))
    where
      unreplied : (k : Kind) → failed_by k ≡ Some parts → replied_by k ≡ None
      unreplied (CallRead name) h = refl
      unreplied (CallWrite name n) h = refl
      unreplied (AReply p) h = absurd (cc (h))
      unreplied (AFail p) h = refl
      unreplied ACrash h = refl

      value-is : (c : LineEvent) (a : Asked) → asked_by c.kind ≡ Some a → (k : OpKind) → a.kind ≡ k
          → a.value ≡ event_value a k e
      value-is c a asks ReadOp q =
          (asked-value c.kind a asks).0 q
          ∙ sym (ap (option_and_then (λ (p : ReplyParts). p.value)) (unreplied e.kind fails))
      value-is c a asks WriteOp q = refl

  -- an open write has a value
  pub open-write : o.kind ≡ WriteOp → (v : Val) × (o.value ≡ Some v)
  open-write w =
      let x = open-number in
      let k = (asked-value x.0.kind x.1 x.6).1 (sym x.4 ∙ w) in
      (Int k.0, x.5 ∙ k.2)

  names-of_end : (parts : ReplyParts) → ended_by e.kind ≡ Some parts
      → register_names es ≡ register_names (es ++ e ∷ [])
  names-of_end parts ends = sym (names-replied es e (reply-asks e.kind parts ends))

-- a crash names no register
names-of_crash : (es : List LineEvent) (e : LineEvent) → is_crash e ≡ true
    → register_names es ≡ register_names (es ++ e ∷ [])
names-of_crash es e h = sym (names-replied es e (crash-none e.kind h).0)

-- the history with a crash more
pub crash-next : (h : History) (e : LineEvent) → is_crash e ≡ true
    → OnOkAfter h e (Ok (with_event h None (event_by e None Crash None)))
crash-next h e crash =
    λ es acc q. after-event h es e None (event_by e None Crash None) q (names-of_crash es e crash)
    (crash-event_is es e crash)

module _ (h : History) (e : LineEvent) (o : Open) (opened : IsOpenCall h.events e.process o)
    (parts : ReplyParts) where
  here : (es : List LineEvent) → h ≡ history_of es → IsOpenCall (history_of es).events e.process o
  here es q = subst (λ (g : History). IsOpenCall g.events e.process o) q opened

  -- the history with a reply more
  pub reply-next : replied_by e.kind ≡ Some parts → (v : Option Val) → (o.kind ≡ ReadOp → v ≡ parts.value)
      → (o.kind ≡ WriteOp → v ≡ o.value)
      → OnOkAfter h e (Ok (with_event h None (event_by e (Some o.register) (Reply o.kind) v)))
  reply-next replies v read write = λ es acc q.
      after-event h es e None (event_by e (Some o.register) (Reply o.kind) v) q
      (names-of_end es acc e o (here es q) parts (reply-ends e.kind parts replies))
      (reply-event_is es acc e o (here es q) parts replies v read write)

  -- the history with a fail more
  pub fail-next : failed_by e.kind ≡ Some parts
      → OnOkAfter h e (Ok (with_event h None (event_by e (Some o.register) (Fail o.kind) o.value)))
  fail-next fails = λ es acc q.
      after-event h es e None (event_by e (Some o.register) (Fail o.kind) o.value) q
      (names-of_end es acc e o (here es q) parts (fail-ends e.kind parts fails))
      (fail-event_is es acc e o (here es q) parts fails)

-- the open call of the process of a reply or a fail is its call
pub open-call : (events : List Event) (ev : Event) (o : Open) → is_a_call ev.what ≡ false
    → IsOpenCall events ev.process o → IsCallAt (events ++ ev ∷ []) (length events) o.call.0
open-call events ev o ends h =
    let j = o.call in
    let last = h.last in
    let l = key-within by_process events j.0 ev.process last.0 in
    let here : key_at by_process (events ++ ev ∷ []) (length events) ≡ Some ev.process =
    ap (option_and_then by_process) (slice_get-push events ev) in
    record {
      call = call-keep events ev j.0 (h.event, h.there, ap is_a_call h.what);
      process =
          ap (option_and_then by_process) (slice_get-push_other events ev j.0 (λ q. omega arith))
          ∙ (last.0 ∙ sym here);
      order = omega arith;
      between =
          λ i lo hi q. elim (key-back by_process events ev i ev.process (q ∙ here)) [
            | inl x ↦ omega (
              arith,
              x.0,
            )
            | inr x ↦ let m = last.1 i x in omega arith
          ];
      own =
          λ x. absurd (let new = slice_get-push events ev in let was = x.1 in
          let same : ev ≡ x.0 =
          cc (new, was) in false≢true (sym ends ∙ (ap (λ (v : Event). is_a_call v.what) same ∙ x.2)));
    }

pub reply-call : (events : List Event) (ev : Event) (o : Open) (kind : OpKind) → ev.what ≡ Reply kind
    → IsOpenCall events ev.process o → IsAppendable events ev o.call
reply-call events ev o kind w h = record {
  call = λ _. open-call events ev o (ap is_a_call w) h;
  same = λ f. absurd (false≢true (sym (ap is_a_fail w) ∙ f));
}

pub fail-call : (events : List Event) (ev : Event) (o : Open) (kind : OpKind) → ev.what ≡ Fail kind
    → ev.register ≡ Some o.register → ev.value ≡ o.value → IsOpenCall events ev.process o
    → IsAppendable events ev o.call
fail-call events ev o kind w register value h = record {
  call = λ _. open-call events ev o (ap is_a_call w) h;
  same =
      λ f. ap (option_and_then by_value) h.there
      ∙ (ap (λ r. option_and_then (λ (v : Val). option_map (λ (r : RegId). (r.0, v)) r) h.event.value)
      (h.register ∙ sym register)
      ∙ ap (option_and_then (λ (v : Val). option_map (λ (r : RegId). (r.0, v)) ev.register)) (h.value
      ∙ sym value));
}

-- out of memory says nothing of the event
pub memory-step : (es : List LineEvent) (e : LineEvent) (h : History) (r : Result (Unit {0}) BuildError)
    → IsErrAnd r (λ x. x ≡ Memory) → IsStep es e (step_result h r)
memory-step es e h (Ok x) p = absurd p
memory-step es e h (Err x) p = subst (λ (x : BuildError). IsStep es e (Err x)) (sym p) tt

-- an error that is passed on tells of the same event
pub error-step : (es : List LineEvent) (e : LineEvent) (h : History) (r : Result (Unit {0}) BuildError)
    (x : BuildError) → IsErrAnd r (λ y. y ≡ x) → IsStep es e (Err x) → IsStep es e (step_result h r)
error-step es e h (Ok z) x p stopped = absurd p
error-step es e h (Err y) x p stopped = subst (λ (y : BuildError). IsStep es e (Err y)) (sym p) stopped
