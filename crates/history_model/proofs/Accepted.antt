-- What is known of the events of an accepted history: calls and replies of a process take turns, each reply
-- is of its call, and no value is written twice.
use Rattle.std.proofs.Common.{◌≡◌, ℕ, zero, suc, ◌<◌, ◌&&◌, cond, Bool, true, false, List, [], ◌∷◌, ◌++◌}
use Rattle.std.proofs.Common.{take, slice_get, Option, Some, None, refl, sym, ap, subst, ◌∙◌, arith, is_some}
use Rattle.std.proofs.Common.{is_none, option_map, option_and_then, append_assoc, append-nil}
use Rattle.std.specs.Option.{option_or}
use Rattle.std.proofs.lemmas.Bool.{eqb-true, eq-eqb, false≢true}
use Rattle.history_text.specs.declared.event.Val.{Val}
use Rattle.history_text.specs.declared.event.Val.TheVariants.{Int}
use Rattle.history_text.specs.declared.event.OpKind.{OpKind}
use Rattle.history_text.specs.declared.event.OpKind.TheVariants.{ReadOp, WriteOp}
use Rattle.history_text.specs.declared.event.LineEvent.{LineEvent}
use Rattle.history_text.specs.declared.event.Kind.{Kind}
use Rattle.history_text.specs.declared.event.Kind.TheVariants.{CallRead, CallWrite, Reply, Fail, Crash}
use Rattle.history_text.specs.declared.event.ReplyParts.{ReplyParts}
use Rattle.history_model.specs.Lists.{last_with, first_with}
use Rattle.history_model.specs.Events.{Asked, asked_by, replied_by, failed_by, ended_by, is_call, is_crash}
use Rattle.history_model.specs.Events.{is_crash_kind, is_of_process, open_call, open_asked, crashed_at}
use Rattle.history_model.specs.Refusals.{AreAccepted, event_refusal, refused, call_while_open}
use Rattle.history_model.specs.Refusals.{end_without_call, reply_disagrees, fail_disagrees}
use Rattle.history_model.specs.Refusals.{reply_without_value, value_written, too_many}
use Rattle.history_model.specs.Refusals.{after_crash, late_refusal}
use Rattle.history_model.specs.History.{history_of, events_after, event_after, event_value}
use Rattle.history_model.specs.History.{asked_for, kind_asked, what_by, register_number}
use Rattle.history_model.specs.Operations.{is_a_call, is_a_reply, is_a_fail, kind_in, number_in}
use Rattle.history_model.specs.declared.ids.RegId.{RegId}
use Rattle.history_model.specs.declared.event.Event.{Event}
use Rattle.history_model.specs.declared.refusal.Reason.TheVariants.{OpenCall, AfterCrash, NoOpenCall, NoValue}

-- ---- lists

pub take-get : {X : Type 0} (xs : List X) (t s : ℕ) → s < t → slice_get (take t xs) s ≡ slice_get xs s
take-get [] zero s h = refl
take-get [] (suc t) s h = refl
take-get (x ∷ xs) zero s h = absurd (omega arith)
take-get (x ∷ xs) (suc t) zero h = refl
take-get (x ∷ xs) (suc t) (suc s) h = take-get xs t s (omega arith)

pub take-of : {X : Type 0} (xs : List X) (t s : ℕ) (y : X) → slice_get (take t xs) s ≡ Some y
    → (s < t) × (slice_get xs s ≡ Some y)
take-of [] zero s y h = absurd (cc (h))
take-of [] (suc t) s y h = absurd (cc (h))
take-of (x ∷ xs) zero s y h = absurd (cc (h))
take-of (x ∷ xs) (suc t) zero y h = (omega arith, h)
take-of (x ∷ xs) (suc t) (suc s) y h = let r = take-of xs t s y h in (omega (arith, r.0), r.1)

pub take-push : {X : Type 0} (xs : List X) (t : ℕ) (y : X) → slice_get xs t ≡ Some y
    → take (suc t) xs ≡ take t xs ++ y ∷ []
take-push [] t y h = absurd (cc (h))
take-push (x ∷ xs) zero y h = let q : x ≡ y = cc (h) in ap (λ z. z ∷ []) q
take-push (x ∷ xs) (suc t) y h = ap (λ zs. x ∷ zs) (take-push xs t y h)

pub take-past : {X : Type 0} (xs : List X) (t : ℕ) → slice_get xs t ≡ None → take (suc t) xs ≡ take t xs
take-past [] zero h = refl
take-past [] (suc t) h = refl
take-past (x ∷ xs) zero h = absurd (cc (h))
take-past (x ∷ xs) (suc t) h = ap (λ zs. x ∷ zs) (take-past xs t h)

-- the last that passes a test
pub record IsLastPassing {X : Type 0} (test : X → Bool) (xs : List X) (x : X) : Type 0 where
  pub place : ℕ
  pub there : slice_get xs place ≡ Some x
  pub passes : test x ≡ true
  pub none_later : (u : ℕ) (y : X) → place < u → slice_get xs u ≡ Some y → test y ≡ true → ⊥

pub last-none : {X : Type 0} (test : X → Bool) (xs : List X) → last_with test xs ≡ None → (u : ℕ) (y : X)
    → slice_get xs u ≡ Some y → test y ≡ true → ⊥
last-none test [] h u y at q = absurd (cc (at))
last-none {X} test (x ∷ xs) h u y at q = go (last_with test xs) (test x) refl h u at (last-none test xs)
  where
    go : (o : Option X) (b : Bool) → test x ≡ b → option_or o (cond b (Some x) None) ≡ None → (u : ℕ)
        → slice_get (x ∷ xs) u ≡ Some y
        → (last_with test xs ≡ None → (u : ℕ) (y : X) → slice_get xs u ≡ Some y → test y ≡ true → ⊥) → ⊥
    go (Some z) b d k u at rest = absurd (cc (k))
    go None true d k u at rest = absurd (cc (k))
    go None false d k zero at rest = let s : x ≡ y = cc (at) in false≢true (sym d ∙ (ap test s ∙ q))
    go None false d k (suc u) at rest =
        rest (none-of (last_with test xs)
        (ap (λ b. option_or (last_with test xs) (cond b (Some x) None)) (sym d) ∙ h)) u y at q
      where
        none-of : (o : Option X) → option_or o None ≡ None → o ≡ None
        none-of None e = refl
        none-of (Some z) e = absurd (cc (e))

pub last-some : {X : Type 0} (test : X → Bool) (xs : List X) (z : X) → last_with test xs ≡ Some z
    → IsLastPassing test xs z
last-some test [] z h = absurd (cc (h))
last-some {X} test (x ∷ xs) z h = go (last_with test xs) refl (test x) refl h (last-some test xs z)
  where
    go : (o : Option X) → last_with test xs ≡ o → (b : Bool) → test x ≡ b
        → option_or o (cond b (Some x) None) ≡ Some z → (last_with test xs ≡ Some z → IsLastPassing test xs z)
        → IsLastPassing test (x ∷ xs) z
    go (Some w) e b d k rest = further (rest (e ∙ k))
      where
        further : IsLastPassing test xs z → IsLastPassing test (x ∷ xs) z
        further r = record { place = suc r.place; there = r.there; passes = r.passes; none_later = later }
          where
            later : (u : ℕ) (y : X) → suc r.place < u → slice_get (x ∷ xs) u ≡ Some y → test y ≡ true → ⊥
            later zero y l at t = omega arith
            later (suc u) y l at t = r.none_later u y (omega arith) at t
    go None e true d k rest =
        let q : x ≡ z = cc (k) in
        record { place = zero; there = ap Some q; passes = ap test (sym q) ∙ d; none_later = later }
      where
        later : (u : ℕ) (y : X) → 0 < u → slice_get (x ∷ xs) u ≡ Some y → test y ≡ true → ⊥
        later zero y l at t = omega arith
        later (suc u) y l at t = last-none test xs e u y at t
    go None e false d k rest = absurd (cc (k))

pub first-none : {X : Type 0} (test : X → Bool) (xs : List X) → first_with test xs ≡ None → (u : ℕ) (y : X)
    → slice_get xs u ≡ Some y → test y ≡ true → ⊥
first-none test [] h u y at q = absurd (cc (at))
first-none {X} test (x ∷ xs) h u y at q = go (test x) refl h u at (first-none test xs)
  where
    go : (b : Bool) → test x ≡ b → cond b (Some x) (first_with test xs) ≡ None → (u : ℕ)
        → slice_get (x ∷ xs) u ≡ Some y
        → (first_with test xs ≡ None → (u : ℕ) (y : X) → slice_get xs u ≡ Some y → test y ≡ true → ⊥) → ⊥
    go true d k u at rest = absurd (cc (k))
    go false d k zero at rest = let s : x ≡ y = cc (at) in false≢true (sym d ∙ (ap test s ∙ q))
    go false d k (suc u) at rest = rest k u y at q

-- ---- an event and its line's event

-- the event at place i stands for the line's event there, and is accepted after those before it
pub record IsLineAt (es : List LineEvent) (i : ℕ) (ev : Event) (le : LineEvent) : Type 0 where
  pub there : slice_get es i ≡ Some le
  pub is : ev ≡ event_after (take i es) le
  pub free : event_refusal (take i es) le ≡ None

after-at : (b es : List LineEvent) (i : ℕ) (ev : Event) → slice_get (events_after b es) i ≡ Some ev
    → (le : LineEvent) × (slice_get es i ≡ Some le) × (ev ≡ event_after (b ++ take i es) le)
after-at b [] i ev h = absurd (cc (h))
after-at b (e ∷ es) zero ev h =
    let q : event_after b e ≡ ev =
    cc (h) in (e, refl, sym q ∙ ap (λ xs. event_after xs e) (sym (append-nil b)))
after-at b (e ∷ es) (suc i) ev h =
    let r = after-at (b ++ e ∷ []) es i ev h in
    (r.0, r.1, r.2 ∙ ap (λ xs. event_after xs r.0) (append_assoc b (e ∷ []) (take i es)))

pub at-after : (b es : List LineEvent) (i : ℕ) (le : LineEvent) → slice_get es i ≡ Some le
    → slice_get (events_after b es) i ≡ Some (event_after (b ++ take i es) le)
at-after b [] i le h = absurd (cc (h))
at-after b (e ∷ es) zero le h =
    let q : e ≡ le =
    cc (h) in ap Some (ap (event_after b) q ∙ ap (λ xs. event_after xs le) (sym (append-nil b)))
at-after b (e ∷ es) (suc i) le h =
    at-after (b ++ e ∷ []) es i le h
    ∙ ap (λ xs. Some (event_after xs le)) (append_assoc b (e ∷ []) (take i es))

pub line-at : (es : List LineEvent) → AreAccepted es → (i : ℕ) (ev : Event)
    → slice_get (history_of es).events i ≡ Some ev → (le : LineEvent) × IsLineAt es i ev le
line-at es a i ev h =
    let r = after-at [] es i ev h in (
      r.0,
      record {
        there = r.1;
        is = r.2;
        free = sym (ap (option_and_then (event_refusal (take i es))) r.1) ∙ a i;
      },
    )

-- ---- the reasons by themselves

pub or-first : {A : Type 0} (a b : Option A) → option_or a b ≡ None → a ≡ None
or-first None b h = refl
or-first (Some x) b h = absurd (cc (h))

pub or-second : {A : Type 0} (a b : Option A) → option_or a b ≡ None → b ≡ None
or-second None b h = h
or-second (Some x) b h = absurd (cc (h))

pub record IsFree (before : List LineEvent) (e : LineEvent) : Type 0 where
  pub call : call_while_open before e ≡ None
  pub open_one : end_without_call before e ≡ None
  pub agrees_with : reply_disagrees before e ≡ None
  pub fails_with : fail_disagrees before e ≡ None
  pub has_value : reply_without_value before e ≡ None
  pub new : value_written before e ≡ None
  pub room : too_many before e ≡ None
  pub alive : after_crash before e ≡ None

pub free-of : (before : List LineEvent) (e : LineEvent) → event_refusal before e ≡ None → IsFree before e
free-of before e h =
    let h2 = or-second (call_while_open before e) _ h in
    let h3 = or-second (end_without_call before e) _ h2 in
    let h4 = or-second (reply_disagrees before e) _ h3 in
    let h5 = or-second (fail_disagrees before e) _ h4 in
    let h6 = or-second (reply_without_value before e) _ h5 in
    let h7 = or-second (value_written before e) _ h6 in
    let late = or-first (late_refusal before e) None h7 in
    record {
      call = or-first (call_while_open before e) _ h;
      open_one = or-first (end_without_call before e) _ h2;
      agrees_with = or-first (reply_disagrees before e) _ h3;
      fails_with = or-first (fail_disagrees before e) _ h4;
      has_value = or-first (reply_without_value before e) _ h5;
      new = or-first (value_written before e) _ h6;
      room = or-first (too_many before e) (after_crash before e) late;
      alive = or-second (too_many before e) (after_crash before e) late;
    }

-- ---- calls and replies

-- a call's event says what it asks for
pub asked-value : (k : Kind) (a : Asked) → asked_by k ≡ Some a → (a.kind ≡ ReadOp → a.value ≡ None)
    × (a.kind ≡ WriteOp → (n : _) × (k ≡ CallWrite a.register n) × (a.value ≡ Some (Int n)))
asked-value (CallRead name) a h =
    let q : record { register = name; kind = ReadOp; value = None } ≡ a =
    cc (h) in subst (λ (a : Asked). (a.kind ≡ ReadOp → a.value ≡ None)
    × (a.kind ≡ WriteOp → (n : _) × (CallRead name ≡ CallWrite a.register n)
    × (a.value ≡ Some (Int n)))) q (λ _. refl, λ e. absurd (cc (e)))
asked-value (CallWrite name m) a h =
    let q : record { register = name; kind = WriteOp; value = Some (Int m) } ≡ a =
    cc (h) in subst (λ (a : Asked). (a.kind ≡ ReadOp → a.value ≡ None)
    × (a.kind ≡ WriteOp → (n : _) × (CallWrite name m ≡ CallWrite a.register n)
    × (a.value ≡ Some (Int n)))) q (λ e. absurd (cc (e)), λ _. (m, refl, refl))
asked-value (Reply parts) a h = absurd (cc (h))
asked-value (Fail parts) a h = absurd (cc (h))
asked-value Crash a h = absurd (cc (h))

pub call-replies : (k : Kind) (a : Asked) → asked_by k ≡ Some a → replied_by k ≡ None
call-replies (CallRead name) a h = refl
call-replies (CallWrite name n) a h = refl
call-replies (Reply parts) a h = absurd (cc (h))
call-replies (Fail parts) a h = absurd (cc (h))
call-replies Crash a h = absurd (cc (h))

pub some-of : {A : Type 0} (o : Option A) → is_some o ≡ true → (x : A) × (o ≡ Some x)
some-of None h = absurd (false≢true h)
some-of (Some x) h = (x, refl)

pub call-asks : (k : Kind) → is_some (asked_by k) ≡ true → (a : Asked) × (asked_by k ≡ Some a)
call-asks k h = some-of (asked_by k) h

pub reply-asks : (k : Kind) (parts : ReplyParts) → ended_by k ≡ Some parts → asked_by k ≡ None
reply-asks (CallRead name) parts h = absurd (cc (h))
reply-asks (CallWrite name n) parts h = absurd (cc (h))
reply-asks (Reply p) parts h = refl
reply-asks (Fail p) parts h = refl
reply-asks Crash parts h = refl

pub reply-ends : (k : Kind) (parts : ReplyParts) → replied_by k ≡ Some parts → ended_by k ≡ Some parts
reply-ends k parts h = ap (λ o. option_or o (failed_by k)) h

pub fail-ends : (k : Kind) (parts : ReplyParts) → failed_by k ≡ Some parts → ended_by k ≡ Some parts
fail-ends (CallRead name) parts h = absurd (cc (h))
fail-ends (CallWrite name n) parts h = absurd (cc (h))
fail-ends (Reply p) parts h = absurd (cc (h))
fail-ends (Fail p) parts h = h
fail-ends Crash parts h = absurd (cc (h))

pub reply-parts : (k : Kind) → is_some (replied_by k) ≡ true → (parts : ReplyParts) × (asked_by k ≡ None)
    × (replied_by k ≡ Some parts)
reply-parts k h = let x = some-of (replied_by k) h in (x.0, reply-asks k x.0 (reply-ends k x.0 x.1), x.1)

-- ---- what an event is, by its line

pub call-what : (kind : OpKind) (k : Kind) → is_a_call (what_by kind k) ≡ is_some (asked_by k)
call-what kind (CallRead name) = refl
call-what kind (CallWrite name n) = refl
call-what kind (Reply parts) = refl
call-what kind (Fail parts) = refl
call-what kind Crash = refl

pub reply-what : (kind : OpKind) (k : Kind) → is_a_reply (what_by kind k) ≡ is_some (replied_by k)
reply-what kind (CallRead name) = refl
reply-what kind (CallWrite name n) = refl
reply-what kind (Reply parts) = refl
reply-what kind (Fail parts) = refl
reply-what kind Crash = refl

pub fail-what : (kind : OpKind) (k : Kind) → is_a_fail (what_by kind k) ≡ is_some (failed_by k)
fail-what kind (CallRead name) = refl
fail-what kind (CallWrite name n) = refl
fail-what kind (Reply parts) = refl
fail-what kind (Fail parts) = refl
fail-what kind Crash = refl

-- the line of a call, of a reply and of a fail
module _ (before : List LineEvent) (le : LineEvent) (ev : Event) (is : ev ≡ event_after before le) where
  what-is : ev.what ≡ what_by (kind_asked (asked_for before le)) le.kind
  what-is = ap (λ (x : Event). x.what) is

  pub call-line : is_a_call ev.what ≡ is_call le
  call-line = ap is_a_call what-is ∙ call-what (kind_asked (asked_for before le)) le.kind

  pub reply-line : is_a_reply ev.what ≡ is_some (replied_by le.kind)
  reply-line = ap is_a_reply what-is ∙ reply-what (kind_asked (asked_for before le)) le.kind

  pub fail-line : is_a_fail ev.what ≡ is_some (failed_by le.kind)
  fail-line = ap is_a_fail what-is ∙ fail-what (kind_asked (asked_for before le)) le.kind

  -- what is none of the three is a crash
  pub crash-line : is_a_call ev.what ≡ false → is_a_reply ev.what ≡ false → is_a_fail ev.what ≡ false
      → is_crash le ≡ true
  crash-line c r f = go le.kind (sym call-line ∙ c) (sym reply-line ∙ r) (sym fail-line ∙ f)
    where
      go : (k : Kind) → is_some (asked_by k) ≡ false → is_some (replied_by k) ≡ false
          → is_some (failed_by k) ≡ false → is_crash_kind k ≡ true
      go (CallRead name) c r f = absurd (false≢true (sym c))
      go (CallWrite name n) c r f = absurd (false≢true (sym c))
      go (Reply parts) c r f = absurd (false≢true (sym r))
      go (Fail parts) c r f = absurd (false≢true (sym f))
      go Crash c r f = refl

-- the kind of a call, where there is one
asks-kind : (o : Option Asked) (k : Kind) (a : Asked)
    → option_or (asked_by k) (option_and_then (λ _. o) (ended_by k)) ≡ Some a → (kind : OpKind)
    → kind_in (what_by kind k) ≡ kind
asks-kind o (CallRead name) a h kind = refl
asks-kind o (CallWrite name n) a h kind = refl
asks-kind o (Reply parts) a h kind = refl
asks-kind o (Fail parts) a h kind = refl
asks-kind o Crash a h kind = absurd (cc (h))

-- what an event is, once what its call asks for is known
pub record IsAsking (before : List LineEvent) (le : LineEvent) (a : Asked) (ev : Event) : Type 0 where
  pub line : ev.line ≡ le.line
  pub process : ev.process ≡ le.process
  pub register : ev.register ≡ Some (record { 0 = register_number before a.register })
  pub number : number_in ev.register ≡ register_number before a.register
  pub what : ev.what ≡ what_by a.kind le.kind
  pub kind : kind_in ev.what ≡ a.kind
  pub value : ev.value ≡ event_value a a.kind le

pub asking : (before : List LineEvent) (le : LineEvent) (a : Asked) (ev : Event) → ev ≡ event_after before le
    → asked_for before le ≡ Some a → IsAsking before le a ev
asking before le a ev is q =
    let register =
    ap (λ (x : Event). x.register) is
    ∙ ap (option_map {U = RegId} (λ (c : Asked).
    record { 0 = register_number before c.register })) q in
    let what = ap (λ (x : Event). x.what) is ∙ ap (λ (o : Option Asked). what_by (kind_asked o) le.kind) q in
    record {
      line = ap (λ (x : Event). x.line) is;
      process = ap (λ (x : Event). x.process) is;
      register = register;
      number = ap number_in register;
      what = what;
      kind = ap kind_in what ∙ asks-kind (open_asked before le.process) le.kind a q a.kind;
      value =
          ap (λ (x : Event). x.value) is ∙ ap (option_and_then (λ (c : Asked). event_value c c.kind le)) q;
    }

pub asked-call : (before : List LineEvent) (le : LineEvent) (a : Asked) → asked_by le.kind ≡ Some a
    → asked_for before le ≡ Some a
asked-call before le a h =
    ap (λ o. option_or o (option_and_then (λ _. open_asked before le.process) (ended_by le.kind))) h

pub asked-end : (before : List LineEvent) (le : LineEvent) (parts : ReplyParts) (a : Asked)
    → ended_by le.kind ≡ Some parts → open_asked before le.process ≡ Some a → asked_for before le ≡ Some a
asked-end before le parts a h k =
    ap (λ o. option_or o (option_and_then (λ _. open_asked before le.process) (ended_by le.kind)))
    (reply-asks le.kind parts h)
    ∙ (ap (option_and_then (λ (_ : ReplyParts). open_asked before le.process)) h ∙ k)

-- the call that is open, where it stands
pub record IsOpenAt (es : List LineEvent) (t p : ℕ) (c : LineEvent) (a : Asked) : Type 0 where
  pub place : ℕ
  pub before : place < t
  pub there : slice_get es place ≡ Some c
  pub process : c.process ≡ p
  pub asks : asked_by c.kind ≡ Some a
  pub none_later : (u : ℕ) (y : LineEvent) → place < u → u < t → slice_get es u ≡ Some y → y.process ≡ p → ⊥

pub open-none : (before : List LineEvent) (p : ℕ) (l : LineEvent)
    → last_with (is_of_process p) before ≡ Some l → open_call before p ≡ cond (is_call l) (Some l) None
open-none before p l h = ap (option_and_then (λ (e : LineEvent). cond (is_call e) (Some e) None)) h

pub open-at : (es : List LineEvent) (t p : ℕ) (c : LineEvent) → open_call (take t es) p ≡ Some c
    → (a : Asked) × IsOpenAt es t p c a × (open_asked (take t es) p ≡ Some a)
open-at es t p c h = go (last_with (is_of_process p) (take t es)) refl h
  where
    go : (o : Option LineEvent) → last_with (is_of_process p) (take t es) ≡ o
        → option_and_then (λ (e : LineEvent). cond (is_call e) (Some e) None) o ≡ Some c
        → (a : Asked) × IsOpenAt es t p c a × (open_asked (take t es) p ≡ Some a)
    go None e k = absurd (cc (k))
    go (Some l) e k = inner (is_call l) refl k
      where
        inner : (b : Bool) → is_call l ≡ b → cond b (Some l) None ≡ Some c → (a : Asked) × IsOpenAt es t p c a
            × (open_asked (take t es) p ≡ Some a)
        inner false d k = absurd (cc (k))
        inner true d k =
            let q : l ≡ c = cc (k) in
            let r = last-some (is_of_process p) (take t es) l e in
            let at = take-of es t r.place l r.there in
            let x = call-asks l.kind d in (
              x.0,
              record {
                place = r.place;
                before = at.0;
                there = at.1 ∙ ap Some q;
                process = ap (λ (y : LineEvent). y.process) (sym q) ∙ eqb-true _ _ r.passes;
                asks = ap (λ (y : LineEvent). asked_by y.kind) (sym q) ∙ x.1;
                none_later = λ u y l m at w. r.none_later u y l (take-get es t u m ∙ at) (eq-eqb _ _ w);
              },
              ap (option_and_then (λ (y : LineEvent). asked_by y.kind)) h
                  ∙ (ap (λ (y : LineEvent). asked_by y.kind) (sym q) ∙ x.1),
            )

-- no event comes after a crash of its process
pub alive-crash : (before : List LineEvent) (le : LineEvent) → after_crash before le ≡ None
    → crashed_at before le.process ≡ None
alive-crash before le k = go (crashed_at before le.process) k
  where
    go : (o : Option LineEvent)
        → option_map (λ (crash : LineEvent). refused le (AfterCrash crash.line)) o ≡ None → o ≡ None
    go None m = refl
    go (Some c) m = absurd (cc (m))

-- a reply or a fail has an open call
pub end-open : (before : List LineEvent) (le : LineEvent) (parts : ReplyParts) → ended_by le.kind ≡ Some parts
    → IsFree before le → (c : LineEvent) × (open_call before le.process ≡ Some c)
end-open before le parts h free =
    go (open_call before le.process) refl (is_none (crashed_at before le.process))
    (ap is_none (alive-crash before le free.alive))
    (sym (ap (option_and_then (λ (_ : ReplyParts).
    cond (is_none (open_call before le.process) && is_none (crashed_at before le.process))
    (Some (refused le NoOpenCall)) None)) h) ∙ free.open_one)
  where
    go : (o : Option LineEvent) → open_call before le.process ≡ o → (b : Bool) → b ≡ true
        → cond (is_none (open_call before le.process) && b) (Some (refused le NoOpenCall)) None ≡ None
        → (c : LineEvent) × (open_call before le.process ≡ Some c)
    go (Some c) e b d m = (c, e)
    go None e true d m =
        let x =
        sym (ap (λ o. cond (is_none o && true) (Some (refused le NoOpenCall)) None) e) ∙ m in
        absurd (cc (x))
    go None e false d m = absurd (false≢true d)

-- a call has none
pub call-open : (before : List LineEvent) (le : LineEvent) (a : Asked) → asked_by le.kind ≡ Some a
    → call_while_open before le ≡ None → open_call before le.process ≡ None
call-open before le a h k =
    go (open_call before le.process)
    (sym (ap (option_and_then
    (λ _. option_map (λ (call : LineEvent). refused le (OpenCall call.line))
    (open_call before le.process))) h) ∙ k)
  where
    go : (o : Option LineEvent) → option_map (λ (call : LineEvent). refused le (OpenCall call.line)) o ≡ None
        → o ≡ None
    go None m = refl
    go (Some c) m = absurd (cc (m))

-- a read's reply has a value
pub reply-value : (before : List LineEvent) (le : LineEvent) (parts : ReplyParts) (a : Asked)
    → replied_by le.kind ≡ Some parts → open_asked before le.process ≡ Some a
    → reply_without_value before le ≡ None → a.value ≡ None → (v : Val) × (parts.value ≡ Some v)
reply-value before le parts a h k m q = go parts.value refl (is_none a.value) (ap is_none q)
    (sym (ap (option_and_then (λ (call : Asked).
    cond (is_none call.value && is_none parts.value) (Some (refused le NoValue)) None)) k)
    ∙ (sym (ap (option_and_then (λ (reply : ReplyParts).
    option_and_then (λ (call : Asked).
    cond (is_none call.value && is_none reply.value) (Some (refused le NoValue)) None)
    (open_asked before le.process))) h) ∙ m))
  where
    go : (o : Option Val) → parts.value ≡ o → (b : Bool) → b ≡ true
        → cond (b && is_none parts.value) (Some (refused le NoValue)) None ≡ None
        → (v : Val) × (parts.value ≡ Some v)
    go (Some v) e b d x = (v, e)
    go None e true d x =
        let y = sym (ap (λ o. cond (is_none o) (Some (refused le NoValue)) None) e) ∙ x in absurd (cc (y))
    go None e false d x = absurd (false≢true d)
