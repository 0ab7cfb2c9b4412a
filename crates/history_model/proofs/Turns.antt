-- In an accepted history the calls and replies of a process take turns, a reply is of its call's register,
-- kind and value, and no value is written twice.
use Rattle.std.proofs.Common.{◌≡◌, ℕ, zero, suc, ◌+◌, ◌-◌, ◌<◌, cond, Bool, true, false, List, []}
use Rattle.std.proofs.Common.{◌∷◌, ◌++◌, length, take, slice_get, Option, Some, None, inl, inr, refl}
use Rattle.std.proofs.Common.{sym, ap, subst, ◌∙◌, arith, is_some, option_map, option_and_then}
use Rattle.std.specs.Prelude.{bytes_eq}
use Rattle.std.specs.Option.{option_or}
use Rattle.std.specs.List.{position_or_len}
use Rattle.std.proofs.lemmas.Bool.{cases_order, eq-eqb, eqb-true, false≢true, and_from}
use Rattle.std.proofs.lemmas.Bool.Decides.{Decides-int_eq}
use Rattle.std.proofs.lemmas.Slice.Eq.{bytes_eq-Decides}
use Rattle.std.proofs.lemmas.List.{take_all}
use Rattle.history_text.specs.declared.event.Val.{Val}
use Rattle.history_text.specs.declared.event.Val.TheVariants.{Int}
use Rattle.history_text.specs.declared.event.OpKind.{OpKind}
use Rattle.history_text.specs.declared.event.OpKind.TheVariants.{ReadOp, WriteOp}
use Rattle.history_text.specs.declared.event.LineEvent.{LineEvent}
use Rattle.history_text.specs.declared.event.ReplyParts.{ReplyParts}
use Rattle.history_text.specs.declared.event.Kind.{Kind}
use Rattle.history_text.specs.declared.event.Kind.TheVariants.{CallWrite}
use Rattle.history_model.specs.Lists.{In, last_with, first_with}
use Rattle.history_model.specs.Events.{Asked, asked_by, replied_by, ended_by, is_call, is_crash}
use Rattle.history_model.specs.Events.{is_of_process, open_call, open_asked, crashed_at}
use Rattle.history_model.specs.Refusals.{AreAccepted, event_refusal, refused, value_written, writes_to}
use Rattle.history_model.specs.History.{history_of, event_after, event_value, register_names, register_number}
use Rattle.history_model.specs.Operations.{is_a_call, kind_in, number_in, writes}
use Rattle.history_model.specs.declared.ids.RegId.{RegId}
use Rattle.history_model.specs.declared.event.Event.{Event}
use Rattle.history_model.specs.Walking.{by_register}
use Rattle.history_model.proofs.Walking.{number-known}
use Rattle.history_model.proofs.Plain.{reading}
use Rattle.history_model.proofs.Numbers.{is-In, place-in, place-out, keeps-push, called-known}
use Rattle.history_model.proofs.Accepted.{take-get, take-of, take-push, take-past, IsLastPassing, last-none}
use Rattle.history_model.proofs.Accepted.{last-some, first-none, IsLineAt, at-after, free-of, asked-value}
use Rattle.history_model.proofs.Accepted.{call-replies, reply-parts, call-asks, IsAsking, asking, asked-call}
use Rattle.history_model.proofs.Accepted.{asked-end, alive-crash, call-line, reply-ends, open-none, open-at}
use Rattle.history_model.proofs.Accepted.{end-open, call-open, reply-value}
use Rattle.history_model.specs.declared.refusal.Reason.TheVariants.{WrittenBefore}

accepted-at : (es : List LineEvent) → AreAccepted es → (t : ℕ) (e : LineEvent) → slice_get es t ≡ Some e
    → event_refusal (take t es) e ≡ None
accepted-at es a t e h = sym (ap (option_and_then (event_refusal (take t es))) h) ∙ a t

-- a call isn't followed by a call of its process
pub no-two-calls : (es : List LineEvent) → AreAccepted es → (s t : ℕ) (c e : LineEvent)
    → slice_get es s ≡ Some c → slice_get es t ≡ Some e → s < t → e.process ≡ c.process → is_call c ≡ true
    → is_call e ≡ true
    → ((u : ℕ) (y : LineEvent) → s < u → u < t → slice_get es u ≡ Some y → y.process ≡ c.process → ⊥) → ⊥
no-two-calls es acc s t c e at_s at_t lt same call_c call_e between =
    let free = free-of (take t es) e (accepted-at es acc t e at_t) in
    let x = call-asks e.kind call_e in
    let none = call-open (take t es) e x.0 x.1 free.call in
    let here = take-get es t s lt ∙ at_s in
    go (last_with (is_of_process e.process) (take t es)) refl none here
  where
    go : (o : Option LineEvent) → last_with (is_of_process e.process) (take t es) ≡ o
        → open_call (take t es) e.process ≡ None → slice_get (take t es) s ≡ Some c → ⊥
    go None q none here = last-none (is_of_process e.process) (take t es) q s c here (eq-eqb _ _ (sym same))
    go (Some l) q none here =
        let r = last-some (is_of_process e.process) (take t es) l q in
        let at = take-of es t r.place l r.there in
        let not_call : is_call l ≡ false =
        cond-none (is_call l) l (sym (open-none (take t es) e.process l q) ∙ none) in
        elim (cases_order r.place s) [
          | inl w ↦ let z : l ≡ c = let m = at.1 in let n = ap (slice_get es) w in cc (m, n, at_s) in
              false≢true (sym not_call ∙ (ap is_call z ∙ call_c))
          | inr w ↦ elim w [
            | inl less ↦ r.none_later s c less here (eq-eqb _ _ (sym same))
            | inr more ↦ between r.place l more at.0 at.1 (process-of r ∙ same)
          ]
        ]
      where
        cond-none : (b : Bool) (l : LineEvent) → cond b (Some l) None ≡ None → b ≡ false
        cond-none true l h = absurd (cc (h))
        cond-none false l h = refl

        process-of : (r : IsLastPassing (is_of_process e.process) (take t es) l) → l.process ≡ e.process
        process-of r = eqb-true _ _ r.passes

-- a crash isn't followed by an event of its process
pub none-after-crash : (es : List LineEvent) → AreAccepted es → (s t : ℕ) (c e : LineEvent)
    → slice_get es s ≡ Some c → slice_get es t ≡ Some e → s < t → e.process ≡ c.process → is_crash c ≡ true
    → ((u : ℕ) (y : LineEvent) → s < u → u < t → slice_get es u ≡ Some y → y.process ≡ c.process → ⊥) → ⊥
none-after-crash es acc s t c e at_s at_t lt same crash between =
    let free = free-of (take t es) e (accepted-at es acc t e at_t) in
    let none = alive-crash (take t es) e free.alive in
    let here = take-get es t s lt ∙ at_s in
    go (last_with (is_of_process e.process) (take t es)) refl none here
  where
    go : (o : Option LineEvent) → last_with (is_of_process e.process) (take t es) ≡ o
        → crashed_at (take t es) e.process ≡ None → slice_get (take t es) s ≡ Some c → ⊥
    go None q none here = last-none (is_of_process e.process) (take t es) q s c here (eq-eqb _ _ (sym same))
    go (Some l) q none here =
        let r = last-some (is_of_process e.process) (take t es) l q in
        let at = take-of es t r.place l r.there in
        let process : l.process ≡ e.process = eqb-true _ _ r.passes in
        elim (cases_order r.place s) [
          | inl w ↦
              let z : l ≡ c = let m = at.1 in let n = ap (slice_get es) w in cc (m, n, at_s) in
              let some =
              sym (ap (option_and_then (λ (e : LineEvent). cond (is_crash e) (Some e) None)) q
              ∙ ap (λ b. cond b (Some l) None) (ap is_crash z ∙ crash)) ∙ none in
              cc (some)
          | inr w ↦ elim w [
            | inl less ↦ r.none_later s c less here (eq-eqb _ _ (sym same))
            | inr more ↦ between r.place l more at.0 at.1 (process ∙ same)
          ]
        ]

-- ---- the numbers of registers stay

-- a name that was called keeps its number
pub number-kept : (es : List LineEvent) (s d : ℕ) (c : LineEvent) (a : Asked) → slice_get es s ≡ Some c
    → asked_by c.kind ≡ Some a
    → In a.register (register_names (take (suc s + d) es))
    × (register_number (take (suc s + d) es) a.register ≡ register_number (take s es) a.register)
number-kept es s zero c a at asks =
    let k = called-known (take s es) c a asks in
    let e : take (suc s + 0) es ≡ take s es ++ c ∷ [] =
    let z : suc s + 0 ≡ suc s = omega arith in ap (λ m. take m es) z ∙ take-push es s c at in (
      subst (λ xs. In a.register (register_names xs)) (sym e) k.0,
      ap (λ xs. register_number xs a.register) e ∙ k.1,
    )
number-kept es s (suc d) c a at asks = step (number-kept es s d c a at asks) (slice_get es (suc s + d)) refl
  where
    step : In a.register (register_names (take (suc s + d) es))
        × (register_number (take (suc s + d) es) a.register ≡ register_number (take s es) a.register)
        → (o : Option LineEvent) → slice_get es (suc s + d) ≡ o
        → In a.register (register_names (take (suc s + suc d) es))
        × (register_number (take (suc s + suc d) es) a.register ≡ register_number (take s es) a.register)
    step r None h =
        let e : take (suc s + suc d) es ≡ take (suc s + d) es =
        let z : suc s + suc d ≡ suc (suc s + d) =
        omega arith in ap (λ k. take k es) z ∙ take-past es (suc s + d) h in (
          subst (λ xs. In a.register (register_names xs)) (sym e) r.0,
          ap (λ xs. register_number xs a.register) e ∙ r.1,
        )
    step r (Some y) h =
        let e : take (suc s + suc d) es ≡ take (suc s + d) es ++ y ∷ [] =
        let z : suc s + suc d ≡ suc (suc s + d) =
        omega arith in ap (λ k. take k es) z ∙ take-push es (suc s + d) y h in
        let k = keeps-push (take (suc s + d) es) y in (
          subst (λ xs. In a.register (register_names xs)) (sym e) (k.names a.register r.0),
          ap (λ xs. register_number xs a.register) e ∙ (k.numbers a.register r.0 ∙ r.1),
        )

pub number-later : (es : List LineEvent) (s t : ℕ) (c : LineEvent) (a : Asked) → s < t
    → slice_get es s ≡ Some c → asked_by c.kind ≡ Some a → In a.register (register_names (take t es))
    × (register_number (take t es) a.register ≡ register_number (take s es) a.register)
number-later es s t c a lt at asks =
    let e : suc s + (t - suc s) ≡ t = omega (arith, lt) in
    subst (λ m. In a.register (register_names (take m es))
    × (register_number (take m es) a.register ≡ register_number (take s es) a.register)) e
    (number-kept es s (t - suc s) c a at asks)

-- ---- a reply and its call

-- the event at place t is a reply to the event at place s
pub record IsReplyTo (es : List LineEvent) (s t : ℕ) (call reply : Event) : Type 0 where
  pub order : s < t
  pub there : slice_get (history_of es).events s ≡ Some call
  pub is_call : is_a_call call.what ≡ true
  pub process : call.process ≡ reply.process
  pub register : reply.register ≡ call.register
  pub kind : kind_in reply.what ≡ kind_in call.what
  pub written : kind_in call.what ≡ WriteOp → reply.value ≡ call.value
  pub read : kind_in call.what ≡ ReadOp → (v : Val) × (reply.value ≡ Some v)
  pub between : (u : ℕ) (y : LineEvent) → s < u → u < t → slice_get es u ≡ Some y
      → y.process ≡ reply.process → ⊥

abbrev pub register_by : ℕ → RegId
register_by n = record { 0 = n }

-- what a call's event says
pub record IsCallEvent (es : List LineEvent) (s : ℕ) (le : LineEvent) (a : Asked) (ev : Event) : Type 0 where
  pub says : IsAsking (take s es) le a ev
  pub value : ev.value ≡ a.value

pub value-of-call : (a : Asked) (le : LineEvent) → asked_by le.kind ≡ Some a
    → event_value a a.kind le ≡ a.value
value-of-call a le h = go a.kind refl
  where
    go : (k : OpKind) → a.kind ≡ k → event_value a a.kind le ≡ a.value
    go ReadOp q =
        ap (λ k. event_value a k le) q
        ∙ (ap (option_and_then (λ (parts : _). parts.value)) (call-replies le.kind a h)
        ∙ sym ((asked-value le.kind a h).0 q))
    go WriteOp q = ap (λ k. event_value a k le) q

pub call-event : (es : List LineEvent) (s : ℕ) (le : LineEvent) (a : Asked) (ev : Event)
    → ev ≡ event_after (take s es) le → asked_by le.kind ≡ Some a → IsCallEvent es s le a ev
call-event es s le a ev is h =
    let x = asking (take s es) le a ev is (asked-call (take s es) le a h) in
    record { says = x; value = x.value ∙ value-of-call a le h }

-- a reply is of the call that its process has open
pub reply-event : (es : List LineEvent) → AreAccepted es → (t : ℕ) (le : LineEvent) (ev : Event)
    → IsLineAt es t ev le → is_some (replied_by le.kind) ≡ true
    → (s : ℕ) × (call : Event) × IsReplyTo es s t call ev
reply-event es acc t le ev at ends =
    let parts = reply-parts le.kind ends in
    let ended = reply-ends le.kind parts.0 parts.2 in
    let free = free-of (take t es) le at.free in
    let o = end-open (take t es) le parts.0 ended free in
    let x = open-at es t le.process o.0 o.1 in
    let a = x.0 in
    let c = x.1 in
    let call : Event = event_after (take c.place es) o.0 in
    let there = at-after [] es c.place o.0 c.there in
    let first = call-event es c.place o.0 a call refl c.asks in
    let says = asking (take t es) le a ev at.is (asked-end (take t es) le parts.0 a ended x.2) in
    let kept = number-later es c.place t o.0 a c.before c.there c.asks in (
      c.place,
      call,
      record {
        order = c.before;
        there = there;
        is_call = call-line (take c.place es) o.0 call refl ∙ ap is_some c.asks;
        process = first.says.process ∙ (c.process ∙ sym says.process);
        register = says.register ∙ (ap (λ n. Some (register_by n)) kept.1 ∙ sym first.says.register);
        kind = says.kind ∙ sym first.says.kind;
        written =
            λ w. says.value ∙ (ap (λ k. event_value a k le) (sym first.says.kind ∙ w) ∙ sym first.value);
        read = λ r.
            let k : a.kind ≡ ReadOp = sym first.says.kind ∙ r in
            let v =
            reply-value (take t es) le parts.0 a parts.2 x.2 free.has_value
            ((asked-value o.0.kind a c.asks).0 k) in (
              v.0,
              says.value
                  ∙ (ap (λ k. event_value a k le) k
                  ∙ (ap (option_and_then (λ (p : ReplyParts). p.value)) parts.2 ∙ v.1)),
            );
        between = λ u y l m h q. c.none_later u y l m h (q ∙ says.process);
      },
    )

-- ---- no value twice

place-below : (n : List ℕ) (names : List (List ℕ)) → position_or_len (bytes_eq n) names < length names
    → slice_get names (position_or_len (bytes_eq n) names) ≡ Some n
place-below n names l =
    elim (is-In n names) [
      | inl i ↦ (place-in n names i).1
      | inr f ↦ absurd (omega (arith, l, place-out n names f))
    ]

same-number : (names : List (List ℕ)) (m n : List ℕ) → In m names
    → position_or_len (bytes_eq m) names ≡ position_or_len (bytes_eq n) names → m ≡ n
same-number names m n i q =
    let a = place-in m names i in
    let b = place-below n names (subst (λ k. k < length names) q a.0) in
    let c = ap (slice_get names) q in
    let d = a.1 in
    let e : Some m ≡ Some n = sym d ∙ (c ∙ b) in
    cc (e)

value-fresh : (before : List LineEvent) (le : LineEvent) (name : List ℕ) (n : _) → le.kind ≡ CallWrite name n
    → value_written before le ≡ None
    → first_with (λ (w : LineEvent). writes_to name (Int n) w.kind) before ≡ None
value-fresh before le name n h k =
    none-of (first_with (λ (w : LineEvent). writes_to name (Int n) w.kind) before)
    (sym (ap (λ (x : Kind).
    option_and_then (λ (call : Asked).
    option_and_then
    (λ v. option_map (λ (w : LineEvent). refused le (WrittenBefore w.line))
    (first_with (λ (w : LineEvent). writes_to call.register v w.kind) before)) call.value)
    (asked_by x)) h) ∙ k)
  where
    none-of : (o : Option LineEvent)
        → option_map (λ (w : LineEvent). refused le (WrittenBefore w.line)) o ≡ None → o ≡ None
    none-of None e = refl
    none-of (Some x) e = absurd (cc (e))

writes-itself : (name : List ℕ) (n : _) (k : Kind) → k ≡ CallWrite name n → writes_to name (Int n) k ≡ true
writes-itself name n k h =
    ap (writes_to name (Int n)) h
    ∙ and_from (bytes_eq name name) _ ((bytes_eq-Decides name name).1 refl) ((Decides-int_eq n n).1 refl)

write-asked : (a : Asked) (ev : Event) → kind_in ev.what ≡ a.kind → writes (kind_in ev.what) ≡ true
    → a.kind ≡ WriteOp
write-asked a ev q w = go a.kind (ap writes (sym q) ∙ w)
  where
    go : (k : OpKind) → writes k ≡ true → k ≡ WriteOp
    go ReadOp h = absurd (false≢true h)
    go WriteOp h = refl

-- two write calls of one register and one value: not the earlier before the later
pub not-again : (es : List LineEvent) → AreAccepted es → (s t : ℕ) (c d : LineEvent) (e f : Event)
    → IsLineAt es s e c → IsLineAt es t f d → s < t → is_call c ≡ true → is_call d ≡ true
    → writes (kind_in e.what) ≡ true → writes (kind_in f.what) ≡ true
    → number_in e.register ≡ number_in f.register → e.value ≡ f.value → ⊥
not-again es acc s t c d e f at_s at_t lt call_c call_d we wf same value =
    let a = call-asks c.kind call_c in
    let b = call-asks d.kind call_d in
    let x = call-event es s c a.0 e at_s.is a.1 in
    let y = call-event es t d b.0 f at_t.is b.1 in
    let ka = (asked-value c.kind a.0 a.1).1 (write-asked a.0 e x.says.kind we) in
    let kb = (asked-value d.kind b.0 b.1).1 (write-asked b.0 f y.says.kind wf) in
    let kept = number-later es s t c a.0 lt at_s.there a.1 in
    let numbers : register_number (take t es) a.0.register ≡ register_number (take t es) b.0.register =
    kept.1 ∙ (sym x.says.number ∙ (same ∙ y.says.number)) in
    let names : a.0.register ≡ b.0.register =
    same-number (register_names (take t es)) a.0.register b.0.register kept.0 numbers in
    let values : Some (Int ka.0) ≡ Some (Int kb.0) = sym ka.2 ∙ (sym x.value ∙ (value ∙ (y.value ∙ kb.2))) in
    let n : ka.0 ≡ kb.0 = cc (values) in
    let fresh = value-fresh (take t es) d b.0.register kb.0 kb.1 (free-of (take t es) d at_t.free).new in
    let wrote : c.kind ≡ CallWrite b.0.register kb.0 =
    ka.1 ∙ (ap (λ r. CallWrite r ka.0) names ∙ ap (λ v. CallWrite b.0.register v) n) in
    first-none (λ (w : LineEvent). writes_to b.0.register (Int kb.0) w.kind) (take t es) fresh s c
    (take-get es t s lt ∙ at_s.there) (writes-itself b.0.register kb.0 c.kind wrote)

-- a written value is a number
pub write-value : (es : List LineEvent) (s : ℕ) (c : LineEvent) (e : Event) → IsLineAt es s e c
    → is_call c ≡ true → writes (kind_in e.what) ≡ true → (n : _) × (e.value ≡ Some (Int n))
write-value es s c e at call w =
    let a = call-asks c.kind call in
    let x = call-event es s c a.0 e at.is a.1 in
    let k = (asked-value c.kind a.0 a.1).1 (write-asked a.0 e x.says.kind w) in
    (k.0, x.value ∙ k.2)

-- a read's call has no value
pub read-call : (es : List LineEvent) (s : ℕ) (c : LineEvent) (e : Event) → IsLineAt es s e c
    → is_call c ≡ true → writes (kind_in e.what) ≡ false → e.value ≡ None
read-call es s c e at call r =
    let a = call-asks c.kind call in
    let x = call-event es s c a.0 e at.is a.1 in
    x.value ∙ (asked-value c.kind a.0 a.1).0 (reading a.0.kind (ap writes (sym x.says.kind) ∙ r))

-- ---- registers

-- each event's register has a name
pub register-below : (es : List LineEvent) → AreAccepted es → (s : ℕ) (c : LineEvent) (e : Event)
    → IsLineAt es s e c → is_call c ≡ true → number_in e.register < length (register_names es)
register-below es acc s c e at call =
    let a = call-asks c.kind call in
    let x = call-event es s c a.0 e at.is a.1 in
    let end : s < length es + suc s = omega arith in
    let kept = number-later es s (length es + suc s) c a.0 end at.there a.1 in
    let all : take (length es + suc s) es ≡ es = take_all (length es + suc s) es (omega arith) in
    let i : In a.0.register (register_names es) =
    subst (λ xs. In a.0.register (register_names xs)) all kept.0 in
    let n : register_number es a.0.register ≡ number_in e.register =
    ap (λ xs. register_number xs a.0.register) (sym all) ∙ (kept.1 ∙ sym x.says.number) in
    subst (λ k. k < length (register_names es)) n (place-in a.0.register (register_names es) i).0

-- the register of any event has a name: a reply's and a fail's is that of the open call
pub register-named : (es : List LineEvent) → AreAccepted es → (t : ℕ) (le : LineEvent) (ev : Event)
    → IsLineAt es t ev le → (r : ℕ) → by_register ev ≡ Some r → r < length (register_names es)
register-named es acc t le ev at r h = by_call (is_call le) refl
  where
    known : number_in ev.register ≡ r
    known = number-known ev r h

    by_end : asked_by le.kind ≡ None → (o : Option ReplyParts) → ended_by le.kind ≡ o
        → r < length (register_names es)
    by_end none None q =
        let asked =
        ap (λ o. option_or o
        (option_and_then (λ (_ : ReplyParts). open_asked (take t es) le.process) (ended_by le.kind)))
        none ∙ ap (option_and_then (λ (_ : ReplyParts). open_asked (take t es) le.process)) q in
        let register =
        ap (λ (x : Event). x.register) at.is
        ∙ ap (option_map {U = RegId} (λ (c : Asked).
        record { 0 = register_number (take t es) c.register })) asked in
        let w : by_register ev ≡ None = ap (option_map {U = ℕ} (λ (n : RegId). n.0)) register in
        absurd (cc (w, h))
    by_end none (Some parts) q =
        let free = free-of (take t es) le at.free in
        let o = end-open (take t es) le parts q free in
        let x = open-at es t le.process o.0 o.1 in
        let a = x.0 in
        let c = x.1 in
        let call : Event = event_after (take c.place es) o.0 in
        let first = call-event es c.place o.0 a call refl c.asks in
        let says = asking (take t es) le a ev at.is (asked-end (take t es) le parts a q x.2) in
        let kept = number-later es c.place t o.0 a c.before c.there c.asks in
        let below =
        register-below es acc c.place o.0 call (record {
          there = c.there;
          is = refl;
          free = accepted-at es acc c.place o.0 c.there;
        }) (ap is_some c.asks) in
        omega (arith, below, known, says.number, kept.1, first.says.number)

    by_asked : (o : Option Asked) → asked_by le.kind ≡ o → is_some o ≡ false → r < length (register_names es)
    by_asked None q n = by_end q (ended_by le.kind) refl
    by_asked (Some a) q n = absurd (false≢true (sym n))

    by_call : (b : Bool) → is_call le ≡ b → r < length (register_names es)
    by_call true c = let l = register-below es acc t le ev at c in omega (arith, l, known)
    by_call false c = by_asked (asked_by le.kind) refl c
