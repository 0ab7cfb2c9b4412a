-- The arena's events against the lines' events: the call that a process has
-- open, and the call that wrote a value before.
use Rattle.std.proofs.Common.{◌≡◌, ℕ, ℤ, zero, suc, ◌<◌, ◌&&◌, cond, Bool, true, false, List}
use Rattle.std.proofs.Common.{[], ◌∷◌, length, take, slice_get, Option, Some, None, inl, inr}
use Rattle.std.proofs.Common.{refl, sym, ap, subst, ◌∙◌, arith, is_some, option_and_then}
use Rattle.std.specs.Prelude.{bytes_eq}
use Rattle.std.specs.Option.{option_or}
use Rattle.std.proofs.lemmas.Bool.{cases_order, eq-eqb, eqb-true, false≢true, and_parts}
use Rattle.std.proofs.lemmas.Bool.Decides.{Decides-int_eq}
use Rattle.std.proofs.lemmas.Slice.Eq.{bytes_eq-Decides}
use Rattle.std.proofs.lemmas.Option.{slice_get_within}
use Rattle.std.proofs.lemmas.List.{take_all}
use Rattle.history_text.specs.Values.{value_eq}
use Rattle.history_text.specs.declared.event.Val.{Val}
use Rattle.history_text.specs.declared.event.Val.TheVariants.{Null, Int}
use Rattle.history_text.specs.declared.event.OpKind.{OpKind}
use Rattle.history_text.specs.declared.event.OpKind.TheVariants.{ReadOp, WriteOp}
use Rattle.history_text.specs.declared.event.LineEvent.{LineEvent}
use Rattle.history_text.specs.declared.event.Kind.{Kind}
use Rattle.history_text.specs.declared.event.Kind.TheVariants.{CallRead, CallWrite, Reply, Fail, Crash}
use Rattle.history_model.specs.Lists.{In, last_with, first_with}
use Rattle.history_model.specs.Events.{Asked, asked_by, is_call, is_crash, is_crash_kind}
use Rattle.history_model.specs.Events.{is_of_process, open_call, open_asked, crashed_at}
use Rattle.history_model.specs.Refusals.{AreAccepted, writes_to}
use Rattle.history_model.specs.History.{history_of, event_after, register_names, register_number, what_by}
use Rattle.history_model.specs.Walking.{key_at, by_process, by_value}
use Rattle.reg_arena.specs.Lists.EventLists.{IsLastOf, by_write}
use Rattle.reg_arena.specs.Step.{IsOpenCall, IsStanding, IsNumber, IsWritten}
use Rattle.reg_arena.specs.declared.process_standing.Open.{Open}
use Rattle.reg_arena.specs.declared.process_standing.Standing.TheVariants.{Crashed, Free}
use Rattle.history_model.specs.Operations.{is_a_call, kind_in, number_in}
use Rattle.history_model.specs.declared.ids.RegId.{RegId}
use Rattle.history_model.specs.declared.event.What.TheVariants.{Call, Crash as Crashes}
use Rattle.history_model.specs.declared.ids.EvId.{EvId}
use Rattle.history_model.specs.declared.event.Event.{Event}
use Rattle.history_model.proofs.Numbers.{is-In, place-in, place-out}
use Rattle.history_model.proofs.Accepted.{last-some, IsLineAt, IsLastPassing, line-at}
use Rattle.history_model.proofs.Accepted.{at-after, asked-value, call-asks, call-line}
use Rattle.history_model.proofs.Turns.{IsCallEvent, call-event, number-later}
use Rattle.reg_arena.proofs.ListLemmas.Append.{write-call, write-value}
use Rattle.reg_arena.proofs.ListLemmas.ByValue.{key-by, key-parts}
use Rattle.history_model.proofs.Walking.{number-known}

-- ---- the last and the first of a list

all-none : {X : Type 0} (test : X → Bool) (xs : List X)
    → ((u : ℕ) (y : X) → slice_get xs u ≡ Some y → test y ≡ true → ⊥) → last_with test xs ≡ None
all-none test [] h = refl
all-none {X} test (x ∷ xs) h = go (test x) refl (all-none test xs (λ u y q. h (suc u) y q))
  where
    go : (b : Bool) → test x ≡ b → last_with test xs ≡ None
        → option_or (last_with test xs) (cond b (Some x) None) ≡ None
    go true d e = absurd (h 0 x refl d)
    go false d e = ap (λ o. option_or o None) e

last-is : {X : Type 0} (test : X → Bool) (xs : List X) (i : ℕ) (x : X) → slice_get xs i ≡ Some x
    → test x ≡ true → ((u : ℕ) (y : X) → i < u → slice_get xs u ≡ Some y → test y ≡ true → ⊥)
    → last_with test xs ≡ Some x
last-is test [] i x at t h = absurd (cc (at))
last-is test (z ∷ zs) zero x at t h =
    let s : z ≡ x = cc (at) in
    ap (λ o. option_or o (cond (test z) (Some z) None))
    (all-none test zs (λ u y q d. h (suc u) y (omega arith) q d))
    ∙ (ap (λ b. cond b (Some z) None) (ap test s ∙ t) ∙ ap Some s)
last-is test (z ∷ zs) (suc i) x at t h =
    ap (λ o. option_or o (cond (test z) (Some z) None))
    (last-is test zs i x at t (λ u y l q d. h (suc u) y (omega arith) q d))

none-first : {X : Type 0} (test : X → Bool) (xs : List X)
    → ((u : ℕ) (y : X) → slice_get xs u ≡ Some y → test y ≡ true → ⊥) → first_with test xs ≡ None
none-first test [] h = refl
none-first {X} test (x ∷ xs) h = go (test x) refl (none-first test xs (λ u y q. h (suc u) y q))
  where
    go : (b : Bool) → test x ≡ b → first_with test xs ≡ None → cond b (Some x) (first_with test xs) ≡ None
    go true d e = absurd (h 0 x refl d)
    go false d e = e

first-is : {X : Type 0} (test : X → Bool) (xs : List X) (i : ℕ) (x : X) → slice_get xs i ≡ Some x
    → test x ≡ true → ((u : ℕ) (y : X) → u < i → slice_get xs u ≡ Some y → test y ≡ true → ⊥)
    → first_with test xs ≡ Some x
first-is test [] i x at t h = absurd (cc (at))
first-is test (z ∷ zs) zero x at t h =
    let s : z ≡ x = cc (at) in ap (λ b. cond b (Some z) (first_with test zs)) (ap test s ∙ t) ∙ ap Some s
first-is {X} test (z ∷ zs) (suc i) x at t h =
    go (test z) refl (first-is test zs i x at t (λ u y l q d. h (suc u) y (omega arith) q d))
  where
    go : (b : Bool) → test z ≡ b → first_with test zs ≡ Some x → cond b (Some z) (first_with test zs) ≡ Some x
    go true d e = absurd (h 0 z (omega arith) refl d)
    go false d e = e

-- ---- one place of both lists

module _ (es : List LineEvent) (acc : AreAccepted es) where
  -- the event of a line's event
  event-of : (i : ℕ) (le : LineEvent) → slice_get es i ≡ Some le
      → slice_get (history_of es).events i ≡ Some (event_after (take i es) le)
  event-of i le at = at-after [] es i le at

  line-process : (p : ℕ) (i : ℕ) (le : LineEvent) → slice_get es i ≡ Some le → le.process ≡ p
      → key_at by_process (history_of es).events i ≡ Some p
  line-process p i le at q = ap (option_and_then by_process) (event-of i le at) ∙ ap Some q

  process-line : (p : ℕ) (i : ℕ) → key_at by_process (history_of es).events i ≡ Some p
      → (ev : Event) × (le : LineEvent) × IsLineAt es i ev le × (le.process ≡ p)
      × (slice_get (history_of es).events i ≡ Some ev)
  process-line p i h = go (slice_get (history_of es).events i) refl h
    where
      go : (o : Option Event) → slice_get (history_of es).events i ≡ o → option_and_then by_process o ≡ Some p
          → (ev : Event) × (le : LineEvent) × IsLineAt es i ev le × (le.process ≡ p)
          × (slice_get (history_of es).events i ≡ Some ev)
      go None at q = absurd (cc (q))
      go (Some ev) at q =
          let l = line-at es acc i ev at in
          let w : ev.process ≡ p = cc (q) in
          (ev, l.0, l.1, sym (ap (λ (x : Event). x.process) l.1.is) ∙ w, at)

  -- ---- how a process stands

  -- the last event of a process, on the lines
  line-last : (p : ℕ) (j : EvId) → IsLastOf by_process (history_of es).events p (Some j)
      → (ev : Event) × (c : LineEvent) × IsLineAt es j.0 ev c × (c.process ≡ p)
      × (slice_get (history_of es).events j.0 ≡ Some ev) × (last_with (is_of_process p) es ≡ Some c)
  line-last p j h =
      let x = process-line p j.0 h.0 in (
        x.0,
        x.1,
        x.2,
        x.3,
        x.4,
        last-is (is_of_process p) es j.0 x.1 x.2.there (eq-eqb _ _ x.3) (λ u y lt at q.
            let w = h.1 u (line-process p u y at (eqb-true _ _ q)) in omega arith),
      )

  -- the open call and its event
  pub record IsOpenEvent (p : ℕ) (o : Open) (c : LineEvent) (a : Asked) : Type 0 where
    pub before : slice_get es o.call.0 ≡ Some c
    pub asks : asked_by c.kind ≡ Some a
    pub opened : open_call es p ≡ Some c
    pub asked : open_asked es p ≡ Some a
    pub free : crashed_at es p ≡ None
    pub process : c.process ≡ p
    pub line : (ev : Event) → slice_get (history_of es).events o.call.0 ≡ Some ev → ev.line ≡ c.line
    pub register : o.register.0 ≡ register_number (take o.call.0 es) a.register
    pub kind : o.kind ≡ a.kind
    pub value : o.value ≡ a.value

  pub open-some : (p : ℕ) (o : Open) → IsOpenCall (history_of es).events p o
      → (c : LineEvent) × (a : Asked) × IsOpenEvent p o c a
  open-some p o h =
      let x = line-last p o.call h.last in
      let ev = x.0 in
      let c = x.1 in
      let l = x.2 in
      let there = x.4 in
      let was = h.there in
      let same : h.event ≡ ev = cc (was, there) in
      let what : ev.what ≡ Call o.kind = ap (λ (z : Event). z.what) (sym same) ∙ h.what in
      let ends : is_call c ≡ true = sym (call-line (take o.call.0 es) c ev l.is) ∙ ap is_a_call what in
      let a = call-asks c.kind ends in
      let says = call-event es o.call.0 c a.0 ev l.is a.1 in
      let is : open_call es p ≡ Some c =
      ap (option_and_then (λ (e : LineEvent). cond (is_call e) (Some e) None)) x.5
      ∙ ap (λ b. cond b (Some c) None) ends in
      let register : ev.register ≡ Some o.register = ap (λ (z : Event). z.register) (sym same) ∙ h.register in
      let both = says.says.register in
      let number : o.register ≡ record { 0 = register_number (take o.call.0 es) a.0.register } =
      cc (register, both) in (
        c,
        a.0,
        record {
          before = l.there;
          asks = a.1;
          opened = is;
          asked = ap (option_and_then (λ (e : LineEvent). asked_by e.kind)) is ∙ a.1;
          free =
              ap (option_and_then (λ (e : LineEvent). cond (is_crash e) (Some e) None)) x.5
              ∙ ap (λ b. cond b (Some c) None) (call-no_crash c.kind ends);
          process = x.3;
          line =
              λ z at. let s : ev ≡ z =
              cc (there, at) in sym (ap (λ (z : Event). z.line) s) ∙ ap (λ (z : Event). z.line) l.is;
          register = ap (λ (r : RegId). r.0) number;
          kind = sym (ap kind_in what) ∙ says.says.kind;
          value = sym h.value ∙ (ap (λ (z : Event). z.value) same ∙ says.value);
        },
      )
    where
      call-no_crash : (k : Kind) → is_some (asked_by k) ≡ true → is_crash_kind k ≡ false
      call-no_crash (CallRead name) h = refl
      call-no_crash (CallWrite name n) h = refl
      call-no_crash (Reply parts) h = refl
      call-no_crash (Fail parts) h = refl
      call-no_crash Crash h = absurd (false≢true h)

  -- a crash, and its line
  pub crashed-some : (p : ℕ) (j : EvId) → IsStanding (history_of es).events p (Crashed j)
      → (c : LineEvent) × (crashed_at es p ≡ Some c) × (open_call es p ≡ None)
      × ((ev : Event) → slice_get (history_of es).events j.0 ≡ Some ev → ev.line ≡ c.line)
  crashed-some p j h =
      let x = line-last p j h.0 in
      let ev = x.0 in
      let c = x.1 in
      let l = x.2 in
      let there = x.4 in
      let was = h.1.1 in
      let same : h.1.0 ≡ ev = cc (was, there) in
      let what : ev.what ≡ Crashes = ap (λ (z : Event). z.what) (sym same) ∙ h.1.2 in
      let none : is_call c ≡ false = sym (call-line (take j.0 es) c ev l.is) ∙ ap is_a_call what in
      let crash = what-crash c.kind _ (sym (ap (λ (z : Event). z.what) l.is) ∙ what) in (
        c,
        ap (option_and_then (λ (e : LineEvent). cond (is_crash e) (Some e) None)) x.5
            ∙ ap (λ b. cond b (Some c) None) crash,
        ap (option_and_then (λ (e : LineEvent). cond (is_call e) (Some e) None)) x.5
            ∙ ap (λ b. cond b (Some c) None) none,
        λ z at. let s : ev ≡ z =
            cc (there, at) in sym (ap (λ (z : Event). z.line) s) ∙ ap (λ (z : Event). z.line) l.is,
      )
    where
      what-crash : (k : Kind) (kind : OpKind) → what_by kind k ≡ Crashes → is_crash_kind k ≡ true
      what-crash (CallRead name) kind h = absurd (cc (h))
      what-crash (CallWrite name n) kind h = absurd (cc (h))
      what-crash (Reply parts) kind h = absurd (cc (h))
      what-crash (Fail parts) kind h = absurd (cc (h))
      what-crash Crash kind h = refl

  -- neither
  pub free-none : (p : ℕ) → IsStanding (history_of es).events p Free
      → (open_call es p ≡ None) × (crashed_at es p ≡ None)
  free-none p h = go (last_with (is_of_process p) es) refl
    where
      is-last : (l : LineEvent) (r : IsLastPassing (is_of_process p) es l)
          → IsLastOf by_process (history_of es).events p (Some (record { 0 = r.place }))
      is-last l r = (
        line-process p r.place l r.there (eqb-true _ _ r.passes),
        λ i k.
            let x = process-line p i k in
            elim (cases_order i r.place) [
              | inl w ↦ omega arith
              | inr w ↦ elim w [
                | inl less ↦ omega arith
                | inr more ↦ absurd (r.none_later i x.1 more x.2.there (eq-eqb _ _ x.3))
              ]
            ],
      )

      by_call : (l : LineEvent) → last_with (is_of_process p) es ≡ Some l → (b : Bool) → is_call l ≡ b
          → cond b (Some l) None ≡ None
      by_call l e false q = refl
      by_call l e true q =
          let r = last-some (is_of_process p) es l e in
          let at = event-of r.place l r.there in
          absurd ((h (record { 0 = r.place }) (is-last l r)).0 (
            event_after (take r.place es) l,
            at,
            call-line (take r.place es) l _ refl ∙ q,
          ))

      by_crash : (l : LineEvent) → last_with (is_of_process p) es ≡ Some l → (b : Bool) → is_crash l ≡ b
          → cond b (Some l) None ≡ None
      by_crash l e false q = refl
      by_crash l e true q =
          let r = last-some (is_of_process p) es l e in
          let at = event-of r.place l r.there in
          absurd ((h (record { 0 = r.place }) (is-last l r)).1 (
            event_after (take r.place es) l,
            at,
            crash-what l.kind _ q,
          ))
        where
          crash-what : (k : Kind) (kind : OpKind) → is_crash_kind k ≡ true → what_by kind k ≡ Crashes
          crash-what (CallRead name) kind h = absurd (false≢true h)
          crash-what (CallWrite name n) kind h = absurd (false≢true h)
          crash-what (Reply parts) kind h = absurd (false≢true h)
          crash-what (Fail parts) kind h = absurd (false≢true h)
          crash-what Crash kind h = refl

      go : (o : Option LineEvent) → last_with (is_of_process p) es ≡ o
          → (open_call es p ≡ None) × (crashed_at es p ≡ None)
      go None e = (
        ap (option_and_then (λ (e : LineEvent). cond (is_call e) (Some e) None)) e,
        ap (option_and_then (λ (e : LineEvent). cond (is_crash e) (Some e) None)) e,
      )
      go (Some l) e = (
        ap (option_and_then (λ (e : LineEvent). cond (is_call e) (Some e) None)) e
            ∙ by_call l e (is_call l) refl,
        ap (option_and_then (λ (e : LineEvent). cond (is_crash e) (Some e) None)) e
            ∙ by_crash l e (is_crash l) refl,
      )

  -- ---- the names

  -- a name that is called among the events has a number from then on
  pub number-stays : (i : ℕ) (c : LineEvent) (a : Asked) → slice_get es i ≡ Some c → asked_by c.kind ≡ Some a
      → In a.register (register_names es)
      × (register_number es a.register ≡ register_number (take i es) a.register)
  number-stays i c a at asks =
      let l = slice_get_within es i c at in
      subst (λ (xs : List LineEvent). In a.register (register_names xs)
      × (register_number xs a.register ≡ register_number (take i es) a.register))
      (take_all (length es) es (omega arith)) (number-later es i (length es) c a l at asks)

  -- the name at the number of an open call's register
  pub name-at : (p : ℕ) (o : Open) (c : LineEvent) (a : Asked) → IsOpenEvent p o c a
      → slice_get (register_names es) o.register.0 ≡ Some a.register
  name-at p o c a i =
      let n = number-stays o.call.0 c a i.before i.asks in
      ap (slice_get (register_names es)) (i.register ∙ sym n.1)
      ∙ (place-in a.register (register_names es) n.0).1

  -- ---- the call that wrote a value before

  -- a call that writes the value to the name has the key
  written-key : (name : List ℕ) (v : Val) (i : ℕ) (c : LineEvent) → slice_get es i ≡ Some c
      → writes_to name v c.kind ≡ true
      → In name (register_names es)
      × (key_at by_write (history_of es).events i ≡ Some (register_number es name, v))
  written-key name v i c at w = go c.kind refl w
    where
      value-is : (n : ℤ) (v : Val) → value_eq (Int n) v ≡ true → v ≡ Int n
      value-is n Null h = absurd (false≢true h)
      value-is n (Int m) h = ap Int (sym ((Decides-int_eq n m).0 h))

      go : (k : Kind) → c.kind ≡ k → writes_to name v k ≡ true
          → In name (register_names es)
          × (key_at by_write (history_of es).events i ≡ Some (register_number es name, v))
      go (CallRead m) q h = absurd (false≢true h)
      go (Reply parts) q h = absurd (false≢true h)
      go (Fail parts) q h = absurd (false≢true h)
      go Crash q h = absurd (false≢true h)
      go (CallWrite m n) q h =
          let t = and_parts (bytes_eq m name) (value_eq (Int n) v) h in
          let e : m ≡ name = (bytes_eq-Decides m name).0 t.0 in
          let x : v ≡ Int n = value-is n v t.1 in
          let a : Asked = record { register = m; kind = WriteOp; value = Some (Int n) } in
          let asks : asked_by c.kind ≡ Some a = ap asked_by q in
          let s = number-stays i c a at asks in
          let f = call-event es i c a (event_after (take i es) c) refl asks in
          let call : is_a_call (event_after (take i es) c).what ≡ true =
          call-line (take i es) c (event_after (take i es) c) refl ∙ ap is_some asks in
          let value : by_value (event_after (take i es) c) ≡ Some (register_number es name, v) =
          key-by (event_after (take i es) c) _ (Int n) f.says.register f.value
          ∙ (ap (λ r. Some (r, Int n)) (sym s.1)
          ∙ (ap (λ z. Some (register_number es z, Int n)) e
          ∙ ap (λ z. Some (register_number es name, z)) (sym x))) in (
            subst (λ z. In z (register_names es)) e s.0,
            ap (option_and_then by_write) (event-of i c at)
                ∙ (ap (λ b. cond b (by_value (event_after (take i es) c)) None) call ∙ value),
          )

  key-written : (name : List ℕ) (v : Val) (i : ℕ) → In name (register_names es)
      → key_at by_write (history_of es).events i ≡ Some (register_number es name, v)
      → (c : LineEvent) × (slice_get es i ≡ Some c) × (writes_to name v c.kind ≡ true)
      × ((ev : Event) → slice_get (history_of es).events i ≡ Some ev → ev.line ≡ c.line)
  key-written name v i there h = go (slice_get (history_of es).events i) refl h
    where
      value-of : (e : Event) → by_value e ≡ Some (register_number es name, v)
          → (number_in e.register ≡ register_number es name) × (e.value ≡ Some v)
      value-of e q =
          let p =
          key-parts e (register_number es name, v) q in
          (number-known e (register_number es name) p.0, p.1)

      same-name : (m : List ℕ) → In m (register_names es) → register_number es m ≡ register_number es name
          → m ≡ name
      same-name m i q =
          let a = (place-in m (register_names es) i).1 in
          let b = (place-in name (register_names es) there).1 in
          let c = ap (slice_get (register_names es)) q in
          cc (a, b, c)

      writes-same : (n : ℤ) (k : Kind) → k ≡ CallWrite name n → writes_to name (Int n) k ≡ true
      writes-same n k q =
          ap (writes_to name (Int n)) q
          ∙ (ap (λ b. b && value_eq (Int n) (Int n)) ((bytes_eq-Decides name name).1 refl)
          ∙ (Decides-int_eq n n).1 refl)

      by_asked : (ev : Event) (c : LineEvent) (a : Asked) → IsLineAt es i ev c → asked_by c.kind ≡ Some a
          → IsCallEvent es i c a ev → (number_in ev.register ≡ register_number es name) × (ev.value ≡ Some v)
          → (k : OpKind) → a.kind ≡ k → writes_to name v c.kind ≡ true
      by_asked ev c a l asks says w ReadOp q =
          absurd (let none = (asked-value c.kind a asks).0 q in let x = says.value in let y = w.1 in
          cc (none, x, y))
      by_asked ev c a l asks says w WriteOp q =
          let t = (asked-value c.kind a asks).1 q in
          let s = number-stays i c a l.there asks in
          let e : a.register ≡ name = same-name a.register s.0 (s.1 ∙ (sym says.says.number ∙ w.0)) in
          let x = says.value in
          let y = w.1 in
          let z = t.2 in
          let n : v ≡ Int t.0 = cc (x, y, z) in
          ap (λ u. writes_to name u c.kind) n ∙ writes-same t.0 c.kind (t.1 ∙ ap (λ m. CallWrite m t.0) e)

      go : (o : Option Event) → slice_get (history_of es).events i ≡ o
          → option_and_then by_write o ≡ Some (register_number es name, v)
          → (c : LineEvent) × (slice_get es i ≡ Some c) × (writes_to name v c.kind ≡ true)
          × ((ev : Event) → slice_get (history_of es).events i ≡ Some ev → ev.line ≡ c.line)
      go None at q = absurd (cc (q))
      go (Some ev) at q =
          let l = line-at es acc i ev at in
          let c = l.0 in
          let call : is_call c ≡ true = sym (call-line (take i es) c ev l.1.is) ∙ write-call ev _ q in
          let a = call-asks c.kind call in
          let says = call-event es i c a.0 ev l.1.is a.1 in (
            c,
            l.1.there,
            by_asked ev c a.0 l.1 a.1 says (value-of ev (write-value ev _ q)) a.0.kind refl,
            λ z k. let s : ev ≡ z =
                cc (at, k) in sym (ap (λ (z : Event). z.line) s) ∙ ap (λ (z : Event). z.line) l.1.is,
          )

  -- no call wrote the value before
  pub written-none : (name : List ℕ) (number : Option ℕ) (v : Val) → IsNumber (register_names es) name number
      → IsWritten (history_of es).events number (Some v) None
      → first_with (λ (w : LineEvent). writes_to name v w.kind) es ≡ None
  written-none name None v n h =
      none-first (λ (w : LineEvent). writes_to name v w.kind) es (λ u y at q.
      let k =
      written-key name v u y at q in let p =
      (place-in name (register_names es) k.0).0 in omega (arith, p, n))
  written-none name (Some r) v n h =
      none-first (λ (w : LineEvent). writes_to name v w.kind) es (λ u y at q.
      h u (omega arith) ((written-key name v u y at q).1 ∙ ap (λ m. Some (m, v)) n.0))

  -- the call at place j did
  pub written-some : (name : List ℕ) (number : Option ℕ) (v : Val) (j : EvId)
      → IsNumber (register_names es) name number → IsWritten (history_of es).events number (Some v) (Some j)
      → (c : LineEvent) × (first_with (λ (w : LineEvent). writes_to name v w.kind) es ≡ Some c)
      × ((ev : Event) → slice_get (history_of es).events j.0 ≡ Some ev → ev.line ≡ c.line)
  written-some name None v j n h = absurd (cc (h))
  written-some name (Some r) v j n h =
      let there : In name (register_names es) =
      elim (is-In name (register_names es)) [
        | inl i ↦ i
        | inr f ↦ absurd (omega (arith, n.0, n.1, place-out name (register_names es) f))
      ] in
      let k = key-written name v j.0 there (h.1 ∙ ap (λ m. Some (m, v)) (sym n.0)) in (
        k.0,
        first-is (λ (w : LineEvent). writes_to name v w.kind) es j.0 k.0 k.1 k.2 (λ u y lt at q.
            h.2 u (omega arith) lt ((written-key name v u y at q).1 ∙ ap (λ m. Some (m, v)) n.0)),
        k.3,
      )
