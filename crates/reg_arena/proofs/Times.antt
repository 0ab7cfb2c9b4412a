-- The times and the write of a register's value, by the entry in the arena.
use Rattle.std.proofs.Common.{◌≡◌, ℕ, ◌<◌, nat_lt, cond, Bool, true, false, length, take, slice_get, Option}
use Rattle.std.proofs.Common.{Some, None, List, refl, sym, ap, subst, ◌∙◌, arith, option_map, option_and_then}
use Rattle.history_text.specs.declared.limits.TheConstants.{MAX_EVENTS}
use Rattle.history_text.specs.declared.event.Val.{Val}
use Rattle.history_text.specs.declared.event.Val.TheVariants.{Null, Int}
use Rattle.reg_arena.specs.Lists.EventLists.{events_in, calls_in}
use Rattle.history_model.specs.History.{History, IsRecorded, asked_for, event_value}
use Rattle.history_model.specs.Events.{Asked}
use Rattle.history_text.specs.declared.event.LineEvent.{LineEvent}
use Rattle.history_model.proofs.Accepted.{IsLineAt, line-at, asking}
use Rattle.history_model.specs.Walking.{IsFirstOf, key_at, by_register, by_value}
use Rattle.history_model.specs.OfValue.{IsLastCall, IsFirstReply}
use Rattle.reg_arena.specs.Lists.EventLists.{AreEventLists, IsCallOf, IsLastRead}
use Rattle.reg_arena.specs.ValueTimes.{HasTimes}
use Rattle.reg_arena.specs.Lists.EventLists.{by_read, by_reply, by_write, later}
use Rattle.reg_arena.specs.ValueTimes.{last_time}
use Rattle.reg_arena.specs.Lists.EventLists.{entry_in, write_called, write_kept}
use Rattle.reg_arena.specs.ValueTimes.{reply_time}
use Rattle.history_model.specs.declared.ids.EvId.{EvId}
use Rattle.history_model.specs.declared.event.Event.{Event}
use Rattle.reg_arena.specs.declared.event_lists.list_ends.Entry.{Entry}
use Rattle.reg_arena.specs.declared.event_lists.list_ends.Write.{Write}
use Rattle.reg_arena.specs.declared.event_lists.list_ends.Write.TheVariants.{Unwritten, Written, Failed}
use Rattle.reg_arena.specs.declared.event_lists.lists.EventLists.{EventLists}
use Rattle.reg_arena.proofs.ListLemmas.Append.{key-along, key-within, read-value}
use Rattle.reg_arena.proofs.ListLemmas.KeptWrite.{kept-none, kept-write}
use Rattle.reg_arena.proofs.ListLemmas.ByValue.{key-by, key-parts, key-register}
use Rattle.history_model.proofs.Named.{event-register}
use Rattle.reg_arena.proofs.OfValue.{last-call_is, first-reply_null, first-reply_none, first-reply_entry}
use Rattle.history_model.proofs.Lists.{slice_get_inside}

pub null-int : (n : _) → Int n ≡ Null → ⊥
null-int n h = cc (h)

-- what didn't fail was called
kept-called : (w : Write) (id : EvId) → write_kept w ≡ Some id → write_called w ≡ Some id
kept-called Unwritten id h = absurd (cc (h))
kept-called (Written w) id h = h
kept-called (Failed w) id h = absurd (cc (h))

-- the later of two fits where both do
pub later-fits : (a b : Option EvId) → ((id : EvId) → a ≡ Some id → id.0 < MAX_EVENTS)
    → ((id : EvId) → b ≡ Some id → id.0 < MAX_EVENTS) → (id : EvId) → later a b ≡ Some id → id.0 < MAX_EVENTS
later-fits None b f g id h = g id h
later-fits (Some a) None f g id h = f id h
later-fits (Some a) (Some b) f g id h = go (nat_lt a.0 b.0) h
  where
    go : (t : Bool) → Some (cond t b a) ≡ Some id → id.0 < MAX_EVENTS
    go true h = g id h
    go false h = f id h

-- the times of an entry fit
pub has-times : (t : EventLists) → AreEventLists t → (k : ℕ × Val) (y : Entry)
    → entry_in t k ≡ Some y → HasTimes y
has-times t a k y q =
    let e = a.entries k y q in
    record {
      write =
          λ id r. let f =
          subst (IsFirstOf by_write (events_in t) k) (kept-called y.write id r) e.write in let w =
          key-within by_write (events_in t) id.0 k f.1 in omega (arith, w, a.room);
      read = λ id r. read id (subst (IsLastRead (events_in t) (calls_in t) k) r e.read);
      reply =
          λ id r. let f =
          subst (IsFirstOf by_reply (events_in t) k) r e.reply in let w =
          key-within by_reply (events_in t) id.0 k f.1 in omega (arith, w, a.room);
    }
  where
    read : (id : EvId) → IsLastRead (events_in t) (calls_in t) k (Some id) → id.0 < MAX_EVENTS
    read id l =
        let i = l.0.0 in
        let w = key-within by_read (events_in t) i k l.0.1 in
        let e = slice_get_inside (events_in t) i w in
        let c = subst (IsCallOf (events_in t) i e.0) l.0.2 (a.calls i e.0 e.1) in
        let o = c.1.order in
        omega (arith, w, o, a.room)

module _ (names : List (List ℕ)) (t : EventLists) (a : AreEventLists t)
    (rec : IsRecorded (record { names = names; events = events_in t })) where
  no-event : (k : ℕ × Val) → entry_in t k ≡ None → (i : ℕ)
      → key_at by_value (events_in t) i ≡ Some k → ⊥
  no-event k q i h = a.values.none k (ap (option_map (λ (y : Entry). y.ends)) q) i h

  pub last-time : (k : ℕ × Val) → k.0 < length names
      → IsLastCall (record { names = names; events = events_in t }) k.0 k.1
      (last_time k.1 (entry_in t k))
  last-time k l = go (entry_in t k) refl
    where
      go : (o : Option Entry) → entry_in t k ≡ o
          → IsLastCall (record { names = names; events = events_in t }) k.0 k.1
          (last_time k.1 (entry_in t k))
      go (Some y) q =
          subst (λ o. IsLastCall (record { names = names; events = events_in t }) k.0 k.1
          (last_time k.1 o)) (sym q)
          (last-call_is (record { names = names; events = events_in t }) rec k (calls_in t) a.calls
          (write_kept y.write) y.last_read l (kept-write t a k y q) (a.entries k y q).read)
      go None q =
          subst (λ o. IsLastCall (record { names = names; events = events_in t }) k.0 k.1
          (last_time k.1 o)) (sym q)
          (last-call_is (record { names = names; events = events_in t }) rec k (calls_in t) a.calls None
          None l (kept-none t a k q)
          (λ i x. no-event k q i (key-along by_read by_value (events_in t) k (λ e. read-value e k) i x)))

  pub first-time : (k : ℕ × Val) → k.0 < length names
      → IsFirstReply (record { names = names; events = events_in t }) k.0 k.1
      (reply_time k.1 (entry_in t k))
  first-time k l = go k.1 refl (entry_in t k) refl
    where
      go : (v : Val) → k.1 ≡ v → (o : Option Entry) → entry_in t k ≡ o
          → IsFirstReply (record { names = names; events = events_in t }) k.0 k.1
          (reply_time k.1 (entry_in t k))
      go Null w o q =
          subst (λ v. IsFirstReply (record { names = names; events = events_in t }) k.0 k.1
          (reply_time v (entry_in t k))) (sym w)
          (first-reply_null (record { names = names; events = events_in t }) rec k w l)
      go (Int n) w None q =
          subst (λ v. IsFirstReply (record { names = names; events = events_in t }) k.0 k.1
          (reply_time v (entry_in t k))) (sym w)
          (subst (λ o. IsFirstReply (record { names = names; events = events_in t }) k.0 k.1
          (reply_time (Int n) o)) (sym q)
          (first-reply_none (record { names = names; events = events_in t }) rec k (no-event k q)
          (λ z. null-int n (sym w ∙ z))))
      go (Int n) w (Some y) q =
          subst (λ v. IsFirstReply (record { names = names; events = events_in t }) k.0 k.1
          (reply_time v (entry_in t k))) (sym w)
          (subst (λ o. IsFirstReply (record { names = names; events = events_in t }) k.0 k.1
          (reply_time (Int n) o)) (sym q)
          (first-reply_entry (record { names = names; events = events_in t }) rec k y.first_reply
          (λ z. null-int n (sym w ∙ z)) (a.entries k y q).reply))

-- the register of an event with a value has a name
pub key-known : (h : History) → IsRecorded h → (i : ℕ) (k : ℕ × Val) → key_at by_value h.events i ≡ Some k
    → k.0 < length h.names
key-known h rec i k q =
    event-register h rec i k.0 (key-register h.events i k q)

-- the value of the key of an event
pub key-of : (events : List Event) (i : ℕ) (e : Event) (v : Val) (k : ℕ × Val) → slice_get events i ≡ Some e
    → e.value ≡ Some v → key_at by_value events i ≡ Some k → (by_register e ≡ Some k.0) × (v ≡ k.1)
key-of events i e v k at q h =
    let p = key-parts e k (sym (ap (option_and_then by_value) at) ∙ h) in
    let w = p.1 in
    (p.0, cc (w, q))

-- an event with a value has a register
pub key-there : (h : History) → IsRecorded h → (i : ℕ) (e : Event) (v : Val) → slice_get h.events i ≡ Some e
    → e.value ≡ Some v → key_at by_value h.events i ≡ None → ⊥
key-there h rec i e v at has none = go (asked_for (take i rec.events) line.0) refl
  where
    line : (le : LineEvent) × IsLineAt rec.events i e le
    line = line-at rec.events rec.accepted i e (ap (λ (g : History). slice_get g.events i) (sym rec.is) ∙ at)

    go : (o : Option Asked) → asked_for (take i rec.events) line.0 ≡ o → ⊥
    go None q =
        let value =
        ap (λ (x : Event). x.value) line.1.is
        ∙ ap (option_and_then (λ (c : Asked). event_value c c.kind line.0)) q in
        cc (value, has)
    go (Some a) q =
        let says = asking (take i rec.events) line.0 a e line.1.is q in
        let key = key-by e _ v says.register has in
        let here = ap (option_and_then by_value) at ∙ key in
        cc (here, none)

-- ---- by an event

module _ (names : List (List ℕ)) (t : EventLists) (a : AreEventLists t)
    (rec : IsRecorded (record { names = names; events = events_in t })) (i : ℕ) where
  pub times-there : (o : Option Entry)
      → o ≡ option_and_then (entry_in t) (key_at by_value (events_in t) i)
      → (y : Entry) → o ≡ Some y → HasTimes y
  times-there o q y h = go (key_at by_value (events_in t) i) refl
    where
      go : (k : Option (ℕ × Val)) → key_at by_value (events_in t) i ≡ k → HasTimes y
      go None w =
          absurd (let z = ap (option_and_then (entry_in t)) w in cc (q, z, h))
      go (Some k) w =
          has-times t a k y (sym (q ∙ ap (option_and_then (entry_in t)) w) ∙ h)

  module _ (e : Event) (v : Val) (at : slice_get (events_in t) i ≡ Some e) (has : e.value ≡ Some v) (k : ℕ
      × Val) (h : key_at by_value (events_in t) i ≡ Some k) where
    entry-there : (o : Option Entry)
        → o ≡ option_and_then (entry_in t) (key_at by_value (events_in t) i)
        → o ≡ entry_in t k
    entry-there o q = q ∙ ap (option_and_then (entry_in t)) h

    known : k.0 < length names
    known = key-known (record { names = names; events = events_in t }) rec i k h

    pub last-of_event : (o : Option Entry) (r : Option ℕ)
        → o ≡ option_and_then (entry_in t) (key_at by_value (events_in t) i)
        → r ≡ last_time v o → IsLastCall (record { names = names; events = events_in t }) k.0 k.1 r
    last-of_event o r q w =
        let is : r ≡ last_time k.1 (entry_in t k) =
        w ∙ (ap (last_time v) (entry-there o q)
        ∙ ap (λ v. last_time v (entry_in t k))
        (key-of (events_in t) i e v k at has h).1) in
        subst (IsLastCall (record { names = names; events = events_in t }) k.0 k.1) (sym is)
        (last-time names t a rec k known)

    pub first-of_event : (o : Option Entry) (r : Option ℕ)
        → o ≡ option_and_then (entry_in t) (key_at by_value (events_in t) i)
        → r ≡ reply_time v o → IsFirstReply (record { names = names; events = events_in t }) k.0 k.1 r
    first-of_event o r q w =
        let is : r ≡ reply_time k.1 (entry_in t k) =
        w ∙ (ap (reply_time v) (entry-there o q)
        ∙ ap (λ v. reply_time v (entry_in t k))
        (key-of (events_in t) i e v k at has h).1) in
        subst (IsFirstReply (record { names = names; events = events_in t }) k.0 k.1) (sym is)
        (first-time names t a rec k known)
