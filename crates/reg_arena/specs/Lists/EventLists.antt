-- The threaded lists of an arena: each family is the filter of the one list of events, ascending.
use Rattle.std.specs.Prelude.{◌≡◌, ℕ, ◌+◌, ◌<◌, ◌≤◌, ◌⊎◌, ◌&&◌, not, true, false, nat_lt}
use Rattle.std.specs.Prelude.{nat_eq, cond, ℤ, List, [], ◌∷◌, ◌++◌, length, set, slice_get}
use Rattle.std.specs.Prelude.{Option, Some, None, option_map, option_and_then}
use Rattle.history_text.specs.declared.limits.TheConstants.{MAX_EVENTS}
use Rattle.std.specs.List.{position}
use Rattle.std.specs.Option.{option_or}
use Rattle.indexmap.specs.IndexMap.{get}
use Rattle.history_text.specs.declared.event.Val.{Val}
use Rattle.history_text.specs.declared.event.Val.TheVariants.{Null, Int}
use Rattle.history_text.specs.declared.event.OpKind.TheVariants.{ReadOp, WriteOp}
use Rattle.history_model.specs.declared.ids.EvId.{EvId}
use Rattle.history_model.specs.declared.ids.RegId.{RegId}
use Rattle.history_model.specs.declared.event.Event.{Event}
use Rattle.history_model.specs.declared.event.What.{What}
use Rattle.history_model.specs.declared.event.What.TheVariants.{Call, Reply, Fail, Crash}
use Rattle.reg_arena.specs.declared.event_lists.list_ends.Ends.{Ends}
use Rattle.reg_arena.specs.declared.event_lists.list_ends.Entry.{Entry}
use Rattle.reg_arena.specs.declared.event_lists.list_ends.Write.{Write}
use Rattle.reg_arena.specs.declared.event_lists.list_ends.Write.TheVariants.{Unwritten, Written, Failed}
use Rattle.history_model.specs.Operations.{is_a_call, is_a_fail, is_a_reply, kind_in, writes}
use Rattle.reg_arena.specs.Lists.Pairs.{key_eq}
use Rattle.reg_arena.specs.Lists.Tables.{item_at}
use Rattle.reg_arena.specs.declared.event_lists.processes.Processes.{Processes}
use Rattle.reg_arena.specs.declared.event_lists.lists.EventLists.{EventLists}
use Rattle.history_model.specs.Walking.{IsLeastFrom, IsFirstOf, key_at, by_register, by_process, by_value}
use Rattle.history_model.specs.Naming.{begins_at, belongs_at}

-- ---- one family of lists

-- One family. `key`: the key of the event at a place; `link`: the link
-- there; `ends`: the ends of the list of a key.
pub record IsThreaded {K : Type 0} (key : ℕ → Option K) (link : ℕ → Option EvId) (ends : K
    → Option Ends) : Type 0 where
  -- each link leads to the next event of the same key
  pub next : (k : K) (i : ℕ) → key i ≡ Some k → IsLeastFrom (λ j. key j ≡ Some k) (i + 1) (link i)
  -- an event without a key has no link
  pub alone : (i : ℕ) → key i ≡ None → link i ≡ None
  -- the ends are of the keys that an event has
  pub none : (k : K) → ends k ≡ None → (i : ℕ) → key i ≡ Some k → ⊥
  pub first : (k : K) (e : Ends) → ends k ≡ Some e → IsLeastFrom (λ j. key j ≡ Some k) 0 (Some e.first)
  pub last : (k : K) (e : Ends) → ends k ≡ Some e
      → (key e.last.0 ≡ Some k) × ((i : ℕ) → key i ≡ Some k → i ≤ e.last.0)

-- event n is joined to the list of key k
pub record IsJoined {K : Type 0} (k : K) (n : EvId) (link new_link : ℕ → Option EvId) (ends new_ends : K
    → Option Ends) : Type 0 where
  pub fresh : ends k ≡ None → (new_ends k ≡ Some (record { first = n; last = n }))
      × ((i : ℕ) → new_link i ≡ link i)
  pub next : (e : Ends) → ends k ≡ Some e → (new_ends k ≡ Some (record { first = e.first; last = n }))
      × (new_link e.last.0 ≡ Some n) × ((i : ℕ) → (i ≡ e.last.0 → ⊥) → new_link i ≡ link i)
  pub others : (q : K) → (q ≡ k) ⊎ ((q ≡ k → ⊥) × (new_ends q ≡ ends q))

-- the same of an event that may have no key
abbrev pub IsJoinedBy : {K : Type 0} → Option K → EvId → (ℕ → Option EvId) → (ℕ → Option EvId)
    → (K → Option Ends) → (K → Option Ends) → Type 0
IsJoinedBy {K} None n link new_link ends new_ends =
    ((i : ℕ) → new_link i ≡ link i) × ((q : K) → new_ends q ≡ ends q)
IsJoinedBy (Some k) n link new_link ends new_ends = IsJoined k n link new_link ends new_ends

-- how many registers there are with this one; a crash has none
abbrev pub end_of : Option RegId → ℕ
end_of None = 0
end_of (Some register) = register.0 + 1

-- ---- processes and the ends of their lists

-- those of small numbers stand in the table, and the others in the map
abbrev pub process_ends : Processes → ℕ → Option Ends
process_ends t p = cond (nat_lt p t.table_limit) (item_at t.table.items p) (get nat_eq t.others p)

-- ---- values and their entries

abbrev pub whole : Val → Option ℤ
whole Null = None
whole (Int n) = Some n

-- the number of the entry of a register and value: its place among the keys
abbrev pub value_number : List (ℕ × Option ℤ) → ℕ × Val → Option ℕ
value_number keys k = position (key_eq (k.0, whole k.1)) keys

abbrev pub value_entry : List (ℕ × Option ℤ) → List Entry → ℕ × Val → Option Entry
value_entry keys entries k = option_and_then (slice_get entries) (value_number keys k)

abbrev pub value_ends : List (ℕ × Option ℤ) → List Entry → ℕ × Val → Option Ends
value_ends keys entries k = option_map (λ e. e.ends) (value_entry keys entries k)

-- the number of the entry of an event's register and value
abbrev pub event_number : List (ℕ × Option ℤ) → Event → Option ℕ
event_number keys e = option_and_then (value_number keys) (by_value e)

-- the later one, where there are two
abbrev pub later : Option EvId → Option EvId → Option EvId
later None b = b
later (Some a) None = Some a
later (Some a) (Some b) = Some (cond (nat_lt a.0 b.0) b a)

-- the call of the write, failed or not
abbrev pub write_called : Write → Option EvId
write_called Unwritten = None
write_called (Written id) = Some id
write_called (Failed id) = Some id

-- the call of a write that didn't fail
abbrev pub write_kept : Write → Option EvId
write_kept Unwritten = None
write_kept (Written id) = Some id
write_kept (Failed id) = None

-- after a call: the first one is the write
abbrev pub with_call : Write → EvId → Write
with_call Unwritten n = Written n
with_call (Written id) n = Written id
with_call (Failed id) n = Failed id

-- after a fail of this call
abbrev pub with_fail : Write → EvId → Write
with_fail Unwritten call = Unwritten
with_fail (Written id) call = cond (nat_eq id.0 call.0) (Failed id) (Written id)
with_fail (Failed id) call = Failed id

-- what an event n, whose call is the event `call`, does to each part of an entry
abbrev pub write_with : Write → What → EvId → EvId → Write
write_with w (Call kind) n call = with_call w n
write_with w (Reply kind) n call = w
write_with w (Fail kind) n call = with_fail w call
write_with w Crash n call = w

abbrev pub reply_with : Option EvId → What → EvId → Option EvId
reply_with first (Call kind) n = first
reply_with first (Reply kind) n = option_or first (Some n)
reply_with first (Fail kind) n = first
reply_with first Crash n = first

abbrev pub read_with : Option EvId → What → EvId → Option EvId
read_with last (Call kind) call = last
read_with last (Reply ReadOp) call = later last (Some call)
read_with last (Reply WriteOp) call = last
read_with last (Fail kind) call = last
read_with last Crash call = last

-- the entry of a list of one event, with the event of its call
abbrev pub entry_alone : Event → EvId → EvId → Entry
entry_alone e n call = record {
  ends = record { first = n; last = n };
  write = write_with Unwritten e.what n call;
  first_reply = reply_with None e.what n;
  last_read = read_with None e.what call;
}

-- the entry of a list with one more event after it
abbrev pub entry_with : Entry → Event → EvId → EvId → Entry
entry_with y e n call = record {
  ends = record { first = y.ends.first; last = n };
  write = write_with y.write e.what n call;
  first_reply = reply_with y.first_reply e.what n;
  last_read = read_with y.last_read e.what call;
}

abbrev pub entry_after : Option Entry → Event → EvId → EvId → Entry
entry_after None e n call = entry_alone e n call
entry_after (Some y) e n call = entry_with y e n call

-- event n enters the list of register and value k
pub record IsEntered (k : ℕ × Val) (e : Event) (n call : EvId) (entry new_entry : ℕ × Val
    → Option Entry) : Type 0 where
  pub one : new_entry k ≡ Some (entry_after (entry k) e n call)
  pub others : (q : ℕ × Val) → (q ≡ k) ⊎ ((q ≡ k → ⊥) × (new_entry q ≡ entry q))

abbrev pub IsEnteredBy : Option (ℕ × Val) → Event → EvId → EvId → (ℕ × Val → Option Entry)
    → (ℕ × Val → Option Entry) → Type 0
IsEnteredBy None e n call entry new_entry = (q : ℕ × Val) → new_entry q ≡ entry q
IsEnteredBy (Some k) e n call entry new_entry = IsEntered k e n call entry new_entry

-- the last event of a key
abbrev pub IsLastOf : {K : Type 0} → (Event → Option K) → List Event → K → Option EvId → Type 0
IsLastOf key events k None = (i : ℕ) → key_at key events i ≡ Some k → ⊥
IsLastOf key events k (Some j) =
    (key_at key events j.0 ≡ Some k) × ((i : ℕ) → key_at key events i ≡ Some k → i ≤ j.0)

-- an event of the same register and value as the event e; there is none
-- where they are new, or where e has no value
abbrev pub IsAlike : List Event → Event → Option EvId → Type 0
IsAlike events e None = (k : ℕ × Val) → by_value e ≡ Some k → IsLastOf by_value events k None
IsAlike events e (Some j) = (k : ℕ × Val) × (by_value e ≡ Some k) × (key_at by_value events j.0 ≡ Some k)

-- the writes' calls by register and value, the replies, and the reads' replies
abbrev pub by_write : Event → Option (ℕ × Val)
by_write e = cond (is_a_call e.what) (by_value e) None

abbrev pub by_reply : Event → Option (ℕ × Val)
by_reply e = cond (is_a_reply e.what) (by_value e) None

abbrev pub by_read : Event → Option (ℕ × Val)
by_read e = cond (is_a_reply e.what && not (writes (kind_in e.what))) (by_value e) None

abbrev pub IsCall : List Event → ℕ → Type 0
IsCall events i = (e : Event) × (slice_get events i ≡ Some e) × (is_a_call e.what ≡ true)

-- the event at place c is the call of the event at place i: it is that
-- event, or the event of its process before it
pub record IsCallAt (events : List Event) (i c : ℕ) : Type 0 where
  pub call : IsCall events c
  pub process : key_at by_process events c ≡ key_at by_process events i
  pub order : c ≤ i
  pub between : (j : ℕ) → c < j → j < i → key_at by_process events j ≡ key_at by_process events i → ⊥
  pub own : IsCall events i → c ≡ i

-- the column of calls with one more event, which has this call
abbrev pub calls_with : List (Option EvId) → What → EvId → List (Option EvId)
calls_with calls (Call kind) call = calls ++ Some call ∷ []
calls_with calls (Reply kind) call = calls ++ Some call ∷ []
calls_with calls (Fail kind) call = set calls call.0 None ++ None ∷ []
calls_with calls Crash call = calls ++ None ∷ []

-- c is the call of the operation that the event e at place i belongs to;
-- without a call there is no such operation
abbrev pub IsCallOf : List Event → ℕ → Event → Option EvId → Type 0
IsCallOf events i e None = belongs_at events i e ≡ false
IsCallOf events i e (Some c) = (belongs_at events i e ≡ true) × IsCallAt events i c.0

-- what is asked of an event that is appended with the event of its call: a
-- fail has the register and value of its call
pub record IsAppendable (events : List Event) (e : Event) (c : EvId) : Type 0 where
  pub call : (e.what ≡ Crash → ⊥) → IsCallAt (events ++ e ∷ []) (length events) c.0
  pub same : is_a_fail e.what ≡ true → key_at by_value events c.0 ≡ by_value e

-- the last call of the completed reads of a register and value
abbrev pub IsLastRead : List Event → List (Option EvId) → ℕ × Val → Option EvId → Type 0
IsLastRead events calls k None = (i : ℕ) → key_at by_read events i ≡ Some k → ⊥
IsLastRead events calls k (Some c) =
    ((i : ℕ) × (key_at by_read events i ≡ Some k) × (item_at calls i ≡ Some c))
    × ((i : ℕ) (d : EvId) → key_at by_read events i ≡ Some k → item_at calls i ≡ Some d → d.0 ≤ c.0)

-- what an entry tells of its register and value
pub record IsEntry (events : List Event) (calls : List (Option EvId)) (k : ℕ × Val) (y : Entry) : Type 0 where
  pub write : IsFirstOf by_write events k (write_called y.write)
  pub kept : (w : EvId) → write_called y.write ≡ Some w → item_at calls w.0 ≡ write_kept y.write
  pub reply : IsFirstOf by_reply events k y.first_reply
  pub read : IsLastRead events calls k y.last_read

-- the first write call of a register and value, if it begins an operation
abbrev pub IsKeptWrite : List Event → ℕ × Val → Option EvId → Type 0
IsKeptWrite events k None =
    (w : EvId) (e : Event) → IsFirstOf by_write events k (Some w) → slice_get events w.0 ≡ Some e
    → begins_at events w.0 e ≡ false
IsKeptWrite events k (Some w) =
    IsFirstOf by_write events k (Some w) × ((e : Event) → slice_get events w.0 ≡ Some e
    → begins_at events w.0 e ≡ true)

-- ---- what contracts see of the lists

-- the events, in their order
abbrev pub events_in : EventLists → List Event
events_in t = t.rows.events

-- beside each event, the call of the operation that it belongs to
abbrev pub calls_in : EventLists → List (Option EvId)
calls_in t = t.rows.calls

-- the ends of each register's list
abbrev pub register_ends : EventLists → List Ends
register_ends t = t.registers.items

-- the entry of a register and value
abbrev pub entry_in : EventLists → ℕ × Val → Option Entry
entry_in t = value_entry t.pairs t.entries.items

-- ---- all

-- each of the three families is the filter of the one list of events, ascending
pub record AreEventLists (t : EventLists) : Type 0 where
  pub registers : IsThreaded (key_at by_register t.rows.events) (item_at t.rows.in_register)
      (slice_get t.registers.items)
  pub processes : IsThreaded (key_at by_process t.rows.events) (item_at t.rows.in_process)
      (process_ends t.processes)
  pub values : IsThreaded (key_at by_value t.rows.events) (item_at t.rows.in_value)
      (value_ends t.pairs t.entries.items)
  -- each event's call
  pub calls : (i : ℕ) (e : Event) → slice_get t.rows.events i ≡ Some e
      → IsCallOf t.rows.events i e (item_at t.rows.calls i)
  -- each value's entry, and the number of each event's
  pub entries : (k : ℕ × Val) (y : Entry) → value_entry t.pairs t.entries.items k ≡ Some y
      → IsEntry t.rows.events t.rows.calls k y
  pub numbered : length t.pairs ≡ length t.entries.items
  pub numbers : (i : ℕ) (e : Event) → slice_get t.rows.events i ≡ Some e
      → slice_get t.rows.numbers i ≡ Some (event_number t.pairs e)
  -- the columns are as long as the list of events
  pub register_column : length t.rows.in_register ≡ length t.rows.events
  pub process_column : length t.rows.in_process ≡ length t.rows.events
  pub value_column : length t.rows.in_value ≡ length t.rows.events
  pub call_column : length t.rows.calls ≡ length t.rows.events
  pub number_column : length t.rows.numbers ≡ length t.rows.events
  pub known : length t.registers.items ≤ length t.rows.events
  pub few : length t.entries.items ≤ length t.rows.events
  pub room : length t.rows.events ≤ MAX_EVENTS
