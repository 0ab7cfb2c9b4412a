-- Configurations as sets of slots.
use Rattle.std.specs.Prelude.{ℕ, [], IsTrue, ◌==◌, ◌&&◌, not, ◌≡◌, ◌<◌, ◌⊎◌}
use Rattle.std.specs.Prelude.{◌∷◌, Bool, true, false, List, slice_get, Some}
use Rattle.configurations.specs.declared.moment.Moment.{Moment}
use Rattle.configurations.specs.declared.moment.Moment.TheVariants.{Reply}
use Rattle.configurations.specs.declared.table.Table.{Table}
use Rattle.configurations.specs.declared.config.Config.{Config}
use Rattle.configurations.specs.declared.config.Configs.{Configs}
use Rattle.configurations.specs.Ops.{left_at}
use Rattle.configurations.specs.Runs.{AliveBy, AliveFree}
use Rattle.configurations.specs.Tables.{IsBefore, IsTable, IsToCome, IsWithin, call_at, members}
use Rattle.configurations.specs.Use.{AreAlike, IsOfUse, free_after, open_after}
use Rattle.slot_sets.specs.Sets.{has}

-- the same set without a slot
abbrev pub lacking : (ℕ → Bool) → ℕ → ℕ → Bool
lacking s slot q = not (q == slot) && s q

module _ {W : ℕ} where
  -- the calls that must take effect, and those that may
  abbrev pub owed_by : Table W → Config W → List ℕ
  owed_by t c = members t.calls.items c.owed

  abbrev pub free_of : Table W → Config W → List ℕ
  free_of t c = members t.calls.items c.free

  -- the events to come can be explained from it
  abbrev pub IsAble : Table W → Config W → List Moment → Type 0
  IsAble t c es = AliveFree t.ops.items c.value (owed_by t c) (free_of t c) es

  -- all slots that it has are given
  abbrev pub IsHeld : (ℕ → Bool) → Config W → Type 0
  IsHeld used c = IsWithin (has c.owed) used × IsWithin (has c.free) used

  abbrev pub AreHeld : (ℕ → Bool) → Configs W → Type 0
  AreHeld used cs = (at : ℕ) (c : Config W) → slice_get cs.list.items at ≡ Some c → IsHeld used c

  -- one of them can explain the events to come
  abbrev pub IsAnyAble : Table W → Configs W → List Moment → Type 0
  IsAnyAble t cs es = (at : ℕ) × (c : Config W) × (slice_get cs.list.items at ≡ Some c) × IsAble t c es

  -- just before the reply of k it can, by at most n calls that take effect before it
  abbrev pub IsAbleBy : Table W → ℕ → List Moment → ℕ → Config W → Type 0
  IsAbleBy t k es n c = AliveBy t.ops.items k es n c.value (owed_by t c) (free_of t c)

  abbrev pub IsAnyAbleBy : Table W → ℕ → List Moment → ℕ → Configs W → Type 0
  IsAnyAbleBy t k es n cs =
      (at : ℕ) × (c : Config W) × (slice_get cs.list.items at ≡ Some c) × IsAbleBy t k es n c

  -- c can explain whatever d can, and before a reply by no more calls
  pub record CanAll (t : Table W) (c d : Config W) : Type 0 where
    pub able : (es : List Moment) → IsAble t d es → IsAble t c es
    pub able_by : (k : ℕ) (es : List Moment) (n : ℕ) → IsAbleBy t k es n d → IsAbleBy t k es n c

  -- one of them can
  abbrev pub IsStoodFor : Table W → Configs W → Config W → Type 0
  IsStoodFor t cs d = (at : ℕ) × (c : Config W) × (slice_get cs.list.items at ≡ Some c) × CanAll t c d

  -- those of `before` are still there
  abbrev pub AreStill : Configs W → Configs W → Type 0
  AreStill before after =
      (at : ℕ) (c : Config W) → slice_get before.list.items at ≡ Some c
      → slice_get after.list.items at ≡ Some c

  -- in each of them the call of the slot must take effect
  abbrev pub AreOwing : ℕ → Configs W → Type 0
  AreOwing slot cs = (at : ℕ) (c : Config W) → slice_get cs.list.items at ≡ Some c → has c.owed slot ≡ true

  -- Over the reply of k, from the value v with the calls p that must take effect and f that may: what could
  -- be explained by n calls before the reply, one of `work` can by no more, or one of `next` what comes then.
  abbrev pub GoesBy : Table W → ℕ → Configs W → Configs W → ℕ → List ℕ → List ℕ → Type 0
  GoesBy t k work next v p f =
      (es : List Moment) (n : ℕ) → IsToCome t (Reply k ∷ es) → AliveBy t.ops.items k es n v p f
      → IsAnyAbleBy t k es n work ⊎ IsAnyAble t next es

  -- each of `now` goes over the reply of a slot's call
  abbrev pub IsBegun : Table W → Configs W → ℕ → Configs W → Configs W → Type 0
  IsBegun t now slot work next =
      (at : ℕ) (c : Config W) → slice_get now.list.items at ≡ Some c
      → GoesBy t (call_at t slot) work next c.value (owed_by t c) (free_of t c)

  -- what comes of c once a call has taken effect is there: if c can explain what comes, one of `work` can by
  -- fewer calls before the reply, or one of `next` can
  abbrev pub IsGoneOver : Table W → ℕ → Configs W → Configs W → Config W → Type 0
  IsGoneOver t k work next c =
      (es : List Moment) (n : ℕ) → IsToCome t (Reply k ∷ es) → IsAbleBy t k es n c
      → ((m : ℕ) × (m < n) × IsAnyAbleBy t k es m work) ⊎ IsAnyAble t next es

  -- at the reply of a slot's call: those of `work` have given slots and owe the call, those of `next` haven't
  -- that slot
  pub record AreApart (t : Table W) (slot : ℕ) (work next : Configs W) : Type 0 where
    pub work_held : AreHeld (has t.used) work
    pub work_owe : AreOwing slot work
    pub next_held : AreHeld (lacking (has t.used) slot) next

  -- nothing was taken out of the two lists
  pub record AreKept (work next work' next' : Configs W) : Type 0 where
    pub work_kept : AreStill work work'
    pub next_kept : AreStill next next'

  -- A call that changes alike and replies sooner may take effect in its place: it must if that one must.
  pub record IsLed (t : Table W) (c : Config W) (slot : ℕ) : Type 0 where
    pub leader : ℕ
    pub alike : AreAlike t.ops.items (call_at t leader) (call_at t slot)
    pub sooner : IsBefore t leader slot
    pub opened : ((has c.owed leader ≡ true) × (has c.free leader ≡ false))
        ⊎ ((has c.free leader ≡ true) × (has c.owed leader ≡ false) × (has c.owed slot ≡ false))

  -- if it is of use that the call of the slot takes effect, another one goes first, or what comes of it goes
  -- over the reply
  abbrev pub IsTried : Table W → Config W → ℕ → ℕ → Configs W → Configs W → Type 0
  IsTried t c slot reply work next =
      IsOfUse t.ops.items (owed_by t c) (free_of t c) (call_at t reply) (call_at t slot) c.value
      → IsLed t c slot
      ⊎ GoesBy t (call_at t reply) work next (left_at t.ops.items (call_at t slot) c.value)
      (open_after t.ops.items (call_at t reply) (call_at t slot) (owed_by t c))
      (free_after t.ops.items (call_at t reply) (call_at t slot) (owed_by t c) (free_of t c))

  -- none of them has the slot
  abbrev pub AreOff : ℕ → Configs W → Type 0
  AreOff slot cs =
      (at : ℕ) (c : Config W) → slice_get cs.list.items at ≡ Some c
      → (has c.owed slot ≡ false) × (has c.free slot ≡ false)

  -- if one of `before` could explain the event and what comes then, one of `after` can explain what comes
  -- then
  abbrev pub IsStep : Table W → Configs W → Moment → Table W → Configs W → Type 0
  IsStep t before e u after =
      (es : List Moment) → IsToCome t (e ∷ es)
      → IsToCome u es × (IsAnyAble t before (e ∷ es) → IsAnyAble u after es)

  -- only the value 0 without open calls
  pub record IsFirst (cs : Configs W) : Type 0 where
    pub config : Config W
    pub only : cs.list.items ≡ config ∷ []
    pub value : config.value ≡ 0
    pub nothing_owed : (q : ℕ) → has config.owed q ≡ false
    pub nothing_free : (q : ℕ) → has config.free q ≡ false

  -- u and `after` are what an event leaves of t and `before`; nothing was let go if they are whole
  pub record IsOver (whole : Bool) (t : Table W) (before : Configs W) (e : Moment) (u : Table W)
      (after : Configs W) : Type 0 where
    pub ops : u.ops.items ≡ t.ops.items
    pub table : IsTable u
    pub held : AreHeld (has u.used) after
    pub step : IsTrue whole → IsStep t before e u after
