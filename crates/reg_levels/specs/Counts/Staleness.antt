-- Reads that gave an old value, and writes that were lost, of one register's operations, `ops`. The frame is
-- this project's own. A stale read is what Lamport's regular register forbids (On Interprocess
-- Communication,
-- Part II, 1986, section 2), for any number of writers; an inverted read is the later one of a new-old
-- inversion (the same section); `own` and `back` are what read your writes and monotonic reads forbid
-- (Terry,
-- Demers, Petersen, Spreitzer, Theimer and Welch, Session Guarantees for Weakly Consistent Replicated Data,
-- 1994).
use Rattle.std.specs.Prelude.{◌≡◌, ◌<◌, List, Option}
use Rattle.history_text.specs.declared.event.Val.{Val}
use Rattle.history_model.specs.Legal.{IsBeforeInSession}
use Rattle.history_model.specs.Lists.{In}
use Rattle.history_model.specs.Operations.{IsCompleted, IsCompletedRead, IsReadOf, IsWrite}
use Rattle.history_model.specs.Operations.{Precedes, value_of}
use Rattle.history_model.specs.declared.operation.Operation.{Operation}
use Rattle.reg_zones.specs.Clusters.{first_reply}
use Rattle.reg_levels.specs.Clusters.Clean.{IsClean}

-- a value is older than the write w: some operation of the value's cluster precedes w, so the register had
-- the value before w began
abbrev pub IsOlder : List Operation → Option Val → Operation → Type 0
IsOlder ops v w = first_reply ops v < w.call

-- ---- old reads

-- e had the value of the write w: it is that write
abbrev pub Wrote : Operation → Operation → Type 0
Wrote e w = e ≡ w

-- e had the value of the write w: it is a completed read of it
abbrev pub Gave : Operation → Operation → Type 0
Gave e w = IsReadOf w e

-- r is an old read: a completed one that gave an older value than that of the write w, although e, which
-- comes earlier, had the value of w
pub record IsOldAfter (Earlier Had : Operation → Operation → Type 0) (ops : List Operation)
    (r e w : Operation) : Type 0 where
  pub within : In r ops
  pub read : IsCompletedRead r
  pub earlier_within : In e ops
  pub write_within : In w ops
  pub write : IsWrite w
  pub had : Had e w
  pub earlier : Earlier e r
  pub older : IsOlder ops (value_of r) w

abbrev pub IsOldRead : (Earlier Had : Operation → Operation → Type 0) → List Operation → Operation → Type 0
IsOldRead Earlier Had ops r = (e : Operation) × (w : Operation) × IsOldAfter Earlier Had ops r e w

-- stale: a newer write precedes the read
abbrev pub IsStale : List Operation → Operation → Type 0
IsStale ops r = IsOldRead Precedes Wrote ops r

-- the read's session had called a newer write before
abbrev pub IsOwnMissed : List Operation → Operation → Type 0
IsOwnMissed ops r = IsOldRead IsBeforeInSession Wrote ops r

-- the read's session had read a newer value before
abbrev pub IsBack : List Operation → Operation → Type 0
IsBack ops r = IsOldRead IsBeforeInSession Gave ops r

-- inverted: a read of a newer value precedes the read
abbrev pub IsInverted : List Operation → Operation → Type 0
IsInverted ops r = IsOldRead Precedes Gave ops r

-- regular, for any number of writers: clean, and no read is stale
pub record IsRegularForAll (ops : List Operation) : Type 0 where
  pub clean : IsClean ops
  pub fresh : (r : Operation) → IsStale ops r → ⊥

-- ---- lost writes

-- a completed write that some completed read follows, and all of these gave older values
pub record IsLost (ops : List Operation) (w : Operation) : Type 0 where
  pub within : In w ops
  pub write : IsWrite w
  pub completed : IsCompleted w
  pub followed : (r : Operation) × In r ops × IsCompletedRead r × Precedes w r
  pub older : (r : Operation) → In r ops → IsCompletedRead r → Precedes w r → IsOlder ops (value_of r) w
