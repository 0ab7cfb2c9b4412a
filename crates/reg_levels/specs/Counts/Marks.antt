-- Marks of a register's operations, `ops`, and which of them a search asks for (this project's own).
use Rattle.std.specs.Prelude.{◌≡◌, ℕ, ◌+◌, ◌<◌, ◌≤◌, ◌⊎◌, List, length, slice_get, Option, Some, None}
use Rattle.history_model.specs.Lists.{In}
use Rattle.history_model.specs.Operations.{IsCompletedRead, IsWrite, value_of}
use Rattle.history_model.specs.declared.operation.Operation.{Operation}
use Rattle.reg_zones.specs.Clusters.{IsInCluster, HasFirstReply, first_reply}
use Rattle.reg_levels.specs.Clusters.Places.{IsAt}
use Rattle.reg_levels.specs.Clusters.Table.{IsEnds}
use Rattle.reg_levels.specs.declared.clusters.table.ClusterEnds.{ClusterEnds}
use Rattle.reg_levels.specs.declared.counts.mark.Mark.{Mark}
use Rattle.reg_levels.specs.declared.counts.old_read.OldRead.{OldRead}

-- ---- what a mark says

-- the mark of the operation a, at place p, if it had the value of a write: how new that is, and when a
-- replied
abbrev pub IsMarkFound : (Had : Operation → Operation → Type 0) → List Operation → ℕ → Operation
    → Option Mark
    → Type 0
IsMarkFound Had ops p a None = (w : Operation) → In w ops → IsWrite w → Had a w → ⊥
IsMarkFound Had ops p a (Some m) =
    (w : Operation) × IsAt ops m.newer w × IsWrite w × Had a w × (m.key ≡ w.call) × (m.rank ≡ a.reply)
    × (m.place ≡ p)

-- the mark of the completed read r: when it was called, and how old its value is
pub record IsAge (ops : List Operation) (r : Operation) (m : Mark) : Type 0 where
  pub read : IsCompletedRead r
  pub key : m.key ≡ r.call
  pub rank : m.rank + first_reply ops (value_of r) ≡ 4294967295

abbrev pub IsAgeMarked : List Operation → ℕ → Operation → Option Mark → Type 0
IsAgeMarked ops p a None = IsCompletedRead a → ⊥
IsAgeMarked ops p a (Some m) = IsAge ops a m

-- the marks of the operations below place i, one for each
pub record AreMarks (Is : ℕ → Operation → Option Mark → Type 0) (ops : List Operation) (i : ℕ)
    (marks : List (Option Mark)) : Type 0 where
  pub places : length marks ≡ i
  pub each : (p : ℕ) (a : Operation) (m : Option Mark) → IsAt ops p a → slice_get marks p ≡ Some m → Is p a m

-- ---- by key

abbrev pub HasMark : List (Option Mark) → Mark → Type 0
HasMark marks m = (p : ℕ) × (slice_get marks p ≡ Some (Some m))

abbrev pub HoldsMark : List Mark → Mark → Type 0
HoldsMark list m = (i : ℕ) × (slice_get list i ≡ Some m)

-- of the marks with a greater key, the one of least rank
abbrev pub IsFirstAbove : List Mark → ℕ → Option Mark → Type 0
IsFirstAbove list key None = (m : Mark) → HoldsMark list m → m.key ≤ key
IsFirstAbove list key (Some m) =
    HoldsMark list m × (key < m.key) × ((n : Mark) → HoldsMark list n → key < n.key → m.rank ≤ n.rank)

-- the list has the marks that stand below place i
pub record AreFlat (marks : List (Option Mark)) (i : ℕ) (list : List Mark) : Type 0 where
  pub only : (m : Mark) → HoldsMark list m → HasMark marks m
  pub all : (p : ℕ) (m : Mark) → p < i → slice_get marks p ≡ Some (Some m) → HoldsMark list m

abbrev pub mark_key : Mark → ℕ
mark_key m = m.key

-- the one of lower rank
abbrev pub IsLower : Mark → Mark → Mark → Type 0
IsLower one other m = ((m ≡ one) ⊎ (m ≡ other)) × (m.rank ≤ one.rank) × (m.rank ≤ other.rank)

-- of the marks from place i on, m has the least rank
pub record HasLeastRankFrom (list : List Mark) (i : ℕ) (m : Mark) : Type 0 where
  pub place : ℕ
  pub from_on : i ≤ place
  pub there : slice_get list place ≡ Some m
  pub least : (j : ℕ) (n : Mark) → i ≤ j → slice_get list j ≡ Some n → m.rank ≤ n.rank

-- for each of the last i marks, the one of least rank from it on, the last mark first
pub record AreLeast (list : List Mark) (i : ℕ) (least : List Mark) : Type 0 where
  pub places : length least ≡ i
  pub each : (j : ℕ) (m : Mark) → slice_get least j ≡ Some m → (k : ℕ) → k + j + 1 ≡ length list
      → HasLeastRankFrom list k m

-- by their keys, with the least of each end
pub record IsRanked (list least : List Mark) : Type 0 where
  pub ascending : (i j : ℕ) (m n : Mark) → i ≤ j → slice_get list i ≡ Some m → slice_get list j ≡ Some n
      → m.key ≤ n.key
  pub least_of : AreLeast list (length list) least

-- the list has the marks of the completed reads by age
pub record AreAges (ops : List Operation) (list : List Mark) : Type 0 where
  pub each : (m : Mark) → HoldsMark list m → (r : Operation) × In r ops × IsAge ops r m
  pub all : (r : Operation) → In r ops → IsCompletedRead r → (m : Mark) × HoldsMark list m × IsAge ops r m

-- ---- by session

-- m is the mark of an operation below place i, which process t called
pub record IsBelow (ops : List Operation) (marks : List (Option Mark)) (i t : ℕ) (m : Mark) : Type 0 where
  pub place : ℕ
  pub operation : Operation
  pub below : place < i
  pub there : IsAt ops place operation
  pub process : operation.process ≡ Some t
  pub mark : slice_get marks place ≡ Some (Some m)

-- of these, the one of greatest key
abbrev pub IsLastBelow : List Operation → List (Option Mark) → ℕ → ℕ → Option Mark → Type 0
IsLastBelow ops marks i t None = (m : Mark) → IsBelow ops marks i t m → ⊥
IsLastBelow ops marks i t (Some m) =
    IsBelow ops marks i t m × ((n : Mark) → IsBelow ops marks i t n → n.key ≤ m.key)

-- the mark that is known of a process, if there is one
abbrev pub last_of : (ℕ → Option Mark) → Option ℕ → Option Mark
last_of last None = None
last_of last (Some t) = last t

-- the mark stays for a process, unless the one that was known has a key as great
abbrev pub IsPut : Option Mark → Option Mark → Mark → Type 0
IsPut None new m = new ≡ Some m
IsPut (Some old) new m = ((new ≡ Some m) × (old.key < m.key)) ⊎ ((new ≡ Some old) × (m.key ≤ old.key))

-- with one more mark of process t
pub record IsNewer (old new : ℕ → Option Mark) (t : ℕ) (m : Mark) : Type 0 where
  pub put : IsPut (old t) (new t) m
  pub others : (s : ℕ) → (s ≡ t → ⊥) → new s ≡ old s

-- the same if there are a process and a mark
abbrev pub KeepsLast : (ℕ → Option Mark) → (ℕ → Option Mark) → Option ℕ → Option Mark → Type 0
KeepsLast old new None mark = (s : ℕ) → new s ≡ old s
KeepsLast old new (Some t) None = (s : ℕ) → new s ≡ old s
KeepsLast old new (Some t) (Some m) = IsNewer old new t m

-- of the marks of the session of a, which stands at place p, the one of greatest key below p
pub record IsLastOfSession (ops : List Operation) (marks : List (Option Mark)) (p : ℕ) (a : Operation)
    (m : Option Mark) : Type 0 where
  pub some : (t : ℕ) → a.process ≡ Some t → IsLastBelow ops marks p t m
  pub none : a.process ≡ None → m ≡ None

-- the same for each operation below place i
pub record AreLastBelow (ops : List Operation) (marks : List (Option Mark)) (i : ℕ)
    (found : List (Option Mark)) : Type 0 where
  pub places : length found ≡ i
  pub each : (p : ℕ) (a : Operation) (m : Option Mark) → IsAt ops p a → slice_get found p ≡ Some m
      → IsLastOfSession ops marks p a m

-- ---- old reads by marks

-- the ends of the cluster of the operation a, if it is a completed read
abbrev pub IsReadEnds : List Operation → Operation → Option ClusterEnds → Type 0
IsReadEnds ops a None = IsCompletedRead a → ⊥
IsReadEnds ops a (Some c) =
    IsCompletedRead a × ((w : Operation) × IsEnds ops w c × IsInCluster ops (value_of w) a)

-- one of some marks shows that r is old: m is newer than its value, and replied before r's call
pub record IsPreceded (Has : Mark → Type 0) (ops : List Operation) (r : Operation) (m : Mark) : Type 0 where
  pub read : IsCompletedRead r
  pub marked : Has m
  pub older : first_reply ops (value_of r) < m.key
  pub before : m.rank < r.call

-- or it is of an operation that its session called before, at a place below r's, p
pub record IsFollowed (ops : List Operation) (marks : List (Option Mark)) (p : ℕ) (r : Operation)
    (m : Mark) : Type 0 where
  pub read : IsCompletedRead r
  pub process : ℕ
  pub called : r.process ≡ Some process
  pub marked : IsBelow ops marks p process m
  pub older : first_reply ops (value_of r) < m.key

-- what an entry says of an old read at place p, by a mark
pub record IsOldEntry (ops : List Operation) (p : ℕ) (r : Operation) (m : Mark) (x : OldRead) : Type 0 where
  pub read : x.read ≡ p
  pub earlier : x.earlier ≡ m.place
  pub newer : x.newer ≡ m.newer
  pub seen : (s : Operation) × IsAt ops x.seen s × HasFirstReply ops (value_of r) s

abbrev pub IsPrecededFound : (Has : Mark → Type 0) → List Operation → ℕ → Operation → Option OldRead → Type 0
IsPrecededFound Has ops p r None = (m : Mark) → IsPreceded Has ops r m → ⊥
IsPrecededFound Has ops p r (Some x) =
    (m : Mark) × IsPreceded Has ops r m × IsOldEntry ops p r m x
    × ((n : Mark) → IsPreceded Has ops r n → m.rank ≤ n.rank)

-- the same by the last mark of r's session
abbrev pub IsFollowedBy : List Operation → Option Mark → ℕ → Operation → Option OldRead → Type 0
IsFollowedBy ops last p r None =
    (m : Mark) → last ≡ Some m → IsCompletedRead r → first_reply ops (value_of r) < m.key → ⊥
IsFollowedBy ops last p r (Some x) =
    (m : Mark) × (last ≡ Some m) × IsCompletedRead r × (first_reply ops (value_of r) < m.key)
    × IsOldEntry ops p r m x

abbrev pub IsFollowedFound : List Operation → List (Option Mark) → ℕ → Operation → Option OldRead → Type 0
IsFollowedFound ops marks p r None = (m : Mark) → IsFollowed ops marks p r m → ⊥
IsFollowedFound ops marks p r (Some x) =
    (m : Mark) × IsFollowed ops marks p r m × IsOldEntry ops p r m x
    × ((n : Mark) → IsFollowed ops marks p r n → n.key ≤ m.key)

-- the entries of the operations below place i, in their order
pub record AreFound (Is : ℕ → Operation → Option OldRead → Type 0) (ops : List Operation) (i : ℕ)
    (list : List OldRead) : Type 0 where
  pub ascending : (j k : ℕ) (x z : OldRead) → j < k → slice_get list j ≡ Some x → slice_get list k ≡ Some z
      → x.read < z.read
  pub each : (j : ℕ) (x : OldRead) → slice_get list j ≡ Some x
      → (x.read < i) × ((a : Operation) × IsAt ops x.read a × Is x.read a (Some x))
  pub all : (p : ℕ) (a : Operation) → p < i → IsAt ops p a
      → Is p a None ⊎ ((j : ℕ) × (x : OldRead) × (slice_get list j ≡ Some x) × (x.read ≡ p))
