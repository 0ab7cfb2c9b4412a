-- The slots of open calls.
use Rattle.std.specs.Prelude.{ℕ, suc, ◌*◌, ◌^◌, ◌==◌, ◌≡◌, ◌<◌, ◌⊎◌, Bool, true, false}
use Rattle.std.specs.Prelude.{cond, List, [], ◌∷◌, slice_get, Some, length, get_or}
use Rattle.history_model.specs.Lists.{In}
use Rattle.slot_sets.specs.Sets.{has}
use Rattle.configurations.specs.declared.op.Op.{Op}
use Rattle.configurations.specs.declared.moment.Moment.{Moment}
use Rattle.configurations.specs.declared.moment.Moment.TheVariants.{Call}
use Rattle.configurations.specs.declared.table.Table.{Table}
use Rattle.configurations.specs.Ops.{kind_looks, kind_misses, kind_writes, rank_at}
use Rattle.configurations.specs.Runs.{AreInOrder}

-- the calls whose slots are in the set, where the first has slot q
abbrev pub members_from : ℕ → List ℕ → List ℕ → List ℕ
members_from q [] s = []
members_from q (k ∷ ks) s = cond (has s q) (k ∷ members_from (suc q) ks s) (members_from (suc q) ks s)

-- the calls whose slots are in the set
abbrev pub members : List ℕ → List ℕ → List ℕ
members ks s = members_from 0 ks s

-- all slots of the one are in the other
abbrev pub IsWithin : (ℕ → Bool) → (ℕ → Bool) → Type 0
IsWithin s t = (q : ℕ) → s q ≡ true → t q ≡ true

module _ {W : ℕ} where
  -- the call of a slot
  abbrev pub call_at : Table W → ℕ → ℕ
  call_at t q = get_or t.calls.items q 0

  -- the call of the first slot replies sooner than that of the second; of two that never do, the earlier call
  -- counts as the sooner
  abbrev pub IsBefore : Table W → ℕ → ℕ → Type 0
  IsBefore t p q =
      (rank_at t.ops.items (call_at t p) < rank_at t.ops.items (call_at t q))
      ⊎ ((rank_at t.ops.items (call_at t p) ≡ rank_at t.ops.items (call_at t q))
      × (call_at t p < call_at t q))

  -- what is known of a slot that is given
  pub record IsSlot (t : Table W) (q : ℕ) : Type 0 where
    pub op : Op
    pub there : slice_get t.ops.items (call_at t q) ≡ Some op
    pub back : slice_get t.slot_of.items (call_at t q) ≡ Some q
    pub small : q < 64 * W
    pub placed : q < length t.calls.items
    pub looks : has t.looks q ≡ kind_looks op.kind
    pub writes : has t.writes q ≡ kind_writes op.kind
    pub misses : has t.misses q ≡ kind_misses op.kind
    pub asks : (v : ℕ) → v < length t.asks.items → has (get_or t.asks.items v []) q ≡ (v == op.from)
    pub from : op.from < length t.asks.items

  -- each slot that is given has a call of its own, and no value is asked for at any other
  pub record IsTable (t : Table W) : Type 0 where
    pub room : 64 * W < 2 ^ 32
    pub each : (q : ℕ) → has t.used q ≡ true → IsSlot t q
    pub others : (q v : ℕ) → has t.used q ≡ false → has (get_or t.asks.items v []) q ≡ false

  -- u is t with a slot given to a call
  pub record IsGiven (t u : Table W) (slot number : ℕ) : Type 0 where
    pub ops : u.ops.items ≡ t.ops.items
    pub free : has t.used slot ≡ false
    pub used : has u.used slot ≡ true
    pub call : slice_get u.calls.items slot ≡ Some number
    pub calls : (q : ℕ) → (q ≡ slot → ⊥) → slice_get u.calls.items q ≡ slice_get t.calls.items q
    pub same : (q : ℕ) → (q ≡ slot → ⊥) → has u.used q ≡ has t.used q

  -- u is t with a slot taken back
  pub record IsReleased (t u : Table W) (slot : ℕ) : Type 0 where
    pub ops : u.ops.items ≡ t.ops.items
    pub calls : u.calls.items ≡ t.calls.items
    pub unused : has u.used slot ≡ false
    pub same : (q : ℕ) → (q ≡ slot → ⊥) → has u.used q ≡ has t.used q

  -- no call that has a slot is called again, and the calls reply in the order of their ranks
  pub record IsToCome (t : Table W) (es : List Moment) : Type 0 where
    pub opened : List ℕ
    pub there : (q : ℕ) → has t.used q ≡ true → In (call_at t q) opened
    pub uncalled : (q : ℕ) → has t.used q ≡ true → In (Call (call_at t q)) es → ⊥
    pub ordered : AreInOrder t.ops.items opened es
