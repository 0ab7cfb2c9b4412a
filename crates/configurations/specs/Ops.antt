-- What an operation asks of the value that it meets, and what it leaves: values and operations are numbers.
use Rattle.std.specs.Prelude.{ℕ, ◌==◌, ◌&&◌, not, Bool, true, false, List, slice_get, Option, Some, None}
use Rattle.configurations.specs.declared.op.Op.{Op}
use Rattle.configurations.specs.declared.op.Kind.{Kind}
use Rattle.configurations.specs.declared.op.Kind.TheVariants.{Read, Write, Cas, CasUnless, Miss}
use Rattle.configurations.specs.declared.op.TheConstants.{NEVER}

-- whether an operation of a kind that asks for a may meet the value v
abbrev pub kind_fits : Kind → ℕ → ℕ → Bool
kind_fits Read a v = v == a
kind_fits Write a v = true
kind_fits Cas a v = v == a
kind_fits CasUnless a v = not (v == a)
kind_fits Miss a v = not (v == a)

-- the value after it, if it gives b
abbrev pub kind_leaves : Kind → ℕ → ℕ → ℕ
kind_leaves Read b v = v
kind_leaves Write b v = b
kind_leaves Cas b v = b
kind_leaves CasUnless b v = b
kind_leaves Miss b v = v

abbrev pub fits : Op → ℕ → Bool
fits o v = kind_fits o.kind o.from v

abbrev pub left_by : Op → ℕ → ℕ
left_by o v = kind_leaves o.kind o.to v

-- the same of the operation of a number; there is none of other numbers
abbrev pub option_fits : Option Op → ℕ → Bool
option_fits None v = false
option_fits (Some o) v = fits o v

abbrev pub option_left_by : Option Op → ℕ → ℕ
option_left_by None v = v
option_left_by (Some o) v = left_by o v

abbrev pub fits_at : List Op → ℕ → ℕ → Bool
fits_at ops k v = option_fits (slice_get ops k) v

abbrev pub left_at : List Op → ℕ → ℕ → ℕ
left_at ops k v = option_left_by (slice_get ops k) v

-- a read, and a cas that missed, leave the value as it is
abbrev pub kind_looks : Kind → Bool
kind_looks Read = true
kind_looks Write = false
kind_looks Cas = false
kind_looks CasUnless = false
kind_looks Miss = true

-- a write takes effect at any value, and leaves its own
abbrev pub kind_writes : Kind → Bool
kind_writes Read = false
kind_writes Write = true
kind_writes Cas = false
kind_writes CasUnless = false
kind_writes Miss = false

-- it takes effect at each value but one
abbrev pub kind_misses : Kind → Bool
kind_misses Read = false
kind_misses Write = false
kind_misses Cas = false
kind_misses CasUnless = true
kind_misses Miss = true

abbrev pub option_writes : Option Op → Bool
option_writes None = false
option_writes (Some o) = kind_writes o.kind

abbrev pub writes_at : List Op → ℕ → Bool
writes_at ops k = option_writes (slice_get ops k)

-- it looks at the value alone, and this one suits it
abbrev pub is_content : Op → ℕ → Bool
is_content o v = kind_looks o.kind && fits o v

abbrev pub option_is_content : Option Op → ℕ → Bool
option_is_content None v = false
option_is_content (Some o) v = is_content o v

abbrev pub content_at : List Op → ℕ → ℕ → Bool
content_at ops k v = option_is_content (slice_get ops k) v

-- not a write, and the value v suits it
abbrev pub asks_at : List Op → ℕ → ℕ → Bool
asks_at ops k v = not (writes_at ops k) && fits_at ops k v

abbrev pub option_rank : Option Op → ℕ
option_rank None = NEVER
option_rank (Some o) = o.rank

-- the rank of the operation of a number
abbrev pub rank_at : List Op → ℕ → ℕ
rank_at ops k = option_rank (slice_get ops k)
