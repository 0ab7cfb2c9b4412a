-- Extents of clusters, and which collide if reads may be less than so many events old (this project's own).
use Rattle.std.specs.Prelude.{◌≡◌, ℕ, ◌<◌, ◌≤◌, ◌+◌, ◌-◌, max, List, slice_get, Some}
use Rattle.reg_levels.specs.declared.gap.extent.Extent.{Extent}
use Rattle.reg_levels.specs.declared.gap.widest.Widest.{Widest}

-- what must come before something of the cluster replies below this time: the call of its write, or that of
-- its last read, brought forward
abbrev pub threshold : ℕ → Extent → ℕ
threshold age x = max x.write_call (x.last_call - (age - 1))

-- something of each must come before something of the other
abbrev pub Collide : ℕ → Extent → Extent → Type 0
Collide age x y = (x.first_reply < threshold age y) × (y.first_reply < threshold age x)

-- they stand by their first replies
abbrev pub AreRising : List Extent → Type 0
AreRising xs =
    (i j : ℕ) (x y : Extent) → i < j → slice_get xs i ≡ Some x → slice_get xs j ≡ Some y
    → x.first_reply ≤ y.first_reply

-- of those below the place n no two collide
abbrev pub NoneCollideBelow : ℕ → List Extent → ℕ → Type 0
NoneCollideBelow age xs n =
    (i j : ℕ) (x y : Extent) → i < j → j < n → slice_get xs i ≡ Some x → slice_get xs j ≡ Some y
    → Collide age x y → ⊥

-- no two collide
abbrev pub NoneCollide : ℕ → List Extent → Type 0
NoneCollide age xs =
    (i j : ℕ) (x y : Extent) → i < j → slice_get xs i ≡ Some x → slice_get xs j ≡ Some y → Collide age x y → ⊥

-- the two at these places collide
pub record IsCollision (age : ℕ) (xs : List Extent) (i j : ℕ) : Type 0 where
  pub order : i < j
  pub left : Extent
  pub right : Extent
  pub at_left : slice_get xs i ≡ Some left
  pub at_right : slice_get xs j ≡ Some right
  pub collide : Collide age left right

-- those below the place n reply by the threshold of nothing that stands at m or later
abbrev pub ArePassed : ℕ → List Extent → ℕ → ℕ → Type 0
ArePassed age xs n m =
    (i j : ℕ) (x y : Extent) → i < n → m ≤ j → slice_get xs i ≡ Some x → slice_get xs j ≡ Some y
    → threshold age x ≤ y.first_reply

-- what is left of the places up to m, after those below n: none, or the first of them isn't passed at m
abbrev pub IsFirstLeft : ℕ → List Extent → ℕ → ℕ → Type 0
IsFirstLeft age xs n m =
    (x y : Extent) → n < m → slice_get xs n ≡ Some x → slice_get xs m ≡ Some y
    → y.first_reply < threshold age x

-- two collide at its age, and none one event later
pub record IsWidest (xs : List Extent) (widest : Widest) : Type 0 where
  pub collision : IsCollision widest.age xs widest.first widest.second
  pub last : NoneCollide (widest.age + 1) xs
