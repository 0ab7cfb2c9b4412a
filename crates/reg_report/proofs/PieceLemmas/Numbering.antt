-- Tasks are added cut by cut and register by register, and each of a plan's is fit to be done.
use Rattle.std.proofs.Common.{◌≡◌, ℕ, zero, suc, ◌+◌, ◌-◌, ◌<◌, ◌≤◌, min, ◌⊎◌, inl, inr}
use Rattle.std.proofs.Common.{List, [], ◌∷◌, ◌++◌, length, slice_get, Option, Some, None}
use Rattle.std.proofs.Common.{refl, sym, ap, subst, ◌∙◌, arith, append_assoc, append-nil}
use Rattle.std.proofs.lemmas.Option.{none-some}
use Rattle.reg_report.specs.Pieces.Plan.{AreCuts, AreCutsOf, AreTasks}
use Rattle.reg_report.specs.declared.pieces.tasks.Task.{Task}
use Rattle.reg_report.specs.declared.pieces.tasks.Task.TheVariants.{Judge, Reads, First}

-- the cuts so far, behind the tasks that were there, up to read number `from`
pub record IsCutting (cut r len from : ℕ) (old new : List Task) : Type 0 where
  pub so_far : List Task
  pub added : new ≡ old ++ so_far
  pub within : from ≤ len
  pub goes_on : (more : List Task) → AreCuts cut r from len more → AreCuts cut r 0 len (so_far ++ more)

pub cutting-ends : (cut r len : ℕ) (old new : List Task) → IsCutting cut r len len old new
    → (cuts : List Task) × AreCuts cut r 0 len cuts × (new ≡ old ++ cuts)
cutting-ends cut r len old new c =
    (c.so_far, subst (AreCuts cut r 0 len) (append-nil c.so_far) (c.goes_on [] refl), c.added)

-- one register more
pub one-register-more : (cut r n : ℕ) (counts : List (Option ℕ)) (count : Option ℕ)
    (tasks cuts : List Task) → n ≡ r + length counts → AreTasks cut r counts tasks
    → AreCutsOf cut n count cuts
    → AreTasks cut r (counts ++ count ∷ []) (tasks ++ Judge (record { 0 = n }) ∷ cuts)
one-register-more cut r n [] count tasks cuts e a k =
    let z : n ≡ r = omega (arith, e) in
    subst (λ m. AreTasks cut r (count ∷ []) (tasks ++ Judge (record { 0 = m }) ∷ cuts)) (sym z) (
      cuts,
      [],
      subst (λ m. AreCutsOf cut m count cuts) z k,
      refl,
      ap (λ ts. ts ++ Judge (record { 0 = r }) ∷ cuts) a
          ∙ ap (λ cs. Judge (record { 0 = r }) ∷ cs) (sym (append-nil cuts)),
    )
one-register-more cut r n (l ∷ counts) count tasks cuts e a k =
    let rest = one-register-more cut (suc r) n counts count a.1 cuts (omega (arith, e)) a.3 k in
    let new = Judge (record { 0 = n }) ∷ cuts in (
      a.0,
      a.1 ++ new,
      a.2,
      rest,
      ap (λ ts. ts ++ new) a.4 ∙ ap (λ ts. Judge (record { 0 = r }) ∷ ts) (append_assoc a.0 a.1 new),
    )

-- ---- each task is fit

-- a task of a whole plan: the reads that it names are there
abbrev pub IsFit : ℕ → List (Option ℕ) → Task → Type 0
IsFit r counts (Judge k) = (r ≤ k.0) × (k.0 < r + length counts)
IsFit r counts (Reads k from to) =
    (i : ℕ) × (count : ℕ) × (k.0 ≡ r + i) × (slice_get counts i ≡ Some (Some count)) × (from ≤ to)
    × (to ≤ count)
IsFit r counts (First k) = ⊥

append-cases : {X : Type 0} (xs ys : List X) (i : ℕ) (z : X) → slice_get (xs ++ ys) i ≡ Some z
    → (slice_get xs i ≡ Some z) ⊎ ((j : ℕ) × (slice_get ys j ≡ Some z))
append-cases [] ys i z e = inr (i, e)
append-cases (x ∷ xs) ys zero z e = inl e
append-cases (x ∷ xs) ys (suc i) z e = append-cases xs ys i z e

cut-fit : (cut r from len : ℕ) (cuts : List Task) (i : ℕ) (t : Task) → AreCuts cut r from len cuts
    → slice_get cuts i ≡ Some t → (a : ℕ) × (b : ℕ) × (t ≡ Reads (record { 0 = r }) a b) × (a ≤ b) × (b ≤ len)
cut-fit cut r from len [] i t a e = absurd (cc e)
cut-fit cut r from len (c ∷ cuts) zero t a e =
    let q : c ≡ t = cc e in (from, from + min (len - from) cut, sym q ∙ a.1, omega arith, omega (arith, a.0))
cut-fit cut r from len (c ∷ cuts) (suc i) t a e =
    cut-fit cut r (from + min (len - from) cut) len cuts i t a.2 e

-- from the next register's to this one's
later-fit : (r : ℕ) (c : Option ℕ) (counts : List (Option ℕ)) (t : Task)
    → IsFit (suc r) counts t → IsFit r (c ∷ counts) t
later-fit r c counts (Judge k) f = (omega (arith, f.0), omega (arith, f.1))
later-fit r c counts (Reads k from to) f = (suc f.0, f.1, omega (arith, f.2), f.3, f.4, f.5)
later-fit r c counts (First k) f = f

first-fit : (cut r : ℕ) (o : Option ℕ) (counts : List (Option ℕ)) (cuts : List Task)
    (j : ℕ) (t : Task) → AreCutsOf cut r o cuts → slice_get cuts j ≡ Some t → IsFit r (o ∷ counts) t
first-fit cut r None counts cuts j t c s = absurd (none-some _ (sym (ap (λ ts. slice_get ts j) c) ∙ s))
first-fit cut r (Some count) counts cuts j t c s =
    let f = cut-fit cut r 0 count cuts j t c s in
    subst (IsFit r (Some count ∷ counts)) (sym f.2) (0, count, omega arith, refl, f.3, f.4)

pub tasks-fit : (cut r : ℕ) (counts : List (Option ℕ)) (tasks : List Task) (i : ℕ) (t : Task)
    → AreTasks cut r counts tasks → slice_get tasks i ≡ Some t → IsFit r counts t
tasks-fit cut r [] tasks i t a e = absurd (none-some _ (sym (ap (λ ts. slice_get ts i) a) ∙ e))
tasks-fit cut r (c ∷ counts) tasks i t a e =
    go i (sym (ap (λ ts. slice_get ts i) a.4) ∙ e) (λ j s. tasks-fit cut (suc r) counts a.1 j t a.3 s)
  where
    go : (j : ℕ) → slice_get (Judge (record { 0 = r }) ∷ a.0 ++ a.1) j ≡ Some t
        → ((k : ℕ) → slice_get a.1 k ≡ Some t → IsFit (suc r) counts t) → IsFit r (c ∷ counts) t
    go zero s f =
        let q : Judge (record { 0 = r }) ≡ t =
        cc s in subst (IsFit r (c ∷ counts)) q (omega arith, omega arith)
    go (suc j) s f = elim (append-cases a.0 a.1 j t s) [
      | inl k ↦ first-fit cut r c counts a.0 j t a.2 k
      | inr k ↦ later-fit r c counts t (f k.0 k.1)
    ]

-- ---- how many there are

-- each cut has a read
pub cuts-few : (cut r from len : ℕ) (cuts : List Task) → 0 < cut → AreCuts cut r from len cuts
    → length cuts + from ≤ len
cuts-few cut r from len [] p a = omega (arith, a)
cuts-few cut r from len (c ∷ cuts) p a =
    let k = cuts-few cut r (from + min (len - from) cut) len cuts p a.2 in omega (arith, k, a.0)

-- no reads have no cut
pub no-cuts : (cut r : ℕ) (cuts : List Task) → AreCuts cut r 0 0 cuts → cuts ≡ []
no-cuts cut r [] a = refl
no-cuts cut r (c ∷ cuts) a = absurd (omega (arith, a.0))
