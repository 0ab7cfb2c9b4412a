-- For callers: from what the closure gives at an item or a part to a fact of all items.
use Rattle.std.proofs.Common.{◌≡◌, ℕ, zero, suc, slice_get, Some, List, [], ◌∷◌}
use Rattle.std.proofs.Common.{◌++◌, Result, Ok, ap, sym, subst, ◌∙◌, arith}
use Rattle.std.proofs.lemmas.Option.{slice_get_within}
use Rattle.std.specs.Prelude.{flat_map}
use Rattle.std.specs.List.{All, AllZip}
use Rattle.std.proofs.lemmas.List.Elements.{All-cons, All-head, All-nil, All-tail}
use Rattle.parallel.specs.Parts.{GivesEach, GivesParts, IsPartOf}
use denote.Ref.{Bor}
use denote.Param.Members.{Shared}

module _ {F X Y E : Type 0} (g : Shared F (Bor X × Unit {0}) (Result Y E)) (f : F) (P : X → Y → Type 0)
    (gives : (z : Bor X) (y : Y) → g.post f (z, tt) (Ok y) → P z.now y) where
  -- if P holds of an item and what the closure gives at it, P holds of each item and what stands in its place
  pub all-given : (xs : List X) (ys : List Y) → GivesEach g f xs ys → AllZip P xs ys
  all-given [] [] h = tt
  all-given [] (y ∷ ys) h = absurd h
  all-given (x ∷ xs) [] h = absurd h
  all-given (x ∷ xs) (y ∷ ys) h =
      (subst (λ (v : X). P v y) h.0.shows (gives h.0.shown y h.0.says.met), all-given xs ys h.1)

-- `items` are in what the closure gives at a part; `make` says which they are, and goes from part to part
module _ {F X Y Z E : Type 0} (g : Shared F (Bor (List X) × Unit {0}) (Result Y E)) (f : F)
    (items : Y → List Z) (make : List X → List Z)
    (nothing : make [] ≡ [])
    (apart : (xs ys : List X) → make (xs ++ ys) ≡ make xs ++ make ys)
    (gives : (z : Bor (List X)) (y : Y) → g.post f (z, tt) (Ok y) → items y ≡ make z.now) where
  abbrev IsMade : List X → Y → Type 0
  IsMade part y = items y ≡ make part

  all-made : (parts : List (List X)) (ys : List Y) → AllZip IsMade parts ys
      → flat_map items ys ≡ make (flat_map (λ (part : List X). part) parts)
  all-made [] [] each = sym nothing
  all-made [] (y ∷ ys) each = absurd each
  all-made (part ∷ parts) [] each = absurd each
  all-made (part ∷ parts) (y ∷ ys) each =
      let rest = flat_map (λ (one : List X). one) parts in
      let here : items y ≡ make part = each.0 in
      ap (λ l. items y ++ l) (all-made parts ys each.1)
      ∙ (ap (λ l. l ++ make rest) here ∙ sym (apart part rest))

  -- what the closure gives at the parts, joined in order, is what is made of the whole list
  pub joined-given : (xs : List X) (ys : List Y) → GivesParts g f xs ys → flat_map items ys ≡ make xs
  joined-given xs ys h = all-made h.0 ys (all-given g f IsMade gives h.0 ys h.2) ∙ ap make h.1

module _ {X : Type 0} where
  front : (part after : List X) (i : ℕ) (x : X) → slice_get part i ≡ Some x
      → slice_get (part ++ after) i ≡ Some x
  front [] after i x at = let l = slice_get_within [] i x at in absurd (omega (arith, l))
  front (y ∷ part) after zero x at = at
  front (y ∷ part) after (suc i) x at = front part after i x at

  behind : (before xs : List X) (i : ℕ) (x : X) → slice_get xs i ≡ Some x
      → (j : ℕ) × (slice_get (before ++ xs) j ≡ Some x)
  behind [] xs i x at = (i, at)
  behind (b ∷ before) xs i x at = let there = behind before xs i x at in (suc there.0, there.1)

  -- what stands in a part stands in the list
  pub part-at : (xs part : List X) → IsPartOf xs part → (i : ℕ) (x : X) → slice_get part i ≡ Some x
      → (j : ℕ) × (slice_get xs j ≡ Some x)
  part-at xs part inside i x at =
      let there = behind inside.0 (part ++ inside.1) i x (front part inside.1 i x at) in
      (there.0, subst (λ l. slice_get l there.0 ≡ Some x) (sym inside.2) there.1)

module _ {X : Type 0} (P : X → Type 0) where
  all-behind : (before xs : List X) → All P (before ++ xs) → All P xs
  all-behind [] xs all = all
  all-behind (b ∷ before) xs all = all-behind before xs (All-tail P b (before ++ xs) all)

  all-front : (part after : List X) → All P (part ++ after) → All P part
  all-front [] after all = All-nil P
  all-front (x ∷ part) after all =
      All-cons P x part (All-head P x (part ++ after) all)
      (all-front part after (All-tail P x (part ++ after) all))

  -- what holds of each item of the list holds of each item of a part
  pub part-all : (xs part : List X) → IsPartOf xs part → All P xs → All P part
  part-all xs part inside all =
      all-front part inside.1 (all-behind inside.0 (part ++ inside.1) (subst (All P) inside.2 all))
