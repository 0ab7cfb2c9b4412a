-- What the clauses say of the calls of a closure.
use Rattle.std.specs.Prelude.{◌≡◌, ◌++◌, List, All, flat_map, Ok}
use Rattle.std.specs.List.{AllZip}
use Rattle.std.specs.declared.result.Result.{Result}
use Rattle.std.specs.Fn.{FnReturnsAt}
use denote.Ref.{Bor}
use denote.Param.Members.{Shared}

-- the part stands in the list: its items are some of the list's, with none between them left out
abbrev pub IsPartOf : {X : Type 0} → List X → List X → Type 0
IsPartOf {X} xs part = (before : List X) × (after : List X) × (xs ≡ before ++ (part ++ after))

module _ {F X Y E : Type 0} (g : Shared F (Bor X × Unit {0}) (Result Y E)) (f : F) where
  -- f may be called at a `&` to each of these
  abbrev pub TakesEach : List X → Type 0
  TakesEach xs = All (λ x. (p : Bor X) → p.now ≡ x → g.pre f (p, tt)) xs

  -- each of ys is what a call of f at a `&` to the item in its place gave
  abbrev pub GivesEach : List X → List Y → Type 0
  GivesEach xs ys = AllZip (λ x y. FnReturnsAt g f x (Ok y)) xs ys

module _ {F X Y E : Type 0} (g : Shared F (Bor (List X) × Unit {0}) (Result Y E)) (f : F) where
  -- f may be called at a `&` to any part of xs
  abbrev pub TakesParts : List X → Type 0
  TakesParts xs = (p : Bor (List X)) → IsPartOf xs p.now → g.pre f (p, tt)

  -- ys are what calls of f gave, in order, at a `&` to each of some parts, which are xs in order
  abbrev pub GivesParts : List X → List Y → Type 0
  GivesParts xs ys = (parts : List (List X)) × (flat_map (λ part. part) parts ≡ xs) × GivesEach g f parts ys
