-- Parts of lines, taken into an arena from the first on: their lines, their numbers, and the names they add.
use Rattle.std.proofs.Common.{◌≡◌, ℕ, zero, suc, ◌<◌, ◌≤◌, List, [], ◌∷◌, ◌++◌, length}
use Rattle.std.proofs.Common.{slice_get, take, drop, Option, Some, Ok, Err, sym, ap, subst}
use Rattle.std.proofs.Common.{◌∙◌, arith, append_assoc, append-nil, take-append-drop}
use Rattle.std.specs.Prelude.{Result}
use Rattle.std.specs.Result.{IsErrAnd}
use Rattle.std.proofs.lemmas.List.Concat.{flat_map-append}
use Rattle.history_model.specs.History.{History}
use Rattle.history_model.specs.Refusals.{Line, IsBuildError}
use Rattle.history_model.specs.declared.refusal.BuildError.{BuildError}
use Rattle.reg_arena.specs.Built.{IsBuilt, IsBuiltWith}
use Rattle.reg_arena.specs.Numbered.{ArePartsNumbered, lines_of, names_with}
use Rattle.reg_arena.specs.declared.numbering.NumberedLines.{NumberedLines}
use Rattle.reg_arena.proofs.Numbered.{names-append, names-lines, parts-at}
use Rattle.reg_intake.specs.Underway.{AreNumberedBehind, IsGrown, lines_in}
use Rattle.reg_intake.specs.declared.underway.Grown.{Grown}

-- the lines of the parts at the front, and of those after them
pub lines-split : (parts : List NumberedLines) (count : ℕ)
    → lines_in (take count parts) ++ lines_in (drop count parts) ≡ lines_in parts
lines-split parts count =
    sym (flat_map-append lines_of (take count parts) (drop count parts))
    ∙ ap lines_in (take-append-drop count parts)

-- the names of an arena with more lines
pub names-built : (before more : List Line) (old new : History) → IsBuilt before old
    → IsBuilt (before ++ more) new → new.names ≡ names_with old.names more
names-built before more old new was is =
    ap (λ (h : History). h.names) is.is ∙ names-lines before more
    ∙ ap (λ (h : History). names_with h.names more) (sym was.is)

-- the parts after others have numbers by the names of these
numbered-behind : (names : List (List ℕ)) (parts : List NumberedLines) (count : ℕ)
    → ArePartsNumbered names parts
    → ArePartsNumbered (names_with names (lines_in (take count parts))) (drop count parts)
numbered-behind names [] zero all = tt
numbered-behind names [] (suc count) all = tt
numbered-behind names (part ∷ parts) zero all = all
numbered-behind names (part ∷ parts) (suc count) all =
    subst (λ ns. ArePartsNumbered ns (drop count parts))
    (sym (names-append names (lines_of part) (lines_in (take count parts))))
    (numbered-behind (names_with names (lines_of part)) parts count all.1)

-- parts with numbers, and more after them
numbered-joined : (names : List (List ℕ)) (parts more : List NumberedLines) → ArePartsNumbered names parts
    → ArePartsNumbered (names_with names (lines_in parts)) more → ArePartsNumbered names (parts ++ more)
numbered-joined names [] more none all = all
numbered-joined names (part ∷ parts) more front all = (
  front.0,
  numbered-joined (names_with names (lines_of part)) parts more front.1
      (subst (λ ns. ArePartsNumbered ns more) (names-append names (lines_of part) (lines_in parts)) all),
)

-- some parts are taken in, and more come after the others
pub numbered-further : (names between after : List (List ℕ)) (parts : List NumberedLines) (count : ℕ)
    (more : List NumberedLines) → AreNumberedBehind names between parts → AreNumberedBehind between after more
    → AreNumberedBehind (names_with names (lines_in (take count parts))) after (drop count parts ++ more)
numbered-further names between after parts count more front back =
    let taken = lines_in (take count parts) in
    let left = lines_in (drop count parts) in
    let between_is : between ≡ names_with (names_with names taken) left =
    front.names_after ∙ ap (names_with names) (sym (lines-split parts count))
    ∙ names-append names taken left in
    record {
      numbers =
          numbered-joined (names_with names taken) (drop count parts) more
          (numbered-behind names parts count front.numbers)
          (subst (λ ns. ArePartsNumbered ns more) between_is back.numbers);
      names_after = back.names_after
          ∙ ap (λ ns. names_with ns (lines_in more)) between_is
          ∙ sym (names-append (names_with names taken) left (lines_in more))
          ∙ ap (names_with (names_with names taken)) (sym (flat_map-append lines_of (drop count parts) more));
    }

-- the parts so far are taken into an arena that was there, and those after them have numbers
pub record IsGrowing (start : Option History) (parts : List NumberedLines) (count : ℕ)
    (arena : History) : Type 0 where
  pub within : count ≤ length parts
  pub numbered : ArePartsNumbered arena.names (drop count parts)
  pub of_some : (lines : List Line) × IsBuilt lines arena
  pub built : (was : History) (before : List Line) → start ≡ Some was → IsBuilt before was
      → IsBuilt (before ++ lines_in (take count parts)) arena

-- the part at a place is the first of those from there on
part-at : (parts : List NumberedLines) (count : ℕ) (part : NumberedLines) → slice_get parts count ≡ Some part
    → drop count parts ≡ part ∷ drop (suc count) parts
part-at [] count part at = cc
part-at (x ∷ parts) zero part at = cc
part-at (x ∷ parts) (suc count) part at = part-at parts count part at

-- and the last of those up to it
part-taken : (parts : List NumberedLines) (count : ℕ) (part : NumberedLines)
    → slice_get parts count ≡ Some part → take (suc count) parts ≡ take count parts ++ part ∷ []
part-taken [] count part at = cc
part-taken (x ∷ parts) zero part at = cc
part-taken (x ∷ parts) (suc count) part at = ap (λ xs. x ∷ xs) (part-taken parts count part at)

module _ (start : Option History) (parts : List NumberedLines) (count : ℕ) (arena : History)
    (growing : IsGrowing start parts count arena) (part : NumberedLines)
    (at : slice_get parts count ≡ Some part) where
  -- the lines of the part, of those before it, and of those after it
  abbrev pub lines : List Line
  lines = lines_in (part ∷ [])

  abbrev pub taken : List Line
  taken = lines_in (take count parts)

  abbrev pub left : List Line
  left = lines_in (drop (suc count) parts)

  -- it is taken in
  pub one-taken : (after : History) → count < length parts
      → ((before : List Line) → IsBuilt before arena → IsBuiltWith before (lines_in (part ∷ [])) (Ok after))
      → IsGrowing start parts (suc count) after
  one-taken after within grown = record {
    within = omega (arith, within);
    numbered =
        subst (λ names. ArePartsNumbered names (drop (suc count) parts))
        (sym (names-built growing.of_some.0 lines arena after growing.of_some.1 all))
        (subst (λ ls. ArePartsNumbered (names_with arena.names ls) (drop (suc count) parts))
        (sym (append-nil (lines_of part))) (parts-at arena.names parts count part at growing.numbered).1);
    of_some = (growing.of_some.0 ++ lines, all);
    built =
        λ was before is built. subst (λ ls. IsBuilt ls after) (joined before)
        (grown (before ++ taken) (growing.built was before is built));
  }
    where
      all : IsBuilt (growing.of_some.0 ++ lines) after
      all = grown growing.of_some.0 growing.of_some.1

      joined : (before : List Line) → (before ++ taken) ++ lines ≡ before ++ lines_in (take (suc count) parts)
      joined before =
          append_assoc before taken lines
          ∙ ap (λ ls. before ++ ls)
          (sym (flat_map-append lines_of (take count parts) (part ∷ []))
          ∙ ap lines_in (sym (part-taken parts count part at)))

  -- a faulty line in it refuses the lines of all parts
  pub one-refused : (e : BuildError)
      → ((before : List Line) → IsBuilt before arena → IsBuiltWith before (lines_in (part ∷ [])) (Err e))
      → (was : History) (before : List Line) → start ≡ Some was → IsBuilt before was
      → (after : List Line) → IsBuildError (before ++ lines_in parts ++ after) e
  one-refused e refused was before is built after =
      subst (λ ls. IsBuildError ls e) joined
      (refused (before ++ taken) (growing.built was before is built) (left ++ after))
    where
      all : taken ++ (lines ++ left) ≡ lines_in parts
      all =
          ap (λ ls. taken ++ ls)
          (sym (flat_map-append lines_of (part ∷ []) (drop (suc count) parts))
          ∙ ap lines_in (sym (part-at parts count part at))) ∙ lines-split parts count

      joined : (before ++ taken ++ lines) ++ (left ++ after) ≡ before ++ lines_in parts ++ after
      joined =
          sym (append_assoc (before ++ taken ++ lines) left after)
          ∙ ap (λ ls. ls ++ after)
          (append_assoc (before ++ taken) lines left ∙ append_assoc before taken (lines ++ left)
          ∙ ap (λ ls. before ++ ls) all)

-- so nothing comes of it but the reason
pub refused-grown : (start : Option History) (parts : List NumberedLines) (e : BuildError)
    (result : Result Grown BuildError) → IsErrAnd result (λ y. y ≡ e)
    → ((was : History) (before : List Line) → start ≡ Some was → IsBuilt before was → (after : List Line)
    → IsBuildError (before ++ lines_in parts ++ after) e) → IsGrown start parts result
refused-grown start parts e (Ok grown) is refused = absurd is
refused-grown start parts e (Err y) is refused = record {
  count = tt;
  few_left = tt;
  whole =
      λ was before at built after. subst (IsBuildError (before ++ lines_in parts ++ after)) (sym is)
      (refused was before at built after);
}
