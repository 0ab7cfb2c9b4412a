-- Names and numbers of lines, one line or one part more, and what an event adds to the names of a history.
use Rattle.std.proofs.Common.{◌≡◌, ℕ, zero, suc, ◌<◌, List, [], ◌∷◌, ◌++◌, length, slice_get}
use Rattle.std.proofs.Common.{get_or, drop, cond, Bool, true, false, Option, Some, None, inl}
use Rattle.std.proofs.Common.{inr, refl, sym, ap, subst, ◌∙◌, arith, option_map}
use Rattle.std.specs.Prelude.{nat_lt, bytes_eq, flat_map, Ok, Err}
use Rattle.std.specs.Result.{result_ok}
use Rattle.std.proofs.lemmas.List.Elements.{filter_map-append}
use Rattle.std.specs.List.{position_or_len}
use Rattle.std.proofs.lemmas.Bool.{ltb-false, ltb-true}
use Rattle.std.proofs.lemmas.List.{append-nil, append_assoc, drop_all}
use Rattle.std.proofs.lemmas.Option.{slice_get_read, slice_get_within}
use Rattle.history_text.specs.declared.event.LineEvent.{LineEvent}
use Rattle.history_model.specs.Events.{Asked, asked_by}
use Rattle.history_model.specs.History.{register_names}
use Rattle.history_model.specs.Refusals.{Line, events_of}
use Rattle.history_model.proofs.Numbers.{is-In, place-in, place-out, names-known, names-new, names-replied}
use Rattle.reg_arena.specs.Numbered.{AreNumbered, ArePartsNumbered, IsNumbered}
use Rattle.reg_arena.specs.Numbered.{lines_of, name_called, names_with, with_name}
use Rattle.reg_arena.specs.declared.numbering.NumberedLines.{NumberedLines}

-- ---- one name

module _ (names : List (List ℕ)) (name : List ℕ) where
  -- a known name adds none
  pub with-known : position_or_len (bytes_eq name) names < length names → with_name names (Some name) ≡ names
  with-known l = go (nat_lt (position_or_len (bytes_eq name) names) (length names)) refl
    where
      go : (b : Bool) → nat_lt (position_or_len (bytes_eq name) names) (length names) ≡ b
          → cond b names (names ++ name ∷ []) ≡ names
      go true q = refl
      go false q =
          absurd (omega (arith, ltb-false (position_or_len (bytes_eq name) names) (length names) q, l))

  -- a new one comes last
  pub with-new : position_or_len (bytes_eq name) names ≡ length names → with_name names (Some name) ≡ names
      ++ name ∷ []
  with-new e = go (nat_lt (position_or_len (bytes_eq name) names) (length names)) refl
    where
      go : (b : Bool) → nat_lt (position_or_len (bytes_eq name) names) (length names) ≡ b
          → cond b names (names ++ name ∷ []) ≡ names ++ name ∷ []
      go true q = absurd (omega (arith, ltb-true (position_or_len (bytes_eq name) names) (length names) q, e))
      go false q = refl

-- the names of a history with one event more
pub names-step : (es : List LineEvent) (e : LineEvent)
    → register_names (es ++ e ∷ []) ≡ with_name (register_names es) (name_called (Ok e))
names-step es e = go (asked_by e.kind) refl
  where
    go : (asked : Option Asked) → asked_by e.kind ≡ asked
        → register_names (es ++ e ∷ [])
        ≡ with_name (register_names es) (option_map (λ call. call.register) asked)
    go None q = names-replied es e q
    go (Some a) q = elim (is-In a.register (register_names es)) [
      | inl i ↦ names-known es e a q i
          ∙ sym (with-known (register_names es) a.register (place-in a.register (register_names es) i).0)
      | inr f ↦ names-new es e a q f
          ∙ sym (with-new (register_names es) a.register (place-out a.register (register_names es) f))
    ]

-- the names of a history with the events of one line more
names-line : (before : List Line) (line : Line)
    → register_names (events_of (before ++ line ∷ [])) ≡ with_name (register_names (events_of before))
    (name_called line)
names-line before (Ok e) =
    ap register_names (filter_map-append result_ok before (Ok e ∷ [])) ∙ names-step (events_of before) e
names-line before (Err fault) =
    ap register_names (filter_map-append result_ok before (Err fault ∷ []) ∙ append-nil (events_of before))

-- and with those of some lines more
pub names-lines : (before lines : List Line)
    → register_names (events_of (before ++ lines)) ≡ names_with (register_names (events_of before)) lines
names-lines before [] = ap (λ lines. register_names (events_of lines)) (append-nil before)
names-lines before (line ∷ lines) =
    ap (λ lines. register_names (events_of lines)) (sym (append_assoc before (line ∷ []) lines))
    ∙ (names-lines (before ++ line ∷ []) lines
    ∙ ap (λ names. names_with names lines) (names-line before line))

-- ---- lines and parts, one more

pub names-append : (names : List (List ℕ)) (lines more : List Line)
    → names_with names (lines ++ more) ≡ names_with (names_with names lines) more
names-append names [] more = refl
names-append names (line ∷ lines) more = names-append (with_name names (name_called line)) lines more

pub numbered-push : (names : List (List ℕ)) (lines : List Line) (numbers : List ℕ) (line : Line) (number : ℕ)
    → AreNumbered names lines numbers → IsNumbered (names_with names lines) (name_called line) number
    → AreNumbered names (lines ++ line ∷ []) (numbers ++ number ∷ [])
numbered-push names [] numbers line number none one =
    subst (λ ns. AreNumbered names (line ∷ []) (ns ++ number ∷ [])) (sym none) (one, refl)
numbered-push names (x ∷ lines) [] line number all one = absurd all
numbered-push names (x ∷ lines) (n ∷ numbers) line number all one =
    (all.0, numbered-push (with_name names (name_called x)) lines numbers line number all.1 one)

pub parts-push : (names : List (List ℕ)) (parts : List NumberedLines) (part : NumberedLines)
    → ArePartsNumbered names parts
    → AreNumbered (names_with names (flat_map lines_of parts)) (lines_of part) part.numbers.items
    → ArePartsNumbered names (parts ++ part ∷ [])
parts-push names [] part all one = (one, tt)
parts-push names (p ∷ parts) part all one = (
  all.0,
  parts-push (names_with names (lines_of p)) parts part all.1
      (subst (λ ns. AreNumbered ns (lines_of part) part.numbers.items)
      (names-append names (lines_of p) (flat_map lines_of parts)) one),
)

-- ---- the line or part at a place, and those behind it

-- the number of the line at a place, and those of the lines behind it
pub numbered-at : (names : List (List ℕ)) (lines : List Line) (numbers : List ℕ) (i : ℕ) (line : Line)
    → slice_get lines i ≡ Some line → AreNumbered names (drop i lines) (drop i numbers)
    → (number : ℕ) × (slice_get numbers i ≡ Some number) × IsNumbered names (name_called line) number
    × AreNumbered (with_name names (name_called line)) (drop (suc i) lines) (drop (suc i) numbers)
numbered-at names [] numbers i line at all = cc
numbered-at names (x ∷ lines) [] zero line at all = absurd all
numbered-at names (x ∷ lines) (n ∷ numbers) zero line at all =
    let same : x ≡ line =
    cc in (
      n,
      refl,
      subst (λ l. IsNumbered names (name_called l) n) same all.0,
      subst (λ l. AreNumbered (with_name names (name_called l)) lines numbers) same all.1,
    )
numbered-at names (x ∷ lines) [] (suc i) line at all =
    numbered-at names lines [] i line at
    (subst (AreNumbered names (drop i lines)) (sym (drop_all i [] (omega arith))) all)
numbered-at names (x ∷ lines) (n ∷ numbers) (suc i) line at all =
    numbered-at names lines numbers i line at all

-- the number that is read at a place
pub number-read : (numbers : List ℕ) (i number read : ℕ) → slice_get numbers i ≡ Some number
    → read ≡ get_or numbers i read → number ≡ read
number-read numbers i number read at is =
    let same = slice_get_read numbers _ i read refl (slice_get_within numbers i number at) is in cc (at, same)

-- the names after the lines from a place on
pub names-at : (names : List (List ℕ)) (lines : List Line) (i : ℕ) (line : Line)
    → slice_get lines i ≡ Some line
    → names_with names (drop i lines) ≡ names_with (with_name names (name_called line)) (drop (suc i) lines)
names-at names [] i line at = cc
names-at names (x ∷ lines) zero line at =
    let same : x ≡ line = cc in ap (λ l. names_with (with_name names (name_called l)) lines) same
names-at names (x ∷ lines) (suc i) line at = names-at names lines i line at

pub parts-at : (names : List (List ℕ)) (parts : List NumberedLines) (i : ℕ) (part : NumberedLines)
    → slice_get parts i ≡ Some part → ArePartsNumbered names (drop i parts)
    → AreNumbered names (lines_of part) part.numbers.items
    × ArePartsNumbered (names_with names (lines_of part)) (drop (suc i) parts)
parts-at names [] i part at all = cc
parts-at names (x ∷ parts) zero part at all =
    let same : x ≡ part =
    cc in (
      subst (λ p. AreNumbered names (lines_of p) p.numbers.items) same all.0,
      subst (λ p. ArePartsNumbered (names_with names (lines_of p)) parts) same all.1,
    )
parts-at names (x ∷ parts) (suc i) part at all = parts-at names parts i part at all

-- ---- the number of a name that is called
