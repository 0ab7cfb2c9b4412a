-- The lines of an input, cut off one after another.
use Rattle.std.proofs.Common.{◌≡◌, ℕ, ◌+◌, ◌-◌, ◌<◌, ◌≤◌, List, [], ◌∷◌, ◌++◌, length, map}
use Rattle.std.proofs.Common.{take, drop, get_or, Bool, true, false, cond, Some, None}
use Rattle.std.proofs.Common.{refl, sym, ap, subst, ◌∙◌, arith, suc, append_assoc}
use Rattle.std.specs.Prelude.{if◌then◌else◌, slice_range, not, ◌==◌, filter, All, IfSome, Option}
use Rattle.std.specs.List.{enumerate_from}
use Rattle.std.proofs.lemmas.List.{take-append-drop, get_or-take, length-take-le}
use Rattle.std.proofs.lemmas.List.{append-nil, drop-drop, length-append, length-drop, map-append, take_all}
use Rattle.std.proofs.lemmas.List.Elements.{All-append, All-nil, All-push}
use Rattle.std.proofs.lemmas.List.Splits.{slice_split_at}
use Rattle.std.proofs.Math.Seq.{drop-cons}
use Rattle.memchr.specs.Find.{IsFirstByte, is_byte}
use Rattle.history_text.specs.Lines.{IsWithin, is_blank, lines}
use Rattle.history_text.specs.declared.lines.Span.{Span}
use Rattle.history_text.specs.Reading.{event_reading}
use Rattle.history_text.specs.declared.event.Operations.TheVariants.{WithCas}
use Rattle.reg_intake.specs.CasHistory.Refusals.{Line}
use Rattle.reg_intake.specs.CasHistory.Blocks.{IsBlock, IsStart, left_of, read_from}
use Rattle.reg_intake.specs.CasHistory.Input.{meant_at}
use Rattle.reg_intake.specs.declared.cas_history.blocks.Block.{Block}
use Rattle.reg_intake.specs.declared.cas_history.blocks.Start.{Start}
use Rattle.reg_intake.specs.declared.cas_history.blocks.TheConstants.{LINES_PER_BLOCK}
use Rattle.history_text.proofs.Cut.{no_feed, lines-none}

-- the first line feed ends the first line
lines-first : (xs : List ℕ) (k : ℕ) → IsFirstByte (is_byte 10) xs (Some k)
    → lines xs ≡ take k xs ∷ lines (drop (k + 1) xs)
lines-first xs k h =
    let none = h.0 in
    let here : k < length xs = none.high in
    let cut : xs ≡ take k xs ++ get_or xs k 0 ∷ drop (suc k) xs =
    sym (take-append-drop k xs) ∙ ap (λ l. take k xs ++ l) (drop-cons xs k 0 here) in
    let before : All (λ b. (b == 10) ≡ false) (take k xs) =
    no_feed (take k xs) (λ j lt m.
    let short : length (take k xs) ≡ k = length-take-le k xs (omega arith) in
    let same : get_or (take k xs) j 0 ≡ get_or xs j 0 = get_or-take k xs j 0 (omega arith) in
    none.before j (omega arith) (omega arith) (ap (λ b. b == 10) (sym same) ∙ m)) in
    let next : suc k ≡ k + 1 = omega arith in
    ap lines cut
    ∙ slice_split_at (λ b. b == 10) (take k xs) (get_or xs k 0) (drop (suc k) xs) before h.1
    ∙ ap (λ j. take k xs ∷ lines (drop j xs)) next

-- what a numbered line means
abbrev meant : (ℕ × List ℕ) → Line
meant l = event_reading WithCas l.0 l.1

-- those lines of a list that are not blank, with their numbers from `n` on
abbrev kept : ℕ → List (List ℕ) → List (ℕ × List ℕ)
kept n ls = filter (λ l. not (is_blank l.1)) (enumerate_from n ls)

-- what line `n` means, unless it is blank
abbrev line_of : ℕ → List ℕ → List Line
line_of n bytes = if is_blank bytes then [] else meant (n, bytes) ∷ []

-- one more line, blank or not
one_more : (b : Bool) (l : ℕ × List ℕ) (ls : List (ℕ × List ℕ))
    → map meant (cond (not b) (l ∷ ls) ls) ≡ (if b then [] else meant l ∷ []) ++ map meant ls
one_more true l ls = refl
one_more false l ls = refl

read-first : (n k : ℕ) (xs : List ℕ) → IsFirstByte (is_byte 10) xs (Some k)
    → read_from n xs ≡ line_of n (take k xs) ++ read_from (n + 1) (drop (k + 1) xs)
read-first n k xs h =
    ap (λ ls. map meant (kept n ls)) (lines-first xs k h)
    ∙ one_more (is_blank (take k xs)) (n, take k xs) (kept (n + 1) (lines (drop (k + 1) xs)))

read-last : (n : ℕ) (xs : List ℕ) → IsFirstByte (is_byte 10) xs None → read_from n xs ≡ line_of n xs
read-last n xs h =
    ap (λ ls. map meant (kept n ls)) (lines-none xs h) ∙ one_more (is_blank xs) (n, xs) []
    ∙ append-nil (line_of n xs)

-- a line's span, unless the line is blank, and what it means
abbrev span_unless : Bool → Span → List Span
span_unless blank span = if blank then [] else span ∷ []

spanned : (input : List ℕ) (blank : Bool) (span : Span)
    → map (meant_at input) (span_unless blank span) ≡ (if blank then [] else meant_at input span ∷ [])
spanned input true span = refl
spanned input false span = refl

within-more : (bytes : List ℕ) (found : List Span) (blank : Bool) (span : Span) → All (IsWithin bytes) found
    → IsWithin bytes span → All (IsWithin bytes) (found ++ span_unless blank span)
within-more bytes found true span all one =
    All-append (IsWithin bytes) found [] all (All-nil (IsWithin bytes))
within-more bytes found false span all one = All-push (IsWithin bytes) found span all one

one-more-span : (found : List Span) (blank : Bool) (span : Span) (most : ℕ) → length found < most
    → length (found ++ span_unless blank span) ≤ most
one-more-span found true span most room = omega (arith, length-append found [], room)
one-more-span found false span most room = omega (arith, length-append found (span ∷ []), room)

-- the lines from the start of a block up to `from`, where line `line` begins, have these spans
pub record IsCutTo (bytes : List ℕ) (start : Start) (spans : List Span) (line from : ℕ) : Type 0 where
  pub lines : map (meant_at bytes) spans ++ left_of bytes (Some (record { line = line; from = from }))
      ≡ left_of bytes (Some start)
  pub spans_within : All (IsWithin bytes) spans
  pub within : from ≤ length bytes
  pub few : line ≤ from + 1
  pub behind : start.from ≤ from
  pub further : 0 < length spans → start.from < from
  pub short : length spans ≤ LINES_PER_BLOCK

pub nothing-cut : (bytes : List ℕ) (start : Start) → start.from ≤ length bytes → start.line ≤ start.from + 1
    → IsCutTo bytes start [] start.line start.from
nothing-cut bytes start within few = record {
  lines = refl;
  spans_within = All-nil (IsWithin bytes);
  within = within;
  few = few;
  behind = omega arith;
  further = λ some. absurd (omega (arith, some));
  short = omega arith;
}

module _ (bytes : List ℕ) (start : Start) (spans : List Span) (line from : ℕ)
    (so_far : IsCutTo bytes start spans line from) where
  -- the bytes from `from` on, as the code slices them
  abbrev rest_of : List ℕ
  rest_of = take (length bytes - from) (drop from bytes)

  rest_is : rest_of ≡ drop from bytes
  rest_is = take_all (length bytes - from) (drop from bytes) (omega (arith, length-drop from bytes))

  -- the first of the lines that are left, and those behind it
  cut-first : (k : ℕ) → IsFirstByte (is_byte 10) rest_of (Some k)
      → read_from line (drop from bytes) ≡ line_of line (slice_range bytes from (from + k))
      ++ read_from (line + 1) (drop (from + k + 1) bytes)
  cut-first k h =
      let width : k ≡ from + k - from = omega arith in
      let place : from + (k + 1) ≡ from + k + 1 = omega arith in
      let later : drop (k + 1) (drop from bytes) ≡ drop (from + k + 1) bytes =
      drop-drop (k + 1) from bytes ∙ ap (λ j. drop j bytes) place in
      read-first line k (drop from bytes) (subst (λ xs. IsFirstByte (is_byte 10) xs (Some k)) rest_is h)
      ∙ ap (λ w. line_of line (take w (drop from bytes))
      ++ read_from (line + 1) (drop (k + 1) (drop from bytes))) width
      ∙ ap (λ xs. line_of line (slice_range bytes from (from + k)) ++ read_from (line + 1) xs) later

  -- the last line is all that is left
  cut-last : IsFirstByte (is_byte 10) rest_of None
      → read_from line (drop from bytes) ≡ line_of line (slice_range bytes from (length bytes))
  cut-last h =
      read-last line (drop from bytes) (subst (λ xs. IsFirstByte (is_byte 10) xs None) rest_is h)
      ∙ ap (line_of line) (sym rest_is)

  -- the spans with one more, and what is left behind it
  with-span : (span : Span) (left : List Line) → span.line ≡ line
      → read_from line (drop from bytes) ≡ line_of line (slice_range bytes span.from span.to) ++ left
      → map (meant_at bytes) (spans ++ span_unless (is_blank (slice_range bytes span.from span.to)) span)
      ++ left ≡ left_of bytes (Some start)
  with-span span left number cut =
      let blank = is_blank (slice_range bytes span.from span.to) in
      let one = span_unless blank span in
      ap (λ ls. ls ++ left) (map-append (meant_at bytes) spans one)
      ∙ append_assoc (map (meant_at bytes) spans) (map (meant_at bytes) one) left
      ∙ ap (λ ls. map (meant_at bytes) spans ++ (ls ++ left)) (spanned bytes blank span)
      ∙ ap (λ n. map (meant_at bytes) spans
      ++ ((if blank then [] else meant (n, slice_range bytes span.from span.to) ∷ []) ++ left)) number
      ∙ ap (λ ls. map (meant_at bytes) spans ++ ls) (sym cut) ∙ so_far.lines

  -- a line more was cut off
  pub cut-more : (k : ℕ) → length spans < LINES_PER_BLOCK → IsFirstByte (is_byte 10) rest_of (Some k)
      → IsCutTo bytes start (spans
      ++ span_unless (is_blank (slice_range bytes from (from + k))) (record {
        line = line;
        from = from;
        to = from + k;
      })) (line + 1) (from + k + 1)
  cut-more k room feed =
      let span : Span = record { line = line; from = from; to = from + k } in
      let here : k < length rest_of = feed.0.high in
      let same = ap length rest_is in
      let left = length-drop from bytes in
      let few = so_far.few in
      let behind = so_far.behind in
      record {
        lines = with-span span (read_from (line + 1) (drop (from + k + 1) bytes)) refl (cut-first k feed);
        spans_within =
            within-more bytes spans (is_blank (slice_range bytes from (from + k))) span so_far.spans_within
            (omega arith, omega arith);
        within = omega arith;
        few = omega arith;
        behind = omega arith;
        further = λ some. omega arith;
        short =
            one-more-span spans (is_blank (slice_range bytes from (from + k))) span LINES_PER_BLOCK room;
      }

  -- no more lines go into the block
  pub block-cut : (block : Block) → block.spans.items ≡ spans → start.from < from
      → block.next ≡ Some (record { line = line; from = from }) → IsBlock bytes start block
  block-cut block same later next = record {
    lines =
        ap (λ found. map (meant_at bytes) found ++ left_of bytes block.next) same
        ∙ ap (λ next. map (meant_at bytes) spans ++ left_of bytes next) next ∙ so_far.lines;
    within = subst (All (IsWithin bytes)) (sym same) so_far.spans_within;
    next = subst (λ next. IfSome next (IsStart bytes)) (sym next) (so_far.within, so_far.few);
    less =
        subst (λ next. IfSome next (λ (next : Start). start.from < next.from)) (sym next)
        later;
    short = subst (λ found. length found ≤ LINES_PER_BLOCK) (sym same) so_far.short;
  }

  -- the last line was cut off
  pub all-cut : (block : Block) → length spans < LINES_PER_BLOCK → IsFirstByte (is_byte 10) rest_of None
      → block.spans.items ≡ spans
      ++ span_unless (is_blank (slice_range bytes from (length bytes))) (record {
        line = line;
        from = from;
        to = length bytes;
      }) → block.next ≡ None → IsBlock bytes start block
  all-cut block room none added next =
      let span : Span = record { line = line; from = from; to = length bytes } in
      let here = so_far.within in
      record {
        lines =
            ap (λ found. map (meant_at bytes) found ++ left_of bytes block.next) added
            ∙ ap (λ next. map (meant_at bytes)
            (spans ++ span_unless (is_blank (slice_range bytes from (length bytes))) span)
            ++ left_of bytes next) next
            ∙ with-span span [] refl (cut-last none ∙ sym (append-nil _));
        within =
            subst (All (IsWithin bytes)) (sym added)
            (within-more bytes spans (is_blank (slice_range bytes from (length bytes))) span
            so_far.spans_within (omega arith, omega arith));
        next = subst (λ next. IfSome next (IsStart bytes)) (sym next) tt;
        less = subst (λ next. IfSome next (λ (next : Start). start.from < next.from)) (sym next) tt;
        short =
            subst (λ found. length found ≤ LINES_PER_BLOCK) (sym added)
            (one-more-span spans (is_blank (slice_range bytes from (length bytes))) span LINES_PER_BLOCK
            room);
      }

-- how many bytes are left from a place on
abbrev pub bytes_left : List ℕ → Option Start → ℕ
bytes_left bytes None = 0
bytes_left bytes (Some start) = length bytes - start.from + 1
