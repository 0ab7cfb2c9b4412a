-- The spans of lines, found by one walk from the left, are those of the definitions, and
-- what they hold is what the definitions read.
use Rattle.std.proofs.Common.{◌≡◌, ℕ, ◌+◌, ◌-◌, List, [], ◌∷◌, ◌++◌, length, map, take, drop, Bool}
use Rattle.std.proofs.Common.{true, false, cond, refl, sym, ap, ap₂, ◌∙◌, arith, append_assoc}
use Rattle.std.specs.Prelude.{All, if◌then◌else◌, slice_range, filter, sum_by, not}
use Rattle.std.specs.List.{enumerate_from, join_with_byte}
use Rattle.std.proofs.Math.Seq.{drop-append-add, drop-length, take-append_seam}
use Rattle.std.proofs.lemmas.List.{append-nil, drop-append-le, drop-drop, length-append}
use Rattle.std.proofs.lemmas.List.{length-drop, map-append, take-append-le}
use Rattle.std.proofs.lemmas.List.Elements.{All-head, All-tail}
use Rattle.std.proofs.lemmas.List.Sums.{sum_by-append}
use Rattle.std.proofs.lemmas.List.Splits.{join_with_byte-slice_split}
use Rattle.history_text.specs.declared.lines.Span.{Span}
use Rattle.history_text.specs.declared.lines.WholeLines.{WholeLines}
use Rattle.history_text.specs.Lines.{AreWhole, IsWithin, lines, is_blank, width}
use Rattle.history_text.specs.Lines.{line_start, span_of, spans_at, line_spans}
use Rattle.history_text.specs.Reading.{AreReadWhole, line_reading, reading_of, history_lines}

-- the lines that are not blank, numbered from `n`
abbrev pub kept : ℕ → List (List ℕ) → List (ℕ × List ℕ)
kept n ls = filter (λ l. not (is_blank l.1)) (enumerate_from n ls)

-- one more line, blank or not
one_more : {X Y : Type 0} (f : X → Y) (b : Bool) (x : X) (y : Y) (xs : List X) (ys : List Y) → y ≡ f x
    → ys ≡ map f xs
    → (if b then [] else y ∷ []) ++ ys ≡ map f (cond (not b) (x ∷ xs) xs)
one_more f true x y xs ys here later = later
one_more f false x y xs ys here later = rw (here, later) refl

-- the same, of two lists that give the same
one_more-same : {X Y Z : Type 0} (g : Y → Z) (f : X
    → Z) (b : Bool) (x : X) (y : Y) (xs : List X) (ys : List Y) → g y ≡ f x → map g ys ≡ map f xs
    → map g ((if b then [] else y ∷ []) ++ ys) ≡ map f (cond (not b) (x ∷ xs) xs)
one_more-same g f true x y xs ys here later = later
one_more-same g f false x y xs ys here later = rw (here, later) refl

module _ (input : List ℕ) where
  -- a line begins behind the lines before it
  start : (before : List (List ℕ)) (l : List ℕ) (after : List (List ℕ)) (n : ℕ)
      → lines input ≡ before ++ l ∷ after → n ≡ length before + 1
      → line_start input n ≡ sum_by width before
  start before l after n cut e =
      let place : n - 1 ≡ length before = omega arith in
      ap (λ k. sum_by width (take k (lines input))) place
      ∙ ap (λ ls. sum_by width (take (length before) ls)) cut
      ∙ ap (sum_by width) (take-append_seam before (l ∷ after))

  span-at : (n from : ℕ) (l : List ℕ) → line_start input n ≡ from
      → record { line = n; from = from; to = from + length l } ≡ span_of input (n, l)
  span-at n from l e = rw e refl

  spans-from : (before after : List (List ℕ)) (n from : ℕ) → lines input ≡ before ++ after
      → n ≡ length before + 1 → from ≡ sum_by width before
      → spans_at n from after ≡ map (span_of input) (kept n after)
  spans-from before [] n from cut e f = refl
  spans-from before (l ∷ ls) n from cut e f =
      let here = span-at n from l (start before l ls n cut e ∙ sym f) in
      let longer : length (before ++ l ∷ []) ≡ length before + 1 = length-append before (l ∷ []) in
      let wider : sum_by width (before ++ l ∷ []) ≡ sum_by width before + sum_by width (l ∷ []) =
      sum_by-append width before (l ∷ []) in
      let one : sum_by width (l ∷ []) ≡ length l + 1 = omega arith in
      let later =
      spans-from (before ++ l ∷ []) ls (n + 1) (from + length l + 1) (cut
      ∙ sym (append_assoc before (l ∷ []) ls)) (omega arith) (omega arith) in
      one_more (span_of input) (is_blank l) (n, l) _ (kept (n + 1) ls) _ here later

  pub numbered-spans : spans_at 1 0 (lines input) ≡ line_spans input
  numbered-spans = spans-from [] (lines input) 1 0 refl refl refl

module _ {Y : Type 0} (f : ℕ → List ℕ → Y) (input : List ℕ) where
  -- what is read at a span
  abbrev read_at : Span → Y
  read_at s = f s.line (slice_range input s.from s.to)

  slice-line : (from : ℕ) (l more : List ℕ) → drop from input ≡ l ++ more
      → slice_range input from (from + length l) ≡ l
  slice-line from l more e =
      let long : from + length l - from ≡ length l = omega arith in
      ap (λ k. take k (drop from input)) long ∙ ap (take (length l)) e ∙ take-append_seam l more

  next-line : (from : ℕ) (l more : List ℕ) → drop from input ≡ l ++ 10 ∷ more
      → drop (from + length l + 1) input ≡ more
  next-line from l more e =
      let place : from + length l + 1 ≡ from + (length l + 1) = omega arith in
      ap (λ k. drop k input) place ∙ sym (drop-drop (length l + 1) from input) ∙ ap (drop (length l + 1)) e
      ∙ drop-append-add l (10 ∷ more) 1

  reads-from : (n from : ℕ) (ls : List (List ℕ)) → drop from input ≡ join_with_byte 10 ls
      → map read_at (spans_at n from ls) ≡ map (λ l. f l.0 l.1) (kept n ls)
  reads-from n from [] e = refl
  reads-from n from (l ∷ []) e =
      one_more-same read_at (λ l. f l.0 l.1) (is_blank l) (
        n,
        l,
      ) _ [] [] (ap (f n) (slice-line from l [] (e ∙ sym (append-nil l)))) refl
  reads-from n from (l ∷ k ∷ ls) e =
      let later =
      reads-from (n + 1) (from + length l + 1) (k ∷ ls)
      (next-line from l (join_with_byte 10 (k ∷ ls)) e) in
      one_more-same read_at (λ l. f l.0 l.1) (is_blank l) (
        n,
        l,
      ) _ (kept (n + 1) (k ∷ ls)) _ (ap (f n) (slice-line from l _ e)) later

-- what is read at each span is the meaning of the input
pub read-spans : (input : List ℕ) → map (reading_of input) (line_spans input) ≡ history_lines input
read-spans input =
    ap (map (reading_of input)) (sym (numbered-spans input))
    ∙ reads-from line_reading input 1 0 (lines input) (sym (join_with_byte-slice_split 10 input))

-- bytes behind a line change nothing of what is read there
reads-before : (bytes more : List ℕ) (spans : List Span) → All (IsWithin bytes) spans
    → map (reading_of bytes) spans ≡ map (reading_of (bytes ++ more)) spans
reads-before bytes more [] within = refl
reads-before bytes more (s ∷ ss) within =
    let here = All-head (IsWithin bytes) s ss within in
    let order = here.0 in let inside = here.1 in let left = length-drop s.from bytes in
    let same : slice_range bytes s.from s.to ≡ slice_range (bytes ++ more) s.from s.to =
    sym (take-append-le (s.to - s.from) (drop s.from bytes) more (omega arith))
    ∙ ap (take (s.to - s.from)) (sym (drop-append-le s.from bytes more (omega arith))) in
    ap₂ (λ x xs. x ∷ xs) (ap (line_reading s.line) same)
    (reads-before bytes more ss (All-tail (IsWithin bytes) s ss within))

-- what is read at the spans of whole lines, and what is left, whatever may come
pub read-whole : (bytes : List ℕ) (first : ℕ) (is_ended : Bool) (whole : WholeLines)
    → AreWhole bytes first is_ended whole → All (IsWithin bytes) whole.spans.items
    → AreReadWhole bytes first is_ended whole
read-whole bytes first is_ended whole are within = record {
  readings = λ more may_come.
      let all = bytes ++ more in
      let spans : List Span = whole.spans.items in
      let line : ℕ = whole.next_line in
      let from : ℕ = whole.byte_count in
      let rest = drop from bytes ++ more in
      let cut : drop from all ≡ rest = drop-append-le from bytes more are.within in
      ap₂ ◌++◌ (reads-before bytes more spans within)
      (sym (reads-from line_reading all line from (lines rest) (cut
      ∙ sym (join_with_byte-slice_split 10 rest))))
      ∙ sym (map-append (reading_of all) spans (spans_at line from (lines rest)))
      ∙ ap (map (reading_of all)) (are.spans more may_come)
      ∙ reads-from line_reading all first 0 (lines all) (sym (join_with_byte-slice_split 10 all));
}

-- where no more may come, the spans are those of all lines
pub all-spans : (bytes : List ℕ) (whole : WholeLines) → AreWhole bytes 1 true whole
    → whole.spans.items ≡ line_spans bytes
all-spans bytes whole are =
    let nothing : drop whole.byte_count bytes ≡ [] =
    ap (λ j. drop j bytes) (are.end refl) ∙ drop-length bytes in
    sym (append-nil whole.spans.items)
    ∙ ap (λ xs. whole.spans.items ++ spans_at whole.next_line whole.byte_count (lines (xs ++ [])))
    (sym nothing)
    ∙ are.spans [] (λ ended. refl) ∙ ap (λ xs. spans_at 1 0 (lines xs)) (append-nil bytes)
    ∙ numbered-spans bytes
