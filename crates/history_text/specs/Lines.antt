-- The lines of an input, and where they stand. The form of lines is this project's profile.
use Rattle.std.specs.Prelude.{◌≡◌, ℕ, ◌+◌, ◌-◌, ◌==◌, ◌||◌, ◌≤◌, ◌++◌, ◌∷◌, [], List, length}
use Rattle.std.specs.Prelude.{map, take, drop, filter, sum_by, Bool, true, not, if◌then◌else◌}
use Rattle.std.specs.List.{slice_split, list_all, enumerate_from}
use Rattle.history_text.specs.declared.lines.Span.{Span}
use Rattle.history_text.specs.declared.lines.WholeLines.{WholeLines}

-- the byte that ends a line
abbrev pub is_line_feed : ℕ → Bool
is_line_feed byte = byte == 10

-- a space, a tab or a carriage return
abbrev pub is_space : ℕ → Bool
is_space byte = byte == 32 || byte == 9 || byte == 13

-- the input cut at its line feeds; after a last line feed stands an empty line, which is blank
abbrev pub lines : List ℕ → List (List ℕ)
lines input = slice_split is_line_feed input

-- a line of spaces alone, or of nothing, whatever its length
abbrev pub is_blank : List ℕ → Bool
is_blank line = list_all is_space line

-- the lines that are not blank, each with its number, where the first line has number `n`; blank lines count
abbrev pub numbered_from : ℕ → List ℕ → List (ℕ × List ℕ)
numbered_from n bytes = filter (λ l. not (is_blank l.1)) (enumerate_from n (lines bytes))

-- those of an input, whose numbers begin at 1
abbrev pub numbered_lines : List ℕ → List (ℕ × List ℕ)
numbered_lines input = numbered_from 1 input

-- the bytes that a line takes up, with its line feed
abbrev pub width : List ℕ → ℕ
width line = length line + 1

-- where line `n` begins: after all the lines before it
abbrev pub line_start : List ℕ → ℕ → ℕ
line_start input n = sum_by width (take (n - 1) (lines input))

-- where a numbered line stands, without its line feed
abbrev pub span_of : List ℕ → (ℕ × List ℕ) → Span
span_of input l = record { line = l.0; from = line_start input l.0; to = line_start input l.0 + length l.1 }

-- where the lines that are not blank stand, in order
abbrev pub line_spans : List ℕ → List Span
line_spans input = map (span_of input) (numbered_lines input)

-- a span is a range of the input's bytes
abbrev pub IsWithin : List ℕ → Span → Type 0
IsWithin input span = (span.from ≤ span.to) × (span.to ≤ length input)

-- where lines that follow one another stand, the blank ones left out, if the first of
-- them is line `n` and begins at byte `from`
abbrev pub spans_at : ℕ → ℕ → List (List ℕ) → List Span
spans_at n from [] = []
spans_at n from (l ∷ ls) =
    (if is_blank l then [] else record { line = n; from = from; to = from + length l } ∷ [])
    ++ spans_at (n + 1) (from + length l + 1) ls

-- what may still come after some bytes: nothing, if the input ends with them
abbrev pub MayCome : Bool → List ℕ → Type 0
MayCome is_ended more = is_ended ≡ true → more ≡ []

-- the whole lines at the front of the bytes, of which the first has number `first`: whatever may come, the
-- lines of all are these and those of what is left
pub record AreWhole (bytes : List ℕ) (first : ℕ) (is_ended : Bool) (whole : WholeLines) : Type 0 where
  pub spans : (more : List ℕ) → MayCome is_ended more
      → whole.spans.items
      ++ spans_at whole.next_line whole.byte_count (lines (drop whole.byte_count bytes ++ more))
      ≡ spans_at first 0 (lines (bytes ++ more))
  pub one_left : lines (drop whole.byte_count bytes) ≡ drop whole.byte_count bytes ∷ []
  pub end : is_ended ≡ true → whole.byte_count ≡ length bytes
  pub within : whole.byte_count ≤ length bytes
  pub next : whole.next_line + 1 ≡ first + length (lines bytes)
  pub few : whole.next_line ≤ first + whole.byte_count
