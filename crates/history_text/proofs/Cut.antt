-- The lines of an input, where the next line feed has been looked for.
use Rattle.std.proofs.Common.{◌≡◌, ℕ, ◌+◌, ◌-◌, ◌<◌, ◌≤◌, List, [], ◌∷◌, ◌++◌, length, take, drop, get_or}
use Rattle.std.proofs.Common.{Bool, true, false, Some, None, sym, ap, subst, ◌∙◌, arith, suc, append_assoc}
use Rattle.std.specs.Prelude.{if◌then◌else◌, slice_range}
use Rattle.std.proofs.lemmas.List.{take-append-drop, get_or-take, length-take-le}
use Rattle.std.proofs.lemmas.List.{append-nil, take_all, drop-drop, length-drop}
use Rattle.std.proofs.lemmas.List.Elements.{All-append, All-from_get_or, All-nil, All-push}
use Rattle.std.proofs.lemmas.List.Splits.{slice_split_at, slice_split_none}
use Rattle.std.proofs.Math.Seq.{drop-cons, drop-length}
use Rattle.std.specs.List.{All}
use Rattle.std.specs.Prelude.{◌==◌}
use Rattle.std.proofs.lemmas.Bool.{false_from_ne_true}
use Rattle.memchr.specs.Find.{IsFirstByte, is_byte}
use Rattle.history_text.specs.declared.lines.Span.{Span}
use Rattle.history_text.specs.declared.lines.WholeLines.{WholeLines}
use Rattle.history_text.specs.Lines.{AreWhole, IsWithin, lines, is_blank, spans_at}

pub no_feed : (xs : List ℕ) → ((k : ℕ) → k < length xs → (get_or xs k 0 == 10) ≡ true → ⊥)
    → All (λ b. (b == 10) ≡ false) xs
no_feed xs h =
    All-from_get_or (λ b. (b == 10) ≡ false) xs 0 (λ k lt. false_from_ne_true (get_or xs k 0 == 10) (h k lt))

-- bytes without a line feed are one line
pub lines-none : (xs : List ℕ) → IsFirstByte (is_byte 10) xs None → lines xs ≡ xs ∷ []
lines-none xs h = slice_split_none (λ b. b == 10) xs (no_feed xs (λ k lt. h k (omega arith) lt))

-- the first line feed ends the first line, whatever may come behind the bytes
lines-first : (xs more : List ℕ) (k : ℕ) → IsFirstByte (is_byte 10) xs (Some k)
    → lines (xs ++ more) ≡ take k xs ∷ lines (drop (k + 1) xs ++ more)
lines-first xs more k h =
    let none = h.0 in
    let here : k < length xs = none.high in
    let cut : xs ≡ take k xs ++ get_or xs k 0 ∷ drop (suc k) xs =
    sym (take-append-drop k xs) ∙ ap (λ l. take k xs ++ l) (drop-cons xs k 0 here) in
    let before : All (λ b. (b == 10) ≡ false) (take k xs) =
    no_feed (take k xs) (λ j lt m.
    let short : length (take k xs) ≡ k = length-take-le k xs (omega arith) in
    let same : get_or (take k xs) j 0 ≡ get_or xs j 0 = get_or-take k xs j 0 (omega arith) in
    none.before j (omega arith) (omega arith) (ap (λ b. b == 10) (sym same) ∙ m)) in
    let next : suc k ≡ k + 1 = omega arith in
    ap (λ l. lines (l ++ more)) cut
    ∙ ap lines (append_assoc (take k xs) (get_or xs k 0 ∷ drop (suc k) xs) more)
    ∙ slice_split_at (λ b. b == 10) (take k xs) (get_or xs k 0) (drop (suc k) xs ++ more) before h.1
    ∙ ap (λ j. take k xs ∷ lines (drop j xs ++ more)) next

-- the span of a line, unless it is blank
abbrev pub kept_span : Bool → Span → List Span
kept_span blank span = if blank then [] else span ∷ []

-- the spans, where the first line feed is at `k`
spans_at-first : (n from k : ℕ) (xs more : List ℕ) → IsFirstByte (is_byte 10) xs (Some k)
    → spans_at n from (lines (xs ++ more)) ≡ kept_span (is_blank (take k xs)) (record {
      line = n;
      from = from;
      to = from + k;
    }) ++ spans_at (n + 1) (from + k + 1) (lines (drop (k + 1) xs ++ more))
spans_at-first n from k xs more h =
    let none = h.0 in
    let short : length (take k xs) ≡ k =
    length-take-le k xs (let lt : k < length xs = none.high in omega arith) in
    let later = lines (drop (k + 1) xs ++ more) in
    ap (spans_at n from) (lines-first xs more k h)
    ∙ ap (λ m. kept_span (is_blank (take k xs)) (record { line = n; from = from; to = from + m })
    ++ spans_at (n + 1) (from + m + 1) later) short

module _ (bytes : List ℕ) (from : ℕ) where
  -- the bytes from `from` on, as the code slices them
  abbrev rest_of : List ℕ
  rest_of = take (length bytes - from) (drop from bytes)

  rest_is : rest_of ≡ drop from bytes
  rest_is = take_all (length bytes - from) (drop from bytes) (omega (arith, length-drop from bytes))

  spans_at-step : (n k : ℕ) (more : List ℕ) → IsFirstByte (is_byte 10) rest_of (Some k)
      → spans_at n from (lines (drop from bytes ++ more))
      ≡ kept_span (is_blank (slice_range bytes from (from + k))) (record {
        line = n;
        from = from;
        to = from + k;
      }) ++ spans_at (n + 1) (from + k + 1) (lines (drop (from + k + 1) bytes ++ more))
  spans_at-step n k more h =
      let P : List ℕ → Type 0 = λ xs. IsFirstByte (is_byte 10) xs (Some k) in
      let span : Span = record { line = n; from = from; to = from + k } in
      let width : k ≡ from + k - from = omega arith in
      let place : from + (k + 1) ≡ from + k + 1 = omega arith in
      let later : drop (k + 1) (drop from bytes) ≡ drop (from + k + 1) bytes =
      drop-drop (k + 1) from bytes ∙ ap (λ j. drop j bytes) place in
      spans_at-first n from k (drop from bytes) more (subst P rest_is h)
      ∙ ap (λ w. kept_span (is_blank (take w (drop from bytes))) span
      ++ spans_at (n + 1) (from + k + 1) (lines (drop (k + 1) (drop from bytes) ++ more))) width
      ∙ ap (λ xs. kept_span (is_blank (slice_range bytes from (from + k))) span
      ++ spans_at (n + 1) (from + k + 1) (lines (xs ++ more))) later

  -- a line feed makes one line more
  count-step : (k : ℕ) → IsFirstByte (is_byte 10) rest_of (Some k)
      → length (lines (drop from bytes)) ≡ length (lines (drop (from + k + 1) bytes)) + 1
  count-step k h =
      let P : List ℕ → Type 0 = λ xs. IsFirstByte (is_byte 10) xs (Some k) in
      let rest = drop from bytes in
      let place : from + (k + 1) ≡ from + k + 1 = omega arith in
      let cut = ap length (lines-first rest [] k (subst P rest_is h)) in
      let whole = ap (λ xs. length (lines xs)) (append-nil rest) in
      let later =
      ap (λ xs. length (lines xs)) (append-nil (drop (k + 1) rest) ∙ drop-drop (k + 1) from bytes
      ∙ ap (λ j. drop j bytes) place) in
      omega arith

  -- behind the last line feed stands one line
  one_line : IsFirstByte (is_byte 10) rest_of None → lines (drop from bytes) ≡ drop from bytes ∷ []
  one_line h = lines-none (drop from bytes) (subst (λ xs. IsFirstByte (is_byte 10) xs None) rest_is h)

  spans_at-end : (n : ℕ) → from ≤ length bytes → IsFirstByte (is_byte 10) rest_of None
      → spans_at n from (lines (drop from bytes))
      ≡ kept_span (is_blank (slice_range bytes from (length bytes))) (record {
        line = n;
        from = from;
        to = length bytes;
      })
  spans_at-end n le h =
      let all : from + length (drop from bytes) ≡ length bytes = omega (arith, length-drop from bytes) in
      ap (spans_at n from) (one_line h) ∙ append-nil _
      ∙ ap (λ xs. kept_span (is_blank xs) (record {
        line = n;
        from = from;
        to = from + length (drop from bytes);
      })) (sym rest_is)
      ∙ ap (λ to. kept_span (is_blank rest_of) (record { line = n; from = from; to = to })) all

-- the lines before `from` were passed, and `from` is where line `line` begins
pub record ArePassed (bytes : List ℕ) (first : ℕ) (found : List Span) (line from : ℕ) : Type 0 where
  pub spans : (more : List ℕ)
      → found ++ spans_at line from (lines (drop from bytes ++ more))
      ≡ spans_at first 0 (lines (bytes ++ more))
  pub inside : All (IsWithin bytes) found
  pub within : from ≤ length bytes
  pub counted : line + length (lines (drop from bytes)) ≡ first + length (lines bytes)
  pub few : line ≤ first + from

-- a line more is within the bytes
inside-more : (bytes : List ℕ) (found : List Span) (blank : Bool) (span : Span) → All (IsWithin bytes) found
    → IsWithin bytes span → All (IsWithin bytes) (found ++ kept_span blank span)
inside-more bytes found true span all one =
    All-append (IsWithin bytes) found [] all (All-nil (IsWithin bytes))
inside-more bytes found false span all one = All-push (IsWithin bytes) found span all one

-- a line more was passed
pub passed-more : (bytes : List ℕ) (first : ℕ) (found : List Span) (line from k : ℕ)
    → ArePassed bytes first found line from → IsFirstByte (is_byte 10) (rest_of bytes from) (Some k)
    → ArePassed bytes first (found
    ++ kept_span (is_blank (slice_range bytes from (from + k))) (record {
      line = line;
      from = from;
      to = from + k;
    })) (line + 1) (from + k + 1)
passed-more bytes first found line from k passed feed =
    let span : Span = record { line = line; from = from; to = from + k } in
    let blank = is_blank (slice_range bytes from (from + k)) in
    let here : k < length (rest_of bytes from) = feed.0.high in
    let same = ap length (rest_is bytes from) in
    let left = length-drop from bytes in
    let few = passed.few in
    record {
      spans = λ more.
          append_assoc found (kept_span blank span)
          (spans_at (line + 1) (from + k + 1) (lines (drop (from + k + 1) bytes ++ more)))
          ∙ ap (λ l. found ++ l) (sym (spans_at-step bytes from line k more feed)) ∙ passed.spans more;
      inside = inside-more bytes found blank span passed.inside (omega arith, omega arith);
      within = omega arith;
      counted = (let counted = passed.counted in let one = count-step bytes from k feed in omega arith);
      few = omega arith;
    }

-- what was passed is the whole lines, where more may come
pub whole-open : (bytes : List ℕ) (first : ℕ) (is_ended : Bool) (whole : WholeLines)
    → ArePassed bytes first whole.spans.items whole.next_line whole.byte_count
    → IsFirstByte (is_byte 10) (rest_of bytes whole.byte_count) None
    → is_ended ≡ false → AreWhole bytes first is_ended whole
whole-open bytes first is_ended whole passed none goes_on = record {
  spans = λ more may_come. passed.spans more;
  one_left = one_line bytes whole.byte_count none;
  end = λ ended. let clash : true ≡ false = sym ended ∙ goes_on in cc;
  within = passed.within;
  next =
      (let counted = passed.counted in let one = ap length (one_line bytes whole.byte_count none) in
      omega arith);
  few = passed.few;
}

-- and with the last line, where the bytes end
pub whole-ended : (bytes : List ℕ) (first : ℕ) (is_ended : Bool) (found : List Span) (from : ℕ)
    (whole : WholeLines) → ArePassed bytes first found whole.next_line from
    → IsFirstByte (is_byte 10) (rest_of bytes from) None
    → whole.spans.items ≡ found ++ kept_span (is_blank (slice_range bytes from (length bytes))) (record {
      line = whole.next_line;
      from = from;
      to = length bytes;
    })
    → whole.byte_count ≡ length bytes → is_ended ≡ true → AreWhole bytes first is_ended whole
whole-ended bytes first is_ended found from whole passed none added all ended =
    let n : ℕ = whole.next_line in
    let span : Span = record { line = n; from = from; to = length bytes } in
    let last = kept_span (is_blank (slice_range bytes from (length bytes))) span in
    let nothing : drop whole.byte_count bytes ≡ [] = ap (λ j. drop j bytes) all ∙ drop-length bytes in
    record {
      spans = λ more may_come.
          let no_more = may_come ended in
          ap (λ xs. whole.spans.items ++ spans_at n whole.byte_count (lines (xs ++ more))) nothing
          ∙ ap (λ xs. whole.spans.items ++ spans_at n whole.byte_count (lines xs)) no_more
          ∙ append-nil whole.spans.items ∙ added
          ∙ ap (λ l. found ++ l) (sym (spans_at-end bytes from n passed.within none)
          ∙ ap (λ xs. spans_at n from (lines xs)) (sym (append-nil (drop from bytes))
          ∙ ap (λ xs. drop from bytes ++ xs) (sym no_more)))
          ∙ passed.spans more;
      one_left = ap lines nothing ∙ ap (λ xs. xs ∷ []) (sym nothing);
      end = λ e. all;
      within = omega (arith, all);
      next = (let counted = passed.counted in let one = ap length (one_line bytes from none) in omega arith);
      few = (let few = passed.few in let within = passed.within in omega (arith, all));
    }

-- and the spans of the last line are within the bytes
pub inside-last : (bytes : List ℕ) (found : List Span) (line from : ℕ) → All (IsWithin bytes) found
    → from ≤ length bytes
    → All (IsWithin bytes) (found ++ kept_span (is_blank (slice_range bytes from (length bytes))) (record {
      line = line;
      from = from;
      to = length bytes;
    }))
inside-last bytes found line from all within = inside-more bytes found _ _ all (within, omega arith)
