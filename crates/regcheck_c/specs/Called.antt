-- What a call says, and what it leaves in the place for the report (this project's own interface;
-- docs/embedding.md).
use Rattle.std.specs.Prelude.{◌≡◌, ◌⊎◌, ◌++◌, ◌&&◌, ℕ, Bool, List, length, drop, nat_le}
use Rattle.std.specs.Prelude.{if◌then◌else◌, Option, Some, None}
use Rattle.regcheck_c.specs.declared.answer.Answer.{Answer}

-- the place with a text at its beginning, if there is room for all of it; else as it was
abbrev pub with_text : List ℕ → List ℕ → List ℕ
with_text text old = if nat_le (length text) (length old) then text ++ drop (length text) old else old

-- what is said of a report that has this status if there is room for it
abbrev pub answer_of_report : ℕ → List ℕ → ℕ → Answer
answer_of_report room report status = record {
  status = if nat_le (length report) room then status else 5;
  number = 0;
  line = 0;
  other = 0;
  length = length report;
}

-- the numbers 16 to 18 are failures of input, memory and output
abbrev pub is_failure : ℕ → Bool
is_failure number = nat_le 16 number && nat_le number 18

-- a line, or 0 if there is none
abbrev pub line_or_0 : Option ℕ → ℕ
line_or_0 (Some line) = line
line_or_0 None = 0

-- what is said of a refusal, with the status that the program has
abbrev pub answer_of_refusal : ℕ → Option ℕ → Option ℕ → Answer
answer_of_refusal number line other = record {
  status = if is_failure number then 4 else 2;
  number = number;
  line = line_or_0 line;
  other = line_or_0 other;
  length = 0;
}

-- what is said where a number of the caller's stands for nothing
abbrev pub bad_number : Answer
bad_number = record { status = 3; number = 0; line = 0; other = 0; length = 0 }

-- the report is said, and put into the place if there is room
abbrev pub IsPut : List ℕ → ℕ → List ℕ → List ℕ → Answer → Type 0
IsPut report status old new answer =
    (answer ≡ answer_of_report (length old) report status) × (new ≡ with_text report old)

-- a line of this length is put into the place if there is room; or there is none, and the place is as it was
abbrev pub IsWorded : List ℕ → List ℕ → ℕ → Type 0
IsWorded old new size =
    ((size ≡ 0) × (new ≡ old)) ⊎ ((line : List ℕ) × (size ≡ length line) × (new ≡ with_text line old))
